-- What is wrong in the object of a config, member by member. The members and their forms are the TSConfig Reference's, the codes
-- this project's own.
use Rattle.std.specs.Prelude.{ℕ, ◌++◌, List, [], ◌∷◌, Option, Some, None, codes}
use Rattle.serde_json.specs.Data.{Data}
use Rattle.serde_json.specs.Find.{get, as_object}
use Rattle.tb_options.specs.Members.{texts_of, reference_texts, extends_texts}
use Rattle.tb_options.specs.Options.{fault, astray, options_faults}
use Rattle.tb_options.specs.declared.faults.Fault.{Fault}
use Rattle.tb_options.specs.declared.texts.TextOf.TheVariants as kind

-- a member of another form, or what is wrong in it
abbrev pub formed_faults : {X : Type 0} → List ℕ → (X → List Fault) → Option X → List Fault
formed_faults name within None = fault 5004 name ∷ []
formed_faults name within (Some x) = within x

-- what is wrong in a member, if it is there, of which `read` gives what has the right form
abbrev pub member_faults : {X : Type 0} → List ℕ → (Data → Option X) → (X → List Fault) → Option Data → List Fault
member_faults name read within None = []
member_faults name read within (Some d) = formed_faults name within (read d)

-- a list of texts that name paths
abbrev pub texts_faults : List ℕ → List ℕ → Data → List Fault
texts_faults folder name config = member_faults name texts_of (astray kind.Path folder) (get name config)

-- what is wrong in a config in this folder. What its references name is looked at where they are followed, which those of a
-- base are not
abbrev pub object_faults : List ℕ → Data → List Fault
object_faults folder config =
    member_faults (codes "compilerOptions") as_object (options_faults folder) (get (codes "compilerOptions") config)
    ++ texts_faults folder (codes "exclude") config
    ++ member_faults (codes "extends") extends_texts (astray kind.Base folder) (get (codes "extends") config)
    ++ texts_faults folder (codes "files") config
    ++ texts_faults folder (codes "include") config
    ++ member_faults (codes "references") reference_texts (λ texts. []) (get (codes "references") config)
