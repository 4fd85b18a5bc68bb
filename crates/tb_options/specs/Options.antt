-- The options: which are known, which values they take, and what is wrong in a value. The options and their forms are the TSConfig
-- Reference's; which values are accepted is this project's own.
use Rattle.std.specs.Prelude.{ℕ, ◌==◌, ◌++◌, Bool, true, false, not, if◌then◌else◌, nat_lt, List, [], ◌∷◌, map, filter, count_by, Option, Some, None, is_some, is_none, option_map, codes}
use Rattle.std.specs.List.{find, flat_map, list_any}
use Rattle.std.specs.Str.{bytes_eq, str_eq_ignore_ascii_case}
use Rattle.serde_json.specs.Data.{Data, Members, no_members, member}
use Rattle.serde_json.specs.Find.{as_bool, as_str}
use Rattle.tb_options.specs.Members.{path_lists, named}
use Rattle.tb_options.specs.declared.faults.Fault.{Fault}
use Rattle.tb_options.specs.declared.texts.TextOf.{TextOf}
use Rattle.tb_options.specs.declared.texts.TextOf.TheVariants as kind
use Rattle.tb_options.specs.declared.options.Rule.{Rule}
use Rattle.tb_options.specs.declared.options.Rule.TheVariants as rule

-- ---- the table

-- some options, and what they take
abbrev pub Row : Type 0
Row = List (List ℕ) × Rule

-- what is accepted for the option of this name, by the first row that lists it
abbrev pub rule_in : List Row → List ℕ → Option Rule
rule_in rows name = option_map (λ row. row.1) (find (λ row. list_any (bytes_eq name) row.0) rows)

abbrev pub rows : List Row
rows = (
  codes "strict" ∷ codes "noImplicitAny" ∷ codes "strictNullChecks" ∷ codes "strictFunctionTypes" ∷
      codes "strictBindCallApply" ∷ codes "strictPropertyInitialization" ∷ codes "noImplicitThis" ∷
      codes "useUnknownInCatchVariables" ∷ codes "alwaysStrict" ∷ codes "isolatedDeclarations" ∷
      codes "isolatedModules" ∷ codes "verbatimModuleSyntax" ∷ codes "declaration" ∷ codes "incremental" ∷ [],
  rule.True,
)
    ∷ (
      codes "noEmitOnError" ∷ codes "noEmit" ∷ codes "emitDeclarationOnly" ∷ codes "allowJs" ∷
          codes "checkJs" ∷ codes "noUncheckedIndexedAccess" ∷ codes "exactOptionalPropertyTypes" ∷ [],
      rule.False,
    )
    ∷ (codes "composite" ∷ [], rule.TrueOrFalse)
    ∷ (codes "module" ∷ [], rule.Module)
    ∷ (codes "moduleResolution" ∷ [], rule.Resolution)
    ∷ (codes "target" ∷ [], rule.Target)
    ∷ (codes "outDir" ∷ codes "rootDir" ∷ [], rule.PathText)
    ∷ (codes "paths" ∷ [], rule.PathLists)
    ∷ (
      codes "skipLibCheck" ∷ codes "skipDefaultLibCheck" ∷ codes "esModuleInterop" ∷
          codes "allowSyntheticDefaultImports" ∷ codes "lib" ∷ codes "types" ∷ codes "sourceMap" ∷
          codes "inlineSources" ∷ codes "declarationMap" ∷ codes "forceConsistentCasingInFileNames" ∷
          codes "resolveJsonModule" ∷ codes "moduleDetection" ∷ codes "jsx" ∷ codes "noUnusedLocals" ∷
          codes "noUnusedParameters" ∷ codes "noImplicitReturns" ∷ codes "noImplicitOverride" ∷
          codes "noFallthroughCasesInSwitch" ∷ codes "allowUnreachableCode" ∷ codes "allowUnusedLabels" ∷
          codes "removeComments" ∷ codes "importHelpers" ∷ codes "newLine" ∷ codes "useDefineForClassFields" ∷
          codes "noErrorTruncation" ∷ codes "pretty" ∷ codes "listFiles" ∷ [],
      rule.Ignored,
    )
    ∷ []

abbrev pub rule_of : List ℕ → Option Rule
rule_of = rule_in rows

abbrev pub modules : List (List ℕ)
modules = codes "es6" ∷ codes "es2015" ∷ codes "es2020" ∷ codes "es2022" ∷ codes "esnext" ∷ codes "preserve" ∷ []

abbrev pub resolutions : List (List ℕ)
resolutions = codes "bundler" ∷ []

abbrev pub targets : List (List ℕ)
targets = codes "es2020" ∷ codes "es2021" ∷ codes "es2022" ∷ codes "es2023" ∷ codes "es2024" ∷ codes "esnext" ∷ []

-- ---- the values

abbrev pub is_bool : Bool → Option Bool → Bool
is_bool true None = false
is_bool true (Some b) = b
is_bool false None = false
is_bool false (Some b) = not b

-- a text that is one of these, in any case
abbrev pub is_one_of : List (List ℕ) → Option (List ℕ) → Bool
is_one_of accepted None = false
is_one_of accepted (Some text) = list_any (str_eq_ignore_ascii_case text) accepted

-- a value is one of those that are accepted, where nothing inside it is looked at
abbrev pub accepts : Rule → Data → Bool
accepts rule.True d = is_bool true (as_bool d)
accepts rule.False d = is_bool false (as_bool d)
accepts rule.TrueOrFalse d = is_some (as_bool d)
accepts rule.Module d = is_one_of modules (as_str d)
accepts rule.Resolution d = is_one_of resolutions (as_str d)
accepts rule.Target d = is_one_of targets (as_str d)
accepts rule.PathText d = true
accepts rule.PathLists d = true
accepts rule.Ignored d = true

-- ---- what is wrong

-- the number of a code, and the member, option, path or text that is at fault
abbrev pub fault : ℕ → List ℕ → Fault
fault number first = record { number = number; first = first }

abbrev pub unless : Bool → Fault → List Fault
unless good fault = if good then [] else fault ∷ []

-- the texts that are no paths
abbrev pub astray : TextOf → List ℕ → List (List ℕ) → List Fault
astray kind folder texts = map (fault 5014) (filter (λ text. is_none (named kind folder text)) texts)

-- a key or a target of `paths` with two `*`
abbrev pub star_faults : List ℕ → List ℕ → List Fault
star_faults name text = unless (nat_lt (count_by (λ b. b == 42) text) 2) (fault 5006 name)

-- a target that is no path, or else one with two `*`
abbrev pub target_faults : List ℕ → List ℕ → List ℕ → List Fault
target_faults folder name target = if is_some (named kind.Path folder target) then star_faults name target else fault 5014 target ∷ []

abbrev pub list_faults : List ℕ → List ℕ → List ℕ × List (List ℕ) → List Fault
list_faults folder name list = star_faults name list.0 ++ flat_map (target_faults folder name) list.1

-- a value of another form, or what is wrong in it
abbrev pub text_faults : List ℕ → List ℕ → Option (List ℕ) → List Fault
text_faults folder name None = fault 5006 name ∷ []
text_faults folder name (Some text) = astray kind.Path folder (text ∷ [])

abbrev pub lists_faults : List ℕ → List ℕ → Option (List (List ℕ × List (List ℕ))) → List Fault
lists_faults folder name None = fault 5006 name ∷ []
lists_faults folder name (Some lists) = flat_map (list_faults folder name) lists

abbrev pub value_faults : Rule → List ℕ → List ℕ → Data → List Fault
value_faults rule.PathText folder name d = text_faults folder name (as_str d)
value_faults rule.PathLists folder name d = lists_faults folder name (path_lists d)
value_faults rule folder name d = unless (accepts rule d) (fault 5006 name)

abbrev pub ruled_faults : Option Rule → List ℕ → List ℕ → Data → List Fault
ruled_faults None folder name d = fault 5005 name ∷ []
ruled_faults (Some rule) folder name d = value_faults rule folder name d

-- what is wrong in the options of a config in this folder
abbrev pub options_faults : List ℕ → Members → List Fault
options_faults folder no_members = []
options_faults folder (member name d ms) = ruled_faults (rule_of name) folder name d ++ options_faults folder ms
