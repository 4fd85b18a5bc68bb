-- Reading rows one after the other, as a loop does.
use Rattle.std.proofs.Common.{ℕ, ◌≡◌, List, [], ◌∷◌, ◌++◌, map, Option, Some, None, option_map, refl, ap, append_assoc}
use Rattle.std.proofs.lemmas.List.{map-append}
use Rattle.serde_json.specs.Data.{Data, Members, member}
use Rattle.tb_text.specs.Walks.{texts}
use Rattle.tb_options.specs.Lists.{list_of}
use Rattle.tb_options.specs.Members.{texts_of, each_list}
use Rattle.tb_options.specs.declared.members.PathList.{PathList}

-- what was read before, and what is still read
abbrev pub with_front : {X : Type 0} → List X → Option (List X) → Option (List X)
with_front front found = option_map (λ xs. front ++ xs) found

pub with_front_more : {X : Type 0} (front : List X) (x : X) (found : Option (List X)) → with_front (front ++ x ∷ []) found ≡ with_front front (option_map (λ xs. x ∷ xs) found)
with_front_more front x None = refl
with_front_more front x (Some xs) = ap Some (append_assoc front (x ∷ []) xs)

-- one list of `paths` further
pub lists_more : (read new : List PathList) (list : PathList) (key : List ℕ) (d : Data) (ms : Members) (whole : Option (List (List ℕ × List (List ℕ))))
    → new ≡ read ++ list ∷ [] → list.key.now ≡ key → Some (texts list.texts.items) ≡ texts_of d
    → with_front (map list_of read) (each_list (member key d ms)) ≡ whole → with_front (map list_of new) (each_list ms) ≡ whole
lists_more read new list key d ms whole pushed same found before =
    rw (pushed, map-append list_of read (list ∷ []), with_front_more (map list_of read) (list_of list) (each_list ms)) (rw (← found, ← same) at before)
