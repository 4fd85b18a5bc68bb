-- Where the names of declarations lead, one declaration further.
use Rattle.std.proofs.Common.{◌≡◌, ℕ, ◌+◌, ◌<◌, take, Bool, true, false, cond, List, [], ◌∷◌, ◌++◌, length, get_or, refl, sym, ap, subst, ◌∙◌, append-nil, append_assoc}
use Rattle.std.specs.Prelude.{◌||◌, ◌&&◌, if◌then◌else◌, map, Some, None}
use Rattle.std.specs.List.{flat_map}
use Rattle.std.specs.Str.{bytes_eq}
use Rattle.std.specs.Map.{lookup}
use Rattle.std.specs.BTreeSet.{BTreeSet}
use Rattle.std.specs.BTreeMap.{BTreeMap, get, is_at}
use Rattle.std.proofs.lemmas.List.{map_push}
use Rattle.tb_text.specs.Bytes.{bytes_cmp}
use Rattle.tb_tree.specs.declared.exprs.Declarator.{Declarator}
use Rattle.tb_tree.specs.declared.exprs.VarKind.{VarKind}
use Rattle.tb_layout.specs.Parts.{Part, VariablePart, part_name, part_names, is_type_part, is_one_of, variable_name, variable_names}
use Rattle.tb_surface.specs.Names.{HasNames, Exported, paired, all_with, start_names, names_behind, or_nothing, led_to, Leads, LeadsOn, if_kept, LedOn, LacksOnly}
use Rattle.tb_surface.proofs.Named.{or_false, and_false, at_eq, eq_same}
use Rattle.tb_surface.proofs.Joins.{taken, flat_push}

pub leads_none : (starts : List (List ℕ)) (further : BTreeMap (List ℕ) (List (List ℕ))) → starts ≡ [] → further.entries ≡ [] → (listed : List (List ℕ)) → Leads listed [] starts further
leads_none starts further none empty listed = record { begin = none; lead = λ name. ap (λ es. or_nothing (lookup (is_at (bytes_cmp name)) es)) empty }

pub leads_nothing : (listed : BTreeSet (List ℕ)) (starts : List (List ℕ)) (further : BTreeMap (List ℕ) (List (List ℕ))) → LeadsOn listed starts further starts further []
leads_nothing listed starts further names all has h = subst (λ l. Leads names l starts further) (sym (append-nil all)) h

pub leads_then : (listed : BTreeSet (List ℕ)) (s s1 s2 : List (List ℕ)) (f f1 f2 : BTreeMap (List ℕ) (List (List ℕ))) (xs ys : List Exported) → LeadsOn listed s f s1 f1 xs → LeadsOn listed s1 f1 s2 f2 ys
    → LeadsOn listed s f s2 f2 (xs ++ ys)
leads_then listed s s1 s2 f f1 f2 xs ys g k names all has h =
    subst (λ l. Leads names l s2 f2) (append_assoc all xs ys) (k names (all ++ xs) has (g names all has h))

-- what begins at a declaration
starts_same : (listed : BTreeSet (List ℕ)) (names : List (List ℕ)) (exported : Bool) (of : Part) → HasNames listed names
    → if_kept listed exported (part_name of) (part_names of) ≡ start_names names (paired exported of)
starts_same listed names exported of has =
    ap (λ b. if b then part_names of else [])
    (ap (λ b. exported || b) (has (part_name of)) ∙ sym (ap (λ b. (exported || is_one_of names (part_name of)) || b) (and_false (is_type_part of)) ∙ or_false (exported || is_one_of names (part_name of))))

pub leads_one : (listed : BTreeSet (List ℕ)) (s s1 : List (List ℕ)) (f f1 : BTreeMap (List ℕ) (List (List ℕ))) (exported : Bool) (of : Part) (own : List (List ℕ)) → own ≡ part_names of
    → s1 ≡ s ++ if_kept listed exported (part_name of) own → ((other : List ℕ) → led_to f1 other ≡ led_to f other ++ names_behind other (paired exported of))
    → LeadsOn listed s f s1 f1 (paired exported of ∷ [])
leads_one listed s s1 f f1 exported of own own_is grew led names all has h = record {
  begin =
      grew ∙ ap (λ l. s ++ if_kept listed exported (part_name of) l) own_is ∙ ap (λ l. s ++ l) (starts_same listed names exported of has)
      ∙ ap (λ l. l ++ start_names names (paired exported of)) h.begin ∙ sym (flat_push (start_names names) all (paired exported of));
  lead = λ other.
      led other ∙ ap (λ l. l ++ names_behind other (paired exported of)) (h.lead other) ∙ sym (flat_push (names_behind other) all (paired exported of));
}

-- nothing leads to a variable or a function by a type
behind_value : (exported : Bool) (of : Part) (other : List ℕ) → is_type_part of ≡ false → names_behind other (paired exported of) ≡ []
behind_value exported of other not_so = ap (λ b. if b && bytes_eq other (part_name of) then part_names of else []) not_so

pub leads_value : (listed : BTreeSet (List ℕ)) (s s1 : List (List ℕ)) (f f1 : BTreeMap (List ℕ) (List (List ℕ))) (exported : Bool) (of : Part) (own : List (List ℕ)) → is_type_part of ≡ false → own ≡ part_names of
    → s1 ≡ s ++ if_kept listed exported (part_name of) own → f1 ≡ f → LeadsOn listed s f s1 f1 (paired exported of ∷ [])
leads_value listed s s1 f f1 exported of own not_so own_is grew same =
    leads_one listed s s1 f f1 exported of own own_is grew
    (λ other. ap (λ m. led_to m other) same ∙ sym (append-nil (led_to f other)) ∙ ap (λ l. led_to f other ++ l) (sym (behind_value exported of other not_so)))

behind_type : (exported : Bool) (of : Part) (other : List ℕ) → is_type_part of ≡ true → (if bytes_eq other (part_name of) then part_names of else []) ≡ names_behind other (paired exported of)
behind_type exported of other is_so = ap (λ b. if b && bytes_eq other (part_name of) then part_names of else []) (sym is_so)

pub leads_type : (listed : BTreeSet (List ℕ)) (s s1 : List (List ℕ)) (f f1 : BTreeMap (List ℕ) (List (List ℕ))) (exported : Bool) (of : Part) (own : List (List ℕ)) → is_type_part of ≡ true → own ≡ part_names of
    → s1 ≡ s ++ if_kept listed exported (part_name of) own → LedOn f f1 (part_name of) own → LeadsOn listed s f s1 f1 (paired exported of ∷ [])
leads_type listed s s1 f f1 exported of own is_so own_is grew led =
    leads_one listed s s1 f f1 exported of own own_is grew
    (λ other. led other ∙ ap (λ l. led_to f other ++ (if bytes_eq other (part_name of) then l else [])) own_is ∙ ap (λ l. led_to f other ++ l) (behind_type exported of other is_so))

-- ---- one member further

pub leads_more : {X : Type 0} (parts : X → List Exported) (all : List X) (i : ℕ) (x : X) (listed : BTreeSet (List ℕ)) (s s1 s2 : List (List ℕ)) (f f1 f2 : BTreeMap (List ℕ) (List (List ℕ))) → i < length all → x ≡ get_or all i x
    → LeadsOn listed s f s1 f1 (flat_map parts (take i all)) → LeadsOn listed s1 f1 s2 f2 (parts x) → LeadsOn listed s f s2 f2 (flat_map parts (take (i + 1) all))
leads_more parts all i x listed s s1 s2 f f1 f2 lt is g k =
    subst (LeadsOn listed s f s2 f2) (sym (ap (flat_map parts) (taken all i x lt is) ∙ flat_push parts (take i all) x))
    (leads_then listed s s1 s2 f f1 f2 (flat_map parts (take i all)) (parts x) g k)

pub leads_variable : (kind : VarKind) (all : List Declarator) (i : ℕ) (x : Declarator) (exported : Bool) (listed : BTreeSet (List ℕ)) (s s1 s2 : List (List ℕ)) (f f1 f2 : BTreeMap (List ℕ) (List (List ℕ))) → i < length all
    → x ≡ get_or all i x → LeadsOn listed s f s1 f1 (all_with exported (map (VariablePart kind) (take i all)))
    → s2 ≡ s1 ++ if_kept listed exported (variable_name x) (variable_names x) → f2 ≡ f1
    → LeadsOn listed s f s2 f2 (all_with exported (map (VariablePart kind) (take (i + 1) all)))
leads_variable kind all i x exported listed s s1 s2 f f1 f2 lt is g grew same =
    let parts = ap (map (VariablePart kind)) (taken all i x lt is) ∙ map_push (VariablePart kind) (take i all) x in
    let whole = ap (all_with exported) parts ∙ map_push (paired exported) (map (VariablePart kind) (take i all)) (VariablePart kind x) in
    subst (LeadsOn listed s f s2 f2) (sym whole)
    (leads_then listed s s1 s2 f f1 f2 (all_with exported (map (VariablePart kind) (take i all))) (paired exported (VariablePart kind x) ∷ []) g
    (leads_value listed s1 s2 f1 f2 exported (VariablePart kind x) (variable_names x) refl refl grew same))

-- ---- where a name leads

pub lacks_only : (old new : BTreeMap (List ℕ) (List (List ℕ))) (name : List ℕ) → ((q : List ℕ) → get bytes_cmp new q ≡ cond (is_at (bytes_cmp name) q) None (get bytes_cmp old q)) → LacksOnly old new name
lacks_only old new name took q = took q ∙ ap (λ b. cond b None (get bytes_cmp old q)) (at_eq name q)

led_by : (e : Bool) (old : BTreeMap (List ℕ) (List (List ℕ))) (name other : List ℕ) (own whole : List (List ℕ)) → (e ≡ true → other ≡ name) → whole ≡ led_to old name ++ own
    → or_nothing (cond e (Some whole) (cond e None (get bytes_cmp old other))) ≡ led_to old other ++ (if e then own else [])
led_by true old name other own whole same is = is ∙ ap (λ x. led_to old x ++ own) (sym (same refl))
led_by false old name other own whole same is = sym (append-nil (led_to old other))

pub led_on : (old mid new : BTreeMap (List ℕ) (List (List ℕ))) (name key : List ℕ) (before own whole : List (List ℕ)) → before ≡ led_to old name → LacksOnly old mid name → whole ≡ before ++ own → key ≡ name
    → ((q : List ℕ) → get bytes_cmp new q ≡ cond (is_at (bytes_cmp key) q) (Some whole) (get bytes_cmp mid q)) → LedOn old new name own
led_on old mid new name key before own whole was lacks is key_is put other =
    ap or_nothing (put other ∙ ap (λ k. cond (is_at (bytes_cmp k) other) (Some whole) (get bytes_cmp mid other)) key_is
    ∙ ap (λ b. cond b (Some whole) (get bytes_cmp mid other)) (at_eq name other) ∙ ap (cond (bytes_eq other name) (Some whole)) (lacks other))
    ∙ led_by (bytes_eq other name) old name other own whole (eq_same other name) (is ∙ ap (λ l. l ++ own) was)
