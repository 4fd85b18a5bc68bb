-- A map of texts, as the finite map that it stands for.
use Rattle.std.proofs.Common.{◌≡◌, ℕ, cond, List, [], ◌∷◌, length, refl, sym, ap, ◌∙◌}
use Rattle.std.specs.Prelude.{Option, Some, None, Result, Ok, Err, IfOk}
use Rattle.std.specs.Cmp.{eq_by_cmp_equiv}
use Rattle.std.specs.Cmp.Lexicographic.{nat_list_cmp_total}
use Rattle.std.specs.Map.{lookup}
use Rattle.std.specs.BTreeMap.{is_at}
use Rattle.std.specs.Prelude.{map}
use Rattle.std.specs.List.{AllByRecursion}
use Rattle.std.specs.List.Sorted.{IsStrictlySortedBy}
use Rattle.std.specs.declared.cmp.Ordering.{Ordering}
use Rattle.std.specs.declared.cmp.Ordering.TheVariants.{Less}
use Rattle.std.specs.FinMap.Entries.{put, by_order}
use Rattle.std.specs.FinMap.{entries, empty, keys, entries-insert, len, len-entries, len-empty, find, get, insert, remove, from_entries, get-from_entries, get-insert, get-remove, same_map}
use Rattle.std.proofs.lemmas.List.{nil_from_length}
use Rattle.std.proofs.lemmas.Map.Lookups.{exact_bytes}
use Rattle.tb_text.specs.Bytes.{bytes_cmp}

abbrev Entries : Type 0
Entries = List (List ℕ × List ℕ)

abbrev pub text_at : Entries → List ℕ → Option (List ℕ)
text_at es q = lookup (is_at (bytes_cmp q)) es

find_path : (es : Entries) (q : List ℕ) → find bytes_cmp q es ≡ text_at es q
find_path [] q = refl
find_path (e ∷ es) q = ap (cond (is_at (bytes_cmp q) e.0) (Some e.1)) (find_path es q)

pub got : (es : Entries) (q : List ℕ) → get (from_entries {R = bytes_cmp} es) q ≡ text_at es q
got es q = get-from_entries nat_list_cmp_total es q ∙ find_path es q

-- entries that differ at one path
pub one_set : (es fs : Entries) (k : List ℕ) (text : List ℕ) → ((q : List ℕ) → text_at fs q ≡ cond (is_at (bytes_cmp k) q) (Some text) (text_at es q)) → from_entries {R = bytes_cmp} fs ≡ insert (from_entries es) k text
one_set es fs k text h = same_map nat_list_cmp_total exact_bytes _ _ (λ q.
    got fs q ∙ h q ∙ ap (λ b. cond b (Some text) (text_at es q)) ((eq_by_cmp_equiv nat_list_cmp_total).symm k q)
    ∙ sym (get-insert nat_list_cmp_total (from_entries es) k text q ∙ ap (cond (is_at (bytes_cmp q) k) (Some text)) (got es q)))

pub one_gone : (es fs : Entries) (k : List ℕ) → ((q : List ℕ) → text_at fs q ≡ cond (is_at (bytes_cmp k) q) None (text_at es q)) → from_entries {R = bytes_cmp} fs ≡ remove (from_entries es) k
one_gone es fs k h = same_map nat_list_cmp_total exact_bytes _ _ (λ q.
    got fs q ∙ h q ∙ ap (λ b. cond b None (text_at es q)) ((eq_by_cmp_equiv nat_list_cmp_total).symm k q)
    ∙ sym (get-remove nat_list_cmp_total (from_entries es) k q ∙ ap (cond (is_at (bytes_cmp q) k) None) (got es q)))

-- the first of paths in order goes before the others
put_first : (k text : List ℕ) (es : Entries) → AllByRecursion (λ y. bytes_cmp k y ≡ Less) (map (λ e. e.0) es) → put bytes_cmp k text es ≡ (k, text) ∷ es
put_first k text [] all = refl
put_first k text (e ∷ es) all = ap (λ (r : Ordering). by_order r ((k, text) ∷ e ∷ es) ((e.0, text) ∷ es) (e ∷ put bytes_cmp k text es)) all.0

entries_of : (es : Entries) → IsStrictlySortedBy bytes_cmp (map (λ e. e.0) es) → entries (from_entries {R = bytes_cmp} es) ≡ es
unfolding IsStrictlySortedBy
entries_of [] sorted = nil_from_length (entries (empty {X = List ℕ} {R = bytes_cmp})) (sym (len-entries (empty {X = List ℕ} {R = bytes_cmp})) ∙ len-empty bytes_cmp (List ℕ))
entries_of (e ∷ es) sorted = entries-insert nat_list_cmp_total (from_entries es) e.0 e.1 ∙ ap (λ (l : Entries). put bytes_cmp e.0 e.1 l) (entries_of es sorted.1) ∙ put_first e.0 e.1 es sorted.0

pub keys_of : (es : Entries) → IsStrictlySortedBy bytes_cmp (map (λ e. e.0) es) → keys (from_entries {R = bytes_cmp} es) ≡ map (λ e. e.0) es
keys_of es sorted = ap (λ (l : Entries). map (λ e. e.0) l) (entries_of es sorted)

pub count_of : (es : Entries) → IsStrictlySortedBy bytes_cmp (map (λ e. e.0) es) → length es ≡ len (from_entries {R = bytes_cmp} es)
count_of es sorted = sym (len-entries (from_entries es) ∙ ap (λ (l : Entries). length l) (entries_of es sorted))

pub if_both : {T E : Type 0} (r : Result T E) (P Q R : T → Type 0) → ((x : T) → P x → Q x → R x) → IfOk r P → IfOk r Q → IfOk r R
if_both (Ok x) P Q R f p q = f x p q
if_both (Err e) P Q R f p q = tt
