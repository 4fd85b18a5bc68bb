-- A finite map of texts, path by path.
use Rattle.std.proofs.Common.{◌≡◌, ℕ, Bool, cond, List, sym, ap, ◌∙◌}
use Rattle.std.specs.Prelude.{Some, None, Result, Ok, Err, OnOk, OnErr, ◌⊎◌}
use Rattle.std.proofs.Common.{inl, inr}
use Rattle.std.specs.Cmp.Lexicographic.{nat_list_cmp_total, texts_ties}
use Rattle.std.specs.FinMap.{FinMap, get, insert, remove, get-insert, get-remove}
use Rattle.tb_text.specs.Bytes.{bytes_cmp}
use Rattle.tb_outside.specs.Disk.{Files, put_at}

abbrev pub files_of : FinMap bytes_cmp (List ℕ) → Files
files_of m q = get m q

pub get_set : (m : FinMap bytes_cmp (List ℕ)) (path text : List ℕ) (q : List ℕ) → get (insert m path text) q ≡ put_at path (Some text) (files_of m) q
get_set m path text q = get-insert nat_list_cmp_total m path text q ∙ ap (λ (b : Bool). cond b (Some text) (get m q)) (sym (texts_ties q path))

pub get_gone : (m : FinMap bytes_cmp (List ℕ)) (path : List ℕ) (q : List ℕ) → get (remove m path) q ≡ put_at path None (files_of m) q
get_gone m path q = get-remove nat_list_cmp_total m path q ∙ ap (λ (b : Bool). cond b None (get m q)) (sym (texts_ties q path))

pub on_map : {T E : Type 0} (r : Result T E) (P Q : Type 0) → (P → Q) → OnOk r P → OnOk r Q
on_map (Ok value) P Q f p = f p
on_map (Err e) P Q f p = tt

pub either : {T E : Type 0} (r : Result T E) (P Q : Type 0) → OnOk r P → OnErr r Q → P ⊎ Q
either (Ok value) P Q p q = inl p
either (Err e) P Q p q = inr q
