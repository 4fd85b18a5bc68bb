-- Options: their data has no float, is plain and is shallow, and gives the options back.
use Rattle.std.proofs.Common.{◌≡◌, ℕ, ◌≤◌, List, [], ◌∷◌, map, false, IsUtf8, refl, ap, ◌∙◌, arith}
use Rattle.std.specs.List.{AllByRecursion}
use Rattle.json.proofs.Printed.Utf8.{IsUtf8-are_ascii}
use Rattle.serde_json.specs.Data.{Data, string, depth, items_depth}
use Rattle.serde_json.specs.Read.{max_depth}
use Rattle.serde_json.specs.View.{items_of}
use Rattle.serde_json.specs.Written.{has_float, items_have_float, compact_text}
use Rattle.tb_face.specs.Plain.{IsPlain, ItemsArePlain}
use Rattle.tb_face.specs.Options.{path_entry_data, options_data, options_text, IsPathEntry, AreOptions}
use Rattle.tb_face.specs.declared.options.PathEntry.{PathEntry}
use Rattle.tb_face.specs.declared.options.Options.{Options}
use Rattle.tb_face.proofs.Compact.{compact_text-one}

-- ---- the records, by their fields

entry_of : List ℕ → List (List ℕ) → PathEntry
entry_of key targets = record { key = key; targets = targets }

options_of : List ℕ → List PathEntry → List ℕ → List ℕ → Options
options_of out_dir paths project root_dir = record { out_dir = out_dir; paths = paths; project = project; root_dir = root_dir }

-- ---- no floats

pub rows_no_float : {X : Type 0} (f : X → Data) → ((x : X) → has_float (f x) ≡ false) → (xs : List X) → items_have_float (items_of (map f xs)) ≡ false
rows_no_float f h [] = refl
rows_no_float f h (x ∷ xs) = rw (h x, rows_no_float f h xs)

path_entry_no_float : (e : PathEntry) → has_float (path_entry_data e) ≡ false
unfolding path_entry_data
path_entry_no_float e = rw (rows_no_float string (λ n. refl) e.targets)

pub options_no_float : (o : Options) → has_float (options_data o) ≡ false
unfolding options_data
options_no_float o = rw (rows_no_float path_entry_data path_entry_no_float o.paths)

pub spelled : (o : Options) (d : Data) (text : List ℕ) → d ≡ options_data o → (has_float d ≡ false → text ≡ compact_text d) → text ≡ options_text o
unfolding options_text
spelled o d text is written = written (rw is (options_no_float o)) ∙ ap compact_text is

-- ---- plain

pub rows_plain : {X : Type 0} (f : X → Data) (fits : X → Type 0) → ((x : X) → fits x → IsPlain (f x)) → (xs : List X) → AllByRecursion fits xs → ItemsArePlain (items_of (map f xs))
rows_plain f fits plain [] h = tt
rows_plain f fits plain (x ∷ xs) h = (plain x h.0, rows_plain f fits plain xs h.1)

path_entry_plain : (e : PathEntry) → IsPathEntry e → IsPlain (path_entry_data e)
unfolding path_entry_data
path_entry_plain e h = (h.key, (rows_plain string IsUtf8 (λ n u. u) e.targets h.targets, tt))

options_plain : (o : Options) → AreOptions o → IsPlain (options_data o)
unfolding options_data
options_plain o h = (
  refl,
  (
    IsUtf8-are_ascii _ refl,
    h.out_dir,
    (
      IsUtf8-are_ascii _ refl,
      rows_plain path_entry_data IsPathEntry path_entry_plain o.paths h.paths,
      (IsUtf8-are_ascii _ refl, h.project, (IsUtf8-are_ascii _ refl, h.root_dir, tt)),
    ),
  ),
)

-- ---- shallow

pub rows_shallow : {X : Type 0} (f : X → Data) (n : ℕ) → ((x : X) → depth (f x) ≤ n) → (xs : List X) → items_depth (items_of (map f xs)) ≤ n
rows_shallow f n h [] = omega arith
rows_shallow f n h (x ∷ xs) = omega (arith, h x, rows_shallow f n h xs)

path_entry_shallow : (e : PathEntry) → depth (path_entry_data e) ≤ 2
unfolding path_entry_data
path_entry_shallow e = omega (arith, rows_shallow string 0 (λ n. omega arith) e.targets)

options_shallow : (o : Options) → depth (options_data o) ≤ max_depth
unfolding options_data
options_shallow o = omega (arith, rows_shallow path_entry_data 2 path_entry_shallow o.paths)

-- ---- one text

rows_one : {X : Type 0} (f : X → Data) → ((x y : X) → f x ≡ f y → x ≡ y) → (xs ys : List X) → items_of (map f xs) ≡ items_of (map f ys) → xs ≡ ys
rows_one f one [] [] e = refl
rows_one f one [] (y ∷ ys) e = absurd (cc)
rows_one f one (x ∷ xs) [] e = absurd (cc)
rows_one f one (x ∷ xs) (y ∷ ys) e =
    let first : f x ≡ f y = cc in
    let rest : items_of (map f xs) ≡ items_of (map f ys) = cc in
    rw (one x y first, rows_one f one xs ys rest)

string_one : (a b : List ℕ) → string a ≡ string b → a ≡ b
string_one a b e = cc

path_entry_one : (a b : PathEntry) → path_entry_data a ≡ path_entry_data b → a ≡ b
unfolding path_entry_data entry_of
path_entry_one a b e =
    let key : a.key ≡ b.key = cc in
    let rows : items_of (map string a.targets) ≡ items_of (map string b.targets) = cc in
    let targets = rows_one string string_one a.targets b.targets rows in
    let same : entry_of a.key a.targets ≡ entry_of b.key b.targets = rw (key, targets) in
    same

options_data_one : (a b : Options) → options_data a ≡ options_data b → a ≡ b
unfolding options_data options_of
options_data_one a b e =
    let out_dir : a.out_dir ≡ b.out_dir = cc in
    let rows : items_of (map path_entry_data a.paths) ≡ items_of (map path_entry_data b.paths) = cc in
    let paths = rows_one path_entry_data path_entry_one a.paths b.paths rows in
    let project : a.project ≡ b.project = cc in
    let root_dir : a.root_dir ≡ b.root_dir = cc in
    let same : options_of a.out_dir a.paths a.project a.root_dir ≡ options_of b.out_dir b.paths b.project b.root_dir = rw (out_dir, paths, project, root_dir) in
    same

pub one_options : (a b : Options) → AreOptions a → AreOptions b → options_text a ≡ options_text b → a ≡ b
unfolding options_text
one_options a b h k same = options_data_one a b (compact_text-one (options_data a) (options_data b) (options_plain a h) (options_plain b k) (options_shallow a) (options_shallow b) same)
