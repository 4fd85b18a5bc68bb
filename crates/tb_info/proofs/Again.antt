-- What is spelled is read again; its data is plain, and no deeper than the reader goes.
use Rattle.std.proofs.Common.{◌≡◌, ℕ, ◌+◌, ◌*◌, ◌-◌, ◌^◌, ◌<◌, ◌≤◌, ◌++◌, if◌then◌else◌, decimal, le-leb, lt-ltb, List, [], ◌∷◌, map, Bool, true, false, Option, Some, None, option_map, IsTrue, IsUtf8, refl, sym, ap, subst, ◌∙◌, arith, codes}
use Rattle.std.proofs.lemmas.Str.{IsUtf8-append, IsUtf8-from_ascii}
use Rattle.std.proofs.lemmas.Fmt.{IsAscii-decimal, decimal_is_IsNumeral}
use Rattle.std.specs.Str.Parse.{AllDigits, digits_value_after}
use Rattle.std.specs.Char.{digit_value}
use Rattle.std.proofs.lemmas.Str.{digit_value_digit}
use Rattle.std.proofs.lemmas.Str.Parse.{digit_from_value}
use Rattle.std.proofs.lemmas.Str.Ascii.{IsAscii-nil, IsAscii-cons}
use Rattle.std.proofs.lemmas.Bool.{and_parts}
use Rattle.std.specs.Str.{IsAscii}
use Rattle.std.specs.List.{AllByRecursion}
use borrow.Author.Tests.{ltb-true}
use Rattle.hex.specs.Hex.{encode_lower, lower_digits}
use Rattle.hex.proofs.HexLemmas.{IsAscii-encode_with, decode_sized-encode_lower}
use Rattle.json.proofs.Printed.Utf8.{IsUtf8-are_ascii, are_ascii}
use Rattle.serde_json.specs.Data.{Data, string, depth, items_depth}
use Rattle.serde_json.specs.Read.{read, max_depth}
use Rattle.serde_json.specs.View.{items_of}
use Rattle.tb_text.specs.Paths.{is_path}
use Rattle.tb_text.specs.declared.edges.Target.{Target}
use Rattle.tb_text.specs.declared.edges.Target.TheVariants.{Found, Elsewhere, Missing}
use Rattle.tb_text.specs.declared.edges.Edge.{Edge}
use Rattle.tb_text.specs.declared.findings.Code.{Code}
use Rattle.tb_text.specs.declared.findings.Finding.{Finding}
use Rattle.tb_face.specs.declared.infos.Reach.{Reach}
use Rattle.tb_face.specs.declared.infos.Entry.{Entry}
use Rattle.tb_face.specs.declared.infos.Info.{Info}
use Rattle.tb_face.specs.Infos.{digest_data, signature_data, kind_of, place_of, edge_data, code_text, finding_data, reach_data, entry_data, info_data, spelling, IsPath, IsDigest, IsSignature, IsTarget, IsEdge, IsFinding, IsReach, IsEntry, WellFormed}
use Rattle.tb_face.specs.Plain.{IsPlain, ItemsArePlain}
use Rattle.tb_info.specs.Reading.{path_found, decoded, digest_found, items_found, signature_found, target_of, edge_found, digits_from, code_of, code_in, finding_found, reach_found, entry_found, info_found}
use Rattle.tb_face.proofs.Compact.{read-compact_text, IsUtf8-compact_text}

path_again : (p : List ℕ) → IsPath p → path_found (string p) ≡ Some p
path_again p h = rw h.1

digest_again : (d : List ℕ) → IsDigest d → digest_found (digest_data d) ≡ Some d
digest_again d h = ap decoded (decode_sized-encode_lower d 32 h.0 h.1)

items_again : {X : Type 0} (f : Data → Option X) (s : X → Data) (fits : X → Type 0) → ((x : X) → fits x → f (s x) ≡ Some x) → (xs : List X) → AllByRecursion fits xs
    → items_found f (items_of (map s xs)) ≡ Some xs
items_again f s fits again [] h = refl
items_again f s fits again (x ∷ xs) h = rw (again x h.0, items_again f s fits again xs h.1)

signature_again : (s : Option (List ℕ)) → IsSignature s → signature_found (signature_data s) ≡ Some s
signature_again None h = refl
signature_again (Some d) h = ap (option_map Some) (digest_again d h)

place_fits : (t : Target) → IsTarget t → IsTrue (is_path (place_of t))
place_fits (Found p) h = h.1
place_fits (Elsewhere p) h = h.1
place_fits Missing h = refl

target_again : (t : Target) → target_of (kind_of t) (place_of t) ≡ Some t
target_again (Found p) = refl
target_again (Elsewhere p) = refl
target_again Missing = refl

edge_again : (e : Edge) → IsEdge e → edge_found (edge_data e) ≡ Some e
unfolding edge_found edge_data
edge_again e h = rw (place_fits e.to h.to, target_again e.to)

-- digits never make a number smaller
grows : (n : ℕ) (cs : List ℕ) → n ≤ digits_value_after 10 n cs
grows n [] = omega arith
grows n (c ∷ cs) = omega (arith, grows (n * 10 + digit_value c) cs)

is_digit : (c : ℕ) → digit_value c < 10 → (48 ≤ c) × (c ≤ 57) × (digit_value c ≡ c - 48)
is_digit c h = let r = digit_from_value c h in let v = digit_value_digit c r in (r.0, r.1, omega (arith, v, r.0))

digits_step : (n c next : ℕ) (cs : List ℕ) → 48 ≤ c → c ≤ 57 → n * 10 + (c - 48) ≡ next → next < 65536 → digits_from n (c ∷ cs) ≡ digits_from next cs
digits_step n c next cs low high e small = rw (le-leb 48 c low, le-leb c 57 high, e, lt-ltb _ _ small)

digits_again : (cs : List ℕ) (n : ℕ) → AllDigits 10 cs → digits_value_after 10 n cs < 65536 → digits_from n cs ≡ Some (digits_value_after 10 n cs)
digits_again [] n h small = refl
digits_again (c ∷ cs) n h small =
    let d = is_digit c h.0 in
    let g = grows (n * 10 + digit_value c) cs in
    let within : n * 10 + digit_value c < 65536 = omega (arith, g, small) in
    digits_step n c (n * 10 + digit_value c) cs d.0 d.1 (ap (λ (k : ℕ). n * 10 + k) (sym d.2)) within ∙ digits_again cs (n * 10 + digit_value c) h.1 small

decimal_again : (n : ℕ) → n < 65536 → digits_from 0 (decimal n) ≡ Some n
decimal_again n h =
    let e = decimal_is_IsNumeral n (omega arith) in
    digits_again (decimal n) 0 e.0.1 (rw e.1 h) ∙ ap Some e.1

code_parts : (own : Bool) (n : ℕ) → code_in ((if own then codes "TB" else codes "TS") ++ decimal n) ≡ code_of own (digits_from 0 (decimal n))
code_parts true n = refl
code_parts false n = refl

code_again : (c : Code) → c.number < 65536 → code_in (code_text c) ≡ Some c
code_again c h = code_parts c.own c.number ∙ ap (code_of c.own) (decimal_again c.number h)

finding_again : (f : Finding) → IsFinding f → finding_found (finding_data f) ≡ Some f
unfolding finding_found finding_data
finding_again f h = rw (code_again f.code h.number)

edges_again : (xs : List Edge) → AllByRecursion IsEdge xs → items_found edge_found (items_of (map edge_data xs)) ≡ Some xs
edges_again = items_again edge_found edge_data IsEdge edge_again

reach_again : (r : Reach) → IsReach r → reach_found (reach_data r) ≡ Some r
unfolding reach_found reach_data
reach_again r h = rw (h.path.1, signature_again r.signature h.signature, edges_again r.edges h.edges.each)

entry_again : (e : Entry) → IsEntry e → entry_found (entry_data e) ≡ Some e
unfolding entry_found entry_data
entry_again e h = rw (
  edges_again e.edges h.edges.each,
  items_again finding_found finding_data IsFinding finding_again e.findings h.findings.each,
  h.path.1,
  items_again reach_found reach_data IsReach reach_again e.reach h.reach.each,
  signature_again e.signature h.signature,
  digest_again e.version h.version,
)

pub info_again : (i : Info) → WellFormed i → info_found (info_data i) ≡ Some i
unfolding info_found info_data
info_again i h = rw (
  items_again entry_found entry_data IsEntry entry_again i.files h.files.each,
  digest_again i.options h.options,
  items_again path_found string IsPath path_again i.pending h.pending.each,
  path_again i.project h.project,
  path_again i.root h.root,
)

-- ---- plain

items_plain : {X : Type 0} (s : X → Data) (fits : X → Type 0) → ((x : X) → fits x → IsPlain (s x)) → (xs : List X) → AllByRecursion fits xs → ItemsArePlain (items_of (map s xs))
items_plain s fits plain [] h = tt
items_plain s fits plain (x ∷ xs) h = (plain x h.0, items_plain s fits plain xs h.1)

all_ascii : (xs : List ℕ) → are_ascii xs ≡ true → IsAscii xs
all_ascii [] e = IsAscii-nil
all_ascii (x ∷ xs) e = let p = and_parts _ _ e in IsAscii-cons x xs (ltb-true _ _ p.0) (all_ascii xs p.1)

digest_plain : (d : List ℕ) → IsUtf8 (encode_lower d)
digest_plain d = IsUtf8-from_ascii _ (IsAscii-encode_with lower_digits d (all_ascii lower_digits refl))

signature_plain : (s : Option (List ℕ)) → IsPlain (signature_data s)
signature_plain None = tt
signature_plain (Some d) = digest_plain d

kind_small : (t : Target) → kind_of t < 2 ^ 64
kind_small (Found p) = omega arith
kind_small (Elsewhere p) = omega arith
kind_small Missing = omega arith

place_plain : (t : Target) → IsTarget t → IsUtf8 (place_of t)
place_plain (Found p) h = h.0
place_plain (Elsewhere p) h = h.0
place_plain Missing h = IsUtf8-are_ascii [] refl

edge_plain : (e : Edge) → IsEdge e → IsPlain (edge_data e)
unfolding edge_data
edge_plain e h = (h.spec, (kind_small e.to, (place_plain e.to h.to, tt)))

code_plain : (own : Bool) (n : ℕ) → n < 2 ^ 64 → IsUtf8 ((if own then codes "TB" else codes "TS") ++ decimal n)
code_plain true n h = IsUtf8-append (codes "TB") (decimal n) (IsUtf8-are_ascii _ refl) (IsUtf8-from_ascii _ (IsAscii-decimal n h))
code_plain false n h = IsUtf8-append (codes "TS") (decimal n) (IsUtf8-are_ascii _ refl) (IsUtf8-from_ascii _ (IsAscii-decimal n h))

finding_plain : (f : Finding) → IsFinding f → IsPlain (finding_data f)
unfolding finding_data
finding_plain f h = let small : f.code.number < 2 ^ 64 = omega (arith, h.number) in (h.offset, (code_plain f.code.own f.code.number small, (h.first, (h.second, tt))))

edges_plain : (xs : List Edge) → AllByRecursion IsEdge xs → ItemsArePlain (items_of (map edge_data xs))
edges_plain = items_plain edge_data IsEdge edge_plain

reach_plain : (r : Reach) → IsReach r → IsPlain (reach_data r)
unfolding reach_data
reach_plain r h = (h.path.0, (signature_plain r.signature, (edges_plain r.edges h.edges.each, tt)))

entry_plain : (e : Entry) → IsEntry e → IsPlain (entry_data e)
unfolding entry_data
entry_plain e h = (
  refl,
  (
    IsUtf8-are_ascii _ refl,
    edges_plain e.edges h.edges.each,
    (
      IsUtf8-are_ascii _ refl,
      items_plain finding_data IsFinding finding_plain e.findings h.findings.each,
      (
        IsUtf8-are_ascii _ refl,
        h.path.0,
        (
          IsUtf8-are_ascii _ refl,
          items_plain reach_data IsReach reach_plain e.reach h.reach.each,
          (
            IsUtf8-are_ascii _ refl,
            signature_plain e.signature,
            (
              IsUtf8-are_ascii _ refl,
              digest_plain e.version,
              tt,
            ),
          ),
        ),
      ),
    ),
  ),
)

pub info_plain : (i : Info) → WellFormed i → IsPlain (info_data i)
unfolding info_data
info_plain i h = (
  refl,
  (
    IsUtf8-are_ascii _ refl,
    IsUtf8-are_ascii _ refl,
    (
      IsUtf8-are_ascii _ refl,
      items_plain entry_data IsEntry entry_plain i.files h.files.each,
      (
        IsUtf8-are_ascii _ refl,
        digest_plain i.options,
        (
          IsUtf8-are_ascii _ refl,
          items_plain string IsPath (λ p q. q.0) i.pending h.pending.each,
          (
            IsUtf8-are_ascii _ refl,
            h.project.0,
            (
              IsUtf8-are_ascii _ refl,
              h.root.0,
              tt,
            ),
          ),
        ),
      ),
    ),
  ),
)

-- ---- not deep

items_shallow : {X : Type 0} (s : X → Data) (n : ℕ) → ((x : X) → depth (s x) ≤ n) → (xs : List X) → items_depth (items_of (map s xs)) ≤ n
items_shallow s n h [] = omega arith
items_shallow s n h (x ∷ xs) = omega (arith, h x, items_shallow s n h xs)

signature_shallow : (s : Option (List ℕ)) → depth (signature_data s) ≤ 0
signature_shallow None = omega arith
signature_shallow (Some d) = omega arith

edge_shallow : (e : Edge) → depth (edge_data e) ≤ 1
unfolding edge_data
edge_shallow e = omega arith

finding_shallow : (f : Finding) → depth (finding_data f) ≤ 1
unfolding finding_data
finding_shallow f = omega arith

reach_shallow : (r : Reach) → depth (reach_data r) ≤ 3
unfolding reach_data
reach_shallow r = omega (arith, signature_shallow r.signature, items_shallow edge_data 1 edge_shallow r.edges)

entry_shallow : (e : Entry) → depth (entry_data e) ≤ 5
unfolding entry_data
entry_shallow e =
    omega (arith, signature_shallow e.signature, items_shallow edge_data 1 edge_shallow e.edges, items_shallow finding_data 1 finding_shallow e.findings, items_shallow reach_data 3 reach_shallow e.reach)

pub info_shallow : (i : Info) → depth (info_data i) ≤ max_depth
unfolding info_data
info_shallow i = omega (arith, items_shallow entry_data 5 entry_shallow i.files, items_shallow string 0 (λ p. omega arith) i.pending)

-- ---- the whole text

pub read-spelling : (i : Info) → WellFormed i → read (spelling i) ≡ Some (info_data i)
unfolding spelling
read-spelling i h = read-compact_text (info_data i) (info_plain i h) (info_shallow i)

pub IsUtf8-spelling : (i : Info) → WellFormed i → IsUtf8 (spelling i)
unfolding spelling
IsUtf8-spelling i h = IsUtf8-compact_text (info_data i) (info_plain i h)

pub one_info : (i j : Info) → WellFormed i → WellFormed j → spelling i ≡ spelling j → i ≡ j
one_info i j h k same =
    let data_same : Some (info_data i) ≡ Some (info_data j) = sym (read-spelling i h) ∙ ap read same ∙ read-spelling j k in
    let found : Some i ≡ Some j = sym (info_again i h) ∙ ap info_found (cc) ∙ info_again j k in
    cc

-- ---- for the reader

pub data_is : (i : Info) (d : Data) (bytes : List ℕ) → WellFormed i → bytes ≡ spelling i → read bytes ≡ Some d → d ≡ info_data i
data_is i d bytes h same reads =
    let both : Some d ≡ Some (info_data i) = sym reads ∙ ap read same ∙ read-spelling i h in
    cc

pub found_is : (i found : Info) (d : Data) → WellFormed i → d ≡ info_data i → info_found d ≡ Some found → found ≡ i
found_is i found d h is finds =
    let both : Some found ≡ Some i = sym finds ∙ ap info_found is ∙ info_again i h in
    cc

pub again : (i : Info) (d : Data) → WellFormed i → d ≡ info_data i → info_found d ≡ Some i
again i d h is = ap info_found is ∙ info_again i h

pub is_read : (i : Info) (bytes : List ℕ) → WellFormed i → bytes ≡ spelling i → (IsUtf8 bytes → read bytes ≡ None) → ⊥
is_read i bytes h same fails =
    let utf8 : IsUtf8 bytes = subst IsUtf8 (sym same) (IsUtf8-spelling i h) in
    let both : Some (info_data i) ≡ None = sym (read-spelling i h) ∙ ap read (sym same) ∙ fails utf8 in
    cc

pub not_none : {X : Type 0} (x : X) → Some x ≡ None → ⊥
not_none x e = cc

pub some_same : {X : Type 0} (x y : X) → Some x ≡ Some y → x ≡ y
some_same x y e = cc
