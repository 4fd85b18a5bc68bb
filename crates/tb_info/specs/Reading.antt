-- What the readers give for data. They take what is spelled, and may take more: what they took is spelled anew and compared.
use Rattle.std.specs.Prelude.{◌≡◌, ◌↔◌, ◌&&◌, ◌==◌, ◌+◌, ◌*◌, ◌-◌, nat_le, nat_lt, ℕ, List, [], ◌∷◌, Bool, true, false, not, is_some, IsTrue, if◌then◌else◌, Option, Some, None, option_map, option_and_then, Result, Ok, Err, IsUtf8, codes, ⊤}
use Rattle.hex.specs.Hex.{decode_sized}
use Rattle.hex.specs.declared.error.FromHexError.{FromHexError}
use Rattle.serde_json.specs.Data.{Data, Items, no_items, item}
use Rattle.serde_json.specs.Find.{get, at, as_null, as_number, as_u64, as_str, as_array, as_object}
use Rattle.serde_json.specs.Read.{read}
use Rattle.tb_text.specs.Paths.{is_path}
use Rattle.tb_face.specs.Infos.{builder}
use Rattle.tb_text.specs.declared.edges.Target.{Target}
use Rattle.tb_text.specs.declared.edges.Target.TheVariants.{Found, Elsewhere, Missing}
use Rattle.tb_text.specs.declared.edges.Edge.{Edge}
use Rattle.tb_text.specs.declared.findings.Code.{Code}
use Rattle.tb_text.specs.declared.findings.Finding.{Finding}
use Rattle.tb_face.specs.declared.infos.Reach.{Reach}
use Rattle.tb_face.specs.declared.infos.Entry.{Entry}
use Rattle.tb_face.specs.declared.infos.Info.{Info}
use Rattle.tb_info.specs.declared.faults.Unread.{Unread}
use Rattle.tb_info.specs.declared.faults.Unread.TheVariants as faults
use Rattle.tb_face.specs.declared.infos.InfoFault.{InfoFault}
use Rattle.tb_face.specs.declared.infos.InfoFault.TheVariants as reasons
use Rattle.std.specs.Str.{bytes_eq}

-- what a call returned is what the reader gives, unless memory ran out
abbrev pub Fails : {X : Type 0} → Unread → Option X → Type 0
Fails faults.NotRead found = found ≡ None
Fails faults.NoMemory found = ⊤

abbrev pub Gives : {X : Type 0} → Result X Unread → Option X → Type 0
Gives (Ok x) found = found ≡ Some x
Gives (Err e) found = Fails e found

infixl 10 ◌>>=◌
abbrev pub ◌>>=◌ : {A B : Type 0} → Option A → (A → Option B) → Option B
(Some x) >>= f = f x
None >>= f = None

abbrev pub path_of : List ℕ → Option (List ℕ)
path_of s = if is_path s then Some s else None

abbrev pub path_found : Data → Option (List ℕ)
path_found d = option_and_then path_of (as_str d)

abbrev pub decoded : Result (List ℕ) FromHexError → Option (List ℕ)
decoded (Ok bytes) = Some bytes
decoded (Err e) = None

abbrev pub digest_found : Data → Option (List ℕ)
digest_found d = option_and_then (λ s. decoded (decode_sized s 32)) (as_str d)

abbrev pub items_found : {X : Type 0} → (Data → Option X) → Items → Option (List X)
items_found f no_items = Some []
items_found f (item d ds) = f d >>= λ x. option_map (λ xs. x ∷ xs) (items_found f ds)

abbrev pub rows_found : {X : Type 0} → (Data → Option X) → Data → Option (List X)
rows_found f d = option_and_then (items_found f) (as_array d)

abbrev pub member_found : {X : Type 0} → (Data → Option X) → List ℕ → Data → Option X
member_found f name d = option_and_then f (get name d)

abbrev pub item_found : {X : Type 0} → (Data → Option X) → ℕ → Data → Option X
item_found f i d = option_and_then f (at i d)

abbrev pub text_found : Data → Option (List ℕ)
text_found d = as_str d

abbrev pub number_found : Data → Option ℕ
number_found d = option_and_then as_u64 (as_number d)

abbrev pub signature_found : Data → Option (Option (List ℕ))
signature_found d = if is_some (as_null d) then Some None else option_map Some (digest_found d)

-- `Missing` has no place, and any is taken
abbrev pub target_of : ℕ → List ℕ → Option Target
target_of kind place = if kind == 0 then Some (Found place) else if kind == 1 then Some (Elsewhere place) else if kind == 2 then Some Missing else None

unfoldable pub edge_found : Data → Option Edge
edge_found d = do
  spec ← item_found text_found 0 d
  kind ← item_found number_found 1 d
  place ← item_found path_found 2 d
  to ← target_of kind place
  Some (record { spec = spec; to = to })

-- the number that the digits write after those of n, below 65,536
abbrev pub digits_from : ℕ → List ℕ → Option ℕ
digits_from n [] = Some n
digits_from n (c ∷ cs) = if nat_le 48 c && nat_le c 57 && nat_lt (n * 10 + (c - 48)) 65536 then digits_from (n * 10 + (c - 48)) cs else None

abbrev pub code_of : Bool → Option ℕ → Option Code
code_of own None = None
code_of own (Some n) = Some (record { own = own; number = n })

abbrev pub code_from : ℕ → ℕ → List ℕ → Option Code
code_from a b digits = if a == 84 && b == 66 then code_of true (digits_from 0 digits) else if a == 84 && b == 83 then code_of false (digits_from 0 digits) else None

abbrev pub code_in : List ℕ → Option Code
code_in [] = None
code_in (a ∷ []) = None
code_in (a ∷ b ∷ digits) = code_from a b digits

abbrev pub code_found : Data → Option Code
code_found d = option_and_then code_in (as_str d)

unfoldable pub finding_found : Data → Option Finding
finding_found d = do
  offset ← item_found number_found 0 d
  code ← item_found code_found 1 d
  first ← item_found text_found 2 d
  second ← item_found text_found 3 d
  Some (record { offset = offset; code = code; first = first; second = second })

unfoldable pub reach_found : Data → Option Reach
reach_found d = do
  path ← item_found path_found 0 d
  signature ← item_found signature_found 1 d
  edges ← item_found (rows_found edge_found) 2 d
  Some (record { path = path; signature = signature; edges = edges })

unfoldable pub entry_found : Data → Option Entry
entry_found d = do
  edges ← member_found (rows_found edge_found) (codes "edges") d
  findings ← member_found (rows_found finding_found) (codes "findings") d
  path ← member_found path_found (codes "path") d
  reach ← member_found (rows_found reach_found) (codes "reach") d
  signature ← member_found signature_found (codes "signature") d
  version ← member_found digest_found (codes "version") d
  Some (record { path = path; version = version; signature = signature; edges = edges; reach = reach; findings = findings })

unfoldable pub info_found : Data → Option Info
info_found d = do
  files ← member_found (rows_found entry_found) (codes "files") d
  options ← member_found digest_found (codes "options") d
  pending ← member_found (rows_found path_found) (codes "pending") d
  project ← member_found path_found (codes "project") d
  root ← member_found path_found (codes "root") d
  Some (record { project = project; root = root; options = options; files = files; pending = pending })

-- the builder is that of this format
abbrev pub is_ours : Option (List ℕ) → Bool
is_ours None = false
is_ours (Some s) = bytes_eq s builder

-- a JSON object whose builder is another one, or is absent
abbrev pub is_other : Data → Bool
is_other d = is_some (as_object d) && not (is_ours (option_and_then as_str (get (codes "builder") d)))

abbrev pub IsOther : List ℕ → Type 0
IsOther bytes = IsUtf8 bytes × (d : Data) × (read bytes ≡ Some d) × IsTrue (is_other d)

-- the fault tells whether another builder wrote the bytes
abbrev pub Tells : List ℕ → InfoFault → Type 0
Tells bytes (reasons.NotInfo other) = IsTrue other ↔ IsOther bytes
Tells bytes reasons.NoMemory = ⊤

-- this info was read, unless memory ran out
abbrev pub IsOnly : Info → Result Info InfoFault → Type 0
IsOnly i (Ok found) = found ≡ i
IsOnly i (Err (reasons.NotInfo other)) = ⊥
IsOnly i (Err reasons.NoMemory) = ⊤
