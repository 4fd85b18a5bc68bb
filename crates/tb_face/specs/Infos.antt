-- What a build info is spelled as, and which infos have a spelling that is read. This project's own.
use Rattle.std.specs.Prelude.{◌≡◌, ℕ, ◌^◌, ◌<◌, ◌++◌, List, [], ◌∷◌, if◌then◌else◌, Option, Some, None, IsUtf8, IsTrue, IfSome, codes, decimal, map, length, ⊤}
use Rattle.std.specs.List.{AllByRecursion}
use Rattle.std.specs.List.Sorted.{IsStrictlySortedBy}
use Rattle.std.specs.Ordering.{on}
use Rattle.std.specs.declared.cmp.Ordering.{Ordering}
use Rattle.hex.specs.Hex.{encode_lower, IsBytes}
use Rattle.serde_json.specs.Data.{Data, null, string, number, unsigned, array, object, member, no_members}
use Rattle.serde_json.specs.View.{items_of}
use Rattle.serde_json.specs.Written.{compact_text}
use Rattle.tb_text.specs.Bytes.{bytes_cmp}
use Rattle.tb_text.specs.Findings.{finding_cmp}
use Rattle.tb_text.specs.Paths.{is_path}
use Rattle.tb_text.specs.declared.edges.Target.{Target}
use Rattle.tb_text.specs.declared.edges.Target.TheVariants.{Found, Elsewhere, Missing}
use Rattle.tb_text.specs.declared.edges.Edge.{Edge}
use Rattle.tb_text.specs.declared.findings.Code.{Code}
use Rattle.tb_text.specs.declared.findings.Finding.{Finding}
use Rattle.tb_face.specs.declared.infos.Reach.{Reach}
use Rattle.tb_face.specs.declared.infos.Entry.{Entry}
use Rattle.tb_face.specs.declared.infos.Info.{Info}

-- ---- the spelling

-- the format's name, which the spelling has as its builder
abbrev pub builder : List ℕ
builder = codes "tb1"

-- an array of what the members of a list are spelled as
abbrev pub rows_data : {X : Type 0} → (X → Data) → List X → Data
rows_data f xs = array (items_of (map f xs))

-- 64 lower-case hex digits
abbrev pub digest_data : List ℕ → Data
digest_data d = string (encode_lower d)

-- `null` at a file without a declaration text
abbrev pub signature_data : Option (List ℕ) → Data
signature_data None = null
signature_data (Some d) = digest_data d

-- where an edge leads: a number, and a path
abbrev pub kind_of : Target → ℕ
kind_of (Found p) = 0
kind_of (Elsewhere p) = 1
kind_of Missing = 2

abbrev pub place_of : Target → List ℕ
place_of (Found p) = p
place_of (Elsewhere p) = p
place_of Missing = []

-- `[spec,kind,path]`
unfoldable pub edge_data : Edge → Data
edge_data e = array (items_of (string e.spec ∷ number (unsigned (kind_of e.to)) ∷ string (place_of e.to) ∷ []))

-- `TB` or `TS`, and the number
abbrev pub code_text : Code → List ℕ
code_text c = (if c.own then codes "TB" else codes "TS") ++ decimal c.number

-- `[offset,code,first,second]`
unfoldable pub finding_data : Finding → Data
finding_data f = array (items_of (number (unsigned f.offset) ∷ string (code_text f.code) ∷ string f.first ∷ string f.second ∷ []))

-- `[path,signature,edges]`
unfoldable pub reach_data : Reach → Data
reach_data r = array (items_of (string r.path ∷ signature_data r.signature ∷ rows_data edge_data r.edges ∷ []))

unfoldable pub entry_data : Entry → Data
entry_data e = object
    (member (codes "edges") (rows_data edge_data e.edges)
    (member (codes "findings") (rows_data finding_data e.findings)
    (member (codes "path") (string e.path)
    (member (codes "reach") (rows_data reach_data e.reach)
    (member (codes "signature") (signature_data e.signature)
    (member (codes "version") (digest_data e.version)
    no_members))))))

unfoldable pub info_data : Info → Data
info_data i = object
    (member (codes "builder") (string builder)
    (member (codes "files") (rows_data entry_data i.files)
    (member (codes "options") (digest_data i.options)
    (member (codes "pending") (rows_data string i.pending)
    (member (codes "project") (string i.project)
    (member (codes "root") (string i.root)
    no_members))))))

-- compact JSON as serde_json writes it, without a line end
unfoldable pub spelling : Info → List ℕ
spelling i = compact_text (info_data i)

-- ---- order: each list of an info ascends by one of these, and has nothing twice

abbrev pub edge_cmp : Edge → Edge → Ordering
edge_cmp = on (λ e. e.spec) bytes_cmp

abbrev pub reach_cmp : Reach → Reach → Ordering
reach_cmp = on (λ r. r.path) bytes_cmp

abbrev pub entry_cmp : Entry → Entry → Ordering
entry_cmp = on (λ e. e.path) bytes_cmp

-- ---- well formed: what the types of the program keep, and the order of lists

abbrev pub IsText : List ℕ → Type 0
IsText s = IsUtf8 s

abbrev pub IsPath : List ℕ → Type 0
IsPath p = IsUtf8 p × IsTrue (is_path p)

abbrev pub IsDigest : List ℕ → Type 0
IsDigest d = (length d ≡ 32) × IsBytes d

abbrev pub IsSignature : Option (List ℕ) → Type 0
IsSignature s = IfSome s IsDigest

abbrev pub IsTarget : Target → Type 0
IsTarget (Found p) = IsPath p
IsTarget (Elsewhere p) = IsPath p
IsTarget Missing = ⊤

-- each fits, and is below all that follow
pub record AreRows {X : Type 0} (fits : X → Type 0) (cmp : X → X → Ordering) (xs : List X) : Type 0 where
  pub each : AllByRecursion fits xs
  pub order : IsStrictlySortedBy cmp xs

pub record IsEdge (e : Edge) : Type 0 where
  pub spec : IsText e.spec
  pub to : IsTarget e.to

pub record IsFinding (f : Finding) : Type 0 where
  pub offset : f.offset < 2 ^ 64
  pub number : f.code.number < 2 ^ 16
  pub first : IsText f.first
  pub second : IsText f.second

pub record IsReach (r : Reach) : Type 0 where
  pub path : IsPath r.path
  pub signature : IsSignature r.signature
  pub edges : AreRows IsEdge edge_cmp r.edges

pub record IsEntry (e : Entry) : Type 0 where
  pub path : IsPath e.path
  pub version : IsDigest e.version
  pub signature : IsSignature e.signature
  pub edges : AreRows IsEdge edge_cmp e.edges
  pub reach : AreRows IsReach reach_cmp e.reach
  pub findings : AreRows IsFinding finding_cmp e.findings

pub record WellFormed (i : Info) : Type 0 where
  pub project : IsPath i.project
  pub root : IsPath i.root
  pub options : IsDigest i.options
  pub files : AreRows IsEntry entry_cmp i.files
  pub pending : AreRows IsPath bytes_cmp i.pending
