-- The faults of a plan, and their order. This project's own, but for the numbers of the codes that begin with TS, which are
-- the TypeScript compiler's.
use Rattle.std.specs.Prelude.{ℕ, Bool, true, false, if◌then◌else◌, List, [], ◌∷◌, fold}
use Rattle.std.specs.BTreeSet.{insert_key}
use Rattle.tb_text.specs.Findings.{diag_cmp}
use Rattle.tb_text.specs.declared.findings.Code.{Code}
use Rattle.tb_text.specs.declared.findings.Diag.{Diag}

-- each fault stands at the beginning of a config, and in no project
abbrev pub fault_at : List ℕ → Code → List ℕ → Diag
fault_at config code first = record { project = 0; path = config; finding = record { offset = 0; code = code; first = first; second = [] } }

-- TBnnnn, about a member, a path or a limit
abbrev pub own_fault : List ℕ → ℕ → List ℕ → Diag
own_fault config number first = fault_at config (record { own = true; number = number }) first

-- TSnnnn
abbrev pub kept_fault : List ℕ → ℕ → List ℕ → Diag
kept_fault config number first = fault_at config (record { own = false; number = number }) first

-- ordered by path, code and arguments, equal ones once
unfoldable pub in_order : List Diag → List Diag
in_order ds = fold (insert_key diag_cmp) [] ds

-- a fault of this project's own, where there is one
abbrev pub fault_if : Bool → List ℕ → ℕ → List ℕ → List Diag
fault_if is_fault config number first = if is_fault then own_fault config number first ∷ [] else []
