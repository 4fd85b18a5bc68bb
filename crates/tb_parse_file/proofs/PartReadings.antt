-- What an answer of a rule without a depth says.
use Rattle.std.proofs.Common.{◌≡◌, ℕ, ◌+◌, List, ◌∷◌, subst, ap, ◌∙◌, arith}
use Rattle.std.specs.Prelude.{Option, Some, None}
use Rattle.tb_tree.specs.Sym.{Sym}
use Rattle.tb_tree.specs.Longest.{Lacks}
use Rattle.tb_parse_type.specs.declared.reader.Reader.{Reader}
use Rattle.tb_parse_type.specs.Reading.{rest, FoundAt}
use Rattle.tb_parse_file.specs.declared.fronts.Part.{Part}
use Rattle.tb_parse_file.specs.Reading.{ReadsPart}

pub lacking : {X : Type 0} (D : List Sym → X → Type 0) (C : Sym → Type 0) (r : Reader) (at : ℕ) (o : Option (Part X)) → o ≡ None → ReadsPart D C r at o → Lacks D (rest r at)
lacking D C r at o e h = subst (λ v. ReadsPart D C r at v) e h

pub reading : {X : Type 0} (D : List Sym → X → Type 0) (C : Sym → Type 0) (r : Reader) (at : ℕ) (o : Option (Part X)) (x : Part X) → o ≡ Some x → ReadsPart D C r at o → FoundAt D C r at x.tree x.next
reading D C r at o x e h = subst (λ v. ReadsPart D C r at v) e h

-- two symbols that follow one another
pub two_at : (r : Reader) (at : ℕ) {s t : Sym} → rest r at ≡ s ∷ rest r (at + 1) → rest r (at + 1) ≡ t ∷ rest r (at + 1 + 1) → rest r at ≡ s ∷ t ∷ rest r (at + 2)
two_at r at {s = s} {t = t} e i =
    let p : at + 1 + 1 ≡ at + 2 = omega arith in
    e ∙ ap (λ v. s ∷ v) (i ∙ ap (λ n. t ∷ rest r n) p)
