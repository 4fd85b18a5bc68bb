-- One byte further on the way to a text without trailing commas.
use Rattle.std.proofs.Common.{◌≡◌, ℕ, zero, suc, ◌-◌, ◌<◌, ◌≤◌, Bool, true, false, List, [], ◌∷◌, ◌++◌, length, take, drop, map, append_assoc, refl, sym, ap, ◌∙◌, arith, rules, tests}
use Rattle.std.specs.Prelude.{Option, Some, None, option_map, option_and_then, ◌==◌, ◌&&◌, not, if◌then◌else◌}
use Rattle.std.proofs.lemmas.Iterator.Adapters.{option_map_id}
use Rattle.std.proofs.lemmas.List.{set-append_left, set_at}
use Rattle.tb_jsonc.specs.Blanks.{is_blank, is_opening, is_closing, closes, uncommaed, uncommented, cell}
use Rattle.tb_jsonc.specs.Pieces.{piece, first_piece}
use Rattle.tb_jsonc.specs.declared.pieces.Kind.{Kind}
use Rattle.tb_jsonc.specs.declared.pieces.Kind.TheVariants.{Plain}
use Rattle.tb_jsonc.specs.declared.pieces.Piece.{Piece}
use Rattle.tb_jsonc.specs.Commas.{settled}
use Rattle.tb_jsonc.specs.declared.pieces.Cell.{Cell}
use Rattle.tb_jsonc.specs.declared.pieces.Cell.TheVariants.{Free}

abbrev Within : List ℕ → Option ℕ → Type 0
Within out comma = (i : ℕ) → comma ≡ Some i → i < length out

settled_push : (out : List ℕ) (comma : Option ℕ) (c : Bool) (b : ℕ) → Within out comma → settled (out ++ b ∷ []) comma c ≡ settled out comma c ++ b ∷ []
settled_push out None c b within = refl
settled_push out (Some i) true b within = set-append_left out (b ∷ []) i 32 (within i refl)
settled_push out (Some i) false b within = refl

blank_is_no_comma : (b : ℕ) → is_blank b ≡ true → (b == 44) ≡ false
blank_is_no_comma b h = search (rules, tests)

one_more : (out : List ℕ) (b : ℕ) (later : List ℕ) → (out ++ b ∷ []) ++ later ≡ out ++ b ∷ later
one_more out b later = append_assoc out (b ∷ []) later

pub put_blank : (out : List ℕ) (comma : Option ℕ) (fresh : Bool) (b : ℕ) (later : List Cell) → is_blank b ≡ true → Within out comma → settled (out ++ b ∷ []) comma (closes later) ++ uncommaed fresh later ≡ settled out comma (closes (Free b ∷ later)) ++ uncommaed fresh (Free b ∷ later)
put_blank out comma fresh b later h within =
    ap (λ xs. xs ++ uncommaed fresh later) (settled_push out comma (closes later) b within)
    ∙ one_more (settled out comma (closes later)) b (uncommaed fresh later)
    ∙ rw (h, blank_is_no_comma b h) refl

-- the comma that is remembered at the end
at_end : (out : List ℕ) (n b : ℕ) (may trailing : Bool) (later : List ℕ) → length out ≡ n → settled (out ++ b ∷ []) (if may then Some n else None) trailing ++ later ≡ out ++ (if may && trailing then 32 else b) ∷ later
at_end out n b true true later h = ap (λ xs. xs ++ later) (set_at out b [] 32 n h) ∙ one_more out 32 later
at_end out n b true false later h = one_more out b later
at_end out n b false trailing later h = one_more out b later

pub put_character : (out : List ℕ) (n : ℕ) (comma : Option ℕ) (fresh : Bool) (b : ℕ) (later : List Cell) → is_blank b ≡ false → length (settled out comma (is_closing b)) ≡ n → settled (settled out comma (is_closing b) ++ b ∷ []) (if b == 44 && not fresh then Some n else None) (closes later) ++ uncommaed (is_opening b) later ≡ settled out comma (closes (Free b ∷ later)) ++ uncommaed fresh (Free b ∷ later)
put_character out n comma fresh b later h e =
    at_end (settled out comma (is_closing b)) n b (b == 44 && not fresh) (closes later) (uncommaed (is_opening b) later) e ∙ rw h refl

-- ---- pieces

pub mapped_same : {A B : Type 0} (f g : A → B) → ((x : A) → f x ≡ g x) → (o : Option A) → option_map f o ≡ option_map g o
mapped_same f g h None = refl
mapped_same {B = B} f g h (Some x) = ap (λ (y : B). Some y) (h x)

mapped_twice : {A B C : Type 0} (f : B → C) (g : A → B) (o : Option A) → option_map f (option_map g o) ≡ option_map (λ x. f (g x)) o
mapped_twice f g None = refl
mapped_twice f g (Some x) = refl

-- the rest of a piece
piece_rest : (k : ℕ) (kind : Kind) (text : List ℕ) → k ≤ length text → uncommented k kind text ≡ option_map (λ cells. map (cell kind) (take k text) ++ cells) (uncommented 0 Plain (drop k text))
piece_rest zero kind [] h = refl
piece_rest zero kind (b ∷ rest) h = sym (option_map_id (uncommented 0 Plain (b ∷ rest)))
piece_rest (suc k) kind [] h = absurd (omega (arith, h))
piece_rest (suc k) kind (b ∷ rest) h =
    ap (option_map (λ (cells : List Cell). cell kind b ∷ cells)) (piece_rest k kind rest (omega (arith, h)))
    ∙ mapped_twice (λ (cells : List Cell). cell kind b ∷ cells) (λ cells. map (cell kind) (take k rest) ++ cells) (uncommented 0 Plain (drop k rest))

-- a piece and what comes after it
piece_of : (text : List ℕ) (kind : Kind) (n : ℕ) → first_piece text ≡ Some (piece kind n) → 0 < n → n ≤ length text → uncommented 0 Plain text ≡ option_map (λ cells. map (cell kind) (take n text) ++ cells) (uncommented 0 Plain (drop n text))
piece_of [] kind n e positive within = absurd (omega (arith, positive, within))
piece_of (b ∷ rest) kind zero e positive within = absurd (omega (arith, positive))
piece_of (b ∷ rest) kind (suc m) e positive within =
    let less : suc m - 1 ≡ m = omega arith in
    ap (option_and_then (λ (p : Piece). option_map (λ (cells : List Cell). cell p.kind b ∷ cells) (uncommented (p.len - 1) p.kind rest))) e
    ∙ ap (λ (k : ℕ). option_map (λ (cells : List Cell). cell kind b ∷ cells) (uncommented k kind rest)) less
    ∙ ap (option_map (λ (cells : List Cell). cell kind b ∷ cells)) (piece_rest m kind rest (omega (arith, within)))
    ∙ mapped_twice (λ (cells : List Cell). cell kind b ∷ cells) (λ cells. map (cell kind) (take m rest) ++ cells) (uncommented 0 Plain (drop m rest))

pub with_piece : (text : List ℕ) (p : Piece) → first_piece text ≡ Some p → 0 < p.len → p.len ≤ length text → uncommented 0 Plain text ≡ option_map (λ cells. map (cell p.kind) (take p.len text) ++ cells) (uncommented 0 Plain (drop p.len text))
with_piece text p e positive within = piece_of text p.kind p.len e positive within

-- a comment without an end
pub no_piece : (text : List ℕ) → 0 < length text → first_piece text ≡ None → uncommented 0 Plain text ≡ None
no_piece [] positive e = absurd (omega (arith, positive))
no_piece (b ∷ rest) positive e = ap (option_and_then (λ (p : Piece). option_map (λ (cells : List Cell). cell p.kind b ∷ cells) (uncommented (p.len - 1) p.kind rest))) e

-- a step of the loop
pub one_piece : (old new : List Cell → List ℕ) (text bytes rest : List ℕ) (p : Piece) → first_piece text ≡ Some p → (0 < p.len) × (p.len ≤ length text) → bytes ≡ take p.len text → rest ≡ drop p.len text → ((later : List Cell) → new later ≡ old (map (cell p.kind) bytes ++ later)) → option_map new (uncommented 0 Plain rest) ≡ option_map old (uncommented 0 Plain text)
one_piece old new text bytes rest p e within front back step =
    mapped_same new (λ later. old (map (cell p.kind) bytes ++ later)) step (uncommented 0 Plain rest)
    ∙ sym (mapped_twice old (λ cells. map (cell p.kind) bytes ++ cells) (uncommented 0 Plain rest))
    ∙ ap (option_map old) (rw (front, back) (sym (with_piece text p e within.0 within.1)))
