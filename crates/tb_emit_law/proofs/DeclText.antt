-- The tokens of the text of a surface are those that were laid out.
use Rattle.std.proofs.Common.{◌≡◌, ℕ, Bool, true, false, if◌then◌else◌, List, [], ◌∷◌, ◌++◌, drop, take, map, flat_map, codes, sym, ap, subst, ◌∙◌, refl, arith}
use Rattle.std.specs.Prelude.{nat_eq, encode_utf8}
use Rattle.std.specs.List.{AllByRecursion, starts_with}
use Rattle.std.proofs.lemmas.List.{append-nil, take-append-drop}
use Rattle.std.proofs.lemmas.Slice.Eq.{bytes_eq-Decides}
use Rattle.tb_text.specs.Messages.{without_mark}
use Rattle.tb_scan.specs.declared.token.Kind.{Kind}
use Rattle.tb_scan.specs.declared.token.Token.{Token}
use Rattle.tb_scan.specs.Pieces.{Run, Stops, IsSpacing}
use Rattle.tb_scan.specs.Tokens.{Scans}
use Rattle.tb_tree.specs.declared.marks.Mark.TheVariants as m
use Rattle.tb_tree.specs.declared.items.SurfaceItem.{SurfaceItem}
use Rattle.tb_tree.specs.Sym.{Sym}
use Rattle.tb_tree.proofs.Ends.{ap_both}
use Rattle.tb_parse_type.specs.Symbols.{symbols, placed, symbol_of}
use Rattle.tb_parse_type.specs.declared.symbols.Symbol.{Symbol}
use Rattle.tb_parse_type.specs.declared.symbols.Symbol.TheVariants as s
use Rattle.tb_parse_file.specs.Files.{HasSymbols}
use Rattle.tb_layout.specs.Pieces.{Piece, text_of, new_line}
use Rattle.tb_layout.specs.Dts.{surface_item_pieces, item_lines, last_line}
use Rattle.tb_emit_law.proofs.Symbols.{bare_sym, symbols_in}
use Rattle.tb_emit_law.proofs.Told.{Told, end, Fits, none, more, told_scans}
use Rattle.tb_emit_law.proofs.Source.{spelled_is}
use Rattle.tb_emit_law.proofs.Sound.{Sound, anything, words_in, bare_of, IsText, text_utf8, words_utf8, words_named, moves_any, sound_any, sound_both, sound_none, space_sound, line_sound, letters_sound, alone_sound, open_moves, close_moves}
use Rattle.tb_emit_law.proofs.Parts.{Opens, opens_more, opens_stops, letters_fits}
use Rattle.tb_emit_law.proofs.DeclItemScan.{ItemFits}

-- ---- a text that begins with a token has no byte order mark

no_mark : (text : List ℕ) → Stops IsSpacing text → starts_with nat_eq text (239 ∷ 187 ∷ 191 ∷ []) ≡ true → ⊥
unfolding lib.Utf8.encode
no_mark text stops e =
    let begun : take 3 text ≡ 239 ∷ 187 ∷ 191 ∷ [] = sym ((bytes_eq-Decides (239 ∷ 187 ∷ 191 ∷ []) (take 3 text)).0 e) in
    stops.never (encode_utf8 65279) (drop 3 text) (sym (take-append-drop 3 text) ∙ ap (λ v. v ++ drop 3 text) begun) (IsSpacing.blank 65279 (drop 3 text) refl)

unmarked : (text : List ℕ) → Stops IsSpacing text → without_mark text ≡ text
unmarked text stops = by_cases (starts_with nat_eq text (239 ∷ 187 ∷ 191 ∷ [])) refl where
  by_cases : (b : Bool) → starts_with nat_eq text (239 ∷ 187 ∷ 191 ∷ []) ≡ b → (if b then drop 3 text else text) ≡ text
  by_cases true e = absurd (no_mark text stops e)
  by_cases false e = refl

opened_unmarked : (p : List Piece) → Opens p → without_mark (text_of p) ≡ text_of p
opened_unmarked p h = unmarked (text_of p) (subst (λ x. Stops IsSpacing x) (append-nil (text_of p)) (opens_stops p [] h))

-- ---- the symbols of tokens

bare_placed : (x : Symbol) (t : List ℕ) (at : ℕ) → bare_sym (placed x t at) ≡ placed x t 0
bare_placed (s.Mark k) t at = refl
bare_placed (s.Class k) t at = refl

both : {x y : Sym} {xs ys : List Sym} → x ≡ y → xs ≡ ys → x ∷ xs ≡ y ∷ ys
both p q = ap_both (λ (x : Sym) (xs : List Sym). x ∷ xs) p q

fits_symbols : (text : List ℕ) {tokens : List Token} {words : List (Kind × List ℕ)} → Fits text tokens words → AllByRecursion IsText words
    → map bare_sym (symbols text tokens) ≡ map bare_of words
fits_symbols text none h = refl
fits_symbols text (more token t tokens rest l w cut f) h =
    both (ap (λ x. bare_sym (placed (symbol_of token.kind x) x token.start)) (spelled_is text t token l w cut h.0) ∙ bare_placed (symbol_of token.kind t) t token.start)
    (fits_symbols text f h.1)

pieces_told : (p : List Piece) → Sound anything p → Told [] (text_of p) (words_in p)
pieces_told p f =
    subst (λ x. Told [] x (words_in p)) (append-nil (text_of p))
    (subst (λ x. Told [] (text_of p ++ []) x) (append-nil (words_in p)) ((f []).told [] [] refl (end [] [] (Run.none []))))

-- the symbols of a text are those that were laid out
abbrev pub LaidOut : List ℕ → List Piece → Type 0
LaidOut text p = (seen : List Sym) × HasSymbols text seen × (map bare_sym seen ≡ symbols_in p)

pieces_symbols : (p : List Piece) → Sound anything p → without_mark (text_of p) ≡ text_of p → LaidOut (text_of p) p
pieces_symbols p f plain =
    let text = text_of p in
    let good = (f []).good in
    let scan = told_scans text 0 refl (omega arith) (pieces_told p f) in (
      symbols text scan.tokens,
      record {
        utf8 = text_utf8 p good;
        tokens = scan.tokens;
        scanned = subst (λ x. Scans x 0 [] scan.tokens) (sym plain) scan.scans;
        same = ap (λ x. symbols x scan.tokens) (sym plain);
      },
      fits_symbols text scan.fits (words_utf8 p good) ∙ words_named p good,
    )

-- ---- surfaces

abbrev lines_of : List SurfaceItem → Bool → List Piece
lines_of items last = flat_map item_lines items ++ last_line last

items_sound : (items : List SurfaceItem) → AllByRecursion ItemFits items → Sound anything (flat_map item_lines items)
items_sound [] h = sound_none
items_sound (of ∷ items) h = sound_any (sound_any h.0.0 (line_sound 0)) (items_sound items h.1)

last_sound : (last : Bool) → Sound anything (last_line last)
last_sound false opened = sound_none opened
last_sound true opened =
    moves_any (moves_any (moves_any (moves_any (sound_both (letters_sound (codes "export") refl refl) space_sound (λ ys l. refl) opened) (open_moves opened)) (close_moves opened)) (alone_sound m.Semicolon refl opened)) (line_sound 0 opened)

lines_unmarked : (items : List SurfaceItem) (last : Bool) → AllByRecursion ItemFits items → without_mark (text_of (lines_of items last)) ≡ text_of (lines_of items last)
lines_unmarked [] true h = opened_unmarked (last_line true) (letters_fits (codes "export") refl refl).1
lines_unmarked [] false h = refl
lines_unmarked (of ∷ items) last h =
    opened_unmarked (lines_of (of ∷ items) last)
    (opens_more (item_lines of ++ flat_map item_lines items) (last_line last) (opens_more (item_lines of) (flat_map item_lines items) (opens_more (surface_item_pieces of) (new_line 0) h.0.1)))

pub surface_symbols : (items : List SurfaceItem) (last : Bool) → AllByRecursion ItemFits items → LaidOut (text_of (lines_of items last)) (lines_of items last)
surface_symbols items last h = pieces_symbols (lines_of items last) (sound_any (items_sound items h) (last_sound last)) (lines_unmarked items last h)
