-- From a reader's answer to what a source is.
use Rattle.std.proofs.Common.{◌≡◌, ℕ, List, [], drop, refl, subst}
use Rattle.std.specs.Str.{IsUtf8}
use Rattle.tb_text.specs.Messages.{without_mark}
use Rattle.tb_scan.specs.declared.token.Token.{Token}
use Rattle.tb_scan.specs.Tokens.{Scans}
use Rattle.tb_parse_file.specs.Files.{StopsAt}
use Rattle.tb_tree.proofs.Ends.{ap_both}
use Rattle.tb_parse_type.specs.Symbols.{symbols}
use Rattle.tb_parse_file.specs.Files.{HasSymbols, HasFault, no_item, finding}

pub has_symbols : (text plain : List ℕ) (tokens : List Token) → IsUtf8 text → plain ≡ without_mark text → Scans plain 0 [] tokens → HasSymbols text (symbols (without_mark text) tokens)
has_symbols text plain tokens u p s = record { utf8 = u; tokens = tokens; scanned = subst (λ v. Scans v 0 [] tokens) p s; same = refl }

pub fault_at : (text plain : List ℕ) (tokens seen : List Token) (at : ℕ) → IsUtf8 text → plain ≡ without_mark text → seen ≡ tokens → Scans plain 0 [] tokens → StopsAt (symbols plain (drop 0 seen)) at
    → HasFault text (finding at 1001)
fault_at text plain tokens seen at u p q s h =
    no_item (has_symbols text plain tokens u p s) (subst (λ v. StopsAt v at) (ap_both (λ (a : List ℕ) (b : List Token). symbols a b) p q) h)
