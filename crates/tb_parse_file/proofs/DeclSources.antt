-- From a reader's answer to what a declaration file is.
use Rattle.std.proofs.Common.{◌≡◌, ℕ, List, [], drop, ap, subst}
use Rattle.std.specs.Prelude.{map}
use Rattle.std.specs.Str.{IsUtf8}
use Rattle.tb_text.specs.Messages.{without_mark}
use Rattle.tb_scan.specs.declared.token.Token.{Token}
use Rattle.tb_scan.specs.Tokens.{Scans}
use Rattle.tb_tree.specs.declared.items.Surface.{Surface}
use Rattle.tb_tree.specs.declared.items.SurfaceItem.{SurfaceItem}
use Rattle.tb_tree.proofs.Ends.{ap_both}
use Rattle.tb_layout.specs.Quoted.{quoted_surface_item}
use Rattle.tb_parse_type.specs.Symbols.{symbols}
use Rattle.tb_parse_file.specs.Files.{finding}
use Rattle.tb_parse_file.specs.Decls.{ReadsDeclItems, DeclStopsAt, all_kept, ReadsDecl, HasDeclFault, no_item}
use Rattle.tb_parse_file.proofs.Sources.{has_symbols}

abbrev surface_of : List SurfaceItem → Surface
surface_of items = record { items = items }

pub surface_reads : (text plain : List ℕ) (tokens seen : List Token) (items : List SurfaceItem) → IsUtf8 text → plain ≡ without_mark text → seen ≡ tokens → Scans plain 0 [] tokens
    → (all : List (List SurfaceItem)) × ReadsDeclItems (symbols plain (drop 0 seen)) all × (items ≡ map quoted_surface_item (all_kept all)) → ReadsDecl text (record { items = items })
surface_reads text plain tokens seen items u p q s h = record {
  seen = symbols (without_mark text) tokens;
  symbols = has_symbols text plain tokens u p s;
  items = h.0;
  reads = subst (λ v. ReadsDeclItems v h.0) (ap_both (λ (a : List ℕ) (b : List Token). symbols a b) p q) h.1;
  same = ap surface_of h.2;
}

pub decl_fault_at : (text plain : List ℕ) (tokens seen : List Token) (at : ℕ) → IsUtf8 text → plain ≡ without_mark text → seen ≡ tokens → Scans plain 0 [] tokens
    → DeclStopsAt (symbols plain (drop 0 seen)) at → HasDeclFault text (finding at 1001)
decl_fault_at text plain tokens seen at u p q s h =
    no_item (has_symbols text plain tokens u p s) (subst (λ v. DeclStopsAt v at) (ap_both (λ (a : List ℕ) (b : List Token). symbols a b) p q) h)
