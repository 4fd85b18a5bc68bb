-- The compact text of data without floats, whose members ascend, reads as that data, and is UTF-8.
use Rattle.std.proofs.Common.{◌≡◌, ℕ, suc, ◌≤◌, max, List, [], ◌∷◌, Bool, true, false, Option, Some, option_and_then, IsUtf8, refl, sym, ap, ap₂, ◌∙◌, arith, append-nil}
use Rattle.std.proofs.lemmas.Str.{IsUtf8-append, IsUtf8-from_ascii}
use Rattle.std.proofs.lemmas.Fmt.{IsAscii-decimal}
use Rattle.json.specs.Token.{Token}
use Rattle.json.specs.Lex.{tokens}
use Rattle.json.specs.Print.{quoted}
use Rattle.json.specs.Json as json
use Rattle.json.specs.Tree as tree
use Rattle.json.specs.Tree.{HasNumbers, ItemsHaveNumbers, MembersHaveNumbers, json_tokens}
use Rattle.json.proofs.Printed.Tokens.{tokens-print}
use Rattle.json.proofs.Printed.Trees.{value-json_tokens, ArePrintable-json_tokens}
use Rattle.json.proofs.Printed.Decimals.{IsNumber-decimal}
use Rattle.json.proofs.Printed.Utf8.{are_ascii, IsUtf8-are_ascii, IsUtf8-quoted, IsUtf8-boolean}
use Rattle.serde_json.specs.Data.{unsigned, negative, float, Data, null, boolean, number, string, array, object, Items, no_items, item, Members, no_members, member, put, depth, items_depth, members_depth}
use Rattle.serde_json.specs.Read.{read, of_json, of_items, of_members, max_depth}
use Rattle.serde_json.specs.Written.{compact_text, items_text, members_text, comma_if, outline, items_outline, members_outline, has_float, items_have_float, members_have_float}
use Rattle.serde_json.proofs.Numbers.{number_of-decimal}
use Rattle.serde_json.proofs.Texts.{print-outline}
use Rattle.tb_face.specs.Plain.{put_all, IsPlain, ItemsArePlain, MembersArePlain}

-- ---- what is written is read

abbrev whole : Option (json.Json × List Token) → Option Data
whole o = option_and_then of_json (option_and_then (λ p. json.if_last p.0 p.1) o)

mutual
  of_json-outline : (d : Data) → IsPlain d → of_json (outline d) ≡ Some d
  of_json-outline null h = refl
  of_json-outline (boolean b) h = refl
  of_json-outline (number (unsigned n)) h = rw (number_of-decimal n h)
  of_json-outline (number (negative z)) h = absurd h
  of_json-outline (number (float x)) h = absurd h
  of_json-outline (string s) h = refl
  of_json-outline (array ds) h = rw (of_items-outline ds h)
  of_json-outline (object ms) h = rw (of_members-outline ms no_members h.1, h.0)

  of_items-outline : (ds : Items) → ItemsArePlain ds → of_items (items_outline ds) ≡ Some ds
  of_items-outline no_items h = refl
  of_items-outline (item d ds) h = rw (of_json-outline d h.0, of_items-outline ds h.1)

  of_members-outline : (ms found : Members) → MembersArePlain ms → of_members (members_outline ms) found ≡ Some (put_all ms found)
  of_members-outline no_members found h = refl
  of_members-outline (member k d ms) found h = rw (of_json-outline d h.1) (of_members-outline ms (put k d found) h.2)

mutual
  HasNumbers-outline : (d : Data) → IsPlain d → HasNumbers (outline d)
  HasNumbers-outline null h = tt
  HasNumbers-outline (boolean b) h = tt
  HasNumbers-outline (number (unsigned n)) h = IsNumber-decimal n h
  HasNumbers-outline (number (negative z)) h = absurd h
  HasNumbers-outline (number (float x)) h = absurd h
  HasNumbers-outline (string s) h = tt
  HasNumbers-outline (array ds) h = ItemsHaveNumbers-outline ds h
  HasNumbers-outline (object ms) h = MembersHaveNumbers-outline ms h.1

  ItemsHaveNumbers-outline : (ds : Items) → ItemsArePlain ds → ItemsHaveNumbers (items_outline ds)
  ItemsHaveNumbers-outline no_items h = tt
  ItemsHaveNumbers-outline (item d ds) h = (HasNumbers-outline d h.0, ItemsHaveNumbers-outline ds h.1)

  MembersHaveNumbers-outline : (ms : Members) → MembersArePlain ms → MembersHaveNumbers (members_outline ms)
  MembersHaveNumbers-outline no_members h = tt
  MembersHaveNumbers-outline (member k d ms) h = (HasNumbers-outline d h.1, MembersHaveNumbers-outline ms h.2)

mutual
  depth-outline : (d : Data) → tree.depth (outline d) ≡ depth d
  depth-outline null = refl
  depth-outline (boolean b) = refl
  depth-outline (number n) = refl
  depth-outline (string s) = refl
  depth-outline (array ds) = ap suc (items_depth-outline ds)
  depth-outline (object ms) = ap suc (members_depth-outline ms)

  items_depth-outline : (ds : Items) → tree.items_depth (items_outline ds) ≡ items_depth ds
  items_depth-outline no_items = refl
  items_depth-outline (item d ds) = ap₂ max (depth-outline d) (items_depth-outline ds)

  members_depth-outline : (ms : Members) → tree.members_depth (members_outline ms) ≡ members_depth ms
  members_depth-outline no_members = refl
  members_depth-outline (member k d ms) = ap₂ max (depth-outline d) (members_depth-outline ms)

pub read-compact_text : (d : Data) → IsPlain d → depth d ≤ max_depth → read (compact_text d) ≡ Some d
read-compact_text d h shallow =
    let same = ap tokens (sym (print-outline d)) ∙ tokens-print (json_tokens (outline d)) (ArePrintable-json_tokens (outline d) (HasNumbers-outline d h)) in
    let within : tree.depth (outline d) ≤ max_depth = omega (arith, depth-outline d) in
    ap whole (ap (json.value max_depth) (same ∙ sym (append-nil _)) ∙ value-json_tokens (outline d) max_depth [] within) ∙ of_json-outline d h

-- no text is of two data
pub compact_text-one : (d e : Data) → IsPlain d → IsPlain e → depth d ≤ max_depth → depth e ≤ max_depth → compact_text d ≡ compact_text e → d ≡ e
compact_text-one d e hd he nd ne same =
    let one = sym (read-compact_text d hd nd) ∙ ap read same ∙ read-compact_text e he ne in
    cc

-- ---- no floats

mutual
  pub has_float-plain : (d : Data) → IsPlain d → has_float d ≡ false
  has_float-plain null h = refl
  has_float-plain (boolean b) h = refl
  has_float-plain (number (unsigned n)) h = refl
  has_float-plain (number (negative z)) h = refl
  has_float-plain (number (float x)) h = absurd h
  has_float-plain (string s) h = refl
  has_float-plain (array ds) h = items_have_float-plain ds h
  has_float-plain (object ms) h = members_have_float-plain ms h.1

  items_have_float-plain : (ds : Items) → ItemsArePlain ds → items_have_float ds ≡ false
  items_have_float-plain no_items h = refl
  items_have_float-plain (item d ds) h = rw (has_float-plain d h.0, items_have_float-plain ds h.1)

  members_have_float-plain : (ms : Members) → MembersArePlain ms → members_have_float ms ≡ false
  members_have_float-plain no_members h = refl
  members_have_float-plain (member k d ms) h = rw (has_float-plain d h.1, members_have_float-plain ms h.2)

-- ---- UTF-8

comma : (later : Bool) → IsUtf8 (comma_if later)
comma true = IsUtf8-are_ascii (44 ∷ []) refl
comma false = IsUtf8-are_ascii [] refl

one : (x : ℕ) (xs : List ℕ) → are_ascii (x ∷ []) ≡ true → IsUtf8 xs → IsUtf8 (x ∷ xs)
one x xs small h = IsUtf8-append (x ∷ []) xs (IsUtf8-are_ascii (x ∷ []) small) h

mutual
  pub IsUtf8-compact_text : (d : Data) → IsPlain d → IsUtf8 (compact_text d)
  IsUtf8-compact_text null h = IsUtf8-are_ascii _ refl
  IsUtf8-compact_text (boolean b) h = IsUtf8-boolean b
  IsUtf8-compact_text (number (unsigned n)) h = IsUtf8-from_ascii _ (IsAscii-decimal n h)
  IsUtf8-compact_text (number (negative z)) h = absurd h
  IsUtf8-compact_text (number (float x)) h = absurd h
  IsUtf8-compact_text (string s) h = IsUtf8-quoted s h
  IsUtf8-compact_text (array ds) h = one 91 _ refl (IsUtf8-items_text false ds h)
  IsUtf8-compact_text (object ms) h = one 123 _ refl (IsUtf8-members_text false ms h.1)

  IsUtf8-items_text : (later : Bool) (ds : Items) → ItemsArePlain ds → IsUtf8 (items_text later ds)
  IsUtf8-items_text later no_items h = IsUtf8-are_ascii _ refl
  IsUtf8-items_text later (item d ds) h = IsUtf8-append (comma_if later) _ (comma later) (IsUtf8-append (compact_text d) _ (IsUtf8-compact_text d h.0) (IsUtf8-items_text true ds h.1))

  IsUtf8-members_text : (later : Bool) (ms : Members) → MembersArePlain ms → IsUtf8 (members_text later ms)
  IsUtf8-members_text later no_members h = IsUtf8-are_ascii _ refl
  IsUtf8-members_text later (member k d ms) h =
      IsUtf8-append (comma_if later) _ (comma later) (IsUtf8-append (quoted k) _ (IsUtf8-quoted k h.0) (one 58 _ refl (IsUtf8-append (compact_text d) _ (IsUtf8-compact_text d h.1) (IsUtf8-members_text true ms h.2))))
