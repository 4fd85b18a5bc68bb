-- The laws of JavaScript: its tokens derive the erased file, item by item; and where no list of parameters has a `?` after a `=`, these
-- items are what a reader looks for, and reading gives the erased file. This project's own.
use Rattle.std.specs.Prelude.{◌≡◌, ◌≤◌, ⊤, ℕ, true, List, [], ◌∷◌, ◌++◌, length, map, Result, Ok, Err}
use Rattle.tb_tree.specs.declared.items.File.{File}
use Rattle.tb_tree.specs.declared.items.Item.{Item}
use Rattle.tb_tree.specs.Sym.{Sym}
use Rattle.tb_tree.specs.Bare.{bare_item, bare_file}
use Rattle.tb_tree.specs.Items.{DerivesItem, DerivesJs}
use Rattle.tb_layout.specs.Erase.{erase}
use Rattle.tb_layout.specs.Js.{js_text}
use Rattle.tb_layout.specs.Steady.{is_steady_file}
use Rattle.tb_parse_file.specs.declared.FileFault.{FileFault}
use Rattle.tb_parse_file.specs.declared.FileFault.TheVariants as fault
use Rattle.tb_parse_file.specs.Files.{HasSymbols, ReadsFile, Answers}

-- the symbols are these items, one after the other
pub data AreItems (D : List Sym → Item → Type 0) : List Sym → List Item → Type 0 where
  are_none : AreItems D [] []
  are_more : {xs ys : List Sym} {of : Item} {rest : List Item} → D xs of → AreItems D ys rest → AreItems D (xs ++ ys) (of ∷ rest)

-- the tokens of a text are the items of this file, but for offsets
pub record DerivesBack (text : List ℕ) (of : File) : Type 0 where
  pub seen : List Sym
  pub symbols : HasSymbols text seen
  pub items : List Item
  pub are : AreItems DerivesJs seen items
  pub same : map bare_item items ≡ map bare_item of.items

abbrev pub JsDerives : Type 0
JsDerives = (source : List ℕ) (file : File) → ReadsFile source file → DerivesBack (js_text (erase file)) (erase file)

-- the symbols are these items of a source, one after the other, and no longer front of the rest than each is an item
pub data AreLongest : List Sym → List Item → Type 0 where
  none_longest : AreLongest [] []
  more_longest : {xs ys : List Sym} {of : Item} {rest : List Item} → DerivesItem xs of
      → ((a : List Sym) (other : Item) (zs : List Sym) → DerivesItem a other → xs ++ ys ≡ a ++ zs → length a ≤ length xs)
      → AreLongest ys rest → AreLongest (xs ++ ys) (of ∷ rest)

-- the tokens of a text are the items of this file, each the longest front, but for offsets
pub record DerivesLongest (text : List ℕ) (of : File) : Type 0 where
  pub seen : List Sym
  pub symbols : HasSymbols text seen
  pub items : List Item
  pub are : AreLongest seen items
  pub same : map bare_item items ≡ map bare_item of.items

abbrev pub JsDerivesLongest : Type 0
JsDerivesLongest = (source : List ℕ) (file : File) → ReadsFile source file → is_steady_file file ≡ true → DerivesLongest (js_text (erase file)) (erase file)

-- what reading answers: this file but for offsets, or that memory was refused
abbrev pub AnswersAs : File → Result File FileFault → Type 0
AnswersAs of (Ok back) = bare_file back ≡ bare_file of
AnswersAs of (Err (fault.Syntax finding)) = ⊥
AnswersAs of (Err fault.NoMemory) = ⊤

abbrev pub JsReadsBack : Type 0
JsReadsBack = (source : List ℕ) (file : File) → ReadsFile source file → is_steady_file file ≡ true
    → (result : Result File FileFault) → Answers (js_text (erase file)) result → AnswersAs (erase file) result
