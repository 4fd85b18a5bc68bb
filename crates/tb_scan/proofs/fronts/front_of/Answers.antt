use Rattle.std.proofs.Common.{◌==◌, drop, sym, ◌∙◌, lit<}
use Rattle.std.specs.Char.{len_utf8}
use Rattle.std.proofs.lemmas.Bool.{eqb-true}
use Rattle.tb_scan.specs.Tokens.{IsOther, AreTemplates}
use Rattle.tb_scan.proofs.Templates as t
use Rattle.tb_scan.proofs.fronts.front_of.Goals as goal

pub returns-then-is_word_start : goal.returns-then-is_word_start
returns-then-is_word_start c = c.word_front.ensures c.args.braces.now

pub returns-then-is_digit : goal.returns-then-is_digit
returns-then-is_digit c = c.number_front.ensures c.args.braces.now

pub returns-then-is_quote : goal.returns-then-is_quote
returns-then-is_quote c = c.string_front.ensures c.args.braces.now

pub returns-then-first-eq96 : goal.returns-then-first-eq96
returns-then-first-eq96 c =
    c.template_front.ensures c.args.braces.now
    (AreTemplates.first (t.begins_char 96 c.args.text.now c.args.first (drop (len_utf8 c.args.first) c.args.text.now) c.requires.whole c.if-first-eq96.true (lit< tt)))

pub returns-then-closes_hole : goal.returns-then-closes_hole
returns-then-closes_hole c =
    t.closing_templates c.args.braces.now c.args.text.now c.args.first (drop (len_utf8 c.args.first) c.args.text.now) c.requires.whole (sym c.closes_hole.ensures ∙ c.if-closes_hole.true)
    (c.template_front-then-closes_hole.ensures c.args.braces.now)

pub returns : goal.returns
returns c =
    let other : IsOther c.args.braces.now c.args.first = record {
      no_word = sym c.is_word_start.ensures ∙ c.if-is_word_start.false;
      no_digit = sym c.is_digit.ensures.value ∙ c.if-is_digit.false;
      no_quote = sym c.is_quote.ensures ∙ c.if-is_quote.false;
      no_template = t.false_from (c.args.first == 96) (λ q. c.if-first-eq96.false (eqb-true c.args.first 96 q));
      no_closing = sym c.closes_hole.ensures ∙ c.if-closes_hole.false;
    } in
    c.mark_front.ensures c.args.braces.now other
