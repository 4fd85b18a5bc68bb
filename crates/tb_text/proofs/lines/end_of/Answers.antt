use Rattle.std.proofs.Common.{◌≡◌, ◌+◌, ℕ, [], ◌∷◌, ◌++◌, take, get_or, ap, sym, ◌∙◌, arith}
use Rattle.std.proofs.lemmas.Bool.{eq-eqb, ne_eqb}
use Rattle.std.proofs.lemmas.List.{take_more}
use Rattle.tb_text.specs.Lines.{column_of_end, line_of_end}
use Rattle.tb_text.proofs.Columns.{column_lf, column_none, column_one, line_lf, line_other}
use Rattle.tb_text.proofs.lines.end_of.Goals as goal
use Rattle.tb_text.proofs.lines.end_of.Goals.{then-byte-eq10, else-byte-eq10+then-begins_character, else-byte-eq10+else-begins_character}

pub loop-byte-preserved : goal.loop-byte-preserved
loop-byte-preserved c =
    let i = c.loop-byte.byte-index in
    let front = c.args.front.now in
    let b = get_or front i 0 in
    let t = take i front in
    let more : take (i + 1) front ≡ t ++ b ∷ [] = take_more front i 0 c.loop-byte-test.true in
    let line = ap line_of_end more in
    let column = ap column_of_end more in
    elim c.if-byte-eq10.branch [
      | then-byte-eq10 w ↦
          let lf = eq-eqb b 10 w.if-byte-eq10.true in
          record {
            line = w.line-is ∙ ap (λ (n : ℕ). n + 1) c.loop-byte.invariant.line ∙ sym (line ∙ line_lf t b lf);
            column = w.column-is ∙ sym (column ∙ column_lf t b lf);
            lines_fit = omega arith;
            columns_fit = omega arith;
          }
      | else-byte-eq10+then-begins_character w ↦
          let other = ne_eqb b 10 w.if-byte-eq10.false in
          record {
            line = w.line-is ∙ c.loop-byte.invariant.line ∙ sym (line ∙ line_other t b other);
            column = w.column-is ∙ ap (λ (n : ℕ). n + 1) c.loop-byte.invariant.column ∙ sym (column ∙ column_one t b other (sym w.begins_character.ensures ∙ w.if-begins_character.true));
            lines_fit = omega arith;
            columns_fit = omega arith;
          }
      | else-byte-eq10+else-begins_character w ↦
          let other = ne_eqb b 10 w.if-byte-eq10.false in
          record {
            line = w.line-is ∙ c.loop-byte.invariant.line ∙ sym (line ∙ line_other t b other);
            column = w.column-is ∙ c.loop-byte.invariant.column ∙ sym (column ∙ column_none t b other (sym w.begins_character.ensures ∙ w.if-begins_character.false));
            lines_fit = omega arith;
            columns_fit = omega arith;
          }
    ]
