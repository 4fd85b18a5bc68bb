use Rattle.std.proofs.Common.{◌≡◌, ◌≤◌, ◌+◌, take}
use Rattle.tb_text.specs.Lines.{column_of_end, line_of_end}
use Rattle.tb_text.proofs.lines.end_of.Given as goal

abbrev pub invariant-loop-byte : goal.invariant-loop-byte
invariant-loop-byte l = record {
  line : l.line ≡ line_of_end (take l.byte-index l.front);
  column : l.column ≡ column_of_end (take l.byte-index l.front);
  lines_fit : l.line ≤ l.byte-index + 1;
  columns_fit : l.column ≤ l.byte-index + 1;
}
