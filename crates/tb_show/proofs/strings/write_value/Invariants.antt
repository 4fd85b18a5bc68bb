use Rattle.std.proofs.Common.{◌≡◌, ◌++◌, IsUtf8, string_bytes}
use Rattle.std.specs.Str.Iter.{chars_rest}
use Rattle.tb_layout.specs.Quoted as spec
use Rattle.tb_show.specs.Steps as steps
use Rattle.tb_show.proofs.Values.{value_text}
use Rattle.tb_show.proofs.strings.write_value.Given as goal

abbrev pub invariant-loop-character : goal.invariant-loop-character
invariant-loop-character l = record {
  utf8 : IsUtf8 (chars_rest l.character-iterator);
  text : string_bytes l.out ++ value_text l.quote (steps.seen l.standing) (chars_rest l.character-iterator)
      ≡ string_bytes l.fn.out ++ value_text l.quote spec.Alone l.rest;
}
