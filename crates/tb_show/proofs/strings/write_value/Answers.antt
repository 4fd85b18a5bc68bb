use Rattle.std.proofs.Common.{◌≡◌, ◌++◌, IsUtf8, string_bytes, sym, ap, subst, rules}
use Rattle.std.specs.Str.Iter.{chars_rest}
use Rattle.std.proofs.lemmas.Str.{IsUtf8-past_char}
use Rattle.tb_layout.specs.Quoted as spec
use Rattle.tb_show.specs.Steps as steps
use Rattle.tb_show.proofs.Values.{value_text, value_further, value_ended}
use Rattle.tb_show.proofs.strings.write_value.Goals as goal

pub loop-character-init : goal.loop-character-init
loop-character-init c =
    let whole : chars_rest c.into_iter-character-iterator.result ≡ c.args.rest.now = search rules in
    record {
      utf8 = subst IsUtf8 (sym whole) c.utf8.rest;
      text = ap (λ t. string_bytes c.args.out.now ++ value_text c.args.quote spec.Alone t) whole;
    }

pub loop-character-preserved : goal.loop-character-preserved
loop-character-preserved c =
    let held = c.loop-character.invariant in
    let read = c.in-Some.ensures.steps.0 in
    record {
      utf8 = IsUtf8-past_char _ _ c.in-Some.character held.utf8 read;
      text = value_further _ _ _ _ _ c.args.quote c.in-Some.character (steps.seen c.loop-character.standing) _ _ held.utf8 read c.completed.ensures c.stands_next-standing.ensures c.in_ok-write_completed.ensures held.text;
    }

pub returns : goal.returns
returns c = value_ended _ _ _ c.args.quote (steps.seen c.loop-character.standing) c.in-None.ensures.steps.0.0 c.loop-character.invariant.text
