use Rattle.std.proofs.Common.{◌≡◌, drop}
use Rattle.std.specs.List.{list_any}
use Rattle.std.specs.Str.{str_eq_ignore_ascii_case}
use Rattle.tb_text.specs.Walks.{texts}
use Rattle.tb_options.proofs.options.is_one_of.Given as goal

abbrev pub invariant-loop-value : goal.invariant-loop-value
invariant-loop-value l = list_any (str_eq_ignore_ascii_case l.text) (texts l.accepted) ≡ list_any (str_eq_ignore_ascii_case l.text) (texts (drop l.value-index l.accepted))
