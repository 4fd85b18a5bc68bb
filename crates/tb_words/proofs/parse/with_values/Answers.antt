use Rattle.std.proofs.Common.{ap, ap₂, ◌∙◌}
use Rattle.clap.specs.Simple.{with_rule, app_of}
use Rattle.tb_words.proofs.parse.with_values.Goals as goal

pub returns : goal.returns
returns c =
    c.in_ok-command-4.ensures.shape c.root.ensures.local ∙ ap₂ with_rule
    (c.in_ok-command-3.ensures.shape c.value-3.ensures.local ∙ ap₂ with_rule
    (c.in_ok-command-2.ensures.shape c.value-2.ensures.local ∙ ap₂ with_rule
    (c.in_ok-command.ensures.shape c.value.ensures.local ∙ ap (with_rule (app_of c.args.command)) c.value.ensures.rule)
    c.value-2.ensures.rule)
    c.value-3.ensures.rule)
    c.root.ensures.rule
