use Rattle.std.proofs.Common.{ap, ap₂, ◌∙◌}
use Rattle.clap.specs.Simple.{with_rule, app_of}
use Rattle.tb_words.proofs.parse.with_flags.Goals as goal

pub returns : goal.returns
returns c =
    c.in_ok-command-6.ensures.shape c.short_flag-5.ensures.local ∙ ap₂ with_rule
    (c.in_ok-command-5.ensures.shape c.short_flag-4.ensures.local ∙ ap₂ with_rule
    (c.in_ok-command-4.ensures.shape c.short_flag-3.ensures.local ∙ ap₂ with_rule
    (c.in_ok-command-3.ensures.shape c.flag.ensures.local ∙ ap₂ with_rule
    (c.in_ok-command-2.ensures.shape c.short_flag-2.ensures.local ∙ ap₂ with_rule
    (c.in_ok-command.ensures.shape c.short_flag.ensures.local ∙ ap (with_rule (app_of c.args.command)) c.short_flag.ensures.rule)
    c.short_flag-2.ensures.rule)
    c.flag.ensures.rule)
    c.short_flag-3.ensures.rule)
    c.short_flag-4.ensures.rule)
    c.short_flag-5.ensures.rule
