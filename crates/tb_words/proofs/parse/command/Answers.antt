use Rattle.std.proofs.Common.{ap, ◌∙◌, ◌≡◌, true}
use Rattle.clap.specs.Simple.{Shape, app_of, app_of_fields, on_top}
use Rattle.tb_words.specs.Readings.{empty_app, with_flags, with_values}
use Rattle.tb_words.proofs.parse.command.Goals as goal

pub returns : goal.returns
returns c =
    let empty : app_of c.disable_help_flag-command.result ≡ empty_app =
    ap app_of_fields c.disable_help_flag-command.ensures
    ∙ ap (on_top (λ (s : Shape). record s { disable_help_flag = true })) (ap app_of_fields c.no_binary_name.ensures ∙ ap (on_top (λ (s : Shape). record s { no_binary_name = true })) c.new.ensures.app) in
    c.in_ok-command-2.ensures ∙ ap with_values (c.in_ok-command.ensures ∙ ap with_flags empty)
