use Rattle.std.proofs.Common.{◌≡◌, true, ap, ◌∙◌}
use Rattle.tb_globs.specs.Globs.{is_match}
use Rattle.tb_globs.specs.declared.parts.UseOf.TheVariants.{Include}
use Rattle.tb_globs.proofs.Leading.{folder_all}
use Rattle.tb_globs.proofs.pattern.Pattern.folder.Goals as goal

pub returns-clause-all : goal.returns-clause-all
returns-clause-all c = λ path e.
    let own = c.self.inside in
    let matched : is_match c.args.self.now Include path ≡ true = e in
    folder_all own.base own.text own.parts own.folder c.self.invariant path (ap (λ p. is_match p Include path) c.self.view_is ∙ matched)
