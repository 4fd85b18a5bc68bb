use Rattle.std.proofs.Common.{sym, ap, ◌∙◌, subst}
use Rattle.tb_text.specs.Walks.{AllBare, texts}
use Rattle.tb_text.proofs.Segments.{segments_bare}
use Rattle.tb_text.proofs.Walks.{bare_end}
use Rattle.tb_text.proofs.paths.Path.join.Goals as goal

pub path_of-requires : goal.path_of-requires
path_of-requires c =
    subst (λ parts. AllBare (texts parts)) (sym c.as_slice-2.ensures.value)
    (bare_end c.in_ok-follow.field-0 (texts c.follow.new.at.items) (texts c.in_ok-at.at.items) (texts c.as_slice.result.now) c.if-not-branch.false c.in_ok-follow.ensures
    (subst AllBare (sym c.in_ok-at.ensures) (segments_bare c.as_str.result.now))
    (subst AllBare (sym (ap texts c.as_slice.ensures.value ∙ c.in_ok-way.ensures)) (segments_bare c.args.rel.now)))
