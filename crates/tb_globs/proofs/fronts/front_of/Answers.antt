use Rattle.std.proofs.Common.{◌≡◌, ap, ◌∙◌, subst, ℕ, List}
use Rattle.std.specs.Prelude.{IfOk, IsErrOf, IsFalse}
use Rattle.tb_text.specs.Paths.{is_path, path_text}
use Rattle.tb_text.specs.declared.paths.PathFault.TheVariants.{BadPath}
use Rattle.tb_text.specs.Walks.{texts}
use Rattle.tb_globs.proofs.Leading.{joined_texts}
use Rattle.tb_globs.proofs.fronts.front_of.Goals as goal

pub returns-clause-ok : goal.returns-clause-ok
returns-clause-ok c =
    let text = c.as_str.ensures.value ∙ c.in_ok-text.ensures.ok ∙ joined_texts c.as_slice.result.now ∙ ap path_text (ap texts c.as_slice.ensures.value ∙ c.in_ok-names.ensures) in
    subst (λ (t : List ℕ). IfOk c.read.result (λ front. front ≡ t)) text c.read.ensures.ok

pub returns-clause-bad : goal.returns-clause-bad
returns-clause-bad c =
    let text = c.as_str.ensures.value ∙ c.in_ok-text.ensures.ok ∙ joined_texts c.as_slice.result.now ∙ ap path_text (ap texts c.as_slice.ensures.value ∙ c.in_ok-names.ensures) in
    subst (λ (t : List ℕ). IsErrOf c.read.result BadPath → IsFalse (is_path t)) text c.read.ensures.bad.0
