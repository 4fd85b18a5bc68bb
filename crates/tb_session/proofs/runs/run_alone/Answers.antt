use Rattle.std.proofs.Common.{◌≡◌, List, ℕ, sym, ap, ◌∙◌, subst}
use Rattle.std.specs.Prelude.{Result, Ok, Err}
use Rattle.tb_text.specs.declared.statuses.UsageFault.{UsageFault}
use Rattle.tb_words.specs.declared.commands.Command.{Command}
use Rattle.tb_session.specs.Builds.{IsClean}
use Rattle.tb_session.specs.Generations.{opening}
use Rattle.tb_session.proofs.Ending.{unsettled_memory, unsettled_not_built}
use Rattle.tb_session.proofs.Settling.{stopped}
use Rattle.tb_session.proofs.runs.run_alone.Goals as goal

pub returns-in-Err-NoMemory-clause-headline : goal.returns-in-Err-NoMemory-clause-headline
returns-in-Err-NoMemory-clause-headline g c told command is =
    let e = c.stopped-in-Err-NoMemory.ensures in
    stopped _ _ _ _ _ (λ i. (e i).settled) (λ i. g.O.Sink.taken (e i).out) (unsettled_memory _ (λ i. (e i).status))

pub returns-then-not-is_served-clause-headline : goal.returns-then-not-is_served-clause-headline
returns-then-not-is_served-clause-headline g c told command is =
    let e = c.stopped-then-not-is_served.ensures in
    stopped _ _ _ _ _ (λ i. (e i).settled) (λ i. g.O.Sink.taken (e i).out) (unsettled_not_built _ (λ i. (e i).status))

pub returns-in-Err-NoMemory-clause-stays : goal.returns-in-Err-NoMemory-clause-stays
returns-in-Err-NoMemory-clause-stays g c told written command is watch settled clean whole = let e = c.stopped-in-Err-NoMemory.ensures in absurd (unsettled_memory _ (λ i. (e i).status) settled)

pub returns-then-not-is_served-clause-stays : goal.returns-then-not-is_served-clause-stays
returns-then-not-is_served-clause-stays g c told written command is watch settled clean whole = let e = c.stopped-then-not-is_served.ensures in absurd (unsettled_not_built _ (λ i. (e i).status) settled)

-- ---- the run of the command

abbrev command_in : Command → Result Command UsageFault → Command
command_in other (Ok command) = command
command_in other (Err fault) = other

-- words are one command at most
same_command : {of : Result Command UsageFault} {one other : Command} → of ≡ Ok other → of ≡ Ok one → one ≡ other
same_command {one = one} is_other is_one = ap (command_in one) (sym is_one ∙ is_other)

pub returns-clause-stays : goal.returns-clause-stays
returns-clause-stays g c told written command is watch settled clean whole =
    let same : command ≡ c.in-Ok.command = same_command c.in-Ok.ensures is in
    c.run_command.ensures.stays told written settled clean (subst (λ (roots : List (List ℕ)). IsClean (opening (g.T.Tree.texts c.args.tree.now)) roots clean) (ap (λ (of : Command). of.roots) same) whole)
