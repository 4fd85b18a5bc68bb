use Rattle.tb_text.proofs.Segments.{parent_at, parent_none, path_at}
use Rattle.tb_text.proofs.folders.folder_text.Goals as goal

pub returns-in-Some-clause-folder : goal.returns-in-Some-clause-folder
returns-in-Some-clause-folder c =
    let h = c.in-Some.ensures.cases in
    parent_at c.args.text.now h.0 h.1 c.in-Some.front.now h.2 h.3

pub returns-in-Some-clause-path : goal.returns-in-Some-clause-path
returns-in-Some-clause-path c =
    let h = c.in-Some.ensures.cases in
    path_at c.args.text.now h.0 h.1 c.in-Some.front.now h.2 h.3

pub returns-in-None-clause-folder : goal.returns-in-None-clause-folder
returns-in-None-clause-folder c = parent_none c.args.text.now c.requires c.in-None.ensures.cases
