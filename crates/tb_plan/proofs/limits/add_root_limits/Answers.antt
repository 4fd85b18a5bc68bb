use Rattle.std.proofs.Common.{◌≡◌, ◌++◌, Bool, ap, ◌∙◌, codes, nat_lt, lit<}
use Rattle.tb_plan.specs.Faults.{fault_if}
use Rattle.tb_plan.specs.Limits.{files_in, bytes_in}
use Rattle.tb_plan.proofs.Loops.{three_pieces, beyond_min}
use Rattle.tb_plan.proofs.limits.add_root_limits.Goals as goal

pub returns : goal.returns
returns c =
    let files : nat_lt 20000 c.files_in-many_files.result ≡ nat_lt 20000 (files_in c.args.projects.now) = ap (nat_lt 20000) c.files_in-many_files.ensures ∙ beyond_min 20000 (files_in c.args.projects.now) (lit< tt) in
    let bytes : nat_lt 268435456 c.bytes_in-many_bytes.result ≡ nat_lt 268435456 (bytes_in c.args.tree.now c.args.projects.now) = ap (nat_lt 268435456) c.bytes_in-many_bytes.ensures ∙ beyond_min 268435456 (bytes_in c.args.tree.now c.args.projects.now) (lit< tt) in
    three_pieces c.args.faults.now.items _ _ _ _ _ _ c.in_ok-add_if.ensures
    (c.in_ok-add_if-2.ensures ∙ ap (λ (b : Bool). c.add_if.new.faults.items ++ fault_if b c.args.root.now 5012 (codes "files")) files)
    (c.in_ok-add_if-3.ensures ∙ ap (λ (b : Bool). c.add_if-2.new.faults.items ++ fault_if b c.args.root.now 5012 (codes "bytes")) bytes)
