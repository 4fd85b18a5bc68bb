use Rattle.std.proofs.Common.{map, take}
use Rattle.tb_tree.specs.declared.exprs.Var.{out-Var}
use Rattle.tb_layout.specs.Parts.{VariablePart}
use Rattle.tb_surface.specs.Names as spec
use Rattle.tb_surface.proofs.known.Leads.add_variables.Given as goal

abbrev pub invariant-loop-declarator : goal.invariant-loop-declarator
invariant-loop-declarator l =
    let opened = out-Var l.var in
    spec.LeadsOn l.listed l.initial.self.starts l.initial.self.further l.self.starts l.self.further (spec.all_with l.exported (map (VariablePart opened.kind) (take l.declarator-index l.declarator-items)))
