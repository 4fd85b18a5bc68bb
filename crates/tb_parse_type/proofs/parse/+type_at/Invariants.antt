use Rattle.tb_parse_type.proofs.parse.+type_at.Given as goal

abbrev pub decreases-type_at : goal.decreases-type_at
decreases-type_at l = l.limits.own
