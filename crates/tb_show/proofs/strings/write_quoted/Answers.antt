use Rattle.std.proofs.Common.{string_bytes}
use Rattle.tb_layout.specs.Quoted.{string_value}
use Rattle.tb_show.proofs.Values.{quoted_whole}
use Rattle.tb_show.proofs.strings.write_quoted.Goals as goal

pub returns : goal.returns
returns c =
    quoted_whole (string_bytes c.args.out.now) (string_bytes c.put.new.out) (string_bytes c.write_inside.new.out) (string_bytes c.put-2.new.out) (string_value c.args.spelled.now)
    c.in_ok-put.ensures c.in_ok-write_inside.ensures c.in_ok-put-2.ensures
