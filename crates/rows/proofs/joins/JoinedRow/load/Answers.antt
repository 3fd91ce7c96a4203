use Rattle.std.proofs.Common.{◌-◌, arith, rules}
use Rattle.rows.proofs.Numbering.{joined_second}
use Rattle.rows.proofs.joins.JoinedRow.load.Goals as goal

pub returns : goal.returns
returns g c =
    joined_second (g.A.Row.meanings c.args.self.now.first) (g.B.Row.meanings c.args.self.now.second)
    (g.B.Row.meanings c.load-2.new.self) c.args.stage (record { 0 = c.args.stage.0 - c.len-before.result }) c.args.arrival
    c.load-2.result c.map_err.result (omega arith) (omega arith) (omega arith) c.load-2.ensures (search rules)
