use Rattle.std.proofs.Common.{vec_items, arith, rules}
use Rattle.rows.specs.Numbering.{banked_length}
use Rattle.rows.proofs.Numbering.{banked_loads, stationed}
use Rattle.rows.proofs.banks.BankRow.load.Goals as goal

pub index_mut-requires : goal.index_mut-requires
index_mut-requires g c = omega (arith, banked_length g.S.Station.meaning (vec_items c.args.self.now.stations))

pub returns : goal.returns
returns g c =
    let e = banked_length g.S.Station.meaning (vec_items c.args.self.now.stations) in
    stationed _ _ c.args.stage c.args.arrival c.load.result c.map_err.result
    (banked_loads g.S.Station.meaning (vec_items c.args.self.now.stations) c.args.stage.0 c.args.arrival
    c.index_mut.result.now c.load.new.self c.load.result (omega arith) (omega arith) (omega arith)
    c.index_mut.ensures.value c.load.ensures)
    (search rules)
