use Rattle.rows.proofs.Numbering.{FreshTo}
use Rattle.rows.proofs.banks.BankRow.fresh.Given as goal

abbrev pub invariant-loop-station : goal.invariant-loop-station
invariant-loop-station g l = FreshTo g.S.Station.meaning l.station-index l.initial.station-items l.station-items
