use Rattle.std.proofs.Common.{arith}
use Rattle.std.proofs.lemmas.Result.{err_from_is_err_and}
use Rattle.arrivals.proofs.Held.{list_refused, kept}
use Rattle.arrivals.proofs.lists.read_list.Goals as goal

pub returns-in_err-entries : goal.returns-in_err-entries
returns-in_err-entries c =
    let p = err_from_is_err_and c.from_residual-in_err-entries.result c.from_residual-in_err-entries.ensures.1 in
    let same = kept _ c.stage_line.result c.map_err.result c.in_ok-stage.stage c.map_err.ensures.cases c.in_ok-stage.was in
    let stage = rw same at c.stage_line.ensures in
    rw (p.1, p.2) (list_refused (omega arith) stage c.in_err-entries.field-0.0 c.in_err-entries.ensures)
