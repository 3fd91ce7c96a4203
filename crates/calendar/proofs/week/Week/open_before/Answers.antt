use Rattle.std.proofs.Common.{arith}
use Rattle.calendar.proofs.Weeks.{week_counts}
use Rattle.calendar.proofs.week.Week.open_before.Goals as goal

pub overflow_mul-result : goal.overflow_mul-result
overflow_mul-result c = omega (arith, week_counts c.args.self.now _ c.args.time c.open_minutes.ensures.value)
