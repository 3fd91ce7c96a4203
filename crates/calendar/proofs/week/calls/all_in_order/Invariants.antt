use Rattle.std.proofs.Common.{◌≡◌, ◌+◌, drop}
use Rattle.calendar.specs.WeekRefused.{first_unordered}
use Rattle.calendar.proofs.week.calls.all_in_order.Given as goal

abbrev pub invariant-loop-index : goal.invariant-loop-index
invariant-loop-index l = first_unordered 1 0 l.shifts ≡ first_unordered (l.index + 1) l.low (drop l.index l.shifts)
