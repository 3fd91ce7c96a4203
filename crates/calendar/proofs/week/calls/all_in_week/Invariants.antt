use Rattle.std.proofs.Common.{◌≡◌, ◌+◌, drop}
use Rattle.calendar.specs.WeekRefused.{first_past}
use Rattle.calendar.proofs.week.calls.all_in_week.Given as goal

abbrev pub invariant-loop-index : goal.invariant-loop-index
invariant-loop-index l = first_past 1 l.shifts ≡ first_past (l.index + 1) (drop l.index l.shifts)
