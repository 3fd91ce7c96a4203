use Rattle.std.proofs.Common.{◌≡◌, ◌≤◌, drop}
use Rattle.calendar.specs.Week.{reached, total}
use Rattle.calendar.proofs.week.calls.minute_by.Given as goal

abbrev pub invariant-loop-shift : goal.invariant-loop-shift
invariant-loop-shift l =
    (1 ≤ l.left) × (l.left ≤ total (drop l.shift-index l.shifts))
    × (reached (drop l.shift-index l.shifts) l.left ≡ reached l.shifts l.work)
