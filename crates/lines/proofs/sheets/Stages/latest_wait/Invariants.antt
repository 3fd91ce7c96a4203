use Rattle.std.proofs.Common.{◌≡◌, ◌+◌, length, take}
use Rattle.lines.specs.Missed.{calls}
use Rattle.lines.specs.Sheet.{rows}
use Rattle.lines.proofs.Ends.{latest_of}
use Rattle.lines.proofs.sheets.Stages.latest_wait.Given as goal

abbrev pub invariant-loop-wait : goal.invariant-loop-wait
invariant-loop-wait l =
    l.latest ≡ latest_of (calls l.part.book.now.parts.items) (rows l.self.count (length l.part.book.now.parts.items) l.sheet) (l.part.index + 1) (take l.wait-index l.waits)
