use Rattle.arrivals.proofs.lists.ListFaultDisplay.fmt.Goals as goal

pub returns-in-Line-clause-writes : goal.returns-in-Line-clause-writes
returns-in-Line-clause-writes g c = rw c.in-Line.is c.write-in-Line.ensures.writes
