use Rattle.forms.proofs.stages.CoreFormDisplay.fmt.Goals as goal

pub returns-in-Oven-clause-writes : goal.returns-in-Oven-clause-writes
returns-in-Oven-clause-writes g c = rw c.in-Oven.is c.write-in-Oven.ensures.writes
