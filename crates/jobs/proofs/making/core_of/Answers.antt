use Rattle.jobs.proofs.making.core_of.Goals as goal

pub returns-in-Machine : goal.returns-in-Machine
returns-in-Machine c = rw c.in-Machine.is c.machine.ensures

pub returns-in-Oven : goal.returns-in-Oven
returns-in-Oven c = rw c.in-Oven.is c.oven.ensures
