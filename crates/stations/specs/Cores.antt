use Rattle.stations.specs.Serving.{Pace, machine, oven}
use Rattle.stations.specs.declared.cores.CoreWork.{CoreWork}
use Rattle.stations.specs.declared.cores.CoreWork.TheVariants.{Machine, Oven}

-- A core works as its machine or its oven does.
abbrev pub core_pace : CoreWork → Pace
core_pace (Machine w) = machine w.minutes
core_pace (Oven w) = oven w.cycle w.bake
