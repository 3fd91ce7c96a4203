use Rattle.std.specs.Prelude.{◌≡◌, [], ◌∷◌}
use Rattle.stations.specs.Serving.{served, machine, oven}

-- Departures from a fresh machine, worked by hand.
abbrev pub MachineByHand : Type 0
MachineByHand =
    (served 2 (machine 10) [] (0 ∷ (0 ∷ (0 ∷ []))) ≡ 10 ∷ (10 ∷ (20 ∷ []))) × (served 1 (machine 10) [] (999989 ∷ []) ≡ 999999 ∷ [])
    × (served 1 (machine 10) [] (999990 ∷ []) ≡ 1000000 ∷ [])

-- Departures from a fresh oven, worked by hand.
abbrev pub OvenByHand : Type 0
OvenByHand =
    (served 2 (oven 30 25) [] (0 ∷ (0 ∷ (0 ∷ []))) ≡ 25 ∷ (25 ∷ (55 ∷ []))) × (served 2 (oven 30 25) [] (1 ∷ []) ≡ 55 ∷ [])
    × (served 2 (oven 30 25) [] (30 ∷ []) ≡ 55 ∷ [])
