use Rattle.std.specs.Prelude.{ℕ, max, List, [], ◌∷◌, Some, None, Option}

-- The latest of some minutes, 0 if there are none.
abbrev pub latest : List ℕ → ℕ
latest [] = 0
latest (x ∷ xs) = max x (latest xs)

-- What is there, in order.
abbrev pub somes : {A : Type 0} → List (Option A) → List A
somes [] = []
somes (None ∷ os) = somes os
somes (Some a ∷ os) = a ∷ somes os
