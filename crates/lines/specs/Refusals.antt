use Rattle.std.specs.Prelude.{◌≡◌, ℕ, ◌⊎◌, List, [], ◌∷◌}

-- The conditions that refuse a call, each with its number, the smallest first.
abbrev pub Conditions : Type 1
Conditions = List (ℕ × Type 0)

-- The call is refused with the number of the first condition that holds.
abbrev pub RefusedBy : Conditions → ℕ → Type 0
RefusedBy [] number = ⊥
RefusedBy (c ∷ cs) number = ((number ≡ c.0) × c.1) ⊎ ((c.1 → ⊥) × RefusedBy cs number)

-- It is granted if none holds.
abbrev pub NoneHolds : Conditions → Type 0
NoneHolds [] = Unit
NoneHolds (c ∷ cs) = (c.1 → ⊥) × NoneHolds cs
