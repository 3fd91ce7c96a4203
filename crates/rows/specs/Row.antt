use Rattle.std.specs.Prelude.{◌≡◌, ℕ, zero, suc, ◌<◌, ◌⊎◌, List, [], ◌∷◌, ◌++◌, map, length, take, Result}
use Rattle.std.specs.List.{AllByRecursion}
use Rattle.stations.specs.Rule.{Meaning, Lawful}
use Rattle.stations.specs.Load.{Loaded}
use Rattle.stations.specs.declared.loading.LoadFault.{LoadFault}

-- Each station of the row is lawful.
abbrev pub AllLawful : List Meaning → Type 0
AllLawful = AllByRecursion (λ m. Lawful m.fresh)

-- Station n of the row, counted from 1, is loaded with a and answers r, and no other is touched.
abbrev pub LoadedAt : List Meaning → ℕ → ℕ → Result ℕ LoadFault → List Meaning → Type 0
LoadedAt [] n a r ms' = ⊥
LoadedAt (m ∷ ms) zero a r ms' = ⊥
LoadedAt (m ∷ ms) (suc n) a r [] = ⊥
LoadedAt (m ∷ ms) (suc zero) a r (m' ∷ ms') = Loaded m a r m' × (ms' ≡ ms)
LoadedAt (m ∷ ms) (suc (suc n)) a r (m' ∷ ms') = (m' ≡ m) × LoadedAt ms (suc n) a r ms'

-- There is no station n in the row.
abbrev pub Absent : List Meaning → ℕ → Type 0
Absent ms n = (n ≡ 0) ⊎ (length ms < n)

-- Two rows joined: the second numbered after the first, and none past number 64.
abbrev pub joined : List Meaning → List Meaning → List Meaning
joined ms ns = take 64 (ms ++ ns)

-- The stations of a list, each by what it means; none past number 64.
abbrev pub banked : {S : Type 0} → (S → Meaning) → List S → List Meaning
banked meaning ss = take 64 (map meaning ss)
