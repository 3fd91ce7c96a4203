use Rattle.std.specs.Prelude.{◌≡◌, ℕ, ◌-◌, ◌<◌, List, [], ◌∷◌, ◌++◌, length, Some, None, Option, slice_index_or}
use Rattle.stations.specs.declared.numbers.StageNo.{StageNo}
use Rattle.stations.specs.Rule.{Rule, Rising, before, freshened, Meaning as Station}
use Rattle.controls.specs.Events.{IsStage}
use Rattle.controls.specs.Times.{Row}

-- What is taken for the meaning of a station that a row does not have.
abbrev pub no_station : Station
no_station = record { rule = λ arrivals. arrivals; fresh = λ arrivals. arrivals; early = before None }

-- Station i of a row, counted from 1.
abbrev pub station : List Station → StageNo → Station
station ms i = slice_index_or ms (i.0 - 1) no_station

-- The fresh rules of a row, by stage.
abbrev pub fresh_rules : List Station → Row
fresh_rules ms i = (station ms i).fresh

-- The last of some arrivals.
abbrev pub last_of : List ℕ → Option ℕ
last_of [] = None
last_of (a ∷ []) = Some a
last_of (a ∷ (b ∷ arrivals)) = last_of (b ∷ arrivals)

-- What a station means that was freshened and then loaded with these arrivals: its fresh rule is still that, what is before the last
-- of them comes too early, and its rule is what remains of the fresh one.
pub record LoadedWith (fresh : Rule) (arrivals : List ℕ) (m : Station) : Type 0 where
  pub same : m.fresh ≡ fresh
  pub last : m.early ≡ before (last_of arrivals)
  pub rest : (more : List ℕ) → Rising 0 (arrivals ++ more) → fresh (arrivals ++ more) ≡ fresh arrivals ++ m.rule more

-- What a row means that was freshened and whose first N stations were then loaded, each with the releases of its stage.
pub record RowLoadedWith (N : ℕ) (releases : StageNo → List ℕ) (ms ms' : List Station) : Type 0 where
  pub as_long : length ms' ≡ length ms
  pub loaded : (i : StageNo) → IsStage N i → LoadedWith (station ms i).fresh (releases i) (station ms' i)
  pub others : (i : StageNo) → N < i.0 → station ms' i ≡ freshened (station ms i)
