use Rattle.std.specs.Prelude.{◌≡◌, ℕ, ◌-◌, ◌≤◌, List, map, length, take}
use Rattle.stations.specs.declared.numbers.StageNo.{StageNo}
use Rattle.stations.specs.Lists.{at}
use Rattle.stations.specs.Rule.{Rule, Rising, Below, Lawful}
use Rattle.controls.specs.declared.events.Event.{Event}
use Rattle.controls.specs.declared.events.Event.TheVariants.{Release, Completion}
use Rattle.controls.specs.declared.events.Wait.{Wait}
use Rattle.controls.specs.declared.events.Wait.TheVariants.{Call, After}
use Rattle.controls.specs.Events.{IsStage, InLine, Waits}
use Rattle.controls.specs.Lists.{latest}

-- The fresh rules of the stations of a row, by stage.
abbrev pub Row : Type 0
Row = StageNo → Rule

-- Each station of a line of N stages is lawful.
abbrev pub LawfulRow : ℕ → Row → Type 0
LawfulRow N row = (i : StageNo) → IsStage N i → Lawful (row i)

-- A row that for the same arrivals is nowhere later than another.
abbrev pub Better : ℕ → Row → Row → Type 0
Better N row old = (i : StageNo) → IsStage N i → (arrivals : List ℕ) → Rising 0 arrivals → Below (row i arrivals) (old i arrivals)

-- For each event its minutes, in part order.
abbrev pub Table : Type 0
Table = Event → List ℕ

-- The minute that a wait of part n ends.
abbrev pub wait_end : List ℕ → Table → ℕ → Wait → ℕ
wait_end calls t n Call = at calls n
wait_end calls t n (After s L) = at (t s) (n - L)

-- The known minutes of the table t are the times of the called parts: a completion is at the departure that the station's fresh
-- rule gives for the stage's releases, every other event at the latest of its waits.
pub record TimesOf
    (Known : Event → ℕ → Type 0) (N : ℕ) (waits : Event → List Wait) (row : Row) (calls : List ℕ) (t : Table) : Type 0 where
  pub sized : (e : Event) → InLine N e → length (t e) ≡ length calls
  pub waited :
      (e : Event) → InLine N e → Waits e → (n : ℕ) → 1 ≤ n → Known e n
      → at (t e) n ≡ latest (map (wait_end calls t n) (waits e))
  pub completed :
      (i : StageNo) → IsStage N i → (n : ℕ) → Known (Completion i) n
      → take n (t (Completion i)) ≡ row i (take n (t (Release i)))

-- The table t has the times of all called parts.
abbrev pub Times : ℕ → (Event → List Wait) → Row → List ℕ → Table → Type 0
Times N waits row calls t = TimesOf (λ e n. n ≤ length calls) N waits row calls t
