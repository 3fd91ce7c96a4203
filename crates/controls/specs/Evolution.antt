use Rattle.std.specs.Prelude.{◌≡◌, ℕ, zero, suc, ◌+◌, ◌-◌, ◌<◌, ◌≤◌, max, List, length}
use Rattle.stations.specs.Lists.{at}
use Rattle.controls.specs.declared.events.Event.TheVariants.{Pass, Release, Completion, Delivery}
use Rattle.controls.specs.Control.{Meaning}
use Rattle.controls.specs.Stages.{stage}
use Rattle.controls.specs.Times.{Row, Table, Times}
use Rattle.controls.specs.Base.{base}
use Rattle.controls.specs.Kanban.{kanban}
use Rattle.controls.specs.General.{general}
use Rattle.controls.specs.Extended.{extended}

-- When part n can be taken from the stock before stage i: at completion i − 1 of the part S(i − 1) earlier. Before stage 1 the raw
-- part is there at 0.
abbrev pub supplied : List ℕ → Table → ℕ → ℕ → ℕ
supplied K t zero n = 0
supplied K t (suc zero) n = 0
supplied K t (suc (suc p)) n = at (t (Completion (stage (suc p)))) (n - at K (suc p))

-- The part is handed out at the later of its call and completion N of the part S(N) earlier.
abbrev pub Delivers : ℕ → List ℕ → List ℕ → Table → ℕ → Type 0
Delivers N K calls t n = at (t Delivery) n ≡ max (at calls n) (at (t (Completion (stage N))) (n - at K N))

-- The call reaches every stage at once.
abbrev pub PassesAtCall : ℕ → List ℕ → Table → ℕ → Type 0
PassesAtCall N calls t n = (i : ℕ) → 1 ≤ i → i ≤ N → at (t (Pass (stage i))) n ≡ at calls n

-- Base stock: a stage is given part n at its call, or when it is supplied, if that is later.
pub record BaseEquations (N : ℕ) (K calls : List ℕ) (t : Table) (n : ℕ) : Type 0 where
  pub pass : PassesAtCall N calls t n
  pub release : (i : ℕ) → 1 ≤ i → i ≤ N → at (t (Release (stage i))) n ≡ max (at calls n) (supplied K t i n)
  pub delivery : Delivers N K calls t n

-- Kanban: a stage is given part n when the next one is given it, the last one when it is delivered, or when it is supplied, if that
-- is later.
pub record KanbanEquations (N : ℕ) (K calls : List ℕ) (t : Table) (n : ℕ) : Type 0 where
  pub pass : PassesAtCall N calls t n
  pub release :
      (i : ℕ) → 1 ≤ i → i < N → at (t (Release (stage i))) n ≡ max (at (t (Release (stage (i + 1)))) n) (supplied K t i n)
  pub last_release : 1 ≤ N → at (t (Release (stage N))) n ≡ max (at (t Delivery) n) (supplied K t N n)
  pub delivery : Delivers N K calls t n

-- Generalized kanban: the call for part n is passed to stage i when it is passed to the next one, to the last one at the call, or
-- at completion i of the part K(i) earlier, if that is later. The stage is given the part then, or when it is supplied, if that is
-- later.
pub record GeneralEquations (N : ℕ) (K calls : List ℕ) (t : Table) (n : ℕ) : Type 0 where
  pub pass :
      (i : ℕ) → 1 ≤ i → i < N
      → at (t (Pass (stage i))) n ≡ max (at (t (Pass (stage (i + 1)))) n) (at (t (Completion (stage i))) (n - at K (N + i)))
  pub last_pass : 1 ≤ N → at (t (Pass (stage N))) n ≡ max (at calls n) (at (t (Completion (stage N))) (n - at K (N + N)))
  pub release : (i : ℕ) → 1 ≤ i → i ≤ N → at (t (Release (stage i))) n ≡ max (at (t (Pass (stage i))) n) (supplied K t i n)
  pub delivery : Delivers N K calls t n

-- Extended kanban: a stage is given part n at the latest of its call, when the next stage is given the part F(i) earlier, the last
-- one when that part is delivered, and when it is supplied.
pub record ExtendedEquations (N : ℕ) (K calls : List ℕ) (t : Table) (n : ℕ) : Type 0 where
  pub pass : PassesAtCall N calls t n
  pub release :
      (i : ℕ) → 1 ≤ i → i < N
      → at (t (Release (stage i))) n ≡ max (at calls n) (max (at (t (Release (stage (i + 1)))) (n - at K (N + i))) (supplied K t i n))
  pub last_release :
      1 ≤ N → at (t (Release (stage N))) n ≡ max (at calls n) (max (at (t Delivery) (n - at K (N + N))) (supplied K t N n))
  pub delivery : Delivers N K calls t n

-- The equations hold of every table of times under the control, at every part.
abbrev pub Evolves : Meaning → (ℕ → List ℕ → List ℕ → Table → ℕ → Type 0) → Type 0
Evolves C Equations =
    (N : ℕ) (K : List ℕ) (row : Row) (calls : List ℕ) (t : Table) → Times N (C.waits N K) row calls t
    → (n : ℕ) → 1 ≤ n → n ≤ length calls → Equations N K calls t n

abbrev pub BaseEvolves : Type 0
BaseEvolves = Evolves base BaseEquations

abbrev pub KanbanEvolves : Type 0
KanbanEvolves = Evolves kanban KanbanEquations

abbrev pub GeneralEvolves : Type 0
GeneralEvolves = Evolves general GeneralEquations

abbrev pub ExtendedEvolves : Type 0
ExtendedEvolves = Evolves extended ExtendedEquations
