use Rattle.std.specs.Prelude.{◌≡◌, ℕ, ◌≤◌, true, List, ◌++◌, length, take}
use Rattle.stations.specs.Lists.{at}
use Rattle.stations.specs.Rule.{Rising, Below}
use Rattle.controls.specs.declared.events.Event.{Event}
use Rattle.controls.specs.Events.{InLine}
use Rattle.controls.specs.Control.{Meaning, Fits, Rise}
use Rattle.controls.specs.Times.{Row, LawfulRow, Better, Table, Times}

-- A line of N stages with lawful counts K, lawful stations, and calls in order and on the clock.
pub record Setting (C : Meaning) (N : ℕ) (K : List ℕ) (row : Row) (calls : List ℕ) : Type 0 where
  pub fits : Fits C N K
  pub lawful : C.lawful N K ≡ true
  pub row_lawful : LawfulRow N row
  pub calls_lawful : Rising 0 calls

-- With counts nowhere fewer, a row nowhere later and calls no later up to part m, no event is later up to part m.
abbrev pub Compared : Meaning → Type 0
Compared C =
    (N : ℕ) (K L : List ℕ) (row old : Row) (calls late : List ℕ) (t u : Table) → Rise K L → Better N row old
    → Setting C N K old late → Setting C N L row calls
    → (m : ℕ) → m ≤ length calls → m ≤ length late → ((n : ℕ) → n ≤ m → at calls n ≤ at late n)
    → Times N (C.waits N L) row calls t → Times N (C.waits N K) old late u
    → (e : Event) (n : ℕ) → InLine N e → n ≤ m → at (t e) n ≤ at (u e) n

-- With more cards no event is later.
abbrev pub MoreCards : Meaning → Type 0
MoreCards C =
    (N : ℕ) (K L : List ℕ) (row : Row) (calls : List ℕ) (t u : Table) → Rise K L → Setting C N K row calls
    → Times N (C.waits N L) row calls t → Times N (C.waits N K) row calls u
    → (e : Event) → InLine N e → Below (t e) (u e)

-- Lawful counts have times.
abbrev pub Exist : Meaning → Type 0
Exist C =
    (N : ℕ) (K : List ℕ) (row : Row) (calls : List ℕ) → Setting C N K row calls → (t : Table) × Times N (C.waits N K) row calls t

-- And only one table has them.
abbrev pub Unique : Meaning → Type 0
Unique C =
    (N : ℕ) (K : List ℕ) (row : Row) (calls : List ℕ) (t u : Table) → Setting C N K row calls
    → Times N (C.waits N K) row calls t → Times N (C.waits N K) row calls u
    → (e : Event) → InLine N e → t e ≡ u e

-- Calls added at the end change no time of the parts before.
abbrev pub AddedAtEnd : Meaning → Type 0
AddedAtEnd C =
    (N : ℕ) (K : List ℕ) (row : Row) (calls added : List ℕ) (t u : Table) → Setting C N K row calls → Rising 0 (calls ++ added)
    → Times N (C.waits N K) row calls t → Times N (C.waits N K) row (calls ++ added) u
    → (e : Event) → InLine N e → t e ≡ take (length calls) (u e)

-- With a row nowhere later no event is later.
abbrev pub BetterRow : Meaning → Type 0
BetterRow C =
    (N : ℕ) (K : List ℕ) (row old : Row) (calls : List ℕ) (t u : Table) → Setting C N K old calls → LawfulRow N row
    → Better N row old → Times N (C.waits N K) row calls t → Times N (C.waits N K) old calls u
    → (e : Event) → InLine N e → Below (t e) (u e)
