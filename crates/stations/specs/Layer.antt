use Rattle.std.specs.Prelude.{◌≡◌, ℕ, ◌<◌, ◌≤◌, ◌||◌, ◌⊎◌, map, Option}
use Rattle.calendar.specs.Clock.{E}
use Rattle.stations.specs.Rule.{Rule, Meaning, before}

-- How a layer passes an arrival down and a departure up.
pub record Pass : Type 0 where
  pub down : ℕ → ℕ
  pub up : ℕ → ℕ

-- What makes a layer over a lawful station lawful: both ways keep the order and stay on the clock, what leaves below after
-- its arrival there comes up after its arrival here or at the end, and the end comes up as the end.
pub record Layer (p : Pass) : Type 0 where
  pub down_rises : (a b : ℕ) → a ≤ b → p.down a ≤ p.down b
  pub down_in : (a : ℕ) → a ≤ E → p.down a ≤ E
  pub up_rises : (a b : ℕ) → a ≤ b → p.up a ≤ p.up b
  pub up_in : (d : ℕ) → d ≤ E → p.up d ≤ E
  pub later : (a d : ℕ) → a ≤ E → p.down a < d → (a < p.up d) ⊎ (p.up d ≡ E)
  pub end : p.up E ≡ E

-- A rule through a layer.
abbrev pub through : Pass → Rule → Rule
through p rule arrivals = map p.up (rule (map p.down arrivals))

-- What a layer means over a station that means m, where last is the layer's own last arrival. It refuses as early what comes
-- before that, and what the station below refuses; after a load they are the same.
abbrev pub layered : Pass → Option ℕ → Meaning → Meaning
layered p last m =
    record {
      rule = through p m.rule;
      fresh = through p m.fresh;
      early = λ a. before last a || m.early (p.down a);
    }
