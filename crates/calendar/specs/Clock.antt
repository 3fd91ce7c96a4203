use Rattle.std.specs.Prelude.{ℕ, min}

-- The last minute of the clock.
abbrev pub E : ℕ
E = 1000000

-- A time that works out above the end of the clock is the end.
abbrev pub cut : ℕ → ℕ
cut t = min t E
