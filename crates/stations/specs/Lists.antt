use Rattle.std.specs.Prelude.{ℕ, zero, suc, List, slice_index}

-- The minute of part n in a list in part order. Parts count from 1; a part before the first has 0.
abbrev pub at : List ℕ → ℕ → ℕ
at xs zero = 0
at xs (suc n) = slice_index xs n
