use Rattle.std.specs.Prelude.{◌≡◌, ℕ, List, Ok, Err, Result}
use Rattle.stations.specs.Rule.{Meaning}
use Rattle.stations.specs.Load.{number}
use Rattle.rows.specs.Row.{LoadedAt, Absent}
use Rattle.stations.specs.declared.numbers.StageNo.{StageNo}
use Rattle.rows.specs.declared.loading.RowFault.{RowFault}
use Rattle.rows.specs.declared.loading.RowFault.TheVariants.{NoStation, Refused}

-- Refusal 5 is that there is no such station; a station's refusal has the station's number. Both carry the number of the station
-- in the row, and a station's refusal the station's own fault whole.
abbrev pub row_number : RowFault → ℕ
row_number (NoStation k) = 5
row_number (Refused k f) = number f

-- What a load of station n answers, and what it makes of a row that means ms. That there is no such station is tried first and
-- changes nothing; else the station answers or refuses, and no other is touched.
abbrev pub RowLoaded : List Meaning → StageNo → ℕ → Result ℕ RowFault → List Meaning → Type 0
RowLoaded ms n a (Ok d) ms' = LoadedAt ms n.0 a (Ok d) ms'
RowLoaded ms n a (Err (NoStation k)) ms' = (k ≡ n) × Absent ms n.0 × (ms' ≡ ms)
RowLoaded ms n a (Err (Refused k f)) ms' = (k ≡ n) × LoadedAt ms n.0 a (Err f) ms'

-- The same fault under the number n.
abbrev pub numbered : StageNo → RowFault → RowFault
numbered n (NoStation k) = NoStation n
numbered n (Refused k f) = Refused n f
