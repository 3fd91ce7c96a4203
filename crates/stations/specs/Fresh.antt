use Rattle.std.specs.Prelude.{ℕ, [], None, Option}
use Rattle.calendar.specs.Settings.{Told, first_off}
use Rattle.calendar.specs.declared.settings.Piece.TheVariants as pieces
use Rattle.stations.specs.Pieces.{machine_settings, oven_settings}
use Rattle.stations.specs.Rule.{Meaning}
use Rattle.stations.specs.Serving.{serving, machine, oven}

-- The first setting of a machine or an oven that is off its range, if there is one, and what a fresh one means.
abbrev pub machine_refusal : ℕ → ℕ → Option Told
machine_refusal places minutes = first_off pieces.Machine 1 (machine_settings places minutes)

abbrev pub fresh_machine : ℕ → ℕ → Meaning
fresh_machine places minutes = serving places (machine minutes) [] None

abbrev pub oven_refusal : ℕ → ℕ → ℕ → Option Told
oven_refusal cycle places bake = first_off pieces.Oven 1 (oven_settings cycle places bake)

abbrev pub fresh_oven : ℕ → ℕ → ℕ → Meaning
fresh_oven cycle places bake = serving places (oven cycle bake) [] None
