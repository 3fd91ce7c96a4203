use Rattle.std.specs.Prelude.{◌≡◌, ℕ, List, Some, None, Option, ◌≢◌}
use Rattle.std.specs.Option.{option_or, unwrap_or}
use Rattle.calendar.specs.House.{house_name, house_shifts}
use Rattle.calendar.specs.Settings.{Told, told, first_off}
use Rattle.calendar.specs.WeekOf.{all_week}
use Rattle.calendar.specs.declared.house.HouseWeek.{HouseWeek}
use Rattle.calendar.specs.declared.settings.Piece.TheVariants as pieces
use Rattle.calendar.specs.declared.shifts.Shift.{Shift}
use Rattle.forms.specs.declared.stages.CoreForm.{CoreForm}
use Rattle.forms.specs.declared.stages.CoreForm.TheVariants.{Machine, Oven}
use Rattle.stations.specs.Fresh.{machine_refusal, fresh_machine, oven_refusal, fresh_oven}
use Rattle.stations.specs.Layer.{layered}
use Rattle.stations.specs.Pieces.{move_settings, moving, in_shifts}
use Rattle.stations.specs.Rule.{Meaning, freshened}
use Rattle.jobs.specs.declared.making.StageFault.{StageFault}
use Rattle.jobs.specs.declared.making.StageFault.TheVariants.{UnknownWeek, Setting}

-- The setting at fault of a core, if there is one, and what the core means when it is made.
abbrev pub core_refusal : CoreForm → Option Told
core_refusal (Machine places minutes) = machine_refusal places minutes
core_refusal (Oven cycle places bake) = oven_refusal cycle places bake

abbrev pub core_meaning : CoreForm → Meaning
core_meaning (Machine places minutes) = fresh_machine places minutes
core_meaning (Oven cycle places bake) = fresh_oven cycle places bake

-- A stage without a move has a way of no minutes.
abbrev pub travel_minutes : Option ℕ → ℕ
travel_minutes travel = unwrap_or travel 0

-- The first setting at fault of a stage: those of the core stand first.
abbrev pub make_refusal : CoreForm → Option ℕ → Option Told
make_refusal core travel = option_or (core_refusal core) (first_off pieces.Move 1 (move_settings (travel_minutes travel)))

-- The shifts of the week that a stage names. A stage that names none is always open.
abbrev pub Weekly : Option (List ℕ) → List Shift → Type 0
Weekly None ss = ss ≡ all_week
Weekly (Some name) ss = (k : HouseWeek) × ((name ≡ house_name k) × (ss ≡ house_shifts k))

-- The name is none of a house week.
abbrev pub Unnamed : Option (List ℕ) → Type 0
Unnamed None = ⊥
Unnamed (Some name) = (k : HouseWeek) → name ≢ house_name k

-- The settings are lawful, and the station means a fresh move over a week that the stage names over its core.
abbrev pub Made : CoreForm → Option ℕ → Option (List ℕ) → Meaning → Type 0
Made core travel week m =
    (make_refusal core travel ≡ None)
    × ((ss : List Shift)
    × (Weekly week ss
    × (m ≡ freshened (layered (moving (travel_minutes travel)) None (layered (in_shifts ss) None (core_meaning core))))))

-- Refusal 16 is an unknown word; a setting's fault has the setting's number.
abbrev pub stage_number : StageFault → ℕ
stage_number UnknownWeek = 16
stage_number (Setting fault) = (told fault).number

-- Why no station is made: the week's name is tried first, then the settings as they stand.
abbrev pub MakeRefused : CoreForm → Option ℕ → Option (List ℕ) → StageFault → Type 0
MakeRefused core travel week UnknownWeek = Unnamed week
MakeRefused core travel week (Setting fault) = (Unnamed week → ⊥) × (make_refusal core travel ≡ Some (told fault))
