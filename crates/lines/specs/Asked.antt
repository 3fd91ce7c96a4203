use Rattle.std.specs.Prelude.{◌≡◌, ℕ, ◌≤◌, List, [], length, Option, slice_index_or}
use Rattle.controls.specs.declared.events.Event.{Event}
use Rattle.controls.specs.declared.events.Wait.{Wait}
use Rattle.controls.specs.Events.{InLine}
use Rattle.controls.specs.Lists.{somes}
use Rattle.lines.specs.Sheet.{row_of}

-- The waits of an event by a list that has, for each row of the sheet, those that a control told.
abbrev pub asked : ℕ → List (List (Option Wait)) → Event → List Wait
asked N told e = somes (slice_index_or told (row_of N e) [])

-- The list has the waits of each event of the line.
pub record Tells (N : ℕ) (waits : Event → List Wait) (told : List (List (Option Wait))) : Type 0 where
  pub all : (e : Event) → InLine N e → asked N told e ≡ waits e
  pub few : (row : ℕ) → length (slice_index_or told row []) ≤ 3
