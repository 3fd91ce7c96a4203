-- A stage in plain words.
use Rattle.std.specs.Prelude.{ℕ, List, [], ◌++◌, Some, None, codes, decimal, Option, if◌then◌else◌}
use Rattle.std.specs.Str.{is_utf8}
use Rattle.forms.specs.declared.stages.CoreForm.{CoreForm}
use Rattle.forms.specs.declared.stages.CoreForm.TheVariants.{Machine, Oven}
use Rattle.forms.specs.declared.stages.StageForm.{StageForm}
use Rattle.std.specs.Option.{option_map}

-- the bytes as text, or none where they are no text
abbrev pub text_of : List ℕ → List ℕ
text_of bytes = if is_utf8 bytes then bytes else []

-- the core of a station
abbrev pub core_line : CoreForm → List ℕ
core_line (Machine places minutes) =
    codes "machine of " ++ (decimal places ++ (codes " places, " ++ (decimal minutes ++ codes " minutes")))
core_line (Oven cycle places bake) =
    codes "oven of "
    ++ (decimal places ++ (codes " places, cycle " ++ (decimal cycle ++ (codes ", bake " ++ decimal bake))))

-- the minutes of the move, if there is one
abbrev pub travel_shown : Option ℕ → List ℕ
travel_shown None = []
travel_shown (Some minutes) = codes ", move " ++ decimal minutes

-- the name of the week, if there is one
abbrev pub week_shown : Option (List ℕ) → List ℕ
week_shown None = []
week_shown (Some name) = codes ", week " ++ text_of name

-- what a station is made of
abbrev pub stage_shown : StageForm → List ℕ
stage_shown s =
    codes "station "
    ++ (text_of s.name.now
    ++ (codes ": " ++ (core_line s.core ++ (travel_shown s.travel ++ week_shown (option_map (λ x. x.now) s.week)))))
