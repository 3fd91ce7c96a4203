-- The line of a stage. The text of each part is written before what follows it, x.
use Rattle.std.specs.Prelude.{◌≡◌, ℕ, List, [], ◌∷◌, ◌++◌, length, Some, None, codes, decimal, Option}
use Rattle.std.specs.List.{flat_map, AllByRecursion}
use Rattle.std.specs.Option.{option_map}
use Rattle.forms.specs.declared.stages.CoreForm.{CoreForm}
use Rattle.forms.specs.declared.stages.CoreForm.TheVariants.{Machine, Oven}
use Rattle.forms.specs.declared.stages.CoreWord.{CoreWord}
use Rattle.forms.specs.declared.stages.CoreWord.TheVariants as word
use Rattle.forms.specs.declared.stages.StageForm.{StageForm}
use Rattle.forms.specs.Forms.{Low, Word}

-- the last number of a form, and its bracket
abbrev pub one : ℕ → List ℕ → List ℕ
one a x = decimal a ++ (codes ")" ++ x)

-- the last two numbers
abbrev pub two : ℕ → ℕ → List ℕ → List ℕ
two a b x = decimal a ++ (codes " " ++ one b x)

-- the last three numbers
abbrev pub three : ℕ → ℕ → ℕ → List ℕ → List ℕ
three a b c x = decimal a ++ (codes " " ++ two b c x)

-- the last numbers, each but the first after a space
abbrev pub last_text : List ℕ → List ℕ → List ℕ
last_text [] x = codes ")" ++ x
last_text (n ∷ []) x = one n x
last_text (n ∷ (m ∷ ns)) x = decimal n ++ (codes " " ++ last_text (m ∷ ns) x)

-- so many numbers, each of at most 7 digits
abbrev pub LowEach : ℕ → List ℕ → Type 0
LowEach count ns = (length ns ≡ count) × AllByRecursion Low ns

-- numbers, each after a space
abbrev pub spaced : List ℕ → List ℕ
spaced ns = flat_map (λ n. 32 ∷ decimal n) ns

-- the word that a core begins with
abbrev pub core_word : CoreWord → List ℕ
core_word word.Machine = codes "machine"
core_word word.Oven = codes "oven"

-- a core
abbrev pub core_text : CoreForm → List ℕ → List ℕ
core_text (Machine places minutes) x = codes "(machine " ++ two places minutes x
core_text (Oven cycle places bake) x = codes "(oven " ++ three cycle places bake x

-- a core whose numbers have at most 7 digits
abbrev pub LowCore : CoreForm → Type 0
LowCore (Machine places minutes) = Low places × Low minutes
LowCore (Oven cycle places bake) = Low cycle × Low places × Low bake

-- the opening of a part that may be left out, as far as the space after its word
abbrev pub piece_text : List ℕ → List ℕ → List ℕ
piece_text name x = codes " (" ++ (name ++ (codes " " ++ x))

-- the minutes of the move, if there is one
abbrev pub travel_text : Option ℕ → List ℕ → List ℕ
travel_text None x = x
travel_text (Some t) x = codes " (move " ++ one t x

-- a move of at most 7 digits, or none
abbrev pub LowTravel : Option ℕ → Type 0
LowTravel None = Unit {0}
LowTravel (Some t) = Low t

-- no move is next
abbrev pub Moveless : List ℕ → Type 0
Moveless x = (y : List ℕ) → x ≡ codes " (move " ++ y → ⊥

-- the name of the week, if there is one
abbrev pub week_text : Option (List ℕ) → List ℕ → List ℕ
week_text None x = x
week_text (Some w) x = codes " (week " ++ (w ++ (codes ")" ++ x))

-- a week that a word names, or none
abbrev pub WordWeek : Option (List ℕ) → Type 0
WordWeek None = Unit {0}
WordWeek (Some w) = Word w

-- what a stage's line says: the name, the core, the move and the week
pub data Stage : Type 0 where
  stage_line : List ℕ → CoreForm → Option ℕ → Option (List ℕ) → Stage

-- what a stage that was read says
abbrev pub stage_said : StageForm → Stage
stage_said s = stage_line s.name.now s.core s.travel (option_map (λ x. x.now) s.week)

-- each part of the stage is one that the form has
abbrev pub StageFits : Stage → Type 0
StageFits (stage_line name core travel week) = Word name × LowCore core × LowTravel travel × WordWeek week

-- what follows the word `stage` in its line
abbrev pub stage_rest : Stage → List ℕ
stage_rest (stage_line name core travel week) = codes " " ++ (name ++ (codes " " ++ core_text core (travel_text travel (week_text week (codes ")")))))
