-- An arrival list: lines that the byte 10 ends, of which the first is a stage's and each other one an entry's.
use Rattle.std.specs.Prelude.{◌≡◌, ℕ, ◌+◌, ◌<◌, ◌≤◌, ◌⊎◌, List, [], ◌∷◌, ◌++◌, length, vec_items}
use Rattle.std.specs.List.{AllByRecursion}
use Rattle.forms.specs.Forms.{Lineless}
use Rattle.forms.specs.Reading.{Unread, SaysNothing}
use Rattle.forms.specs.Stages.{Stage, StageFits, stage_said}
use Rattle.arrivals.specs.declared.lines.Entry.{Entry}
use Rattle.arrivals.specs.declared.lists.ArrivalList.{ArrivalList}
use Rattle.arrivals.specs.declared.lists.LineFault.{LineFault}
use Rattle.arrivals.specs.declared.lists.LineFault.TheVariants.{NoStage, Unended, Form}
use Rattle.arrivals.specs.declared.lists.ListFault.{ListFault}
use Rattle.arrivals.specs.declared.lists.ListFault.TheVariants.{TooLong, Line, NoMemory}
use Rattle.arrivals.specs.Lines.{stage_written, entry_written, EntryFits}

-- the line of a stage and its end, before what follows it, x
abbrev pub stage_ended : Stage → List ℕ → List ℕ
stage_ended d x = stage_written d ++ (10 ∷ x)

-- the line of an entry and its end, before x
abbrev pub entry_ended : Entry → List ℕ → List ℕ
entry_ended e x = entry_written e ++ (10 ∷ x)

-- the lines of the entries, before x
abbrev pub entries_ended : List Entry → List ℕ → List ℕ
entries_ended [] x = x
entries_ended (e ∷ es) x = entry_ended e (entries_ended es x)

-- the text of the entries alone
abbrev pub entries_written : List Entry → List ℕ
entries_written es = entries_ended es []

-- the text of a list: its stage, and its entries
abbrev pub list_written : Stage × List Entry → List ℕ
list_written p = stage_ended p.0 (entries_written p.1)

-- the stage and each entry are ones that their forms have
abbrev pub ListFits : Stage × List Entry → Type 0
ListFits p = StageFits p.0 × AllByRecursion EntryFits p.1

-- what a list that was read says
abbrev pub list_said : ArrivalList → Stage × List Entry
list_said a = (stage_said a.stage, vec_items a.entries)

-- a text of a list has at most this many bytes
abbrev pub most_bytes : ℕ
most_bytes = 16384

-- what a line's fault says of the text from that line on
abbrev pub Shown : LineFault → List ℕ → Type 0
Shown NoStage text = text ≡ []
Shown Unended text = (0 < length text) × Lineless text
Shown (Form f) text = Lineless text → ⊥

-- `text` begins with lines of entries, and line n, which follows, is none: the lines are numbered from 2
pub record BadEntry (n : ℕ) (fault : LineFault) (text : List ℕ) : Type 0 where
  pub before : List Entry
  pub rest : List ℕ
  pub fit : AllByRecursion EntryFits before
  pub place : n ≡ length before + 2
  pub is : text ≡ entries_ended before rest
  pub unread : Unread EntryFits entry_ended rest
  pub shown : Shown fault rest

-- `text` begins with a stage's line, and one of the lines of entries is the first that is none
pub record BadEntries (n : ℕ) (fault : LineFault) (text : List ℕ) : Type 0 where
  pub stage : Stage
  pub rest : List ℕ
  pub fits : StageFits stage
  pub is : text ≡ stage_ended stage rest
  pub bad : BadEntry n fault rest

-- line n of `text` is the first that is not of its form
abbrev pub FirstBad : ℕ → LineFault → List ℕ → Type 0
FirstBad n fault text = ((n ≡ 1) × Unread StageFits stage_ended text × Shown fault text) ⊎ BadEntries n fault text

-- what the fault says of the text of the entries
abbrev pub EntriesRefused : ListFault → List ℕ → Type 0
EntriesRefused TooLong text = ⊥
EntriesRefused (Line n fault) text = SaysNothing (AllByRecursion EntryFits) entries_written text × BadEntry n fault text
EntriesRefused NoMemory text = Unit {0}

-- what the fault says of the text of a list
abbrev pub ListRefused : ListFault → List ℕ → Type 0
ListRefused TooLong text = most_bytes < length text
ListRefused (Line n fault) text = (length text ≤ most_bytes) × SaysNothing ListFits list_written text × FirstBad n fault text
ListRefused NoMemory text = Unit {0}

-- the number of a fault
abbrev pub number : ListFault → ℕ
number TooLong = 15
number (Line n fault) = 16
number NoMemory = 0
