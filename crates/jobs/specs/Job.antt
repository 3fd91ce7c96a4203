use Rattle.std.specs.Prelude.{◌≡◌, ℕ, List, [], None, Option}
use Rattle.calendar.specs.declared.shifts.Shift.{Shift}
use Rattle.forms.specs.Stages.{Stage, stage_line}
use Rattle.forms.specs.declared.stages.CoreForm.{CoreForm}
use Rattle.arrivals.specs.Lists.{ListFits, list_written, ListRefused, number}
use Rattle.arrivals.specs.declared.lines.Entry.{Entry}
use Rattle.stations.specs.Layer.{through}
use Rattle.stations.specs.Pieces.{moving, in_shifts}
use Rattle.stations.specs.Rule.{Rule}
use Rattle.jobs.specs.Make.{core_meaning, travel_minutes, make_refusal, Weekly, MakeRefused, stage_number}
use Rattle.jobs.specs.Run.{Answered}
use Rattle.jobs.specs.declared.answers.Answer.{Answer}
use Rattle.jobs.specs.declared.making.StageFault.{StageFault}
use Rattle.jobs.specs.declared.whole.JobFault.{JobFault}
use Rattle.jobs.specs.declared.whole.JobFault.TheVariants as job

-- The fresh rule of a stage's station: the move over the week over the core.
abbrev pub stage_rule : CoreForm → Option ℕ → List Shift → Rule
stage_rule core travel ss = through (moving (travel_minutes travel)) (through (in_shifts ss) (core_meaning core).fresh)

-- The entries of a list are answered by the station of its stage.
pub record Answers (core : CoreForm) (travel : Option ℕ) (week : Option (List ℕ)) (entries : List Entry) (answers : List Answer) : Type 0 where
  pub lawful : make_refusal core travel ≡ None
  pub shifts : List Shift
  pub named : Weekly week shifts
  pub answered : Answered (stage_rule core travel shifts) [] None entries answers

abbrev pub AnswersOf : Stage → List Entry → List Answer → Type 0
AnswersOf (stage_line name core travel week) entries answers = Answers core travel week entries answers

abbrev pub UnmadeOf : Stage → StageFault → Type 0
UnmadeOf (stage_line name core travel week) fault = MakeRefused core travel week fault

-- The text is an arrival list of that stage, and its entries are answered so.
pub record Done (text : List ℕ) (stage : Stage) (answers : List Answer) : Type 0 where
  pub entries : List Entry
  pub fits : ListFits (stage, entries)
  pub written : text ≡ list_written (stage, entries)
  pub answered : AnswersOf stage entries answers

-- The text is an arrival list of whose stage no station can be made.
pub record Unmade (text : List ℕ) (fault : StageFault) : Type 0 where
  pub stage : Stage
  pub entries : List Entry
  pub fits : ListFits (stage, entries)
  pub written : text ≡ list_written (stage, entries)
  pub refused : UnmadeOf stage fault

-- Why a job is not done.
abbrev pub NotDone : List ℕ → JobFault → Type 0
NotDone text (job.List fault) = ListRefused fault text
NotDone text (job.Stage fault) = Unmade text fault
NotDone text job.NoMemory = Unit {0}

-- The number of the refusal; want of memory is none, and has 0.
abbrev pub job_number : JobFault → ℕ
job_number (job.List fault) = number fault
job_number (job.Stage fault) = stage_number fault
job_number job.NoMemory = 0
