use Rattle.std.specs.Prelude.{ℕ, List, ◌++◌, codes, decimal}
use Rattle.calendar.specs.Settings.{told, setting_line}
use Rattle.arrivals.specs.Messages.{list_fault_line}
use Rattle.stations.specs.Load.{number, load_reason}
use Rattle.jobs.specs.declared.answers.Answer.{Answer}
use Rattle.jobs.specs.declared.answers.Answer.TheVariants.{Leaves, Refused, Freshened}
use Rattle.jobs.specs.declared.making.StageFault.{StageFault}
use Rattle.jobs.specs.declared.making.StageFault.TheVariants.{UnknownWeek, Setting}
use Rattle.jobs.specs.declared.whole.JobFault.{JobFault}
use Rattle.jobs.specs.declared.whole.JobFault.TheVariants as job

-- The line that tells an answer.
abbrev pub answer_line : Answer → List ℕ
answer_line (Leaves arrival departure) = codes "arrival " ++ (decimal arrival ++ (codes " leaves at " ++ decimal departure))
answer_line (Refused arrival fault) =
    codes "arrival " ++ (decimal arrival ++ (codes " refused " ++ (decimal (number fault) ++ (codes ": " ++ load_reason fault))))
answer_line Freshened = codes "fresh"

-- The line that tells why no station can be made.
abbrev pub stage_fault_line : StageFault → List ℕ
stage_fault_line UnknownWeek = codes "line 1 refused 16: unknown week"
stage_fault_line (Setting fault) = codes "line 1 refused " ++ (decimal (told fault).number ++ (codes ": " ++ setting_line fault))

-- The line that tells why a job is not done.
abbrev pub fault_line : JobFault → List ℕ
fault_line (job.List fault) = list_fault_line fault
fault_line (job.Stage fault) = stage_fault_line fault
fault_line job.NoMemory = codes "out of memory"
