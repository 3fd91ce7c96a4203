use Rattle.std.specs.Prelude.{ℕ, List, ◌++◌, codes, decimal}
use Rattle.forms.specs.Faults.{form_reason}
use Rattle.arrivals.specs.declared.lists.LineFault.{LineFault}
use Rattle.arrivals.specs.declared.lists.LineFault.TheVariants.{NoStage, Unended, Form}
use Rattle.arrivals.specs.declared.lists.ListFault.{ListFault}
use Rattle.arrivals.specs.declared.lists.ListFault.TheVariants as list

-- Why a line is none of an arrival list, in words.
abbrev pub line_reason : LineFault → List ℕ
line_reason NoStage = codes "no stage"
line_reason Unended = codes "no end of line"
line_reason (Form fault) = form_reason fault

-- The line that tells why a text is no arrival list.
abbrev pub list_fault_line : ListFault → List ℕ
list_fault_line list.TooLong = codes "refused 15: over 16384 bytes"
list_fault_line (list.Line n fault) = codes "line " ++ (decimal n ++ (codes " refused 16: " ++ line_reason fault))
list_fault_line list.NoMemory = codes "out of memory"
