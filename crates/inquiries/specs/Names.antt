use Rattle.std.specs.Prelude.{ℕ, List, codes}
use Rattle.inquiries.specs.declared.names.ControlName.{ControlName}
use Rattle.inquiries.specs.declared.names.ControlName.TheVariants.{Base, Kanban, General, Extended}

-- The name of a control.
abbrev pub control_name : ControlName → List ℕ
control_name Base = codes "base"
control_name Kanban = codes "kanban"
control_name General = codes "general"
control_name Extended = codes "extended"

-- Every control has a name that its line can have.
abbrev pub AnyName : ControlName → Type 0
AnyName k = Unit {0}
