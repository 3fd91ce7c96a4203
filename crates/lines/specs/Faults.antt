use Rattle.std.specs.Prelude.{ℕ}
use Rattle.lines.specs.declared.faults.LineFault.{LineFault}
use Rattle.lines.specs.declared.faults.LineFault.TheVariants.{Stages, Places, Unlawful, ShortSheet}

-- The numbers of the refusals, which carry no values.
abbrev pub line_number : LineFault → ℕ
line_number Stages = 5
line_number Places = 11
line_number Unlawful = 12
line_number ShortSheet = 13
