-- The lines of an arrival list, each without the byte 10 that ends it.
use Rattle.std.specs.Prelude.{ℕ, List, ◌++◌, codes, decimal}
use Rattle.forms.specs.Forms.{Low}
use Rattle.forms.specs.Stages.{Stage, stage_rest}
use Rattle.arrivals.specs.declared.lines.EntryWord.{EntryWord}
use Rattle.arrivals.specs.declared.lines.EntryWord.TheVariants as word
use Rattle.arrivals.specs.declared.lines.Entry.{Entry}
use Rattle.arrivals.specs.declared.lines.Entry.TheVariants.{Arrive, Fresh}

-- the word that an entry begins with
abbrev pub entry_word : EntryWord → List ℕ
entry_word word.Arrive = codes "arrive"
entry_word word.Fresh = codes "fresh"

-- the line of a stage
abbrev pub stage_written : Stage → List ℕ
stage_written d = codes "(stage" ++ stage_rest d

-- the line of an entry
abbrev pub entry_written : Entry → List ℕ
entry_written (Arrive minute) = codes "(arrive " ++ (decimal minute ++ codes ")")
entry_written Fresh = codes "(fresh)"

-- an entry whose minute has at most 7 digits
abbrev pub EntryFits : Entry → Type 0
EntryFits (Arrive minute) = Low minute
EntryFits Fresh = Unit {0}
