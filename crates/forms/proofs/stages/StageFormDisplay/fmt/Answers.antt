use Rattle.std.proofs.Common.{append_assoc, refl}
use Rattle.std.proofs.Output.{has_written_of_eq}
use Rattle.std.proofs.lemmas.Grind.{put_two}
use Rattle.std.proofs.lemmas.List.{append-nil}
use Rattle.forms.proofs.stages.StageFormDisplay.fmt.Goals as goal
use Rattle.forms.proofs.stages.StageFormDisplay.fmt.Goals.{in-Some+in_ok-write-2, in_default}

pub returns-in_default-week-clause-writes : goal.returns-in_default-week-clause-writes
returns-in_default-week-clause-writes g c = λ plain ok.
    let named = c.in_ok-write.ensures.writes plain ok in
    elim c.match-self.branch [
      | in-Some+in_ok-write-2 w ↦
          rw (c.in_default-week.is, w.in-Some.is, w.f-is, ← c.text_of.ensures)
          (put_two _ _ _ _ _ _ _ named (w.in_ok-write-2.ensures.writes named.plain refl) (simp (append_assoc, append-nil)))
      | in_default w ↦
          rw (c.in_default-week.is, w.in_default.is, w.f-is, ← c.text_of.ensures) (has_written_of_eq _ _ _ _ _ (simp append-nil) named)
    ]
