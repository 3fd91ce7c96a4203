-- The three lines of an inquiry. The text of each is written before what follows it, x.
use Rattle.std.specs.Prelude.{◌≡◌, ℕ, zero, suc, ◌<◌, ◌≤◌, List, [], ◌++◌, length, take, codes, decimal, ◌≢◌}
use Rattle.std.specs.List.{AllByRecursion}
use Rattle.forms.specs.Forms.{Low}
use Rattle.forms.specs.Reading.{Unread}
use Rattle.forms.specs.Stages.{spaced}
use Rattle.forms.specs.Faults.{form_reason}
use Rattle.inquiries.specs.Names.{control_name, AnyName}
use Rattle.inquiries.specs.declared.names.ControlName.{ControlName}
use Rattle.inquiries.specs.declared.counts.Counts.{Counts}
use Rattle.inquiries.specs.declared.reading.Inquiry.{Inquiry}
use Rattle.inquiries.specs.declared.reading.InquiryFault.{InquiryFault}

-- the line of the control
abbrev pub control_text : ControlName → List ℕ → List ℕ
control_text k x = codes "(control " ++ (control_name k ++ (codes ")\n" ++ x))

-- the line of the number of stages
abbrev pub stages_text : ℕ → List ℕ → List ℕ
stages_text n x = codes "(stages " ++ (decimal n ++ (codes ")\n" ++ x))

-- the line of the counts
abbrev pub cards_text : List ℕ → List ℕ → List ℕ
cards_text ns x = codes "(cards" ++ (spaced ns ++ (codes ")\n" ++ x))

-- 1 to 16 counts of at most 7 digits each
abbrev pub CountsFit : List ℕ → Type 0
CountsFit ns = AllByRecursion Low ns × (0 < length ns) × (length ns ≤ 16)

-- the counts that were read
abbrev pub counts_of : Counts → List ℕ
counts_of c = take c.count c.values

-- what an inquiry says: the control, the number of stages and the counts
pub data Asked : Type 0 where
  asked : ControlName → ℕ → List ℕ → Asked

abbrev pub inquiry_said : Inquiry → Asked
inquiry_said i = asked i.control i.stages (counts_of i.counts)

abbrev pub InquiryFits : Asked → Type 0
InquiryFits (asked k n ns) = Low n × CountsFit ns

-- its text
abbrev pub inquiry_written : Asked → List ℕ
inquiry_written (asked k n ns) = control_text k (stages_text n (cards_text ns []))

-- the lines of `text` before line n are of their forms, and line n is not; after the third nothing may follow
abbrev pub Stopped : ℕ → List ℕ → Type 0
Stopped zero text = ⊥
Stopped (suc zero) text = Unread AnyName control_text text
Stopped (suc (suc zero)) text = (k : ControlName) × ((x : List ℕ) × ((text ≡ control_text k x) × Unread Low stages_text x))
Stopped (suc (suc (suc zero))) text =
    (k : ControlName) × ((n : ℕ) × ((x : List ℕ) × ((text ≡ control_text k (stages_text n x)) × Unread CountsFit cards_text x)))
Stopped (suc (suc (suc (suc zero)))) text =
    (k : ControlName) × ((n : ℕ) × ((ns : List ℕ) × ((x : List ℕ) × ((text ≡ control_text k (stages_text n (cards_text ns x))) × (x ≢ [])))))
Stopped (suc (suc (suc (suc (suc n))))) text = ⊥

-- the line that tells why a text is no inquiry
abbrev pub inquiry_fault_line : InquiryFault → List ℕ
inquiry_fault_line e = codes "line " ++ (decimal e.line ++ (codes " refused 16: " ++ form_reason e.fault))
