-- No byte of a stage's or an entry's line ends it, so that a line is read with its end as it is read alone.
use Rattle.std.proofs.Common.{ℕ, ◌<◌, List, [], ◌∷◌, ◌++◌, Some, None, codes, decimal, Option, ap, ◌∙◌, arith, rules}
use Rattle.std.specs.Int.{IsInRange}
use Rattle.std.specs.List.{AllByRecursion}
use Rattle.std.proofs.lemmas.Fmt.{digits_decimal}
use Rattle.std.proofs.ByRecursion.{All-get_or, All-from_get_or, All-append, All-weaker}
use Rattle.forms.proofs.Read.{own}
use Rattle.forms.specs.Forms.{Low, Word, Endless, Lined, OnlyLine, Lineless}
use Rattle.forms.specs.Reading.{Says, SaysNothing, Reading, Unread}
use Rattle.forms.specs.Stages.{Stage, stage_line, StageFits, one, two, three, core_text, LowCore, travel_text, LowTravel, week_text, WordWeek}
use Rattle.forms.specs.declared.stages.CoreForm.{CoreForm}
use Rattle.forms.specs.declared.stages.CoreForm.TheVariants.{Machine, Oven}
use Rattle.arrivals.specs.declared.lines.Entry.{Entry}
use Rattle.arrivals.specs.declared.lines.Entry.TheVariants.{Arrive, Fresh}
use Rattle.arrivals.specs.Lines.{stage_written, entry_written, EntryFits}

-- each byte is above the one that ends a line
abbrev pub Above : List ℕ → Type 0
Above l = AllByRecursion (λ b. 10 < b) l

endless : (l : List ℕ) → Above l → Endless l
endless l h k m is = omega (arith, All-get_or (λ b. 10 < b) l k 0 m h)

join : (l x : List ℕ) → Above l → Above x → Above (l ++ x)
join l x h k = All-append (λ b. 10 < b) l x h k

decimal_above : (n : ℕ) → Low n → Above (decimal n)
decimal_above n low =
    All-from_get_or (λ b. 10 < b) (decimal n) 0 (λ i l. omega (arith, (digits_decimal own n (omega (arith, low)) i l).0))

word_above : (w : List ℕ) → Word w → Above w
word_above w h = All-weaker (IsInRange 97 122) (λ b. 10 < b) (λ b i. omega (arith, i.0)) w h.2

one_above : (a : ℕ) (x : List ℕ) → Low a → Above x → Above (one a x)
one_above a x l h = join (decimal a) (codes ")" ++ x) (decimal_above a l) (omega arith, h)

two_above : (a b : ℕ) (x : List ℕ) → Low a → Low b → Above x → Above (two a b x)
two_above a b x l m h = join (decimal a) (codes " " ++ one b x) (decimal_above a l) (omega arith, one_above b x m h)

three_above : (a b c : ℕ) (x : List ℕ) → Low a → Low b → Low c → Above x → Above (three a b c x)
three_above a b c x l m n h = join (decimal a) (codes " " ++ two b c x) (decimal_above a l) (omega arith, two_above b c x m n h)

core_above : (k : CoreForm) (x : List ℕ) → LowCore k → Above x → Above (core_text k x)
core_above (Machine k p) x l h = join (codes "(machine ") (two k p x) (search rules) (two_above k p x l.0 l.1 h)
core_above (Oven t b p) x l h = join (codes "(oven ") (three t b p x) (search rules) (three_above t b p x l.0 l.1 l.2 h)

travel_above : (t : Option ℕ) (x : List ℕ) → LowTravel t → Above x → Above (travel_text t x)
travel_above None x l h = h
travel_above (Some t) x l h = join (codes " (move ") (one t x) (search rules) (one_above t x l h)

week_above : (w : Option (List ℕ)) (x : List ℕ) → WordWeek w → Above x → Above (week_text w x)
week_above None x l h = h
week_above (Some w) x l h = join (codes " (week ") (w ++ (codes ")" ++ x)) (search rules) (join w (codes ")" ++ x) (word_above w l) (omega arith, h))

stage_above : (d : Stage) → StageFits d → Above (stage_written d)
stage_above (stage_line name core travel week) f =
    let w : Above (week_text week (codes ")")) = week_above week (codes ")") f.3 (search rules) in
    let t : Above (travel_text travel (week_text week (codes ")"))) = travel_above travel _ f.2 w in
    let k : Above (core_text core (travel_text travel (week_text week (codes ")")))) = core_above core _ f.1 t in
    join (codes "(stage ") _ (search rules) (join name _ (word_above name f.0) (omega arith, k))

entry_above : (e : Entry) → EntryFits e → Above (entry_written e)
entry_above (Arrive m) f = join (codes "(arrive ") (one m []) (search rules) (one_above m [] f tt)
entry_above Fresh f = search rules

pub stage_endless : (d : Stage) → StageFits d → Endless (stage_written d)
stage_endless d f = endless (stage_written d) (stage_above d f)

pub entry_endless : (e : Entry) → EntryFits e → Endless (entry_written e)
entry_endless e f = endless (entry_written e) (entry_above e f)

-- a value whose text is a line, read with the end of the line
pub line_says : {A : Type 0} (Fit : A → Type 0) (W : A → List ℕ) → ((a : A) → Fit a → Endless (W a)) → {l rest text : List ℕ} {a : A}
    → Lined l rest text → OnlyLine l rest text → Says Fit W l a → Reading Fit (λ a x. W a ++ (10 ∷ x)) text rest a
line_says Fit W plain {l} {rest} {text} {a} h only s = (
  s.0,
  h.1 ∙ ap (λ (z : List ℕ). z ++ (10 ∷ rest)) s.1,
  λ b x f is. let o = only (W b) x (plain b f, is) in (s.2 b f o.0, o.1),
)

-- no value's text is that line
pub line_says_none : {A : Type 0} (Fit : A → Type 0) (W : A → List ℕ) → ((a : A) → Fit a → Endless (W a)) → {l rest text : List ℕ}
    → OnlyLine l rest text → SaysNothing Fit W l → Unread Fit (λ a x. W a ++ (10 ∷ x)) text
line_says_none Fit W plain only out b x f is = out b f (only (W b) x (plain b f, is)).0

-- no line is ended
pub lineless_none : {A : Type 0} (Fit : A → Type 0) (W : A → List ℕ) → ((a : A) → Fit a → Endless (W a)) → {text : List ℕ}
    → Lineless text → Unread Fit (λ a x. W a ++ (10 ∷ x)) text
lineless_none Fit W plain out b x f is = out (W b) x (plain b f, is)
