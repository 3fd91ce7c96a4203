-- What is kept from entry to entry of a job.
use Rattle.std.proofs.Common.{◌≡◌, ℕ, zero, suc, ◌+◌, ◌<◌, ◌≤◌, Bool, false, List, [], ◌∷◌, ◌++◌, length, get_or, drop, Some, None, Ok, Option, sym, refl, ap, ◌∙◌, subst, append_assoc, append-nil, add-one, arith, length-append, drop-cons}
use Rattle.std.proofs.lemmas.Bool.{ltb-false}
use Rattle.calendar.specs.Clock.{E}
use Rattle.arrivals.specs.declared.lines.Entry.{Entry}
use Rattle.arrivals.specs.declared.lines.Entry.TheVariants.{Arrive, Fresh}
use Rattle.stations.specs.Load.{refusal, Loaded}
use Rattle.stations.specs.Rule.{Rule, Meaning, Rising, Lawful, before, freshened}
use Rattle.stations.specs.Layering.{granted}
use Rattle.jobs.specs.Run.{Step, Worked, Answered}
use Rattle.jobs.specs.declared.answers.Answer.{Answer}
use Rattle.jobs.specs.declared.answers.Answer.TheVariants.{Leaves, Refused, Freshened}

-- the first minute that is granted after the last one
abbrev low : Option ℕ → ℕ
low None = 0
low (Some a) = a

-- A station that means m has that fresh rule, and has granted the arrivals gs since it was fresh.
pub record Since (rule : Rule) (gs : List ℕ) (last : Option ℕ) (m : Meaning) : Type 0 where
  pub fresh : m.fresh ≡ rule
  pub early : m.early ≡ before last
  pub rises : (xs : List ℕ) → Rising (low last) xs → Rising 0 (gs ++ xs)
  pub left : (xs : List ℕ) → Rising (low last) xs → rule (gs ++ xs) ≡ rule gs ++ m.rule xs

none_left : (xs : List ℕ) → length xs ≡ 0 → xs ≡ []
none_left [] h = refl
none_left (x ∷ xs) h = absurd (omega arith)

pub since_fresh : (rule : Rule) (m : Meaning) → Lawful rule → m.fresh ≡ rule → Since rule [] None (freshened m)
since_fresh rule m L e =
    record {
      fresh = e;
      early = refl;
      rises = λ xs r. r;
      left = λ xs r. ap (λ (f : Rule). f xs) (sym e) ∙ ap (λ (l : List ℕ). l ++ m.fresh xs) (sym (none_left (rule []) (L.one_each [] tt)));
    }

not_before : (last : Option ℕ) (a : ℕ) → before last a ≡ false → low last ≤ a
not_before None a h = omega arith
not_before (Some b) a h = ltb-false a b h

module _ (rule : Rule) (L : Lawful rule) (gs : List ℕ) (last : Option ℕ) (m m' : Meaning) (s : Since rule gs last m) where
  -- an arrival that the station grants is on the clock and not before the last
  fits : (a : ℕ) → refusal m.early a ≡ None → (low last ≤ a) × (a ≤ E)
  fits a h =
      let g = granted m.early a h in
      (not_before last a (ap (λ (t : ℕ → Bool). t a) (sym s.early) ∙ g.1), g.0)

  -- one part more leaves
  leaves_next :
      (a d : ℕ) → Loaded m a (Ok d) m' → rule (gs ++ (a ∷ [])) ≡ rule gs ++ (d ∷ [])
  leaves_next a d l =
      let f = fits a l.0 in
      let one : Rising (low last) (a ∷ []) = (f.0, f.1, tt) in
      let all : rule (gs ++ (a ∷ [])) ≡ rule gs ++ (d ∷ m'.rule []) = s.left (a ∷ []) one ∙ ap (λ (x : List ℕ). rule gs ++ x) (l.3 [] tt) in
      let n : length (rule (gs ++ (a ∷ []))) ≡ length (gs ++ (a ∷ [])) = L.one_each (gs ++ (a ∷ [])) (s.rises (a ∷ []) one) in
      let k : length (rule (gs ++ [])) ≡ length (gs ++ []) = L.one_each (gs ++ []) (s.rises [] tt) in
      let k' : length (rule gs) ≡ length gs = ap (λ (x : List ℕ). length (rule x)) (sym (append-nil gs)) ∙ k ∙ ap length (append-nil gs) in
      let none : m'.rule [] ≡ [] =
      none_left (m'.rule []) (omega (arith, ap length all, length-append (rule gs) (d ∷ m'.rule []), length-append gs (a ∷ []))) in
      all ∙ ap (λ (x : List ℕ). rule gs ++ (d ∷ x)) none

  since_leaves : (a d : ℕ) → Loaded m a (Ok d) m' → Since rule (gs ++ (a ∷ [])) (Some a) m'
  since_leaves a d l =
      let f = fits a l.0 in
      record {
        fresh = l.2 ∙ s.fresh;
        early = l.1;
        rises = λ xs r. rw append_assoc (s.rises (a ∷ xs) (f.0, f.1, r));
        left = λ xs r.
            ap rule (append_assoc gs (a ∷ []) xs)
            ∙ s.left (a ∷ xs) (f.0, f.1, r)
            ∙ ap (λ (x : List ℕ). rule gs ++ x) (l.3 xs r)
            ∙ sym (append_assoc (rule gs) (d ∷ []) (m'.rule xs))
            ∙ ap (λ (x : List ℕ). x ++ m'.rule xs) (sym (leaves_next a d l));
      }

  -- what one entry takes on to the next
  advance :
      (e : Entry) (x : Answer) → Step m e x m'
      → (gs' : List ℕ) × ((last' : Option ℕ) × (Since rule gs' last' m'
      × ((es : List Entry) (rest : List Answer) → Answered rule gs' last' es rest → Answered rule gs last (e ∷ es) (x ∷ rest))))
  advance (Arrive a) (Leaves b d) t = (
    gs ++ (a ∷ []),
    (
      Some a,
      (
        since_leaves a d t.1,
        λ es rest k. (t.0, ap (λ (f : ℕ → Bool). refusal f a) (sym s.early) ∙ t.1.0, leaves_next a d t.1, k),
      ),
    ),
  )
  advance (Arrive a) (Refused b e) t =
      let P : Meaning → Type 0 = λ n. Since rule gs last n in (
        gs,
        (
          last,
          (
            subst P (sym t.1.1) s,
            λ es rest k. (t.0, ap (λ (f : ℕ → Bool). refusal f a) (sym s.early) ∙ t.1.0, k),
          ),
        ),
      )
  advance (Arrive a) Freshened t = absurd t
  advance Fresh (Leaves b d) t = absurd t
  advance Fresh (Refused b e) t = absurd t
  advance Fresh Freshened t =
      let P : Meaning → Type 0 = λ n. Since rule [] None n in
      ([], (None, (subst P (sym t) (since_fresh rule m L s.fresh), λ es rest k. k)))

-- After i entries: however the others are answered, all are answered so.
abbrev pub Keeps : Rule → List Entry → ℕ → List Answer → Meaning → Type 0
Keeps rule entries i answers m =
    (gs : List ℕ) × ((last : Option ℕ) × (Since rule gs last m
    × ((rest : List Answer) → Answered rule gs last (drop i entries) rest → Answered rule [] None entries (answers ++ rest))))

pub keeps_none :
    (entries : List Entry) (answers : List Answer) (m before : Meaning) → Lawful m.fresh → m ≡ freshened before → answers ≡ []
    → Keeps m.fresh entries 0 answers m
keeps_none entries answers m before L e none =
    let s = since_fresh m.fresh m L refl in
    let P : Meaning → Type 0 = λ n. Since m.fresh [] None n in
    let Q : List Answer → Type 0 = λ xs. Answered m.fresh [] None entries xs in
    let again : freshened m ≡ m = ap freshened e ∙ sym e in
    ([], (None, (subst P again s, λ rest k. subst Q (ap (λ (l : List Answer). l ++ rest) (sym none)) k)))

pub keeps_more :
    (rule : Rule) (entries : List Entry) (i : ℕ) (answers answers' : List Answer) (m m' : Meaning) (d : Entry) (x : Answer) → Lawful rule
    → i < length entries → Step m (get_or entries i d) x m' → answers' ≡ answers ++ (x ∷ []) → Keeps rule entries i answers m
    → Keeps rule entries (i + 1) answers' m'
keeps_more rule entries i answers answers' m m' d x L h t p k =
    let a = advance rule L k.0 k.1.0 m m' k.1.1.0 (get_or entries i d) x t in
    let next : drop i entries ≡ get_or entries i d ∷ drop (i + 1) entries = rw (add-one, drop-cons entries i d) in (
      a.0,
      (
        a.1.0,
        (
          a.1.1.0,
          λ rest r.
              let P : List Entry → Type 0 = λ es. Answered rule k.0 k.1.0 es (x ∷ rest) in
              let Q : List Answer → Type 0 = λ xs. Answered rule [] None entries xs in
              subst Q (sym (append_assoc answers (x ∷ []) rest) ∙ ap (λ (l : List Answer). l ++ rest) (sym p))
              (k.1.1.1 (x ∷ rest) (subst P (sym next) (a.1.1.1 (drop (i + 1) entries) rest r))),
        ),
      ),
    )

-- past the last entry there is none
none_after : (es : List Entry) (i : ℕ) → length es ≤ i → drop i es ≡ []
none_after [] zero h = refl
none_after [] (suc i) h = refl
none_after (e ∷ es) zero h = absurd (omega arith)
none_after (e ∷ es) (suc i) h = none_after es i (omega arith)

pub keeps_all :
    (rule : Rule) (entries : List Entry) (i : ℕ) (answers : List Answer) (m : Meaning) → length entries ≤ i → Keeps rule entries i answers m
    → Answered rule [] None entries answers
keeps_all rule entries i answers m h k =
    let P : List Entry → Type 0 = λ es. Answered rule k.0 k.1.0 es [] in
    let Q : List Answer → Type 0 = λ xs. Answered rule [] None entries xs in
    subst Q (append-nil answers) (k.1.1.1 [] (subst P (sym (none_after entries i h)) tt))

-- After i entries: whatever the others make of the station, all of them make of the one at the beginning.
abbrev pub Goes : Meaning → List Entry → ℕ → List Answer → Meaning → Type 0
Goes start entries i answers m =
    (rest : List Answer) (m' : Meaning) → Worked m (drop i entries) rest m' → Worked start entries (answers ++ rest) m'

pub goes_none : (entries : List Entry) (answers : List Answer) (m : Meaning) → answers ≡ [] → Goes m entries 0 answers m
goes_none entries answers m none rest m' w =
    let Q : List Answer → Type 0 = λ xs. Worked m entries xs m' in subst Q (ap (λ (l : List Answer). l ++ rest) (sym none)) w

pub goes_more :
    (start : Meaning) (entries : List Entry) (i : ℕ) (answers answers' : List Answer) (m n : Meaning) (d : Entry) (x : Answer)
    → i < length entries → Step m (get_or entries i d) x n → answers' ≡ answers ++ (x ∷ []) → Goes start entries i answers m
    → Goes start entries (i + 1) answers' n
goes_more start entries i answers answers' m n d x h t p k rest m' w =
    let next : drop i entries ≡ get_or entries i d ∷ drop (i + 1) entries = rw (add-one, drop-cons entries i d) in
    let P : List Entry → Type 0 = λ es. Worked m es (x ∷ rest) m' in
    let Q : List Answer → Type 0 = λ xs. Worked start entries xs m' in
    subst Q (sym (append_assoc answers (x ∷ []) rest) ∙ ap (λ (l : List Answer). l ++ rest) (sym p))
    (k (x ∷ rest) m' (subst P (sym next) (n, (t, w))))

pub goes_all :
    (start : Meaning) (entries : List Entry) (i : ℕ) (answers : List Answer) (m : Meaning) → length entries ≤ i
    → Goes start entries i answers m → Worked start entries answers m
goes_all start entries i answers m h k =
    let P : List Entry → Type 0 = λ es. Worked m es [] m in
    let Q : List Answer → Type 0 = λ xs. Worked start entries xs m in
    subst Q (append-nil answers) (k [] m (subst P (sym (none_after entries i h)) refl))
