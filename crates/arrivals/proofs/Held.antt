-- The entries that were read so far, and what is left of the text.
use Rattle.std.proofs.Common.{Result, Ok, Err, subst, ◌≡◌, ℕ, ◌+◌, ◌<◌, ◌≤◌, List, [], ◌∷◌, ◌++◌, length, sym, refl, ap, ◌∙◌, inr, append_assoc, arith, length-append}
use Rattle.std.specs.List.{AllByRecursion}
use Rattle.std.proofs.ByRecursion.{All-push}
use Rattle.std.proofs.lemmas.List.{append-nil}
use Rattle.std.specs.Result.{MatchResult, IsErrAnd}
use Rattle.std.proofs.lemmas.Result.{err_from_is_err_and}
use Rattle.forms.specs.Reading.{Says, SaysNothing, Reading, Unread}
use Rattle.forms.specs.Stages.{Stage, StageFits}
use Rattle.arrivals.specs.declared.lines.Entry.{Entry}
use Rattle.arrivals.specs.declared.lists.LineFault.{LineFault}
use Rattle.arrivals.specs.declared.lists.ListFault.{ListFault}
use Rattle.arrivals.specs.declared.lists.ListFault.TheVariants.{TooLong, Line, NoMemory}
use Rattle.arrivals.specs.Lines.{entry_written, EntryFits}
use Rattle.arrivals.specs.Lists.{stage_ended, entry_ended, entries_ended, entries_written, Shown, BadEntry, most_bytes, EntriesRefused, ListRefused}

-- what is left of ns after es, where the text of ns begins with that of es and `rest` follows
pub record Left (ns es : List Entry) (rest : List ℕ) : Type 0 where
  pub more : List Entry
  pub split : ns ≡ es ++ more
  pub fit : AllByRecursion EntryFits more
  pub is : rest ≡ entries_written more

-- `text` is the lines of es and then `rest`, and any entries that `text` may be begin with es
pub record Held (text rest : List ℕ) (es : List Entry) : Type 0 where
  pub fit : AllByRecursion EntryFits es
  pub is : text ≡ entries_ended es rest
  pub size : length es + length rest ≤ length text
  pub only : (ns : List Entry) → AllByRecursion EntryFits ns → text ≡ entries_written ns → Left ns es rest

lines_push : (es : List Entry) (e : Entry) (x : List ℕ) → entries_ended (es ++ (e ∷ [])) x ≡ entries_ended es (entry_ended e x)
lines_push [] e x = refl
lines_push (d ∷ es) e x = ap (entry_ended d) (lines_push es e x)

-- a line shortens what is left
pub shorter : {A : Type 0} (Fit : A → Type 0) (W : A → List ℕ) {rest q : List ℕ} {a : A} → Reading Fit (λ a x. W a ++ (10 ∷ x)) rest q a → length q < length rest
shorter Fit W {rest} {q} {a} r = omega (arith, ap length r.1, length-append (W a) (10 ∷ q))

left_more : {ns : List Entry} (es : List Entry) {rest q : List ℕ} {e : Entry} → Reading EntryFits entry_ended rest q e
    → (more : List Entry) → ns ≡ es ++ more → AllByRecursion EntryFits more → rest ≡ entries_written more → Left ns (es ++ (e ∷ [])) q
left_more {ns} es {rest} {q} {e} r [] s f is = absurd (omega (arith, ap length is, shorter EntryFits entry_written r))
left_more {ns} es {rest} {q} {e} r (m ∷ ms) s f is =
    let o = r.2 m (entries_written ms) f.0 is in
    record {
      more = ms;
      split = s ∙ ap (λ (z : Entry). es ++ (z ∷ ms)) (sym o.0) ∙ sym (append_assoc es (e ∷ []) ms);
      fit = f.1;
      is = o.1;
    }

pub held_more : {text rest q : List ℕ} {es : List Entry} {e : Entry} → Held text rest es → Reading EntryFits entry_ended rest q e → Held text q (es ++ (e ∷ []))
held_more {text} {rest} {q} {es} {e} h r = record {
  fit = All-push EntryFits es e h.fit r.0;
  is = h.is ∙ ap (entries_ended es) r.1 ∙ sym (lines_push es e q);
  size = omega (arith, h.size, length-append es (e ∷ []), shorter EntryFits entry_written r);
  only = λ ns f is. let o = h.only ns f is in left_more es r o.more o.split o.fit o.is;
}

-- where nothing is left, the entries are all
whole_of : {ns es : List Entry} (more : List Entry) → ns ≡ es ++ more → [] ≡ entries_written more → es ≡ ns
whole_of {ns} {es} [] s is = sym (s ∙ append-nil es)
whole_of {ns} {es} (m ∷ ms) s is = absurd (omega (arith, ap length is, length-append (entry_written m) (10 ∷ entries_written ms)))

pub held_all : {text rest : List ℕ} {es : List Entry} → Held text rest es → rest ≡ [] → Says (AllByRecursion EntryFits) entries_written text es
held_all {text} {rest} {es} h e = (
  h.fit,
  h.is ∙ ap (entries_ended es) e,
  λ ns f is. let o = h.only ns f is in whole_of o.more o.split (sym e ∙ o.is),
)

-- where no entry is next and something is left, no entries are the text
stuck : {rest : List ℕ} (more : List Entry) → 0 < length rest → Unread EntryFits entry_ended rest → AllByRecursion EntryFits more → rest ≡ entries_written more → ⊥
stuck [] some out f is = omega (arith, ap length is)
stuck (m ∷ ms) some out f is = out m (entries_written ms) f.0 is

pub held_bad : {text rest : List ℕ} {es : List Entry} {n : ℕ} {fault : LineFault} → Held text rest es → 0 < length rest → n ≡ length es + 2
    → Unread EntryFits entry_ended rest × Shown fault rest → SaysNothing (AllByRecursion EntryFits) entries_written text × BadEntry n fault text
held_bad {text} {rest} {es} h some place out = (
  (λ ns f is. let o = h.only ns f is in stuck o.more some out.0 o.fit o.is),
  record { before = es; rest = rest; fit = h.fit; place = place; is = h.is; unread = out.0; shown = out.1 },
)

-- the fault of the entries is one of the list
pub list_refused : {text rest : List ℕ} {d : Stage} → length text ≤ most_bytes → Reading StageFits stage_ended text rest d → (e : ListFault) → EntriesRefused e rest → ListRefused e text
list_refused few r TooLong b = absurd b
list_refused {text} {rest} {d} few r (Line n fault) b = (
  few,
  (λ p f is. b.0 p.1 f.1 (r.2 p.0 (entries_written p.1) f.0 is).1),
  inr (record { stage = d; rest = rest; fits = r.0; is = r.1; bad = b.1 }),
)
list_refused few r NoMemory b = tt

-- what stood before a `map_err`: the value that it kept, or the fault that it changed
pub kept : {T E D : Type 0} (F : E → D → Type 0) (r : Result T E) (s : Result T D) (v : T) → MatchResult r (λ x. s ≡ Ok x) (λ e. IsErrAnd s (F e)) → s ≡ Ok v → r ≡ Ok v
kept F (Ok x) s v m is = cc
kept F (Err y) s v m is = let p = err_from_is_err_and s m in let q = p.1 in absurd (cc)

pub changed :
    {T E D : Type 0} (F : E → D → Type 0) (r : Result T E) (s : Result T D) (d : D) → MatchResult r (λ x. s ≡ Ok x) (λ e. IsErrAnd s (F e)) → s ≡ Err d
    → (e : E) × (r ≡ Err e) × F e d
changed F (Ok x) s d m is = absurd (cc)
changed F (Err y) s d m is = let p = err_from_is_err_and s m in let q = p.1 in let z : p.0 ≡ d = cc in (y, refl, subst (F y) z p.2)
