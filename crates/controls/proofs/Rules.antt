-- The laws of a station by parts, from those by lists.
use Rattle.std.proofs.Common.{◌≡◌, ℕ, zero, suc, ◌≤◌, List, [], ◌∷◌, length, take, sym, ◌∙◌, arith}
use Rattle.calendar.specs.Clock.{E}
use Rattle.stations.specs.Lists.{at}
use Rattle.stations.specs.Rule.{Rule, Rising, Below, Lawful}
use Rattle.stations.specs.declared.numbers.StageNo.{StageNo}
use Rattle.controls.specs.Events.{IsStage}
use Rattle.controls.specs.Times.{Row, LawfulRow, Better}

-- No part's minute falls below an earlier part's.
pub record NeverFalls (xs : List ℕ) : Type 0 where
  pub rising : (j n : ℕ) → j ≤ n → n ≤ length xs → at xs j ≤ at xs n

-- Every minute is on the clock.
pub record Within (xs : List ℕ) : Type 0 where
  pub within : (n : ℕ) → n ≤ length xs → at xs n ≤ E

-- Arrivals that a fresh station grants.
pub record Granted (xs : List ℕ) : Type 0 where
  pub order : NeverFalls xs
  pub bound : Within xs

-- xs is nowhere later than ys.
pub record NowhereLater (xs ys : List ℕ) : Type 0 where
  pub same_parts : length xs ≡ length ys
  pub earlier : (n : ℕ) → n ≤ length xs → at xs n ≤ at ys n

-- A lawful rule, by parts.
pub record LawfulRule (rule : Rule) : Type 0 where
  pub each : (xs : List ℕ) → Granted xs → length (rule xs) ≡ length xs
  pub order : (xs : List ℕ) → Granted xs → NeverFalls (rule xs)
  pub bound : (xs : List ℕ) → Granted xs → Within (rule xs)
  pub causal : (xs : List ℕ) → Granted xs → (n : ℕ) → n ≤ length xs → rule (take n xs) ≡ take n (rule xs)
  pub monotone : (xs ys : List ℕ) → Granted xs → Granted ys → NowhereLater xs ys → NowhereLater (rule xs) (rule ys)

-- Rising arrivals are granted ones, and the other way round.
first_low : (low : ℕ) (xs : List ℕ) → Rising low xs → (n : ℕ) → 1 ≤ n → n ≤ length xs → (low ≤ at xs n) × (at xs n ≤ E)
first_low low [] h n pos le = absurd (omega arith)
first_low low (x ∷ xs) h zero pos le = absurd (omega arith)
first_low low (x ∷ xs) h (suc zero) pos le = (h.0, h.1)
first_low low (x ∷ xs) h (suc (suc n)) pos le = let r = first_low x xs h.2 (suc n) (omega arith) (omega arith) in (omega (arith, h.0, r.0), r.1)

in_order : (low : ℕ) (xs : List ℕ) → Rising low xs → (j n : ℕ) → 1 ≤ j → j ≤ n → n ≤ length xs → at xs j ≤ at xs n
in_order low [] h j n pos jn le = absurd (omega arith)
in_order low (x ∷ xs) h zero n pos jn le = absurd (omega arith)
in_order low (x ∷ xs) h (suc j) zero pos jn le = absurd (omega arith)
in_order low (x ∷ xs) h (suc zero) (suc zero) pos jn le = omega arith
in_order low (x ∷ xs) h (suc zero) (suc (suc n)) pos jn le = (first_low x xs h.2 (suc n) (omega arith) (omega arith)).0
in_order low (x ∷ xs) h (suc (suc j)) (suc zero) pos jn le = absurd (omega arith)
in_order low (x ∷ xs) h (suc (suc j)) (suc (suc n)) pos jn le = in_order x xs h.2 (suc j) (suc n) (omega arith) (omega arith) (omega arith)

pub rising_granted : (xs : List ℕ) → Rising 0 xs → Granted xs
rising_granted xs h = record {
  order = record { rising = ordered };
  bound = record { within = elim [ zero ↦ λ le. omega arith | suc n ↦ λ le. (first_low 0 xs h (suc n) (omega arith) le).1 ] };
}
  where
    ordered : (j n : ℕ) → j ≤ n → n ≤ length xs → at xs j ≤ at xs n
    ordered zero n jn le = omega arith
    ordered (suc j) n jn le = in_order 0 xs h (suc j) n (omega arith) jn le

rising_from : (low : ℕ) (xs : List ℕ) → ((n : ℕ) → 1 ≤ n → n ≤ length xs → low ≤ at xs n) → Granted xs → Rising low xs
rising_from low [] h g = tt
rising_from low (x ∷ xs) h g = (
  h 1 (omega arith) (omega arith),
  g.bound.within 1 (omega arith),
  rising_from x xs (λ n pos le. after n pos le) (record {
    order = record { rising = ordered };
    bound = record { within = bounded };
  }),
)
  where
    after : (n : ℕ) → 1 ≤ n → n ≤ length xs → x ≤ at xs n
    after zero pos le = absurd (omega arith)
    after (suc n) pos le = g.order.rising 1 (suc (suc n)) (omega arith) (omega arith)

    ordered : (j n : ℕ) → j ≤ n → n ≤ length xs → at xs j ≤ at xs n
    ordered zero n jn le = omega arith
    ordered (suc j) zero jn le = absurd (omega arith)
    ordered (suc j) (suc n) jn le = g.order.rising (suc (suc j)) (suc (suc n)) (omega arith) (omega arith)

    bounded : (n : ℕ) → n ≤ length xs → at xs n ≤ E
    bounded zero le = omega arith
    bounded (suc n) le = g.bound.within (suc (suc n)) (omega arith)

pub granted_rising : (xs : List ℕ) → Granted xs → Rising 0 xs
granted_rising xs g = rising_from 0 xs (λ n pos le. omega arith) g

pub below_at : (xs ys : List ℕ) → Below xs ys → (n : ℕ) → n ≤ length xs → at xs n ≤ at ys n
below_at xs ys h zero le = omega arith
below_at [] ys h (suc n) le = absurd (omega arith)
below_at (x ∷ xs) [] h (suc n) le = absurd h
below_at (x ∷ xs) (y ∷ ys) h (suc zero) le = h.0
below_at (x ∷ xs) (y ∷ ys) h (suc (suc n)) le = below_at xs ys h.1 (suc n) (omega arith)

pub at_below : (xs ys : List ℕ) → length xs ≡ length ys → ((n : ℕ) → n ≤ length xs → at xs n ≤ at ys n) → Below xs ys
at_below [] ys sz h = tt
at_below (x ∷ xs) [] sz h = absurd (omega arith)
at_below (x ∷ xs) (y ∷ ys) sz h = (h 1 (omega arith), at_below xs ys (omega arith) (elim [ zero ↦ λ le. omega arith | suc n ↦ λ le. h (suc (suc n)) (omega arith) ]))

pub lawful_rule : (fresh : Rule) → Lawful fresh → LawfulRule fresh
lawful_rule fresh l = record {
  each = λ xs g. l.one_each xs (granted_rising xs g);
  order = λ xs g. (rising_granted (fresh xs) (l.in_order xs (granted_rising xs g))).order;
  bound = λ xs g. (rising_granted (fresh xs) (l.in_order xs (granted_rising xs g))).bound;
  causal = λ xs g n le. sym (l.causal xs n (granted_rising xs g));
  monotone = λ xs ys gx gy h.
      let a = l.one_each xs (granted_rising xs gx) in
      let b = l.one_each ys (granted_rising ys gy) in
      record {
        same_parts = a ∙ h.same_parts ∙ sym b;
        earlier = below_at (fresh xs) (fresh ys) (l.monotone xs ys h.same_parts (granted_rising xs gx) (granted_rising ys gy) (at_below xs ys h.same_parts h.earlier));
      };
}

-- A row of lawful rules.
abbrev pub LawfulRules : ℕ → Row → Type 0
LawfulRules N row = (i : StageNo) → IsStage N i → LawfulRule (row i)

pub lawful_rules : {N : ℕ} {row : Row} → LawfulRow N row → LawfulRules N row
lawful_rules {row = row} lawful i i_in = lawful_rule (row i) (lawful i i_in)

-- A row that is nowhere later than another.
abbrev pub BetterRules : ℕ → Row → Row → Type 0
BetterRules N row old = (i : StageNo) → IsStage N i → (xs : List ℕ) → Granted xs → NowhereLater (row i xs) (old i xs)

pub better_rules :
    {N : ℕ} {row old : Row} → LawfulRow N row → LawfulRow N old → Better N row old
    → BetterRules N row old
better_rules {row = row} {old = old} lawful lawful' better i i_in xs g =
    let r = granted_rising xs g in
    record {
      same_parts = (lawful i i_in).one_each xs r ∙ sym ((lawful' i i_in).one_each xs r);
      earlier = below_at (row i xs) (old i xs) (better i i_in xs r);
    }
