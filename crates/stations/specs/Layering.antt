-- What makes a layer over a lawful station lawful.
use Rattle.std.specs.Prelude.{◌≡◌, ℕ, ◌<◌, ◌≤◌, Bool, false, List, [], ◌∷◌, map, None, refl}
use Rattle.std.proofs.Common.{sym, ap, ◌∙◌, inl, inr, ⊎_elim, arith}
use Rattle.std.proofs.Math.Decide.{dec_le}
use Rattle.std.proofs.lemmas.List.{take-map, length-map}
use Rattle.std.proofs.lemmas.Bool.Decides.{nat_tests}
use Rattle.calendar.specs.Clock.{E}
use Rattle.calendar.specs.WeekOf.{shifts_of}
use Rattle.calendar.specs.Week.{open_before, time_by}
use Rattle.calendar.specs.WeekLaw.{Adjoint, Opens}
use Rattle.calendar.specs.declared.week.Week.{Week}
use Rattle.calendar.proofs.Weeks.{week_adjoint, week_opens}
use Rattle.stations.specs.Layer.{Pass, Layer, through}
use Rattle.stations.specs.Load.{refusal}
use Rattle.stations.specs.Pieces.{moving, weekly}
use Rattle.stations.specs.Rule.{Rule, Rising, Below, Later, Lawful}

lower : (m n : ℕ) (xs : List ℕ) → n ≤ m → Rising m xs → Rising n xs
lower m n [] h r = tt
lower m n (x ∷ xs) h r = (omega arith, r.1, r.2)

pub rising_map :
    (f : ℕ → ℕ) → ((a b : ℕ) → a ≤ b → f a ≤ f b) → ((a : ℕ) → a ≤ E → f a ≤ E) → (low : ℕ) (arrivals : List ℕ)
    → Rising low arrivals → Rising (f low) (map f arrivals)
rising_map f up within low [] h = tt
rising_map f up within low (a ∷ arrivals) h = (up low a h.0, within a h.1, rising_map f up within a arrivals h.2)

below_map : (f : ℕ → ℕ) → ((a b : ℕ) → a ≤ b → f a ≤ f b) → (xs ys : List ℕ) → Below xs ys → Below (map f xs) (map f ys)
below_map f up [] ys h = tt
below_map f up (x ∷ xs) [] h = h
below_map f up (x ∷ xs) (y ∷ ys) h = (up x y h.0, below_map f up xs ys h.1)

later_through :
    (p : Pass) → Layer p → (low : ℕ) (arrivals ds : List ℕ) → Rising low arrivals → Later (map p.down arrivals) ds → Later arrivals (map p.up ds)
later_through p L low [] ds h l = tt
later_through p L low (a ∷ arrivals) [] h l = l
later_through p L low (a ∷ arrivals) (d ∷ ds) h l =
    (⊎_elim (L.later a d h.1) (λ e. inr (ap p.up e ∙ L.end)) l.0, later_through p L a arrivals ds h.2 l.1)

pub through_lawful : (p : Pass) → Layer p → (rule : Rule) → Lawful rule → Lawful (through p rule)
through_lawful p L rule R =
    let f : ℕ → ℕ = p.down in
    let g : ℕ → ℕ = p.up in
    record {
      in_order = λ arrivals h. lower (g 0) 0 _ (omega arith) (rising_map g L.up_rises L.up_in 0 _ (R.in_order (map f arrivals) (down arrivals h)));
      one_each = λ arrivals h. length-map (rule (map f arrivals)) g ∙ R.one_each (map f arrivals) (down arrivals h) ∙ length-map arrivals f;
      later = λ arrivals h. later_through p L 0 arrivals (rule (map f arrivals)) h (R.later (map f arrivals) (down arrivals h));
      causal = λ arrivals n h. take-map g n (rule (map f arrivals)) ∙ ap (map g) (R.causal (map f arrivals) n (down arrivals h) ∙ ap rule (take-map f n arrivals));
      monotone = λ arrivals bs e h k b.
          below_map g L.up_rises (rule (map f arrivals)) (rule (map f bs))
          (R.monotone (map f arrivals) (map f bs) (length-map arrivals f ∙ e ∙ sym (length-map bs f)) (down arrivals h) (down bs k)
          (below_map f L.down_rises arrivals bs b));
    }
  where
    down : (arrivals : List ℕ) → Rising 0 arrivals → Rising 0 (map p.down arrivals)
    down arrivals h = lower (p.down 0) 0 (map p.down arrivals) (omega arith) (rising_map p.down L.down_rises L.down_in 0 arrivals h)

-- what a load that is granted says of its arrival, and the other way round
pub granted : (early : ℕ → Bool) (a : ℕ) → refusal early a ≡ None → (a ≤ E) × (early a ≡ false)
granted early a h = (grind (arith, nat_tests), grind (arith, nat_tests))

pub grants : (early : ℕ → Bool) (a : ℕ) → a ≤ E → early a ≡ false → refusal early a ≡ None
grants early a h e = grind (arith, nat_tests)

pub move_layer : (t : ℕ) → Layer (moving t)
move_layer t =
    record {
      down_rises = λ a b h. omega arith;
      down_in = λ a h. omega arith;
      up_rises = λ a b h. h;
      up_in = λ d h. h;
      later = λ a d h k. inl (omega arith);
      end = refl;
    }

-- the two look-ups of a week are a layer, by being an adjoint pair
pub week_layer : (w : Week) → Layer (weekly w)
week_layer w =
    record {
      down_rises = down_rises;
      down_in = λ a h. omega (arith, O.at_most a);
      up_rises = λ a b h. omega (arith, A.up a (C b) (omega (arith, A.down b (C b) (omega arith))));
      up_in = λ d h. omega arith;
      later = λ a d h k. elim (dec_le E (C d)) [ yes y ↦ inr (omega arith) | no y ↦ inl (omega (arith, past a d h k)) ];
      end = omega (arith, O.at_most (C E), A.down E (C E) (omega arith));
    }
  where
    W : ℕ → ℕ
    W = open_before (shifts_of w)

    C : ℕ → ℕ
    C = time_by (shifts_of w)

    A : Adjoint (shifts_of w)
    A = week_adjoint w

    O : Opens (shifts_of w)
    O = week_opens w

    down_rises : (a b : ℕ) → a ≤ b → W a ≤ W b
    down_rises a b h = A.down (W a) b (omega (arith, A.up (W a) a (omega arith)))

    past : (a d : ℕ) → a ≤ E → W a < d → a < C d
    past a d h k = elim (dec_le (C d) a) [ yes y ↦ absurd (omega (arith, A.down d a y)) | no y ↦ omega arith ]
