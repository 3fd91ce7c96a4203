-- Numbers, read from the front of a text.
use Rattle.std.proofs.Common.{◌≡◌, ℕ, ◌+◌, ◌-◌, ◌*◌, ◌^◌, ◌<◌, ◌≤◌, min, List, ◌∷◌, ◌++◌, length, get_or, take, drop, decimal, length-take, length-append, sym, ap, ◌∙◌, subst, arith, below_more}
use Rattle.std.specs.Str.Parse.{digits_value}
use Rattle.std.proofs.lemmas.List.{take-append-drop, get_or_append_left, get_or-append-add, length-take-le, get_or-take}
use Rattle.std.proofs.lemmas.Str.Parse.{IsNumeralModel, numerals_by_value, tells_by_index, digits_value_short}
use Rattle.std.proofs.lemmas.Fmt.{decimal-digits_value, digits_decimal, length-decimal-le, decimal_nonempty, first_decimal, decimal_digit, decimal_injective}
use Rattle.std.proofs.lemmas.Int.Digits.{digits_value_more}
use Rattle.std.proofs.lemmas.Bool.Decides.{nat_tests}
use Rattle.std.proofs.Math.Decide.{dec_le}
use Rattle.std.specs.Char.{digit_value}
use Rattle.std.specs.Int.{IsInRange}
use Rattle.forms.specs.Forms.{Each, Front, Numbered, OnlyNumber}
use Rattle.forms.proofs.Spelled.{same_run, front_each, front_ends, front_same, front_whole}

pub own : IsNumeralModel (Each 48 57) (digits_value 10)
own = numerals_by_value (Each 48 57) tells_by_index

-- at most 7 digits
pub digits_low : (ds : List ℕ) → Each 48 57 ds → length ds ≤ 7 → digits_value 10 ds < 10 ^ 7
digits_low ds each few = digits_value_short own ds 7 each few

-- the digits before the i-th, and with it
pub digits_below : (ds : List ℕ) (i : ℕ) → Each 48 57 ds → length ds ≤ 7 → i < length ds → digits_value 10 (take i ds) < 10 ^ 7
digits_below ds i each few l =
    let len : length (take i ds) ≡ i = length-take-le i ds (omega arith) in
    let digits : Each 48 57 (take i ds) = λ k m. let j : k < i = omega arith in subst (IsInRange 48 57) (sym (get_or-take i ds k 0 j)) (each k (omega arith)) in
    digits_low (take i ds) digits (omega arith)

pub digits_more : (ds : List ℕ) (i : ℕ) → Each 48 57 ds → i < length ds → digits_value 10 (take (i + 1) ds) ≡ digits_value 10 (take i ds) * 10 + (get_or ds i 0 - 48)
digits_more ds i each l =
    let here : IsInRange 48 57 (get_or ds i 0) = each i l in
    let v : digit_value (get_or ds i 0) ≡ get_or ds i 0 - 48 = grind (arith, nat_tests) in
    omega (arith, digits_value_more 10 ds i l)

-- the first `at` bytes of `text` are digits that write n; they are 8 at most
pub record Begun (text : List ℕ) (at n : ℕ) : Type 0 where
  pub within : at ≤ length text
  pub few : at ≤ 8
  pub digit : (i : ℕ) → i < at → IsInRange 48 57 (get_or text i 0)
  pub is : n ≡ digits_value 10 (take at text)

pub begun_more : (text : List ℕ) (at n d : ℕ) → Begun text at n → at < length text → at < 8 → IsInRange 48 57 (get_or text at 0) → d ≡ get_or text at 0 - 48 → Begun text (at + 1) (n * 10 + d)
begun_more text at n d b l few here is = record {
  within = omega arith;
  few = omega arith;
  digit = below_more _ _ b.digit here;
  is = let v : digit_value (get_or text at 0) ≡ get_or text at 0 - 48 = grind (arith, nat_tests) in
      omega (arith, b.is, digits_value_more 10 text at l);
}

-- a number's digits are 1 to 7, with no needless 0 in front
pub digits_plain : (text : List ℕ) (n m : ℕ) (t : List ℕ) → Front 48 57 text n → Numbered m t text → (0 < n) × (n ≤ 7) × (get_or text 0 0 ≡ 48 → n ≡ 1)
digits_plain text n m t f h =
    let small : m < 2 ^ 64 = omega (arith, h.0) in
    let same = front_same text n (decimal m) t f (digits_decimal own m small) h.1 h.2 in
    let e : length (decimal m) ≡ n = sym (ap length same.0) ∙ length-take-le n text f.within in
    let some : 0 < length (decimal m) = decimal_nonempty m small in
    let z : get_or text 0 0 ≡ get_or (decimal m) 0 0 = ap (λ (x : List ℕ). get_or x 0 0) h.2 ∙ get_or_append_left (decimal m) t 0 0 some in (
      omega arith,
      omega (arith, length-decimal-le 7 m (omega arith) h.0 small),
      λ zero.
          let none : 0 < m → ⊥ = λ p. omega (arith, first_decimal m p small) in
          let is0 : m ≡ 0 = omega arith in
          sym e ∙ ap (λ k. length (decimal k)) is0 ∙ ap length (decimal_digit 0 (omega arith)),
    )

-- the same of the digits among the first 8 bytes
pub digits_seen : (text seen : List ℕ) (k n m : ℕ) (t : List ℕ) → k ≡ min (length text) 8 → seen ≡ take k text → Front 48 57 seen n → Numbered m t text
    → (0 < n) × (n ≤ 7) × (get_or text 0 0 ≡ 48 → n ≡ 1)
digits_seen text seen k n m t room e f h =
    elim (dec_le n 7) [
      | yes few ↦ digits_plain text n m t (front_whole text seen k n e f (λ more. omega arith)) h
      | no many ↦ let more : digits < n = omega (arith, short) in
          let seen_long = ap length e ∙ length-take k text in
          let long : length text ≡ digits + length t = ap length h.2 ∙ length-append (decimal m) t in
          let next : get_or seen digits 0 ≡ get_or t 0 0 =
          ap (λ (x : List ℕ). get_or x digits 0) e ∙ get_or-take k text digits 0 (omega (arith, f.within, seen_long))
          ∙ ap (λ (x : List ℕ). get_or x digits 0) h.2 ∙ ap (λ i. get_or (decimal m ++ t) i 0) (omega arith) ∙ get_or-append-add (decimal m) t 0 0 in
          absurd (h.1 (omega (arith, f.within, seen_long, long)) (subst (IsInRange 48 57) next (f.each digits more)))
    ]
  where
    digits : ℕ
    digits = length (decimal m)

    short : digits ≤ 7
    short = length-decimal-le 7 m (omega arith) h.0 (omega (arith, h.0))

-- a text begins with one number at most
pub sole : (text : List ℕ) (m : ℕ) (s : List ℕ) (n : ℕ) (t : List ℕ) → Numbered m s text → Numbered n t text → (m ≡ n) × (s ≡ t)
sole text m s n t h k =
    let a : m < 2 ^ 64 = omega (arith, h.0) in
    let b : n < 2 ^ 64 = omega (arith, k.0) in
    let same = same_run 48 57 (decimal m) (decimal n) s t (digits_decimal own m a) (digits_decimal own n b) (sym h.2 ∙ k.2) h.1 k.1 in
    (decimal_injective m n a b same.0, same.1)

-- where a number was read and the text has another before a byte below the digits, they are the same
pub past : {text r : List ℕ} {n : ℕ} → Numbered n r text → OnlyNumber n r text
past {text} {r} {n} h m b x low under e = sole text n r m (b ∷ x) h (low, (λ _ d. omega (arith, d.0)), e)

-- digits so are a number
pub number_read : (text : List ℕ) (n : ℕ) (ds rest : List ℕ) → Front 48 57 text n → 0 < n → n ≤ 7 → (get_or text 0 0 ≡ 48 → n ≡ 1) → ds ≡ take n text → rest ≡ drop n text
    → Numbered (digits_value 10 ds) rest text × OnlyNumber (digits_value 10 ds) rest text
number_read text n ds rest f some few plain e r =
    let len : length (take n text) ≡ n = length-take-le n text f.within in
    let each : Each 48 57 (take n text) = front_each text n f in
    let low : digits_value 10 (take n text) < 10 ^ 7 = digits_low (take n text) each (omega arith) in
    let head : get_or (take n text) 0 0 ≡ get_or text 0 0 = get_or-take n text 0 0 some in
    let dec : decimal (digits_value 10 (take n text)) ≡ take n text =
    decimal-digits_value own (take n text) each (omega arith) (λ z. len ∙ plain (sym head ∙ z)) (omega arith) in
    let numbered : Numbered (digits_value 10 (take n text)) (drop n text) text =
    (low, front_ends text n f, sym (ap (λ (x : List ℕ). x ++ drop n text) dec ∙ take-append-drop n text)) in
    rw (e, r) (numbered, past numbered)
