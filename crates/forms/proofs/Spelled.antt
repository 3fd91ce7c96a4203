-- Words, read from the front of a text.
use Rattle.std.proofs.Common.{◌≡◌, ℕ, suc, ◌<◌, ◌≤◌, List, [], ◌∷◌, ◌++◌, length, get_or, take, drop, length-take, sym, refl, ap, ◌∙◌, subst, suc-le-suc, zero-le, arith}
use Rattle.std.specs.Int.{IsInRange}
use Rattle.std.proofs.lemmas.List.{take-append-drop, length-take-le, get_or-take, get_or-drop, length-drop}
use Rattle.std.proofs.ByRecursion.{All-get_or, All-from_get_or}
use Rattle.forms.specs.Forms.{Each, Front, Ends, Word, Worded, OnlyWord, Wordless}

-- two ways to cut a text after its longest front of bytes from lo to hi are the same
pub same_run : (lo hi : ℕ) (p q s t : List ℕ) → Each lo hi p → Each lo hi q → p ++ s ≡ q ++ t → Ends lo hi s → Ends lo hi t → (p ≡ q) × (s ≡ t)
same_run lo hi [] [] s t a b e f g = (refl, e)
same_run lo hi [] (y ∷ q) s t a b e f g =
    absurd (f (subst (λ (x : List ℕ). 0 < length x) (sym e) (suc-le-suc zero-le)) (subst (λ (x : List ℕ). IsInRange lo hi (get_or x 0 0)) (sym e) (b 0 (suc-le-suc zero-le))))
same_run lo hi (x ∷ p) [] s t a b e f g =
    absurd (g (subst (λ (x : List ℕ). 0 < length x) e (suc-le-suc zero-le)) (subst (λ (x : List ℕ). IsInRange lo hi (get_or x 0 0)) e (a 0 (suc-le-suc zero-le))))
same_run lo hi (x ∷ p) (y ∷ q) s t a b e f g =
    let h : x ≡ y = cc in
    let k : p ++ s ≡ q ++ t = cc in
    let r = same_run lo hi p q s t (λ i l. a (suc i) (suc-le-suc l)) (λ i l. b (suc i) (suc-le-suc l)) k f g in
    let u = r.0 in
    (cc, r.1)

pub front_each : {lo hi : ℕ} (text : List ℕ) (n : ℕ) → Front lo hi text n → Each lo hi (take n text)
front_each {lo} {hi} text n h i l =
    let m : i < n = omega (arith, length-take-le n text h.within) in
    subst (IsInRange lo hi) (sym (get_or-take n text i 0 m)) (h.each i m)

pub front_ends : {lo hi : ℕ} (text : List ℕ) (n : ℕ) → Front lo hi text n → Ends lo hi (drop n text)
front_ends {lo} {hi} text n h more d =
    h.stops (omega (arith, length-drop n text)) (subst (IsInRange lo hi) (get_or-drop n text 0 0 ∙ ap (λ k. get_or text k 0) (omega arith)) d)

-- the front of the first k bytes is that of the whole text, unless it may go on past them
pub front_whole : {lo hi : ℕ} (text seen : List ℕ) (k n : ℕ) → seen ≡ take k text → Front lo hi seen n → (n < length text → n < k) → Front lo hi text n
front_whole {lo} {hi} text seen k n e h l = record {
  within = omega (arith, h.within, length-take k text, ap length e);
  each = λ i m. subst (IsInRange lo hi) (same i (omega (arith, h.within, length-take k text, ap length e))) (h.each i m);
  stops = λ more d. h.stops (omega (arith, l more, length-take k text, ap length e)) (subst (IsInRange lo hi) (sym (same n (l more))) d);
}
  where
    same : (i : ℕ) → i < k → get_or seen i 0 ≡ get_or text i 0
    same i m = ap (λ (x : List ℕ). get_or x i 0) e ∙ get_or-take k text i 0 m

-- a text is cut after its front in one way
pub front_same : {lo hi : ℕ} (text : List ℕ) (n : ℕ) (p rest : List ℕ) → Front lo hi text n → Each lo hi p → Ends lo hi rest → text ≡ p ++ rest → (take n text ≡ p) × (drop n text ≡ rest)
front_same {lo} {hi} text n p rest h each ends is =
    same_run lo hi (take n text) p (drop n text) rest (front_each text n h) each (take-append-drop n text ∙ is) (front_ends text n h) ends

word_same : (text : List ℕ) (n : ℕ) (w rest : List ℕ) → Front 97 122 text n → Worded w rest text → (take n text ≡ w) × (drop n text ≡ rest)
word_same text n w rest h k = front_same text n w rest h (λ i l. All-get_or (IsInRange 97 122) w i 0 l k.0.2) k.1 k.2

-- no word is read where the letters are none or too many
pub no_word : (text : List ℕ) (n : ℕ) → Front 97 122 text n → (0 < n → 12 < n) → Wordless text
no_word text n h out w rest k =
    let e : length (take n text) ≡ length w = ap length (word_same text n w rest h k).0 in
    let f : length (take n text) ≡ n = length-take-le n text h.within in
    omega (arith, k.0.0, k.0.1, out (omega (arith, k.0.0)))

pub word_read : (text : List ℕ) (n : ℕ) (w rest : List ℕ) → Front 97 122 text n → 0 < n → n ≤ 12 → w ≡ take n text → rest ≡ drop n text → Worded w rest text × OnlyWord w rest text
word_read text n w rest h some few e f =
    let l : length (take n text) ≡ n = length-take-le n text h.within in
    let whole : take n text ++ drop n text ≡ text = take-append-drop n text in (
      (
        (simp (e, l) some, simp (e, l) few, rw e (All-from_get_or (IsInRange 97 122) (take n text) 0 (front_each text n h))),
        rw f (front_ends text n h),
        (cc),
      ),
      λ v b x wd under is.
          let z = word_same text n v (b ∷ x) h (wd, (λ _ d. omega (arith, d.0)), is) in
          (e ∙ z.0, f ∙ z.1),
    )

-- where no word is read, no word stands before a byte below the letters
pub unspelled : {text : List ℕ} → Wordless text → (v : List ℕ) (b : ℕ) (x : List ℕ) → Word v → b < 97 → text ≡ v ++ (b ∷ x) → ⊥
unspelled out v b x wd under is = out v (b ∷ x) (wd, (λ _ d. omega (arith, d.0)), is)
