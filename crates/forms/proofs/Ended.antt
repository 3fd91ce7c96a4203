-- Lines, each ended by the byte 10.
use Rattle.std.proofs.Common.{◌≡◌, ℕ, suc, ◌+◌, ◌-◌, ◌<◌, List, [], ◌∷◌, ◌++◌, length, get_or, take, drop, sym, refl, ap, ◌∙◌, suc-le-suc, zero-le, arith, length-append}
use Rattle.std.proofs.lemmas.List.{take-append-drop, length-take-le, get_or-take, get_or_at, drop_more, take_rest}
use Rattle.forms.specs.Forms.{Endless, Lined, OnlyLine, Lineless}

pub same_line : (p q s t : List ℕ) → Endless p → Endless q → p ++ (10 ∷ s) ≡ q ++ (10 ∷ t) → (p ≡ q) × (s ≡ t)
same_line [] [] s t a b e = (refl, (cc))
same_line [] (y ∷ q) s t a b e = let h : y ≡ 10 = cc in absurd (b 0 (suc-le-suc zero-le) h)
same_line (x ∷ p) [] s t a b e = let h : x ≡ 10 = cc in absurd (a 0 (suc-le-suc zero-le) h)
same_line (x ∷ p) (y ∷ q) s t a b e =
    let k : p ++ (10 ∷ s) ≡ q ++ (10 ∷ t) = cc in
    let h : x ≡ y = cc in
    let r = same_line p q s t (λ i l. a (suc i) (suc-le-suc l)) (λ i l. b (suc i) (suc-le-suc l)) k in
    let u = r.0 in
    ((cc), r.1)

pub no_line : (text : List ℕ) → Endless text → Lineless text
no_line text h l x m =
    let e = m.1 in
    h (length l) (omega (arith, ap length e ∙ length-append l (10 ∷ x))) (ap (λ (z : List ℕ). get_or z (length l) 0) e ∙ get_or_at l 10 x 0 (length l) refl)

pub only_line : {l rest text : List ℕ} → Lined l rest text → OnlyLine l rest text
only_line {l} {rest} h k x m = same_line l k rest x h.0 m.0 (sym h.1 ∙ m.1)

pub line_read : (text : List ℕ) (n : ℕ) → n < length text → get_or text n 0 ≡ 10 → ((k : ℕ) → k < n → get_or text k 0 ≡ 10 → ⊥)
    → Lined (take n text) (take (length text - (n + 1)) (drop (n + 1) text)) text × OnlyLine (take n text) (take (length text - (n + 1)) (drop (n + 1) text)) text
line_read text n l e out =
    let len : length (take n text) ≡ n = length-take-le n text (omega arith) in
    let a : Endless (take n text) = λ k m is. let j : k < n = omega arith in out k j (sym (get_or-take n text k 0 j) ∙ is) in
    let d : drop n text ≡ 10 ∷ drop (n + 1) text = drop_more text n 0 l ∙ ap (λ (z : ℕ). z ∷ drop (n + 1) text) e in
    let w : text ≡ take n text ++ (10 ∷ take (length text - (n + 1)) (drop (n + 1) text)) =
    rw take_rest (sym (take-append-drop n text) ∙ ap (λ (z : List ℕ). take n text ++ z) d) in
    ((a, w), only_line (a, w))
