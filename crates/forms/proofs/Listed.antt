-- A list of numbers, each after a space and the last before a bracket.
use Rattle.std.proofs.Common.{◌≡◌, ℕ, zero, suc, ◌+◌, ◌^◌, ◌<◌, ◌≤◌, List, [], ◌∷◌, ◌++◌, length, get_or, take, set, decimal, sym, refl, ap, ◌∙◌, subst, append_assoc, arith, length-append, length-set}
use Rattle.std.specs.List.{AllByRecursion}
use Rattle.std.proofs.lemmas.List.{take_all, take_more_set, flat_map_more, append-nil, length-take-le}
use Rattle.forms.specs.Forms.{Low, Numbered, OnlyNumber}
use Rattle.forms.specs.Reading.{Reading, Unread}
use Rattle.forms.specs.Stages.{one, two, three, last_text, LowEach, spaced}

abbrev pub Lows : List ℕ → Type 0
Lows ns = AllByRecursion Low ns

-- what is left of ns after xs, where the text of ns and a bracket begins with that of xs and `rest` follows
pub record Left (ns xs : List ℕ) (x rest : List ℕ) : Type 0 where
  pub more : List ℕ
  pub split : ns ≡ xs ++ more
  pub low : Lows more
  pub is : rest ≡ spaced more ++ (41 ∷ x)

-- `start` is the text of the first k of the cap numbers vs and then `rest`, and no other numbers fit
pub record Listing (cap : ℕ) (start rest vs : List ℕ) (k : ℕ) : Type 0 where
  pub few : k ≤ cap
  pub size : length vs ≡ cap
  pub low : Lows (take k vs)
  pub is : start ≡ spaced (take k vs) ++ rest
  pub only : (ns x : List ℕ) → Lows ns → start ≡ spaced ns ++ (41 ∷ x) → Left ns (take k vs) x rest

-- what follows a space is a number, and then a space or the bracket
pub record Next (ns xs x r : List ℕ) : Type 0 where
  pub m : ℕ
  pub b : ℕ
  pub y : List ℕ
  pub more : List ℕ
  pub small : m < 10 ^ 7
  pub under : b < 48
  pub split : ns ≡ xs ++ (m ∷ more)
  pub low : Lows more
  pub tail : b ∷ y ≡ spaced more ++ (41 ∷ x)
  pub is : r ≡ decimal m ++ (b ∷ y)

next_of : (ns xs x r : List ℕ) (more : List ℕ) → ns ≡ xs ++ more → Lows more → 32 ∷ r ≡ spaced more ++ (41 ∷ x) → Next ns xs x r
next_of ns xs x r [] s l e = let z : ◌≡◌ {A = ℕ} 32 41 = cc in absurd (omega arith)
next_of ns xs x r (m ∷ []) s l e = record {
  m = m;
  b = 41;
  y = x;
  more = [];
  small = l.0;
  under = omega arith;
  split = s;
  low = tt;
  tail = refl;
  is = let a : r ≡ (decimal m ++ []) ++ (41 ∷ x) = cc in a ∙ simp append-nil;
}
next_of ns xs x r (m ∷ (k ∷ ks)) s l e = record {
  m = m;
  b = 32;
  y = (decimal k ++ spaced ks) ++ (41 ∷ x);
  more = k ∷ ks;
  small = l.0;
  under = omega arith;
  split = s;
  low = l.1;
  tail = refl;
  is = let a : r ≡ (decimal m ++ (32 ∷ (decimal k ++ spaced ks))) ++ (41 ∷ x) = cc in a ∙ append_assoc (decimal m) (32 ∷ (decimal k ++ spaced ks)) (41 ∷ x);
}

pub next : {cap : ℕ} {start rest vs r : List ℕ} {k : ℕ} → Listing cap start rest vs k → rest ≡ 32 ∷ r → (ns x : List ℕ) → Lows ns → start ≡ spaced ns ++ (41 ∷ x) → Next ns (take k vs) x r
next {cap} {start} {rest} {vs} {r} {k} h e ns x low is =
    let o = h.only ns x low is in next_of ns (take k vs) x r o.more o.split o.low (sym e ∙ o.is)

-- just k numbers, where none does
ended_of : (ns xs x rest : List ℕ) (more : List ℕ) → ns ≡ xs ++ more → rest ≡ spaced more ++ (41 ∷ x) → ((r : List ℕ) → rest ≡ 32 ∷ r → ⊥) → (ns ≡ xs) × (rest ≡ 41 ∷ x)
ended_of ns xs x rest [] s e out = (s ∙ append-nil xs, e)
ended_of ns xs x rest (m ∷ ms) s e out = absurd (out _ e)

pub ended : {cap : ℕ} {start rest vs : List ℕ} {k : ℕ} → Listing cap start rest vs k → ((r : List ℕ) → rest ≡ 32 ∷ r → ⊥) → (ns x : List ℕ) → Lows ns → start ≡ spaced ns ++ (41 ∷ x) → (ns ≡ take k vs) × (rest ≡ 41 ∷ x)
ended {cap} {start} {rest} {vs} {k} h out ns x low is = let o = h.only ns x low is in ended_of ns (take k vs) x rest o.more o.split o.is out

all_push : (xs : List ℕ) (n : ℕ) → Lows xs → n < 10 ^ 7 → Lows (xs ++ (n ∷ []))
all_push [] n l h = (h, tt)
all_push (x ∷ xs) n l h = (l.0, all_push xs n l.1 h)

pub listing_more : {cap : ℕ} {start rest vs r q : List ℕ} {k n : ℕ} → Listing cap start rest vs k → k < cap → rest ≡ 32 ∷ r → Numbered n q r → OnlyNumber n q r → Listing cap start q (set vs k n) (k + 1)
listing_more {cap} {start} {rest} {vs} {r} {q} {k} {n} h l e num sole =
    let t : take (k + 1) (set vs k n) ≡ take k vs ++ (n ∷ []) = take_more_set vs k n (omega (arith, h.size)) in
    let j : spaced (take k vs) ++ (32 ∷ decimal n) ≡ spaced (take k vs ++ (n ∷ [])) = flat_map_more (λ m. 32 ∷ decimal m) [] (take k vs) n in
    record {
      few = omega arith;
      size = length-set vs k n ∙ h.size;
      low = rw t (all_push (take k vs) n h.low num.0);
      is = rw (t, ← j) (h.is ∙ ap (λ (z : List ℕ). spaced (take k vs) ++ z) (e ∙ ap (λ (z : List ℕ). 32 ∷ z) num.2) ∙ sym (append_assoc (spaced (take k vs)) (32 ∷ decimal n) q));
      only = λ ns x low is.
          let o = next h e ns x low is in
          let s = sole o.m o.b o.y o.small o.under o.is in
          record {
            more = o.more;
            split = rw t (o.split ∙ ap (λ (m : ℕ). take k vs ++ (m ∷ o.more)) (sym s.0) ∙ sym (append_assoc (take k vs) (n ∷ []) o.more));
            low = o.low;
            is = s.1 ∙ o.tail;
          };
    }

-- a number, where a space follows
pub some : {cap : ℕ} {start rest vs r : List ℕ} {k : ℕ} → Listing cap start rest vs k → rest ≡ 32 ∷ r → ((n : ℕ) (q : List ℕ) → Numbered n q r → ⊥) → (ns x : List ℕ) → Lows ns → start ≡ spaced ns ++ (41 ∷ x) → ⊥
some h e out ns x low is =
    let o = next h e ns x low is in out o.m (o.b ∷ o.y) (o.small, (λ _ d. omega (arith, d.0, o.under)), o.is)

-- the last numbers of a form are such a list, but for the space before the first
abbrev pub spaced_left : ℕ → List ℕ → List ℕ
spaced_left zero rest = 32 ∷ rest
spaced_left (suc k) rest = rest

pub spaced_later : (k : ℕ) (rest : List ℕ) → 0 < k → spaced_left k rest ≡ rest
spaced_later zero rest l = absurd (omega (arith, l))
spaced_later (suc k) rest l = refl

pub spaced_first : (k : ℕ) (rest : List ℕ) → k ≤ 0 → spaced_left k rest ≡ 32 ∷ rest
spaced_first zero rest l = refl
spaced_first (suc k) rest l = absurd (omega (arith, l))

last_spaced : (n : ℕ) (ns x : List ℕ) → 32 ∷ last_text (n ∷ ns) x ≡ spaced (n ∷ ns) ++ (41 ∷ x)
last_spaced n [] x = ap (λ (z : List ℕ). 32 ∷ (z ++ (41 ∷ x))) (sym (append-nil (decimal n)))
last_spaced n (m ∷ ns) x =
    ap (λ (z : List ℕ). 32 ∷ (decimal n ++ z)) (last_spaced m ns x) ∙ sym (append_assoc (32 ∷ decimal n) (spaced (m ∷ ns)) (41 ∷ x))

of_last : {count : ℕ} {start : List ℕ} (ns x : List ℕ) → LowEach count ns → 0 < count → start ≡ last_text ns x → 32 ∷ start ≡ spaced ns ++ (41 ∷ x)
of_last [] x low more e = absurd (omega (arith, low.0))
of_last (n ∷ ns) x low more e = ap (λ (z : List ℕ). 32 ∷ z) e ∙ last_spaced n ns x

pub last_more :
    {count : ℕ} {start rest vs r q : List ℕ} {k n : ℕ} → Listing count (32 ∷ start) rest vs k → k < count → rest ≡ 32 ∷ r → Numbered n q r → OnlyNumber n q r
    → Listing count (32 ∷ start) (spaced_left (k + 1) q) (set vs k n) (k + 1)
last_more {count} {start} {rest} {vs} {r} {q} {k} {n} h l e num sole = rw (spaced_later (k + 1) q (omega arith)) (listing_more h l e num sole)

-- no such numbers, where no space follows one that is not the last
pub last_unspaced :
    {count : ℕ} {start rest vs : List ℕ} {k : ℕ} → Listing count (32 ∷ start) (spaced_left k rest) vs k → 0 < k → k < count → ((x : List ℕ) → rest ≡ 32 ∷ x → ⊥)
    → (ns x : List ℕ) → LowEach count ns → start ≡ last_text ns x → ⊥
last_unspaced {count} {start} {rest} {vs} {k} h later few out ns x low e =
    let d = ended h (λ r s. out r (sym (spaced_later k rest later) ∙ s)) ns x low.1 (of_last ns x low (omega arith) e) in
    omega (arith, ap length d.0, low.0, length-take-le k vs (omega (arith, h.size)))

-- nor where no number follows the space
pub last_unread :
    {count : ℕ} {start rest vs r : List ℕ} {k : ℕ} → Listing count (32 ∷ start) rest vs k → k < count → rest ≡ 32 ∷ r → ((n : ℕ) (q : List ℕ) → Numbered n q r → ⊥)
    → (ns x : List ℕ) → LowEach count ns → start ≡ last_text ns x → ⊥
last_unread {count} h few e out ns x low is = some h e out ns x low.1 (of_last ns x low (omega arith) is)

-- all numbers are read: such numbers are these, and the bracket is next
pub last_all : (vs ns x rest : List ℕ) (more : List ℕ) → ns ≡ vs ++ more → rest ≡ spaced more ++ (41 ∷ x) → length ns ≤ length vs → (vs ≡ ns) × (rest ≡ 41 ∷ x)
last_all vs ns x rest [] s is e = (sym (s ∙ append-nil vs), is)
last_all vs ns x rest (m ∷ ms) s is e = absurd (omega (arith, ap length s, length-append vs (m ∷ ms), e))

last_whole :
    (count : ℕ) (start rest vs : List ℕ) → Listing count (32 ∷ start) (spaced_left count rest) vs count
    → (ns x : List ℕ) → LowEach count ns → start ≡ last_text ns x → (vs ≡ ns) × (rest ≡ 41 ∷ x)
last_whole zero start rest [] h [] x low e =
    let a : 32 ∷ start ≡ 32 ∷ rest = h.is in let b : start ≡ rest = cc in (refl, sym b ∙ e)
last_whole zero start rest (v ∷ vs) h ns x low e = absurd (omega (arith, h.size))
last_whole zero start rest vs h (n ∷ ns) x low e = absurd (omega (arith, low.0))
last_whole (suc count) start rest vs h ns x low e =
    let o = h.only ns x low.1 (of_last ns x low (omega arith) e) in
    let all : take (suc count) vs ≡ vs = take_all (suc count) vs (omega (arith, h.size)) in
    last_all vs ns x rest o.more (o.split ∙ ap (λ (z : List ℕ). z ++ o.more) all) o.is (omega (arith, h.size, low.0))

last_written :
    (count : ℕ) (start rest vs y : List ℕ) → Listing count (32 ∷ start) (spaced_left count rest) vs count → rest ≡ 41 ∷ y → LowEach count vs × (start ≡ last_text vs y)
last_written zero start rest [] y h e =
    let a : 32 ∷ start ≡ 32 ∷ rest = h.is in let b : start ≡ rest = cc in ((refl, tt), b ∙ e)
last_written zero start rest (v ∷ vs) y h e = absurd (omega (arith, h.size))
last_written (suc count) start rest [] y h e = absurd (omega (arith, h.size))
last_written (suc count) start rest (v ∷ vs) y h e =
    let all : take (suc count) (v ∷ vs) ≡ v ∷ vs = take_all (suc count) (v ∷ vs) (omega (arith, h.size)) in
    let is : 32 ∷ start ≡ spaced (v ∷ vs) ++ (41 ∷ y) = h.is ∙ ap (λ (z : List ℕ). spaced z ++ rest) all ∙ ap (λ (z : List ℕ). spaced (v ∷ vs) ++ z) e in
    let same : 32 ∷ start ≡ 32 ∷ last_text (v ∷ vs) y = is ∙ sym (last_spaced v vs y) in
    let b : start ≡ last_text (v ∷ vs) y = cc in
    ((h.size, subst Lows all h.low), b)

pub last_read :
    {count : ℕ} {start rest vs y : List ℕ} {k : ℕ} → Listing count (32 ∷ start) (spaced_left k rest) vs k → count ≤ k → rest ≡ 41 ∷ y → Reading (LowEach count) last_text start y vs
last_read {count} {start} {rest} {vs} {y} {k} h done e =
    let n : k ≡ count = omega (arith, h.few) in
    let d : Listing count (32 ∷ start) (spaced_left count rest) vs count = subst (λ (n : ℕ). Listing count (32 ∷ start) (spaced_left n rest) vs n) n h in
    let w = last_written count start rest vs y d e in (
      w.0,
      w.1,
      λ ns x low is. let o = last_whole count start rest vs d ns x low is in let b = o.1 in (o.0, (cc)),
    )

-- no such numbers, where no bracket follows the last
pub last_unended :
    {count : ℕ} {start rest vs : List ℕ} {k : ℕ} → Listing count (32 ∷ start) (spaced_left k rest) vs k → count ≤ k → ((x : List ℕ) → rest ≡ 41 ∷ x → ⊥)
    → (ns x : List ℕ) → LowEach count ns → start ≡ last_text ns x → ⊥
last_unended {count} {start} {rest} {vs} {k} h done out ns x low is =
    let n : k ≡ count = omega (arith, h.few) in
    let d : Listing count (32 ∷ start) (spaced_left count rest) vs count = subst (λ (n : ℕ). Listing count (32 ∷ start) (spaced_left n rest) vs n) n h in
    out x (last_whole count start rest vs d ns x low is).1

-- the last number, the last two and the last three, by their places
pub one_read :
    {text rest : List ℕ} (ns : List ℕ) → Reading (LowEach 1) last_text text rest ns
    → Low (get_or ns 0 0) × (text ≡ one (get_or ns 0 0) rest) × ((n : ℕ) (x : List ℕ) → Low n → text ≡ one n x → (get_or ns 0 0 ≡ n) × (rest ≡ x))
one_read [] r = absurd (omega (arith, r.0.0))
one_read (a ∷ []) r = (
  r.0.1.0,
  r.1,
  λ n x l is. let o = r.2 (n ∷ []) x (refl, (l, tt)) is in let e = o.0 in ((cc), o.1),
)
one_read (a ∷ (b ∷ ns)) r = absurd (omega (arith, r.0.0))

pub two_read :
    {text rest : List ℕ} (ns : List ℕ) → Reading (LowEach 2) last_text text rest ns
    → Low (get_or ns 0 0) × Low (get_or ns 1 0) × (text ≡ two (get_or ns 0 0) (get_or ns 1 0) rest)
    × ((m n : ℕ) (x : List ℕ) → Low m → Low n → text ≡ two m n x → (get_or ns 0 0 ≡ m) × (get_or ns 1 0 ≡ n) × (rest ≡ x))
two_read [] r = absurd (omega (arith, r.0.0))
two_read (a ∷ []) r = absurd (omega (arith, r.0.0))
two_read (a ∷ (b ∷ [])) r = (
  r.0.1.0,
  r.0.1.1.0,
  r.1,
  λ m n x l k is. let o = r.2 (m ∷ (n ∷ [])) x (refl, (l, (k, tt))) is in let e = o.0 in ((cc), (cc), o.1),
)
two_read (a ∷ (b ∷ (c ∷ ns))) r = absurd (omega (arith, r.0.0))

pub three_read :
    {text rest : List ℕ} (ns : List ℕ) → Reading (LowEach 3) last_text text rest ns
    → Low (get_or ns 0 0) × Low (get_or ns 1 0) × Low (get_or ns 2 0) × (text ≡ three (get_or ns 0 0) (get_or ns 1 0) (get_or ns 2 0) rest)
    × ((l m n : ℕ) (x : List ℕ) → Low l → Low m → Low n → text ≡ three l m n x → (get_or ns 0 0 ≡ l) × (get_or ns 1 0 ≡ m) × (get_or ns 2 0 ≡ n) × (rest ≡ x))
three_read [] r = absurd (omega (arith, r.0.0))
three_read (a ∷ []) r = absurd (omega (arith, r.0.0))
three_read (a ∷ (b ∷ [])) r = absurd (omega (arith, r.0.0))
three_read (a ∷ (b ∷ (c ∷ []))) r = (
  r.0.1.0,
  r.0.1.1.0,
  r.0.1.1.1.0,
  r.1,
  λ l m n x i j k is. let o = r.2 (l ∷ (m ∷ (n ∷ []))) x (refl, (i, (j, (k, tt)))) is in let e = o.0 in ((cc), (cc), (cc), o.1),
)
three_read (a ∷ (b ∷ (c ∷ (d ∷ ns)))) r = absurd (omega (arith, r.0.0))

pub one_unread : {text : List ℕ} → Unread (LowEach 1) last_text text → (n : ℕ) (x : List ℕ) → Low n → text ≡ one n x → ⊥
one_unread out n x l is = out (n ∷ []) x (refl, (l, tt)) is

pub two_unread : {text : List ℕ} → Unread (LowEach 2) last_text text → (m n : ℕ) (x : List ℕ) → Low m → Low n → text ≡ two m n x → ⊥
two_unread out m n x l k is = out (m ∷ (n ∷ [])) x (refl, (l, (k, tt))) is

pub three_unread : {text : List ℕ} → Unread (LowEach 3) last_text text → (l m n : ℕ) (x : List ℕ) → Low l → Low m → Low n → text ≡ three l m n x → ⊥
three_unread out l m n x i j k is = out (l ∷ (m ∷ (n ∷ []))) x (refl, (i, (j, (k, tt)))) is
