-- What a reader says of the value it read: W a is the text of a, and W a x that text before x.
use Rattle.std.specs.Prelude.{◌≡◌, ℕ, List, Result, MatchResult, ◌≢◌}
use Rattle.forms.specs.declared.cursor.Cursor.{Cursor}
use Rattle.forms.specs.declared.cursor.FormFault.{FormFault}
use Rattle.forms.specs.declared.cursor.FormFault.TheVariants.{UnknownWord}

-- what is left to read
abbrev pub left : Cursor → List ℕ
left c = c.rest.now

-- `text` is the text of a, and of no other value that fits
abbrev pub Says : {A : Type 0} → (A → Type 0) → (A → List ℕ) → List ℕ → A → Type 0
Says {A} Fit W text a = Fit a × (text ≡ W a) × ((b : A) → Fit b → text ≡ W b → a ≡ b)

-- `text` is the text of no value that fits
abbrev pub SaysNothing : {A : Type 0} → (A → Type 0) → (A → List ℕ) → List ℕ → Type 0
SaysNothing {A} Fit W text = (b : A) → Fit b → text ≢ W b

-- `text` is a and then `rest`, and no other value and rest that fit
abbrev pub Reading : {A : Type 0} → (A → Type 0) → (A → List ℕ → List ℕ) → List ℕ → List ℕ → A → Type 0
Reading {A} Fit W text rest a = Fit a × (text ≡ W a rest) × ((b : A) (x : List ℕ) → Fit b → text ≡ W b x → (a ≡ b) × (rest ≡ x))

-- `text` begins with no value that fits
abbrev pub Unread : {A : Type 0} → (A → Type 0) → (A → List ℕ → List ℕ) → List ℕ → Type 0
Unread {A} Fit W text = (b : A) (x : List ℕ) → Fit b → text ≢ W b x

-- a reader that goes from c to d either read a value or found none
abbrev pub Reads : {A : Type 0} → (A → Type 0) → (A → List ℕ → List ℕ) → Cursor → Cursor → Result A FormFault → Type 0
Reads Fit W c d r = MatchResult r (Reading Fit W (left c) (left d)) (λ _. Unread Fit W (left c))

-- `word` is the word of the value that was read, or of none
abbrev pub ReadsWord : {K : Type 0} → (K → List ℕ) → List ℕ → Result K FormFault → Type 0
ReadsWord {K} W word r = MatchResult r (λ k. word ≡ W k) (λ e. (e ≡ UnknownWord) × ((k : K) → word ≢ W k))
