use Rattle.std.proofs.Common.{◌≡◌, ℕ, List, [], Bor, Ok, Err, Result, MatchResult, ◌∙◌, ap, rules}
use Rattle.std.specs.Result.{result_unwrap_or}
use Rattle.std.specs.Str.{IsUtf8}
use Rattle.std.proofs.lemmas.Str.{is_utf8-from_IsUtf8, IsUtf8-from_is_utf8}
use Rattle.forms.specs.Shown.{text_of}
use Rattle.forms.proofs.stages.text_of.Goals as goal

read_or_none :
    {E : Type 0} (bytes : List ℕ) (r : Result (Bor (List ℕ)) E) (d : Bor (List ℕ)) (P : E → Type 0) → d.now ≡ []
    → MatchResult r (λ s. (s.now ≡ bytes) × IsUtf8 bytes) (λ e. ¬ (IsUtf8 bytes) × P e) → (result_unwrap_or r d).now ≡ text_of bytes
read_or_none bytes (Ok s) d P none h = search (rules, is_utf8-from_IsUtf8)
read_or_none bytes (Err e) d P none h = search (rules, IsUtf8-from_is_utf8)

pub returns : goal.returns
returns c = ap (λ (s : Bor (List ℕ)). s.now) c.unwrap_or.ensures ∙ read_or_none c.args.word.now c.from_utf8.result _ _ (search rules) c.from_utf8.ensures.cases
