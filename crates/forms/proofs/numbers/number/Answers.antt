use Rattle.std.proofs.Common.{arith, rules}
use Rattle.forms.proofs.Read.{digits_seen, number_read}
use Rattle.forms.proofs.Spelled.{front_whole}
use Rattle.forms.proofs.numbers.number.Goals as goal

pub returns-then-count-eq0 : goal.returns-then-count-eq0
returns-then-count-eq0 c n rest h =
    let p = digits_seen _ _ _ _ n rest c.min.ensures c.split_at.ensures.front c.digits-count.ensures h in
    omega (arith, p.0, p.1, c.then-count-eq0.either)

pub returns-then-text-eq48 : goal.returns-then-text-eq48
returns-then-text-eq48 c n rest h =
    let p = digits_seen _ _ _ _ n rest c.min.ensures c.split_at.ensures.front c.digits-count.ensures h in
    omega (arith, p.2 c.if-text-eq48.true, c.if-count-gt1.true)

pub returns : goal.returns
returns c =
    rw c.value.ensures
    (number_read _ _ _ _ (front_whole _ _ _ _ c.split_at.ensures.front c.digits-count.ensures (λ more. omega arith)) (omega arith) (omega arith) (search rules)
    c.split_at-2.ensures.front c.split_at-2.ensures.back)
