-- The slots in use.
use Rattle.std.proofs.Common.{ℕ, ⊎_elim}
use Rattle.std.proofs.lemmas.Bool.{cases_order}
use Rattle.ng_shelf.specs.Shape.{IsOnly, IsRaised}

-- one index is the least stop
pub raised_unique : (class active last index : ℕ) → IsRaised class active last index → IsOnly (IsRaised class active last) index
raised_unique class active last index one other two = ⊎_elim
    (λ same. same)
    (λ apart. ⊎_elim
    (λ below. absurd (one.least other two.above below two.stop))
    (λ above. absurd (two.least index one.above above one.stop))
    apart)
    (cases_order other index)
