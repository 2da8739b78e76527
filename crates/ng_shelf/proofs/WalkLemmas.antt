-- Walks along links.
use Rattle.std.proofs.Common.{◌≡◌, ◌≢◌, ℕ, zero, suc, ◌+◌, ◌<◌, List, [], ◌∷◌, ◌++◌, length, get_or, set, refl, ap, ◌∙◌, arith}
use Rattle.std.proofs.lemmas.List.{get_or-set_other}
use Rattle.ng_lists.specs.Arrays.{walk}

pub length-walk : (after : List ℕ) (n at : ℕ) → length (walk after n at) ≡ n
length-walk after zero at = refl
length-walk after (suc n) at = ap suc (length-walk after n (get_or after at 0))

-- a walk goes on past its last index
pub walk-more : (after : List ℕ) (n at : ℕ) → walk after (suc (suc n)) at ≡ walk after (suc n) at ++ get_or after (get_or (walk after (suc n) at) n 0) 0 ∷ []
walk-more after zero at = refl
walk-more after (suc n) at = ap (λ xs. at ∷ xs) (walk-more after n (get_or after at 0))

-- a walk stands where no link that it takes changed
pub walk-set_other : (after : List ℕ) (i next n at : ℕ) → ((k : ℕ) → k + 1 < n → get_or (walk after n at) k 0 ≢ i) → walk (set after i next) n at ≡ walk after n at
walk-set_other after i next zero at apart = refl
walk-set_other after i next (suc zero) at apart = refl
walk-set_other after i next (suc (suc n)) at apart =
    let kept : get_or (set after i next) at 0 ≡ get_or after at 0 = get_or-set_other after i at next 0 (apart 0 (omega arith)) in
    ap (λ xs. at ∷ xs) (ap (walk (set after i next) (suc n)) kept ∙ walk-set_other after i next (suc n) (get_or after at 0) (λ k within. apart (suc k) (omega arith)))
