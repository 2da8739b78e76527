-- Stamps that stand in the past.
use Rattle.std.proofs.Common.{◌≡◌, ◌≤◌, ℕ, ◌<◌, ⊎_elim, arith, replicate, get_or}
use Rattle.std.proofs.lemmas.Bool.{cases_lt}
use Rattle.std.proofs.lemmas.List.{get_or-replicate}
use Rattle.std.proofs.Math.ListN.{get_or-eq_default}
use Rattle.ng_policy.specs.Bounce.{AreStampsPast}

-- no stamps are in the past
pub no_stamps-past : (seq : ℕ) → AreStampsPast (replicate 32 0) seq
no_stamps-past seq place =
    ⊎_elim
    (λ (known : place < 32). let none : ◌≡◌ {A = ℕ} (get_or (replicate 32 0) place 0) 0 = get_or-replicate 32 place 0 0 known in omega (arith, none))
    (λ (beyond : 32 ≤ place). let none : ◌≡◌ {A = ℕ} (get_or (replicate 32 0) place 0) 0 = get_or-eq_default (replicate {A = ℕ} 32 0) 0 beyond in omega (arith, none))
    (cases_lt place 32)
