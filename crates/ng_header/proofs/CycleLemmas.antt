-- The power of two above a slack, and the offset that is brought below it.
use Rattle.std.proofs.Common.{◌≡◌, ℕ, ◌+◌, ◌-◌, ◌*◌, ◌/◌, ◌%◌, ◌^◌, ◌<◌, ◌≤◌, Option, nat_eq, true, refl, arith, bit_and, bit_or}
use Rattle.std.specs.Int.{leading_zeros, w64}
use Rattle.std.specs.Int.Count.{count_leading_zeros}
use Rattle.std.proofs.lemmas.Bool.{agree_below_at, eqb-true}
use Rattle.std.proofs.lemmas.Nat.{and_mask, leading_length}
use Rattle.std.proofs.Math.Nat.{mod-eq_of_lt}
use Rattle.std.proofs.lemmas.Grind.{common_steps}
use Rattle.ng_header.specs.Cycle.{cycle_of, power_above}

-- a number and the same a few places lower
abbrev halves : ℕ → ℕ → ℕ
halves places n = bit_or n (n / 2 ^ places)

-- three such steps set all bits from the highest one down, by a test that computes at each slack below 256
pub halves-power_above : (slack : ℕ) → slack < 256 → halves 4 (halves 2 (halves 1 slack)) ≡ power_above slack - 1
unfolding count_leading_zeros
halves-power_above slack low =
    eqb-true _ _ (agree_below_at (λ n. nat_eq (halves 4 (halves 2 (halves 1 n))) (power_above n - 1)) (λ n. true) 256 slack refl low)

-- the bits below the power are the remainder by it
pub bit_and-power_above : (offset slack : ℕ) → bit_and offset (power_above slack - 1) ≡ offset % power_above slack
bit_and-power_above offset slack = and_mask offset (64 - leading_zeros w64 slack)

-- the power is above the slack, and at most twice it and one more
pub record IsPowerAbove (slack : ℕ) : Type 0 where
  pub above : slack < power_above slack
  pub near : power_above slack ≤ 2 * slack + 1

-- so it is the least one above the slack
pub power_above-bounds : (slack : ℕ) → slack < 2 ^ 64 → IsPowerAbove slack
power_above-bounds slack low =
    let (m, zeros, above, near) = leading_length 64 slack low in
    let length : 64 - leading_zeros w64 slack ≡ m = omega (arith, zeros) in
    record { above = rw length above; near = rw length near }

-- an offset up to the slack is below the power
pub mod_power_above-small : (offset slack : ℕ) → offset ≤ slack → slack < 2 ^ 64 → offset % power_above slack ≡ offset
mod_power_above-small offset slack small low =
    let power : IsPowerAbove slack = power_above-bounds slack low in
    let below : offset < power_above slack = omega (arith, power.above) in
    mod-eq_of_lt below

-- what the proof of `cycle` needs of the power
pub ruleset cycle_steps = (bit_and-power_above, mod_power_above-small, power_above-bounds)

-- an offset is at most the slack
pub cycle_of-le : (old : Option ℕ) (slack counter : ℕ) → slack < 2 ^ 64 → cycle_of old slack counter ≤ slack
cycle_of-le old slack counter low = grind (arith, common_steps, power_above-bounds slack low)
