-- A product and a sum that wrap are the next state of the draws.
use Rattle.std.proofs.Common.{◌≡◌, ℕ, ◌+◌, ◌*◌, ◌%◌}
use Rattle.std.proofs.Math.Nat.{mod-add-mod}
use Rattle.ng_generator.specs.Generated.{next}

pub next_is : (x : ℕ) → (x * 6364136223846793005 % 18446744073709551616 + 1442695040888963407) % 18446744073709551616 ≡ next x
unfolding next
next_is x = mod-add-mod (x * 6364136223846793005) 18446744073709551616 1442695040888963407
