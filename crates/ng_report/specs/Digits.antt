-- Hexadecimal digits, one at a time. No public clause cites this module.
use Rattle.std.specs.Prelude.{ℕ, List, false}
use Rattle.std.specs.Fmt.{digits_onto}

-- the digits of n, at most k of them, before the digits acc: opaque, so that no goal computes 64 steps
unfoldable pub from_digit : ℕ → ℕ → List ℕ → List ℕ
from_digit k n acc = digits_onto k 16 false n acc
