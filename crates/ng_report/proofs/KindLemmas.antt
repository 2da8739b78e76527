-- A count that rises by a test.
use Rattle.std.proofs.Common.{◌≡◌, ℕ, ◌+◌, Bool, true, false, refl}
use Rattle.std.specs.Prelude.{if◌then◌else◌}
use Rattle.std.specs.Int.{from_bool}

abbrev one_if : Bool → ℕ
one_if test = if test then 1 else 0

from_bool-is : (test : Bool) → from_bool test ≡ one_if test
from_bool-is true = refl
from_bool-is false = refl

-- the count rises by one where the test holds
pub count-raised : (before by : ℕ) (found test : Bool) → by ≡ from_bool found → found ≡ test → before + by ≡ before + (if test then 1 else 0)
count-raised before by found test told same =
    let one : by ≡ one_if test = rw (told, same) (from_bool-is test) in
    rw one refl
