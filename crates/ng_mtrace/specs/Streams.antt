-- Bytes that a source has left and that a sink was given, told or not.
use Rattle.std.specs.Prelude.{◌≡◌, ◌≤◌, ℕ, List, [], ◌++◌, length, take, Option, Some, None}

-- these bytes before what is left, where that is told
abbrev pub put_back : List ℕ → Option (List ℕ) → Option (List ℕ)
put_back bytes (Some left) = Some (bytes ++ left)
put_back bytes None = None

-- these bytes behind what was written, where that is told
abbrev pub added : Option (List ℕ) → List ℕ → Option (List ℕ)
added (Some written) bytes = Some (written ++ bytes)
added None bytes = None

-- nothing is left, where that is told
abbrev pub AtEnd : Option (List ℕ) → Type 0
AtEnd (Some left) = left ≡ []
AtEnd None = Unit {0}

-- a beginning of these bytes was written, where that is told
pub record WritesPart (before now : Option (List ℕ)) (bytes : List ℕ) : Type 0 where
  pub count : ℕ
  pub within : count ≤ length bytes
  pub written : now ≡ added before (take count bytes)
