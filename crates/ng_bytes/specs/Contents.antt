-- What is known of the bytes of blocks.
use Rattle.std.specs.Prelude.{ℕ, ◌+◌, ◌<◌, List, length, slice_index_or}
use Rattle.ng_frame.specs.Judging.{IsSureByte}
use Rattle.ng_view.specs.Frame.{KnowsByte}
use Rattle.ng_view.specs.declared.view.Held.{Held}

-- the bytes from an address on are known to be these, and no others
abbrev pub AreSureBytes : ℕ → List ℕ → Held → Type 0
AreSureBytes a bytes h = (i : ℕ) → i < length bytes → IsSureByte (a + i) (slice_index_or bytes i 0) h

-- the bytes from an address on are known to be these
abbrev pub AreKnownBytes : ℕ → List ℕ → Held → Type 0
AreKnownBytes a bytes h = (i : ℕ) → i < length bytes → KnowsByte (a + i) (slice_index_or bytes i 0) h

-- so many bytes from an address on are known to be 0
abbrev pub AreZero : ℕ → ℕ → Held → Type 0
AreZero a count h = (i : ℕ) → i < count → KnowsByte (a + i) 0 h

-- so many bytes of one slot from an address on are known, and are known to be those of another slot from another address on
abbrev pub AreCopied : ℕ → ℕ → ℕ → Held → Held → Type 0
AreCopied from to count h k = (i : ℕ) → i < count → (b : ℕ) × IsSureByte (from + i) b h × KnowsByte (to + i) b k
