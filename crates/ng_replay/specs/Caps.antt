-- The largest request of some ops.
use Rattle.std.specs.Prelude.{◌≡◌, ◌⊎◌, ℕ, ◌<◌, ◌≤◌, Contains, List}
use Rattle.ng_terms.specs.declared.plan.Op.{Op}
use Rattle.ng_terms.specs.declared.reply.Mode.{Mode}
use Rattle.ng_terms.specs.Accounts.{Asks}
use Rattle.ng_frame.specs.Puts.{asked_for}
use Rattle.ng_terms.specs.Calls.{align_of}
use Rattle.ng_terms.specs.Heap.{large}

-- an op asks for no more bytes under the mode than the cap, but for those that are too many
abbrev pub IsCapped : Mode → ℕ → Op → Type 0
IsCapped mode cap op = (bytes : ℕ) → Asks mode op bytes → bytes < large → bytes ≤ cap

-- so it is of a make of a block of the size
abbrev pub IsSizeCapped : Mode → ℕ → ℕ → Type 0
IsSizeCapped mode cap size = (bytes : ℕ) → (bytes ≡ size) ⊎ (bytes ≡ asked_for size (align_of mode)) → bytes < large → bytes ≤ cap

-- the most bytes that an op asks for under the mode, but for those that are too many; or 0
pub record IsCapIn (mode : Mode) (ops : List Op) (cap : ℕ) : Type 0 where
  pub asked : (cap ≡ 0) ⊎ ((op : Op) × Contains ops op × Asks mode op cap)
  pub greatest : (op : Op) → Contains ops op → IsCapped mode cap op
