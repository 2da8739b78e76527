-- The sequential heap: its live list, and which entry is a legal step of it. It chooses any free place.
use Rattle.std.specs.Prelude.{◌≡◌, ◌≢◌, ◌⊎◌, ℕ, ◌+◌, ◌*◌, ◌-◌, ◌%◌, ◌^◌, ◌<◌, ◌≤◌, max, bit_and, ◌==◌, Bool, not, if◌then◌else◌, List, ◌∷◌, [], All, Contains, filter, map}
use Rattle.ng_terms.specs.declared.entry.Entry.{Entry}
use Rattle.ng_terms.specs.declared.entry.Entry.TheVariants.{Give, Take, Resize, NoMemory, TooLarge, BadAlign, Refused}
use Rattle.ng_terms.specs.declared.entry.Extent.{Extent}

-- the addresses of a space: from the lower bound up to, and without, the upper one
pub record Space : Type 0 where
  pub lower : ℕ
  pub upper : ℕ

-- a space of so many bytes, without its first page
abbrev pub space_of : ℕ → Space
space_of bytes = record { lower = 4096; upper = bytes }

-- the live blocks, and the excuses that were used
pub record State : Type 0 where
  pub live : List Extent
  pub used : List ℕ

abbrev pub empty : State
empty = record { live = []; used = [] }

abbrev pub extent : ℕ → ℕ → ℕ → Extent
extent at len align = record { at = at; len = len; align = align }

-- where a block's interval ends: a block of 0 bytes has one of its own too
abbrev pub end_of : Extent → ℕ
end_of block = block.at + max block.len 1

-- two blocks have no byte in common
abbrev pub Apart : Extent → Extent → Type 0
Apart a b = (end_of a ≤ b.at) ⊎ (end_of b ≤ a.at)

-- some live block has the address
abbrev pub IsLive : List Extent → ℕ → Type 0
IsLive live at = (block : Extent) × Contains live block × (block.at ≡ at)

-- 0 or a power of two: of its bits only the lowest is set
abbrev pub IsAlignment : ℕ → Type 0
IsAlignment align = bit_and align ((2 ^ 64 - align) % 2 ^ 64) ≡ align

-- sizes from this one on are too large
abbrev pub large : ℕ
large = 9223372036854771711

-- so much room is beyond every heap, in whole numbers
abbrev pub IsTooLarge : ℕ → ℕ → ℕ → Type 0
IsTooLarge count size align = (2 ^ 35 ≤ align) ⊎ (large + 16 ≤ count * size + max align 16)

-- a block may be given
pub record MayGive (space : Space) (live : List Extent) (block : Extent) : Type 0 where
  pub alignment : IsAlignment block.align
  pub aligned : block.at % max block.align 16 ≡ 0
  pub above : space.lower ≤ block.at
  pub below : end_of block ≤ space.upper
  pub apart : (other : Extent) → Contains live other → Apart other block

-- the block at an address may get another length
pub record MayResize (space : Space) (live : List Extent) (at len : ℕ) : Type 0 where
  pub there : IsLive live at
  pub below : at + max len 1 ≤ space.upper
  pub apart : (other : Extent) → Contains live other → (other.at ≡ at) ⊎ Apart other (extent at len 16)

-- an excuse may be used: a number at which the count of refusals stays may be used again
pub record MayExcuse (used : List ℕ) (excuse : ℕ) : Type 0 where
  pub some : 1 ≤ excuse
  pub fresh : excuse ≢ 2 ^ 64 - 1 → ¬ Contains used excuse

-- the entry is a legal step from the state
abbrev pub IsLegalStep : Space → State → Entry → Type 0
IsLegalStep space state (Give n align at) = MayGive space state.live (extent at n align)
IsLegalStep space state (Take at) = IsLive state.live at
IsLegalStep space state (Resize at n) = MayResize space state.live at n
IsLegalStep space state (NoMemory n excuse) = MayExcuse state.used excuse
IsLegalStep space state (TooLarge count size align) = IsTooLarge count size align
IsLegalStep space state (BadAlign align) = ¬ IsAlignment align
IsLegalStep space state (Refused at name) = (1 ≤ name) × (name ≤ 15)

-- the live list without the block at an address
abbrev pub without : ℕ → List Extent → List Extent
without at live = filter (λ block. not (block.at == at)) live

-- the live list with another length, and the common alignment, for the block at an address
abbrev pub resized : ℕ → ℕ → List Extent → List Extent
resized at len live = map (λ block. if block.at == at then extent at len 16 else block) live

-- the state after an entry
abbrev pub after : State → Entry → State
after state (Give n align at) = record { live = extent at n align ∷ state.live; used = state.used }
after state (Take at) = record { live = without at state.live; used = state.used }
after state (Resize at n) = record { live = resized at n state.live; used = state.used }
after state (NoMemory n excuse) = record { live = state.live; used = excuse ∷ state.used }
after state (TooLarge count size align) = state
after state (BadAlign align) = state
after state (Refused at name) = state
