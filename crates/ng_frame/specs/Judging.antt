-- The verdict on the frame of a block, by the cells that are known of its slot.
use Rattle.std.specs.Prelude.{◌≡◌, ℕ, ◌+◌, ◌-◌, ◌*◌, ◌/◌, ◌%◌, ◌^◌, ◌<◌, Option, Some, None, Result, Ok, Err}
use Rattle.ng_header.specs.Reading.{nominal_in, reserved_in}
use Rattle.ng_header.specs.declared.reading.NominalFault.{NominalFault}
use Rattle.ng_header.specs.declared.reading.NominalFault.TheVariants as nominal
use Rattle.ng_view.specs.Blocks.{Knows}
use Rattle.ng_space.specs.Blocks.{BlockToken, OfSlot}
use Rattle.ng_space.specs.Callers.{Caller}
use Rattle.ng_frame.specs.Inspects.{gap_of}
use Rattle.ng_view.specs.declared.view.Held.{Held}
use Rattle.ng_frame.specs.declared.damage.Damage.{Damage}
use Rattle.ng_frame.specs.declared.damage.Damage.TheVariants.{BadReserved, Overrun}
use Rattle.ng_frame.specs.declared.words.Words.{Words}

-- the length, or what is wrong with the first reserved byte; the byte at a slot's end is 0
abbrev pub verdict_by : ℕ → ℕ → Result ℕ NominalFault → Result ℕ NominalFault
verdict_by gap mark (Ok reserved) = nominal_in gap reserved mark 0
verdict_by gap mark (Err fault) = Err fault

-- the cell at a is known to have the value x, and no other value is known of it
pub record IsSure (a x : ℕ) (h : Held) : Type 0 where
  pub known : Knows a x h
  pub only : (y : ℕ) → Knows a y h → y ≡ x

-- and so it is of the byte at y
abbrev pub IsSureByte : ℕ → ℕ → Held → Type 0
IsSureByte y b h = (x : ℕ) × IsSure (4 * (y / 4)) x h × (x / 2 ^ (8 * (y % 4)) % 256 ≡ b)

-- and of the words of a block's frame
pub record AreSure (block : BlockToken) (w : Words) (h : Held) : Type 0 where
  pub header : IsSure (block.at - 4) w.header h
  pub last : IsSure (block.slot.end - 4) w.last h
  pub fifth : IsSure (block.slot.end - 8) w.fifth h

-- the slot ends at a cell; the header in front of `at` is known; where its reserved field is 5, so are the last number before
-- the slot's end, which is `gap` bytes behind `at`, and the byte before that; where they tell reserved
-- bytes, so is the first of these; and the verdict is by them
pub record IsJudged (h : Held) (at gap : ℕ) (verdict : Result ℕ NominalFault) : Type 0 where
  pub header : ℕ
  pub word : ℕ
  pub fifth : ℕ
  pub mark : ℕ
  pub whole : (at + gap) % 4 ≡ 0
  pub front : IsSure (at - 4) header h
  pub number : header / 8192 % 8 ≡ 5 → IsSure (at + gap - 4) word h × IsSureByte (at + gap - 5) fifth h
  pub first : (reserved : ℕ) → reserved_in (header / 8192 % 8) (word % 4294967296) fifth gap ≡ Ok reserved → 0 < reserved
      → IsSureByte (at + gap - reserved) mark h
  pub told : verdict ≡ verdict_by gap mark (reserved_in (header / 8192 % 8) (word % 4294967296) fifth gap)

-- the verdict of a length or a damage
abbrev pub verdict_of : Result ℕ Damage → Result ℕ NominalFault
verdict_of (Ok len) = Ok len
verdict_of (Err BadReserved) = Err nominal.BadReserved
verdict_of (Err Overrun) = Err nominal.Overrun

-- the damage, if there is one
abbrev pub damage_in : Result ℕ Damage → Option Damage
damage_in (Ok len) = None
damage_in (Err damage) = Some damage

-- the damage of a verdict; the byte at a slot's end is 0, whatever its block was used for
abbrev pub damage_by : Result ℕ NominalFault → Option Damage
damage_by (Ok len) = None
damage_by (Err nominal.BadReserved) = Some BadReserved
damage_by (Err nominal.Overrun) = Some Overrun
damage_by (Err nominal.EndByte) = Some Overrun

-- where a verdict on the block's frame is known, it is this
abbrev pub IsKnownVerdict : Caller → BlockToken → Result ℕ NominalFault → Type 0
IsKnownVerdict hand block verdict = (known : Result ℕ NominalFault)
    → OfSlot hand block.slot (λ h. IsJudged h block.at (gap_of block) known) → known ≡ verdict

-- and the damage, if there is one, is that verdict's
abbrev pub IsKnownDamage : Caller → BlockToken → Option Damage → Type 0
IsKnownDamage hand block damage = (known : Result ℕ NominalFault)
    → OfSlot hand block.slot (λ h. IsJudged h block.at (gap_of block) known) → damage ≡ damage_by known
