-- What a resize is refused for, and what it enters.
use Rattle.std.specs.Prelude.{◌≡◌, ℕ, ◌+◌, ◌==◌, ◌++◌, if◌then◌else◌, List, ◌∷◌, [], length, Result, Ok, Err, Option, Some, None}
use Rattle.ng_frame.specs.declared.damage.Damage.{Damage}
use Rattle.ng_frame.specs.declared.damage.Damage.TheVariants as damage
use Rattle.ng_space.specs.Blocks.{BlockToken}
use Rattle.ng_space.specs.Callers.{Caller}
use Rattle.ng_terms.specs.declared.entry.Entry.{Entry}
use Rattle.ng_terms.specs.declared.entry.Entry.TheVariants as entry
use Rattle.ng_resize.specs.declared.refusal.ResizeRefusal.{ResizeRefusal}
use Rattle.ng_resize.specs.declared.refusal.ResizeRefusal.TheVariants.{NoMemory, TooLarge, BadReserved, Overrun}

-- what a resize was refused for, if it was
abbrev pub refusal_of : {A B : Type 0} → Result A (B × ResizeRefusal) → Option ResizeRefusal
refusal_of (Ok done) = None
refusal_of (Err left) = Some left.1

-- the damage that a refusal names, if it names one
abbrev pub damage_named : ResizeRefusal → Option Damage
damage_named (NoMemory excuse) = None
damage_named TooLarge = None
damage_named BadReserved = Some damage.BadReserved
damage_named Overrun = Some damage.Overrun

-- the damage that a resize was refused for, if it was
abbrev pub damage_told : {A B : Type 0} → Result A (B × ResizeRefusal) → Option Damage
damage_told (Ok done) = None
damage_told (Err left) = damage_named left.1

-- ---- entries
-- the entry of a refused resize to n bytes of the block at an address
abbrev pub refused_entry : ℕ → ℕ → ResizeRefusal → Entry
refused_entry at n (NoMemory excuse) = entry.NoMemory n excuse
refused_entry at n TooLarge = entry.TooLarge 1 n 16
refused_entry at n BadReserved = entry.Refused at 12
refused_entry at n Overrun = entry.Refused at 13

-- what a resize to n bytes enters: a block that moves is a give and then a take
abbrev pub realloc_entries : BlockToken → ℕ → Result BlockToken (BlockToken × ResizeRefusal) → List Entry
realloc_entries block n (Ok new) = if block.at == new.at then entry.Resize block.at n ∷ [] else entry.Give n 16 new.at ∷ entry.Take block.at ∷ []
realloc_entries block n (Err left) = refused_entry block.at n left.1 ∷ []

-- the book has these entries more, which took as many of its places
pub record EnteredAll (before after : Caller) (more : List Entry) : Type 0 where
  pub number : after.number ≡ before.number
  pub spare : after.spare + length more ≡ before.spare
  pub entries : after.entries ≡ before.entries ++ more
