-- How a desk and a hand stand for a state of a script, and the memory of a drill.
use Rattle.std.specs.Prelude.{◌≡◌, ◌≢◌, ℕ, ◌+◌, ◌-◌, ◌*◌, ◌/◌, ◌%◌, ◌<◌, ◌≤◌, ◌++◌, List, [], All, Option, Some, None, MatchOption, length, replicate, slice_index_or, vec_capacity}
use Rattle.ng_frame.specs.Inspects.{gap_of}
use Rattle.ng_group.specs.Hands.{IsApart}
use Rattle.ng_heap.specs.At.{HasNoneAt}
use Rattle.ng_heap.specs.declared.freeing_at.AtRefusal.{AtRefusal}
use Rattle.ng_heap.specs.declared.freeing_at.AtRefusal.TheVariants as refusal
use Rattle.ng_script.specs.declared.command.Command.{Command}
use Rattle.ng_script.specs.declared.script.Script.{Script}
use Rattle.ng_space.specs.Blocks.{BlockToken, HasBlock, OfSlot}
use Rattle.ng_space.specs.Callers.{Caller}
use Rattle.ng_view.specs.Frame.{KnowsByte}
use Rattle.ng_view.specs.declared.view.Held.{Held}
use Rattle.ng_drill.specs.States.{Standing, State, byte_in, standing_at}
use Rattle.ng_drill.specs.Steps.{IsStep, entries_of}
use Rattle.ng_drill.specs.declared.answer.Answer.{Answer}
use Rattle.ng_drill.specs.declared.answer.AtFault.{AtFault}
use Rattle.ng_drill.specs.declared.answer.AtFault.TheVariants.{Bad, NotHeld}
use Rattle.ng_drill.specs.declared.desk.Desk.{Desk}
use Rattle.ng_drill.specs.declared.room.Room.{Room}

-- ---- a desk
-- the table has the place of each block by its address, and no other place
pub record IsIndexed (held : List BlockToken) (places : List (Option ℕ)) : Type 0 where
  pub each : (k : ℕ) (d : BlockToken) → k < length held → slice_index_or places ((slice_index_or held k d).at / 16) None ≡ Some k
  pub back : (p k : ℕ) → slice_index_or places p None ≡ Some k → (k < length held) × ((d : BlockToken) → (slice_index_or held k d).at / 16 ≡ p)
  pub whole : (k : ℕ) (d : BlockToken) → k < length held → (slice_index_or held k d).at % 16 ≡ 0

-- a desk for so many names, in a space of so many pages
pub record IsDesk {N : Type 0} (pages names : ℕ) (desk : Desk N) : Type 0 where
  pub named : length desk.names.items ≡ names
  pub table : length desk.places.items ≡ 256 * pages
  pub index : IsIndexed desk.held.items desk.places.items

-- the name has an address, where the block of the place stands; no place is given where the name has none, or none stands there
abbrev pub IsPlaceOf : List (Option ℕ) → List BlockToken → ℕ → Option ℕ → Type 0
IsPlaceOf names held name (Some place) =
    (place < length held) × ((d : BlockToken) → slice_index_or names name None ≡ Some (slice_index_or held place d).at)
IsPlaceOf names held name None = (at : ℕ) → slice_index_or names name None ≡ Some at → HasNoneAt held at

-- ---- what a hand knows of a block's bytes
-- the reserved field of the header in front of an address is known
abbrev pub KnowsField : ℕ → ℕ → Held → Type 0
KnowsField at field h = (byte : ℕ) × KnowsByte (at - 3) byte h × (byte / 32 ≡ field)

-- the bytes that are told from an address on are known
abbrev pub AreTold : ℕ → List (ℕ × ℕ) → Held → Type 0
AreTold at bytes h = (k byte : ℕ) → byte_in k bytes ≡ Some byte → KnowsByte (at + k) byte h

-- the block is the hand's and as it stands; where its slot ends at a cell, what is told of its bytes is known
pub record Stands (hand : Caller) (block : BlockToken) (standing : Standing) : Type 0 where
  pub has : HasBlock hand block
  pub at : standing.at ≡ block.at
  pub gap : standing.gap ≡ gap_of block
  pub above : 4 ≤ block.at
  pub whole : block.at % 16 ≡ 0
  pub roomy : standing.field ≡ 5 → 5 ≤ standing.gap
  pub field : OfSlot hand block.slot (KnowsField block.at standing.field)
  pub bytes : (block.at + gap_of block) % 4 ≡ 0 → OfSlot hand block.slot (AreTold block.at standing.bytes)

-- ---- a state
-- the block is one of those that stand
pub record IsStanding (hand : Caller) (blocks : List Standing) (block : BlockToken) : Type 0 where
  pub standing : Standing
  pub found : standing_at block.at blocks ≡ Some standing
  pub stands : Stands hand block standing

-- the blocks that are held are those that stand, each in a slot of its own
pub record AreStanding (hand : Caller) (held : List BlockToken) (blocks : List Standing) : Type 0 where
  pub each : All (IsStanding hand blocks) held
  pub none : (at : ℕ) → HasNoneAt held at → standing_at at blocks ≡ None
  pub apart : (k j : ℕ) (d : BlockToken) → k < length held → j < length held → k ≢ j
      → IsApart (slice_index_or held k d).slot (slice_index_or held j d).slot

-- hand and desk are as the state says
pub record IsAt {N : Type 0} (hand : Caller) (desk : Desk N) (state : State) : Type 0 where
  pub names : state.names ≡ desk.names.items
  pub blocks : AreStanding hand desk.held.items state.blocks

-- they are at some state
abbrev pub HasState : {N : Type 0} → Caller → Desk N → Type 0
HasState hand desk = (state : State) × IsAt hand desk state

-- ---- a command
-- of the hand's number, book and parcels a command changes only the book, by these entries of which there is one at most
pub record Books (before after : Caller) : Type 0 where
  pub number : after.number ≡ before.number
  pub spare : before.spare ≤ after.spare + 1
  pub sent : after.view.sent ≡ before.view.sent
  pub taken : after.view.taken ≡ before.view.taken

-- the fault of a refused address
abbrev pub fault_of : AtRefusal → AtFault
fault_of (refusal.Bad bad) = Bad bad.fault
fault_of refusal.NotHeld = NotHeld

-- the memory of the desk is as before, with one block more at most
pub record KeepsRoom {N : Type 0} (desk left : Desk N) : Type 0 where
  pub room : vec_capacity left.held ≡ vec_capacity desk.held
  pub more : length left.held.items ≤ length desk.held.items + 1

-- from every state that hand and desk are at, they are at one that the answer to the command leads to
abbrev pub Steps : {N : Type 0} → ℕ → Command → Answer → Caller → Desk N → Caller → Desk N → Type 0
Steps pages command answer before desk after left = (state : State) → IsAt before desk state
    → (next : State) × IsStep pages state command answer next × IsAt after left next

-- ---- the memory of a drill
-- nothing is made yet, and there is room for all that the script's commands may make, in a space of so many pages
pub record HasRoom {N : Type 0} (room : Room N) (script : Script) (pages : ℕ) : Type 0 where
  pub names : room.desk.names.items ≡ replicate script.names None
  pub none : room.desk.held.items ≡ []
  pub held : length script.commands ≤ vec_capacity room.desk.held
  pub places : room.desk.places.items ≡ replicate (256 * pages) None
  pub unanswered : room.answers.items ≡ []
  pub answers : length script.commands ≤ vec_capacity room.answers
