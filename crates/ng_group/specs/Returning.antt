-- Slots that are returned, and groups that end by it.
use Rattle.std.specs.Prelude.{◌≡◌, ◌≢◌, ◌⊎◌, ℕ, ◌+◌, ◌*◌, ◌%◌, ◌^◌, ◌<◌, ◌≤◌, ◌∷◌, ◌++◌, ◌↔◌, [], Bool, Contains, IsTrue, List, None, Option, Some, true, false, slice_index}
use Rattle.ng_class.specs.Class.{units_of}
use Rattle.ng_class.specs.Mask.{FillsGroup}
use Rattle.ng_class.specs.Slot.{stride_of}
use Rattle.ng_lists.specs.Rings.{IsListed}
use Rattle.ng_mapper.specs.Runs as mapper
use Rattle.ng_mask.specs.Fetches.{Captures, OfGroup}
use Rattle.ng_policy.specs.Bounce.{IsBouncing}
use Rattle.ng_policy.specs.declared.ask.Spare.{Spare}
use Rattle.ng_view.specs.Loads.{freed_read}
use Rattle.ng_view.specs.LockSteps.{avail_read, bits_pushed, outside, ring_read}
use Rattle.ng_view.specs.Steps.{read}
use Rattle.ng_view.specs.Lists.{Among, find}
use Rattle.ng_view.specs.declared.view.Group.{Group}
use Rattle.ng_view.specs.declared.view.Held.{Held}
use Rattle.ng_view.specs.declared.view.View.{View}
use Rattle.ng_serve.specs.Groups.{Describes, ReadsFields}
use Rattle.ng_serve.specs.Takes.{SetsCaptured}
use Rattle.ng_serve.specs.declared.group.LiveGroup.{LiveGroup}
use Rattle.ng_ledger.specs.Groups.{IsUnborn}
use Rattle.ng_ledger.specs.Metas.{IsBlankMeta}
use Rattle.ng_ledger.specs.Rings.{entered}
use Rattle.ng_ledger.specs.Standing.{InHand, Ledger}
use Rattle.ng_group.specs.Ending.{Ends}
use Rattle.ng_group.specs.States.{State, with_active}

-- one slot is in the seat, without a block: that of an index in a live group
pub record HasReturned (v : View) (meta index : ℕ) : Type 0 where
  pub group : Group
  pub there : Among group v.desk.groups
  pub of_meta : group.meta ≡ meta
  pub within : index ≤ group.last
  pub slot : Held
  pub held : v.held ≡ slot ∷ []
  pub of_group : slot.place.group ≡ group
  pub of_index : slot.place.index ≡ index
  pub bare : slot.block ≡ None

-- every slot of a live group is in the seat, and no others; and both of its masks are noted as 0
pub record HasWhole (v : View) (meta : ℕ) : Type 0 where
  pub group : Group
  pub there : Among group v.desk.groups
  pub of_meta : group.meta ≡ meta
  pub each : (i : ℕ) → i ≤ group.last → (h : Held) × (find meta i v.held ≡ Some h)
  pub only : outside meta v.held ≡ []
  pub no_avail : Among meta v.desk.zero_avail
  pub no_freed : Among meta v.desk.zero_freed

-- what the rules are asked of a group whose slots are all free
pub record IsSpare {M P : Type 0} (s : State M P) (meta : ℕ) (found : LiveGroup) (spare : Spare) : Type 0 where
  pub class_is : spare.class ≡ found.class
  pub slots_is : spare.slots ≡ found.last + 1
  pub usage_is : spare.usage ≡ slice_index s.usage found.class
  pub alone_is : IsTrue spare.alone ↔ Contains s.rings.rings (meta ∷ [])
  pub bouncing_is : IsTrue spare.bouncing ↔ IsBouncing s.bounces found.class

-- the group may go without the rules: it is one block, or its stride is below its class size, or it is nested
abbrev pub IsLoose : LiveGroup → Type 0
IsLoose found = (found.class ≡ 63) ⊎ ((stride_of found.class found.last found.maplen < 16 * units_of found.class) ⊎ (found.maplen ≡ 0))

-- the group may go, where keeps says what the rules may answer: it is loose, or the rules don't keep it
abbrev pub MayGo : {M P : Type 0} → (Spare → Bool → Type 0) → State M P → ℕ → LiveGroup → Type 0
MayGo keeps s meta found = IsLoose found ⊎ ((spare : Spare) × IsSpare s meta found spare × keeps spare false)

-- the group stays: it isn't loose, and the rules keep it
abbrev pub IsKept : {M P : Type 0} → (Spare → Bool → Type 0) → State M P → ℕ → LiveGroup → Type 0
IsKept keeps s meta found = (¬ IsLoose found) × ((spare : Spare) × IsSpare s meta found spare × keeps spare true)

-- both masks of a group were read, freed first, and what they tell is noted: nothing else changed
pub record ReadsBoth (v : View) (meta freed avail : ℕ) (w : View) : Type 0 where
  pub first : ℕ
  pub second : ℕ
  pub freed_is : freed ≡ first % 2 ^ 32
  pub avail_is : avail ≡ second % 2 ^ 32
  pub view : w ≡ read (avail_read (read (freed_read v meta first) (meta + 28) first) meta second) (meta + 24) second

-- both masks were captured, and the answer is whether they and the slot are all slots of the group: where they aren't, they
-- and the slot are back in their masks, and the group is listed in its ring
pub record CapturesAll (v : View) (meta index last : ℕ) (answer : Bool) (after : View) : Type 0 where
  pub avail : ℕ
  pub freed : ℕ
  pub between : View
  pub captures : Captures v meta avail freed between
  pub fills : IsTrue answer ↔ FillsGroup avail freed index last
  pub whole : answer ≡ true → after ≡ between
  pub back : answer ≡ false → SetsCaptured between meta avail freed index after × Among meta v.desk.listed

-- the group is in its ring; or it came last into it, as was noted by its freed mask, and the active word of the class followed.
-- Nothing else changed
abbrev pub Enlists : {M P : Type 0} → ℕ → ℕ → State M P → State M P → Type 0
Enlists class meta before after = (IsListed before.rings meta × (after ≡ before))
    ⊎ ((¬ IsListed before.rings meta) × ((mask : ℕ) × (after ≡ with_active
    (record before {
      seat = read (ring_read before.seat meta true mask) (meta + 28) mask;
      rings = entered before.rings class meta;
    })
    class)))

-- the group is in its ring, and then the bit of the slot was set in freed. Nothing else changed
pub record GoesBack {M P : Type 0} (class meta index : ℕ) (before after : State M P) : Type 0 where
  pub mid : State M P
  pub enlists : Enlists class meta before mid
  pub mask : ℕ
  pub state : after ≡ record mid { seat = read (bits_pushed mid.seat meta (2 ^ index)) (meta + 28) mask }

-- the slot of that index was returned to a live group whose numbers are found. Its masks were read; where they and the
-- slot fill the group, and it may go, both were captured, and the answer is whether the captured masks and the slot fill
-- it. Else the slot went back. Nothing else changed
pub record TakesWhole {M P : Type 0} (keeps : Spare → Bool → Type 0) (before : State M P)
    (meta index : ℕ) (found : LiveGroup) (answer : Bool) (after : State M P) : Type 0 where
  pub freed : ℕ
  pub avail : ℕ
  pub between : View
  pub reads : ReadsBoth before.seat meta freed avail between
  pub ends : (FillsGroup avail freed index found.last × MayGo keeps before meta found
      × CapturesAll between meta index found.last answer after.seat × (after ≡ record before { seat = after.seat }))
      ⊎ (((¬ FillsGroup avail freed index found.last) ⊎ IsKept keeps before meta found)
      × (answer ≡ false) × GoesBack found.class meta index (record before { seat = between }) after)

-- all slots of the group were taken, and it ended
pub record TakesAndEnds {M P : Type 0} (keeps : Spare → Bool → Type 0) (runs : M → List mapper.Run) (before : State M P)
    (meta index : ℕ) (found : LiveGroup) (answer : Option (ℕ × ℕ)) (after : State M P) : Type 0 where
  pub taken : State M P
  pub takes : TakesWhole keeps before meta index found true taken
  pub ends : Ends runs meta found answer taken after

-- the meta has come last among the free ones
abbrev pub with_free : {M P : Type 0} → State M P → ℕ → State M P
with_free s meta = record s { stock = record s.stock { returned = s.stock.returned ++ meta ∷ [] } }

-- a slot that carried a group which ended, and the numbers of the group around
pub record Around : Type 0 where
  pub meta : ℕ
  pub index : ℕ
  pub found : LiveGroup

-- these numbers were read
abbrev pub ReadsAround : View → Around → View → Type 0
ReadsAround v around w = ReadsFields v around.meta w × OfGroup w around.meta (Describes around.found)

-- a slot of that index was returned to a live group whose numbers are found. It went back, or the group ended, and its run
-- with it, and its meta came last among the free ones. Or the group ended, and the slot that carried it was returned in the
-- same way to the group around, before the meta came there; and so on outwards. No other group or run went
abbrev pub ReturnsOutwards : {M P : Type 0} → (Spare → Bool → Type 0) → (M → List mapper.Run)
    → State M P → ℕ → ℕ → LiveGroup → List Around → State M P → Type 0
ReturnsOutwards {M} {P} keeps runs before meta index found [] after = TakesWhole keeps before meta index found false after
    ⊎ ((ended : State M P) × TakesAndEnds keeps runs before meta index found None ended × (after ≡ with_free ended meta))
ReturnsOutwards {M} {P} keeps runs before meta index found (around ∷ more) after =
    (ended : State M P) × (looked : View) × (back : State M P)
    × TakesAndEnds keeps runs before meta index found (Some (around.meta, around.index)) ended
    × ReadsAround ended.seat around looked
    × ReturnsOutwards keeps runs (record ended { seat = looked }) around.meta around.index around.found more back
    × (after ≡ with_free back meta)

-- through so many groups, or none
abbrev pub Returns : {M P : Type 0} → (Spare → Bool → Type 0) → (M → List mapper.Run) → State M P → ℕ → ℕ → LiveGroup → State M P → Type 0
Returns keeps runs before meta index found after = (around : List Around) × ReturnsOutwards keeps runs before meta index found around after

-- the same of a slot that a hand had: it came into the seat, and the words of its group's meta were read first
pub record ReturnsOfHand {M P : Type 0} (keeps : Spare → Bool → Type 0) (runs : M → List mapper.Run)
    (before after : State M P) (meta index : ℕ) : Type 0 where
  pub found : LiveGroup
  pub looked : View
  pub slot : HasReturned looked meta index
  pub describes : Describes found slot.group
  pub reads : ReadsFields (record before.seat { held = looked.held }) meta looked
  pub returns : Returns keeps runs (record before { seat = looked }) meta index found after

-- the meta of a group that ended has come in hand, with its cells known to be 0; the others in hand are the same
pub record ComesInHand (meta : ℕ) (before after : Ledger) : Type 0 where
  pub unborn : IsUnborn after.seat.desk.groups meta
  pub here : InHand after meta
  pub clear : IsBlankMeta after.seat.desk.cells meta
  pub none_more : (m : ℕ) → m ≢ meta → InHand after m → InHand before m
  pub none_less : (m : ℕ) → InHand before m → InHand after m
  pub blank : (m : ℕ) → InHand before m → IsBlankMeta before.seat.desk.cells m → IsBlankMeta after.seat.desk.cells m

-- the group of that meta, where it is live, is of a class above this one
abbrev pub IsAbove : ℕ → View → ℕ → Type 0
IsAbove class v meta = (g : Group) → Among g v.desk.groups → g.meta ≡ meta → class + 1 < g.tag
