-- What a call builds, and when it asks the mapper for pages.
use Rattle.std.specs.Prelude.{◌≡◌, ◌⊎◌, ℕ, ◌+◌, ◌*◌, ◌%◌, ◌^◌, ◌<◌, ◌≤◌, ◌∷◌, ◌++◌, [], List, length, not, true, false}
use Rattle.ng_class.specs.Class.{IsLeastClass, units_of}
use Rattle.ng_lists.specs.Rings.{ring_of}
use Rattle.ng_policy.specs.Ask.{IsCount}
use Rattle.ng_policy.specs.Bounce.{accounted, stepped}
use Rattle.ng_policy.specs.declared.ask.Ask.{Ask}
use Rattle.ng_serve.specs.Reads.{AllBare, IsBareIn}
use Rattle.ng_shelf.specs.Shape.{IsNestedSize, shape_of}
use Rattle.ng_shelf.specs.Stock.{free_of}
use Rattle.ng_view.specs.Lists.{Among, count_of, total_by}
use Rattle.ng_view.specs.declared.view.Group.{Group}
use Rattle.ng_view.specs.declared.view.Run.{Run}
use Rattle.ng_ledger.specs.Rings.{IsIn}
use Rattle.ng_ledger.specs.Runs.{areas_in}
use Rattle.ng_group.specs.Building.{IsAsk}
use Rattle.ng_group.specs.Serving.{ServesRing}
use Rattle.ng_group.specs.States.{State}
use Rattle.ng_group.specs.Steps.{Came}

-- a group that is wanted: its class, the bytes asked of it, what the rules were asked, and the slots that they want
pub record Want : Type 0 where
  pub class : ℕ
  pub bytes : ℕ
  pub ask : Ask
  pub count : ℕ

-- the rules were asked by the core as it stood, and gave that number, which a group of the class may have
pub record IsAsked {M P : Type 0} (counts : Ask → ℕ → Type 0) (s : State M P) (w : Want) : Type 0 where
  pub ask_is : IsAsk s.usage s.bounces w.class w.ask
  pub count_is : counts w.ask w.count
  pub allowed : IsCount w.class w.count

-- the bytes that a slot serves which carries the wanted group
abbrev pub carried_bytes : Want → ℕ
carried_bytes w = 16 * units_of w.class * w.count + 12

-- the wanted group lies in a slot of that class
pub record IsCarried {M P : Type 0} (counts : Ask → ℕ → Type 0) (s : State M P) (w : Want) (next : ℕ) : Type 0 where
  pub asked : IsAsked counts s w
  pub small : IsNestedSize w.class w.count
  pub least : IsLeastClass (carried_bytes w) next

-- groups are wanted for so many bytes of a class, each but the last to lie in a slot of the next
abbrev pub IsChain : {M P : Type 0} → (Ask → ℕ → Type 0) → State M P → ℕ → ℕ → List Want → Type 0
IsChain counts s class bytes [] = Unit {0}
IsChain counts s class bytes (w ∷ ws) = (w.class ≡ class) × (w.bytes ≡ bytes)
    × ((ws ≡ []) ⊎ ((next : ℕ) × IsCarried counts s w next × IsChain counts s next (carried_bytes w) ws))

-- and every group in the rings of their classes was read to be bare
pub record AreWanted {M P : Type 0} (counts : Ask → ℕ → Type 0) (s : State M P) (words : List (ℕ × ℕ)) (class bytes : ℕ) (ws : List Want) : Type 0 where
  pub chain : IsChain counts s class bytes ws
  pub bare : (w : Want) → Among w ws → (m : ℕ) → IsIn s.rings w.class m → IsBareIn words m

-- the last of some wanted groups is this, for which the rules were asked
pub record IsLastWanted {M P : Type 0} (counts : Ask → ℕ → Type 0) (s : State M P) (words : List (ℕ × ℕ)) (class bytes : ℕ) (w : Want) : Type 0 where
  pub asked : IsAsked counts s w
  pub before : List Want
  pub wanted : AreWanted counts s words class bytes (before ++ w ∷ [])

-- the wanted group gets a run of its own, of so many pages
pub record WantsRun {M P : Type 0} (counts : Ask → ℕ → Type 0) (s : State M P) (words : List (ℕ × ℕ)) (class bytes pages : ℕ) : Type 0 where
  pub want : Want
  pub last : IsLastWanted counts s words class bytes want
  pub large : ¬ IsNestedSize want.class want.count
  pub pages_are : pages ≡ (shape_of want.ask want.bytes want.count).pages

-- more groups are wanted than metas were free
pub record WantsArea {M P : Type 0} (counts : Ask → ℕ → Type 0) (s : State M P) (words : List (ℕ × ℕ)) (class bytes : ℕ) : Type 0 where
  pub wants : List Want
  pub wanted : AreWanted counts s words class bytes wants
  pub few : length (free_of s.stock) < length wants

-- the slots of a wanted group
pub record HasSlots (w : Want) (g : Group) : Type 0 where
  pub class_is : g.tag ≡ w.class + 1
  pub nested : IsNestedSize w.class w.count → g.last + 1 ≡ w.count
  pub mapped : ¬ IsNestedSize w.class w.count → g.last + 1 ≡ (shape_of w.ask w.bytes w.count).count

-- how many of the runs are for groups
abbrev pub group_runs : List Run → ℕ
group_runs runs = total_by (λ (r : Run). count_of (not r.area)) runs

-- no area came, or one did, which was wanted
abbrev pub IsAreaWanted : {M P : Type 0} → (Ask → ℕ → Type 0) → State M P → State M P → List (ℕ × ℕ) → ℕ → ℕ → Type 0
IsAreaWanted counts before after words class bytes = (areas_in after.seat.desk.layout.runs ≡ areas_in before.seat.desk.layout.runs)
    ⊎ ((areas_in after.seat.desk.layout.runs ≡ areas_in before.seat.desk.layout.runs + 1) × WantsArea counts before words class bytes)

-- the run was noted, or is an area that was wanted, or one for a wanted group
abbrev pub IsRunWanted : {M P : Type 0} → (Ask → ℕ → Type 0) → State M P → List (ℕ × ℕ) → ℕ → ℕ → Run → Type 0
IsRunWanted counts s words class bytes r = Among r s.seat.desk.layout.runs
    ⊎ ((r.area ≡ true) × (r.pages ≡ 1) × WantsArea counts s words class bytes)
    ⊎ ((r.area ≡ false) × WantsRun counts s words class bytes r.pages)

-- the group was live, or is a wanted one, with the slots that are due to it
abbrev pub IsGroupWanted : {M P : Type 0} → (Ask → ℕ → Type 0) → State M P → List (ℕ × ℕ) → ℕ → ℕ → Group → Type 0
IsGroupWanted counts s words class bytes g = Among g s.seat.desk.groups
    ⊎ ((w : Want) × IsLastWanted counts s words class bytes w × HasSlots w g)

-- each group is of a greater class than the one before it, the first of the class or a greater one
abbrev pub AreRising : ℕ → List Group → Type 0
AreRising class [] = Unit {0}
AreRising class (g ∷ gs) = (class < g.tag) × AreRising g.tag gs

-- a slot was sought of the class: it is the one asked for, or a slot of it was to carry the last of some wanted groups
abbrev pub IsSought : {M P : Type 0} → (Ask → ℕ → Type 0) → State M P → List (ℕ × ℕ) → ℕ → ℕ → ℕ → Type 0
IsSought counts s words class bytes sought = (sought ≡ class)
    ⊎ ((w : Want) × IsLastWanted counts s words class bytes w × IsCarried counts s w sought)

-- the ring of a class that was sought served the call, no run for a group came, and none was counted
pub record GetsFromRing {M P : Type 0} (counts : Ask → ℕ → Type 0) (before after : State M P) (early late : List (ℕ × ℕ)) (class bytes : ℕ) : Type 0 where
  pub sought : ℕ
  pub is_sought : IsSought counts before early class bytes sought
  pub above : class ≤ sought
  pub serves : ServesRing sought before after late
  pub runs : group_runs after.seat.desk.layout.runs ≡ group_runs before.seat.desk.layout.runs
  pub counter : after.counter ≡ before.counter

-- one run for a group came, for a wanted one, and was counted: its class bounces more if it was unmapped lately, and the
-- mapping is a step of the bounces
pub record GetsByRun {M P : Type 0} (counts : Ask → ℕ → Type 0) (before after : State M P) (early : List (ℕ × ℕ)) (class bytes : ℕ) : Type 0 where
  pub pages : ℕ
  pub wants : WantsRun counts before early class bytes pages
  pub runs : group_runs after.seat.desk.layout.runs ≡ group_runs before.seat.desk.layout.runs + 1
  pub counter : after.counter ≡ (before.counter + 1) % 2 ^ 64
  pub bounces : after.bounces ≡ stepped (accounted before.bounces wants.want.class)

-- the seat got a slot for so many bytes of a class. Up to some point no mask that was read had a slot, and of what was read
-- till then it follows what was wanted. Each run and each group stayed; what came was wanted, one area at most and one group of
-- each class; and the slot came out of a ring, or by a run
pub record GetsSlot {M P : Type 0} (counts : Ask → ℕ → Type 0) (before after : State M P) (class bytes : ℕ) : Type 0 where
  pub early : List (ℕ × ℕ)
  pub late : List (ℕ × ℕ)
  pub readings : after.seat.readings ≡ before.seat.readings ++ (early ++ late)
  pub all : AllBare early
  pub new_runs : List Run
  pub runs_are : after.seat.desk.layout.runs ≡ new_runs ++ before.seat.desk.layout.runs
  pub runs : (r : Run) → Among r after.seat.desk.layout.runs → IsRunWanted counts before early class bytes r
  pub one_area : IsAreaWanted counts before after early class bytes
  pub new_groups : List Group
  pub groups_are : after.seat.desk.groups ≡ new_groups ++ before.seat.desk.groups
  pub groups : (g : Group) → Among g after.seat.desk.groups → IsGroupWanted counts before early class bytes g
  pub rising : AreRising class new_groups
  pub source : GetsFromRing counts before after early late class bytes ⊎ GetsByRun counts before after early class bytes

-- the core is as before, since the hand got the slot by itself; or the seat got it
abbrev pub BuildsWanted : {M P : Type 0} → (Ask → ℕ → Type 0) → State M P → State M P → ℕ → ℕ → Type 0
BuildsWanted counts before after class bytes = (after ≡ before) ⊎ GetsSlot counts before after class bytes

-- the run of a wanted group was asked for, and the bounces are as they are where it comes
abbrev pub AsksRun : {M P : Type 0} → (Ask → ℕ → Type 0) → State M P → State M P → List (ℕ × ℕ) → ℕ → ℕ → ℕ → Type 0
AsksRun counts before after words class bytes pages = (run : WantsRun counts before words class bytes pages)
    × (after.bounces ≡ stepped (accounted before.bounces run.want.class))

-- the refused map call was for an area that was wanted, no area came, and the bounces are as before; or it was for the run of a
-- wanted group, and one area came at most
pub record RefusedWanted {M P : Type 0} (counts : Ask → ℕ → Type 0) (before after : State M P) (class bytes pages : ℕ) : Type 0 where
  pub came : Came before.seat after.seat
  pub one_area : IsAreaWanted counts before after came.words class bytes
  pub cause : ((pages ≡ 1) × (areas_in after.seat.desk.layout.runs ≡ areas_in before.seat.desk.layout.runs) × (after.bounces ≡ before.bounces)
      × WantsArea counts before came.words class bytes)
      ⊎ AsksRun counts before after came.words class bytes pages

-- the ring is as before, or its first group has left it, which was read to be bare
abbrev pub IsWalked : List (ℕ × ℕ) → List ℕ → List ℕ → Type 0
IsWalked words before after = (after ≡ before) ⊎ ((first : ℕ) × (before ≡ first ∷ after) × IsBareIn words first)

-- the groups, the slots that carry, the usage and the counter are as before; no mask that was read or fetched had a slot, so no
-- slot changed its place; of each ring the first group may have left; and the runs are as before but for one new area of one
-- page at most
pub record LeavesHeap {M P : Type 0} (before after : State M P) : Type 0 where
  pub came : Came before.seat after.seat
  pub all : AllBare came.words
  pub groups : after.seat.desk.groups ≡ before.seat.desk.groups
  pub nests : after.seat.desk.layout.nests ≡ before.seat.desk.layout.nests
  pub usage : after.usage ≡ before.usage
  pub counter : after.counter ≡ before.counter
  pub rings : (k : ℕ) → k < 48 → IsWalked came.words (ring_of before.rings k) (ring_of after.rings k)
  pub runs : (after.seat.desk.layout.runs ≡ before.seat.desk.layout.runs)
      ⊎ ((r : Run) × (r.area ≡ true) × (r.pages ≡ 1) × (after.seat.desk.layout.runs ≡ r ∷ before.seat.desk.layout.runs))
