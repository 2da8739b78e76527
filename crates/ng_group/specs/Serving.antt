-- Slots that are served out of a ring.
use Rattle.std.specs.Prelude.{◌≡◌, ◌≢◌, ◌⊎◌, ℕ, ◌+◌, ◌%◌, ◌^◌, ◌<◌, ◌≤◌, ◌∷◌, [], List, Some, slice_get}
use Rattle.ng_lists.specs.Rings.{ring_of}
use Rattle.ng_policy.specs.Bounce.{decayed}
use Rattle.ng_serve.specs.Reads.{AllBare, IsBareIn}
use Rattle.ng_view.specs.Lists.{Among}
use Rattle.ng_view.specs.Places.{room}
use Rattle.ng_view.specs.Steps.{in_motion}
use Rattle.ng_view.specs.declared.view.Group.{Group}
use Rattle.ng_view.specs.declared.view.View.{View}
use Rattle.ng_ledger.specs.Rings.{IsBare, IsIn}
use Rattle.ng_group.specs.States.{State}
use Rattle.ng_group.specs.Steps.{Came}

-- one slot is in the seat, in motion: it is of a live group of the class, and has room for so many bytes and 4
pub record HasServed (class bytes : ℕ) (v : View) (meta index : ℕ) : Type 0 where
  pub group : Group
  pub there : Among group v.desk.groups
  pub of_meta : group.meta ≡ meta
  pub of_class : group.tag ≡ class + 1
  pub within : index ≤ group.last
  pub motion : v.held ≡ in_motion group index ∷ []
  pub roomy : bytes + 4 ≤ room group

-- the view with what may change while a ring is searched: the slots, what is listed, the notes of masks, the active words, the
-- readings
abbrev pub with_search : View → View → View
with_search v w = record v {
  held = w.held;
  readings = w.readings;
  desk = record v.desk {
    listed = w.desk.listed;
    zero_avail = w.desk.zero_avail;
    zero_freed = w.desk.zero_freed;
    set_freed = w.desk.set_freed;
    active = w.desk.active;
  };
}

-- only the ring of a class has changed, the active words, what the seat knows of masks, its slots, and the bounces; what was
-- noted of the avail masks of other rings still is
pub record OnlyRing {M P : Type 0} (class : ℕ) (before after : State M P) : Type 0 where
  pub state : after ≡ record before { seat = after.seat; rings = after.rings; bounces = after.bounces }
  pub view : after.seat ≡ with_search before.seat after.seat
  pub came : Came before.seat after.seat
  pub rings : (k : ℕ) → k ≢ class → ring_of after.rings k ≡ ring_of before.rings k
  pub bare : (k m : ℕ) → k < 48 → k ≢ class → IsIn before.rings k m → Among m before.seat.desk.zero_avail
      → Among m after.seat.desk.zero_avail

-- the ring is as before, or its first group has left it
abbrev pub IsLeft : List ℕ → List ℕ → Type 0
IsLeft before after = (after ≡ before) ⊎ ((first : ℕ) × (before ≡ first ∷ after))

-- each group of the ring was read to be bare, no mask that was read had a slot, and none was taken; where the first group has
-- left the ring, the others have stayed
pub record FindsNoSlot {M P : Type 0} (class : ℕ) (before after : State M P) : Type 0 where
  pub came : Came before.seat after.seat
  pub read : (m : ℕ) → IsIn before.rings class m → IsBareIn came.words m
  pub all : AllBare came.words
  pub left : IsLeft (ring_of before.rings class) (ring_of after.rings class)
  pub bare : IsBare after.seat.desk.zero_avail after.rings class
  pub held : after.seat.held ≡ before.seat.held
  pub bounces : after.bounces ≡ before.bounces

-- the same after the avail mask of the ring's first group was read to be 0: of the first the freed mask alone was read
pub record FindsNoFreed {M P : Type 0} (class first : ℕ) (before after : State M P) : Type 0 where
  pub came : Came before.seat after.seat
  pub freed : Among {A = ℕ × ℕ} (first + 28, 0) came.words
  pub read : (m : ℕ) → m ≢ first → IsIn before.rings class m → IsBareIn came.words m
  pub all : AllBare came.words
  pub left : IsLeft (ring_of before.rings class) (ring_of after.rings class)
  pub bare : IsBare after.seat.desk.zero_avail after.rings class
  pub held : after.seat.held ≡ before.seat.held
  pub bounces : after.bounces ≡ before.bounces

-- the ring stayed, and a slot of its first group is noted to be freed; or the first group was read to have no slot freed, no
-- mask that was read had one, and the group left
pub record StartsWalk {M P : Type 0} (class first : ℕ) (before after : State M P) : Type 0 where
  pub came : Came before.seat after.seat
  pub left : ((ring_of after.rings class ≡ ring_of before.rings class) × ((i : ℕ) × Among {A = ℕ × ℕ} (first, i) after.seat.desk.set_freed))
      ⊎ ((ring_of before.rings class ≡ first ∷ ring_of after.rings class) × Among {A = ℕ × ℕ} (first + 28, 0) came.words × AllBare came.words)
  pub bare : IsBare after.seat.desk.zero_avail after.rings class
  pub held : after.seat.held ≡ before.seat.held
  pub bounces : after.bounces ≡ before.bounces

-- the ring of the class served a call. The first of these words is the avail word of its first group: where its mask was 0, so
-- that a freed slot was taken, the class bounces less by one, and else the bounces are as before
pub record ServesRing {M P : Type 0} (class : ℕ) (before after : State M P) (words : List (ℕ × ℕ)) : Type 0 where
  pub first : ℕ
  pub begins : slice_get (ring_of before.rings class) 0 ≡ Some first
  pub word : ℕ
  pub rest : List (ℕ × ℕ)
  pub words_are : words ≡ (first + 24, word) ∷ rest
  pub bounces : ((0 < word % 2 ^ 32) × (after.bounces ≡ before.bounces))
      ⊎ ((word % 2 ^ 32 ≡ 0) × (after.bounces ≡ decayed before.bounces class))

-- so it did by the words that came
pub record IsServedBy {M P : Type 0} (class : ℕ) (before after : State M P) : Type 0 where
  pub came : Came before.seat after.seat
  pub serves : ServesRing class before after came.words
