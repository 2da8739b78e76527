-- What a call for a block that is a group by itself builds, and when it asks the mapper for pages.
use Rattle.std.specs.Prelude.{◌≡◌, ◌⊎◌, ℕ, ◌+◌, ◌%◌, ◌^◌, ◌∷◌, ◌++◌, [], List, false, true}
use Rattle.ng_policy.specs.Bounce.{stepped}
use Rattle.ng_serve.specs.Reads.{AllBare}
use Rattle.ng_shelf.specs.Stock.{free_of}
use Rattle.ng_terms.specs.Accounts.{pages_for}
use Rattle.ng_view.specs.declared.view.Group.{Group}
use Rattle.ng_view.specs.declared.view.Run.{Run}
use Rattle.ng_group.specs.States.{State}
use Rattle.ng_group.specs.Steps.{Came}

-- no area came, or one of one page did, since no meta was free
abbrev pub IsAreaNeeded : {M P : Type 0} → State M P → List Run → Type 0
IsAreaNeeded before runs = (runs ≡ before.seat.desk.layout.runs)
    ⊎ ((free_of before.stock ≡ []) × ((r : Run) × (r.area ≡ true) × (r.pages ≡ 1) × (runs ≡ r ∷ before.seat.desk.layout.runs)))

-- the group of that meta came, which is one block on a run of its own, of so many pages, and the run was counted; no other
-- group came, and no other run. Word 0 was read, and the group's own freed mask, which was 0
pub record BuildsAlone {M P : Type 0} (meta pages : ℕ) (before after : State M P) : Type 0 where
  pub group : Group
  pub of_meta : group.meta ≡ meta
  pub of_class : group.tag ≡ 64
  pub alone : group.last ≡ 0
  pub of_pages : group.maplen ≡ pages
  pub groups : after.seat.desk.groups ≡ group ∷ before.seat.desk.groups
  pub run : after.seat.desk.layout.runs ≡ record { addr = group.base; pages = pages; area = false } ∷ before.seat.desk.layout.runs
  pub noted : (found : ℕ) × (after.seat.readings ≡ before.seat.readings ++ (0, found) ∷ (meta + 28, 0) ∷ [])
  pub counter : after.counter ≡ (before.counter + 1) % 2 ^ 64

-- one group came, of that meta, which is one block on a run of its own, of the pages that so many bytes and 20 take, and the
-- counter rose by one, which is a step of the bounces; one area at most came, which was needed; and no mask that was read or
-- fetched had a slot
pub record BuildsLone {M P : Type 0} (meta : ℕ) (before after : State M P) (bytes : ℕ) : Type 0 where
  pub group : Group
  pub of_meta : group.meta ≡ meta
  pub of_class : group.tag ≡ 64
  pub alone : group.last ≡ 0
  pub pages : group.maplen ≡ pages_for bytes
  pub groups : after.seat.desk.groups ≡ group ∷ before.seat.desk.groups
  pub runs : List Run
  pub area : IsAreaNeeded before runs
  pub run : after.seat.desk.layout.runs ≡ record { addr = group.base; pages = pages_for bytes; area = false } ∷ runs
  pub counter : after.counter ≡ (before.counter + 1) % 2 ^ 64
  pub bounces : after.bounces ≡ stepped before.bounces
  pub came : Came before.seat after.seat
  pub all : AllBare came.words

-- the refused map call was for an area that was needed, no area came, and the bounces are as before; or it was for the block's
-- run, which was a step of them, and one area came at most
abbrev pub IsLoneRefused : {M P : Type 0} → State M P → State M P → ℕ → ℕ → Type 0
IsLoneRefused before after bytes pages =
    ((pages ≡ 1) × (free_of before.stock ≡ []) × (after.bounces ≡ before.bounces)
    × (after.seat.desk.layout.runs ≡ before.seat.desk.layout.runs))
    ⊎ ((pages ≡ pages_for bytes) × (after.bounces ≡ stepped before.bounces) × IsAreaNeeded before after.seat.desk.layout.runs)
