-- The part Hands: the parcels that are out, the numbers of the hands, and the one seat that leads.
use Rattle.std.specs.Prelude.{◌≡◌, ℕ, ◌+◌, ◌<◌, ◌≤◌, true, false, List, [], ◌∷◌, length, Some, None}
use Rattle.ng_view.specs.Lists.{Among, Each, total_by, count_of}
use Rattle.ng_view.specs.Views.{numbered, desk_of, no_desk}
use Rattle.ng_terms.specs.declared.entry.Extent.{Extent}
use Rattle.ng_view.specs.declared.view.Held.{Held}
use Rattle.ng_view.specs.declared.view.View.{View}

-- a seat without a book has sent and taken no parcel, and where it neither leads nor is a parcel, it
-- holds nothing
abbrev pub IsIdle : View → Type 0
IsIdle u = u.books ≡ [] → (u.sent ≡ 0) × (u.taken ≡ 0)
    × (u.leads ≡ false → u.parcel ≡ false → (u.held ≡ []) × (u.excuses ≡ []))

-- the view has one slot with a live block, and nothing else that a seat may have
pub record HasOneBlock (u : View) : Type 0 where
  pub follows : u.leads ≡ false
  pub bookless : u.books ≡ []
  pub excuseless : u.excuses ≡ []
  pub slot : Held
  pub block : Extent
  pub held : u.held ≡ slot ∷ []
  pub live : slot.block ≡ Some block

-- a parcel is one slot with a live block
abbrev pub IsParcel : View → Type 0
IsParcel u = u.parcel ≡ true → HasOneBlock u

-- a seat that doesn't lead has at most one book
abbrev pub IsSingle : View → Type 0
IsSingle u = u.leads ≡ false → length u.books ≤ 1

-- the slots of the lock's seat are in motion, without a block, but while it has a whole hand in it
abbrev pub IsMoving : View → Type 0
IsMoving u = u.leads ≡ true → u.books ≡ [] → (h : Held) → Among h u.held → h.block ≡ None

-- only the lock's seat has a desk
abbrev pub IsDeskless : View → Type 0
IsDeskless u = u.leads ≡ false → u.desk ≡ no_desk

pub record Hands (vs : List View) : Type 0 where
  -- the parcels that aren't spent are as many as the hands sent and didn't take in: a seat without a
  -- book counts none
  pub parcels : total_by (λ v. count_of v.parcel) vs + total_by (λ v. v.taken) vs ≡ total_by (λ v. v.sent) vs
  -- the numbers of hands differ; each is above 0, and below the number of the next hand
  pub once : (k : ℕ) → total_by (numbered k) vs ≤ 1
  pub none : total_by (numbered 0) vs ≡ 0
  pub above : (k : ℕ) → (desk_of vs).next ≤ k → total_by (numbered k) vs ≡ 0
  pub first : 0 < (desk_of vs).next
  -- one seat leads: the lock's
  pub leaders : total_by (λ v. count_of v.leads) vs ≡ 1
  pub desks : Each vs IsDeskless
  pub moving : Each vs IsMoving
  -- a seat that was left has nothing
  pub idle : Each vs IsIdle
  -- a parcel is one block, and a hand one book
  pub whole : Each vs IsParcel
  pub single : Each vs IsSingle
