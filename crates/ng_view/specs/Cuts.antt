-- A view cut in two, and two views made one, so that every part of the rule is kept.
use Rattle.std.specs.Prelude.{◌≡◌, ◌⊎◌, ℕ, ◌+◌, false}
use Rattle.ng_terms.specs.declared.entry.Extent.{Extent}
use Rattle.ng_view.specs.declared.view.Held.{Held}
use Rattle.ng_view.specs.declared.view.Book.{Book}
use Rattle.ng_view.specs.declared.view.Excuse.{Excuse}
use Rattle.ng_view.specs.declared.view.View.{View}
use Rattle.ng_view.specs.Lists.{Among, count_of, excused}
use Rattle.ng_view.specs.Views.{has, no_desk, booked, numbered, blocks}
use Rattle.ng_view.specs.Hands.{IsIdle, IsMoving, IsParcel, IsSingle}
use Rattle.ng_view.specs.Steps.{spent}

-- l and r are v cut in two; l goes on in its seat
pub record Cut (v l r : View) : Type 0 where
  pub leads : (l.leads ≡ v.leads) × (r.leads ≡ false)
  pub desk : (l.desk ≡ v.desk) × (r.desk ≡ no_desk)
  pub has : (m i : ℕ) → has m i l + has m i r ≡ has m i v
  pub blocks : (b : Extent) → blocks b l + blocks b r ≡ blocks b v
  pub numbers : (k : ℕ) → numbered k l + numbered k r ≡ numbered k v
  pub excuses : (e : ℕ) → excused e l.excuses + excused e r.excuses ≡ excused e v.excuses
  pub booked : (e : ℕ) → booked e l + booked e r ≡ booked e v
  pub held : (h : Held) → Among h l.held ⊎ Among h r.held → Among h v.held
  pub books : (b : Book) → Among b l.books ⊎ Among b r.books → Among b v.books
  pub excuse : (x : Excuse) → Among x l.excuses ⊎ Among x r.excuses → Among x v.excuses
  pub readings : l.readings ≡ v.readings
  pub stores : l.stores ≡ v.stores
  pub idle : (IsIdle v → IsIdle l) × IsIdle r
  pub whole : (IsParcel v → IsParcel l) × IsParcel r
  pub single : (IsSingle v → IsSingle l) × IsSingle r
  pub moving : IsMoving v → IsMoving l
  pub parcels : (count_of l.parcel + count_of r.parcel) + (l.taken + r.taken) + v.sent
      ≡ count_of v.parcel + v.taken + (l.sent + r.sent)

-- b is v and w made one, which goes on in the seat of v; what is left is spent
pub record Merge (v w b s : View) : Type 0 where
  pub left : s ≡ spent
  pub leads : (b.leads ≡ v.leads) × (w.leads ≡ false)
  pub desk : b.desk ≡ v.desk
  pub has : (m i : ℕ) → has m i b + has m i s ≡ has m i v + has m i w
  pub blocks : (p : Extent) → blocks p b + blocks p s ≡ blocks p v + blocks p w
  pub numbers : (k : ℕ) → numbered k b + numbered k s ≡ numbered k v + numbered k w
  pub excuses : (e : ℕ) → excused e b.excuses + excused e s.excuses
      ≡ excused e v.excuses + excused e w.excuses
  pub booked : (e : ℕ) → booked e b + booked e s ≡ booked e v + booked e w
  pub held : (h : Held) → Among h b.held → Among h v.held ⊎ Among h w.held
  pub books : (x : Book) → Among x b.books → Among x v.books ⊎ Among x w.books
  pub excuse : (x : Excuse) → Among x b.excuses → Among x v.excuses ⊎ Among x w.excuses
  pub readings : b.readings ≡ v.readings
  pub stores : b.stores ≡ v.stores
  pub idle : IsIdle v → IsIdle w → IsIdle b
  pub whole : IsParcel v → IsParcel w → IsParcel b
  pub single : IsSingle v → IsSingle b
  pub moving : IsMoving v → IsIdle w → IsMoving b
  pub parcels : (count_of b.parcel + count_of s.parcel) + (b.taken + s.taken) + (v.sent + w.sent)
      ≡ (count_of v.parcel + count_of w.parcel) + (v.taken + w.taken) + (b.sent + s.sent)
