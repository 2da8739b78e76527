-- Whether a slot and those of a group's masks are all of its slots.
use Rattle.std.specs.Prelude.{◌≡◌, ℕ, ◌<◌, ◌≤◌}
use Rattle.std.specs.Int.{bit_at}
use Rattle.ng_view.specs.Masks.{IsServing}
use Rattle.ng_mask.specs.Fetches.{OfGroup}
use Rattle.ng_view.specs.Lists.{Among}
use Rattle.ng_view.specs.declared.view.View.{View}
use Rattle.ng_group.specs.Returning.{ReadsBoth}
use Rattle.ng_group.specs.Serving.{with_search}
use Rattle.ng_group.specs.Steps.{Came}

-- the bits of a mask are of slots up to the last
abbrev pub AreSlots : ℕ → ℕ → Type 0
AreSlots mask last = (i : ℕ) → bit_at mask i ≡ 1 → i ≤ last

-- slots may have come and gone, words were read, the same groups are listed, and the active words are the same; what was noted of
-- avail masks still is
pub record Searches (v w : View) : Type 0 where
  pub view : w ≡ with_search v w
  pub came : Came v w
  pub listed : w.desk.listed ≡ v.desk.listed
  pub active : w.desk.active ≡ v.desk.active
  pub keeps : (m : ℕ) → Among m v.desk.zero_avail → Among m w.desk.zero_avail

-- both masks of a live group were read. Their bits are of the group's slots, and a group with some bit serves
pub record LooksAt (v : View) (meta avail freed : ℕ) (w : View) : Type 0 where
  pub searches : Searches v w
  pub reads : ReadsBoth v meta freed avail w
  pub held : w.held ≡ v.held
  pub bare : avail ≡ 0 → Among meta w.desk.zero_avail
  pub avail_slots : OfGroup v meta (λ g. AreSlots avail g.last)
  pub freed_slots : OfGroup v meta (λ g. AreSlots freed g.last)
  pub avail_serves : 0 < avail → OfGroup v meta (IsServing v)
  pub freed_serves : 0 < freed → OfGroup v meta (IsServing v)
