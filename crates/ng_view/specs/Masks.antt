-- What the words of a live group's two masks tell the lock's seat.
use Rattle.std.specs.Prelude.{◌≡◌, ℕ, ◌/◌, ◌%◌, ◌^◌, ◌<◌, ◌≤◌}
use Rattle.std.specs.Int.{bit_at}
use Rattle.ng_view.specs.Lists.{Among}
use Rattle.ng_view.specs.Slots.{IsPlain}
use Rattle.ng_view.specs.declared.view.Group.{Group}
use Rattle.ng_view.specs.declared.view.View.{View}

-- the group is listed, of a class below 48, and its slots have the whole class size
pub record IsServing (v : View) (g : Group) : Type 0 where
  pub listed : Among g.meta v.desk.listed
  pub plain : IsPlain g

-- n is the group's avail word: its mask is 0 where that is noted, the group serves where it isn't 0, and
-- its bits are of the group's slots
pub record TellsAvail (v : View) (g : Group) (n : ℕ) : Type 0 where
  pub tag : n / 2 ^ 32 ≡ g.tag
  pub zero : Among g.meta v.desk.zero_avail → n % 2 ^ 32 ≡ 0
  pub serves : 0 < n % 2 ^ 32 → IsServing v g
  pub within : (i : ℕ) → i < 32 → bit_at n i ≡ 1 → i ≤ g.last

-- n is the group's freed mask: it is 0 where that is noted, a bit that is noted as set is set, the group
-- serves where it isn't 0, and its bits are of the group's slots
pub record TellsFreed (v : View) (g : Group) (n : ℕ) : Type 0 where
  pub fits : n < 2 ^ 32
  pub zero : Among g.meta v.desk.zero_freed → n ≡ 0
  pub set : (i : ℕ) → Among {A = ℕ × ℕ} (g.meta, i) v.desk.set_freed → bit_at n i ≡ 1
  pub serves : 0 < n → IsServing v g
  pub within : (i : ℕ) → i < 32 → bit_at n i ≡ 1 → i ≤ g.last
