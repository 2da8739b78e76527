-- What holds of the seats of hands and of the lock. No public clause cites this module.
use Rattle.std.specs.Prelude.{◌≡◌, ℕ, ◌+◌, ◌≤◌, true, false, List, [], ◌∷◌, None}
use Rattle.atomic_table.specs.Seated.{TableId}
use Rattle.atomic_table.specs.declared.shared.Seat.{Seat}
use Rattle.ng_history.specs.Book as book
use Rattle.ng_meta.specs.Place.{IsMetaPlace}
use Rattle.ng_view.specs.Lists.{Among}
use Rattle.ng_view.specs.Views.{no_desk}
use Rattle.ng_view.specs.declared.view.Group.{Group}
use Rattle.ng_view.specs.declared.view.Held.{Held}
use Rattle.ng_view.specs.declared.view.Nest.{Nest}
use Rattle.ng_view.specs.declared.view.View.{View}
use Rattle.ng_space.specs.Names.{Facts}

-- the seat of a hand with that book
pub record IsCaller (table : TableId) (seat : Seat (Unit {0}) View) (b : book.Shown) : Type 0 where
  pub fits : seat.table_id ≡ table
  pub no_slots : seat.me.1 ≡ []
  pub follows : seat.me.0.leads ≡ false
  pub whole : seat.me.0.parcel ≡ false
  pub deskless : seat.me.0.desk ≡ no_desk
  pub own_book : seat.me.0.books ≡ record { number = b.number; entries = b.entries } ∷ []

-- the seat of the lock, off which all hands of the heap were split, at most 16; the groups that it knows, those of its slots
-- and those of the slots that carry a group have metas of the space
pub record IsLockSeat (facts : Facts) (seat : Seat (Unit {0}) View) (shelf : List book.Shown) (shelf_room : ℕ) : Type 0 where
  pub fits : seat.table_id ≡ facts.table
  pub no_slots : seat.me.1 ≡ []
  pub leads : seat.me.0.leads ≡ true
  pub whole : seat.me.0.parcel ≡ false
  pub bookless : seat.me.0.books ≡ []
  pub none_sent : seat.me.0.sent ≡ 0
  pub none_taken : seat.me.0.taken ≡ 0
  pub moving : (h : Held) → Among h seat.me.0.held → h.block ≡ None
  pub placed : (g : Group) → Among g seat.me.0.desk.groups → IsMetaPlace g.meta facts.start.pages
  pub standing : (h : Held) → Among h seat.me.0.held → IsMetaPlace h.place.group.meta facts.start.pages
  pub carrying : (n : Nest) → Among n seat.me.0.desk.layout.nests → IsMetaPlace n.place.group.meta facts.start.pages
  pub next : seat.me.0.desk.next ≡ 1 + facts.hands
  pub few : facts.hands ≤ 16
  pub cleared : shelf ≡ []
  pub roomy : 16 ≤ shelf_room
