-- The lock's seat after its notes.
use Rattle.std.proofs.Common.{◌≡◌, ℕ, ◌+◌, Bool, true, false, List, refl}
use Rattle.atomic_table.specs.declared.shared.Seat.{Seat}
use Rattle.ng_history.specs.Book as book
use Rattle.ng_view.specs.LockSteps.{active_set, area_made, counter_set, refused, ring_read, run_left, run_noted}
use Rattle.ng_view.specs.Steps.{read}
use Rattle.ng_view.specs.declared.view.View.{View}
use Rattle.ng_view.specs.Notes.{NotesArea, NotesRefusal, NotesRing, NotesRun, excuse_of_call, plain_run}
use Rattle.ng_space.specs.Names.{Facts}
use Rattle.ng_space.specs.Seats.{IsLockSeat}
use Rattle.ng_space.proofs.Stepped.{quietly}

module _ (facts : Facts) (s t : Seat (Unit {0}) View) (shelf : List book.Shown) (room : ℕ) (is : IsLockSeat facts s shelf room) (same_table : t.table_id ≡ s.table_id) (same_slots : t.me.1 ≡ s.me.1) where
  pub ring_stays : (meta : ℕ) (listed : Bool) (n : ℕ) → NotesRing s.me.0 meta listed n t.me.0 → IsLockSeat facts t shelf room
  ring_stays meta listed n told = quietly facts s t shelf room is same_table same_slots (read (ring_read s.me.0 meta listed n) (meta + 28) n) told.view refl refl refl refl refl refl refl refl refl

  pub run_stays : (a pages : ℕ) (live : Bool) → NotesRun s.me.0 a pages live t.me.0 → IsLockSeat facts t shelf room
  run_stays a pages true told = quietly facts s t shelf room is same_table same_slots (read (run_noted s.me.0 a pages) 0 told.found) told.view refl refl refl refl refl refl refl refl refl
  run_stays a pages false told = quietly facts s t shelf room is same_table same_slots (read (run_left s.me.0 (plain_run a pages)) 0 told.found) told.view refl refl refl refl refl refl refl refl refl

  pub area_stays : (a : ℕ) → NotesArea s.me.0 a t.me.0 → IsLockSeat facts t shelf room
  area_stays a told = quietly facts s t shelf room is same_table same_slots (read (area_made s.me.0 (plain_run a 1)) 0 told.found) told.view refl refl refl refl refl refl refl refl refl

  pub refusal_stays : (number : ℕ) → NotesRefusal s.me.0 number t.me.0 → IsLockSeat facts t shelf room
  refusal_stays number told = quietly facts s t shelf room is same_table same_slots (read (refused s.me.0 (excuse_of_call number)) 0 told.found) told.view refl refl refl refl refl refl refl refl refl

  pub active_stays : (class meta : ℕ) → t.me.0 ≡ active_set s.me.0 class meta → IsLockSeat facts t shelf room
  active_stays class meta told = quietly facts s t shelf room is same_table same_slots (active_set s.me.0 class meta) told refl refl refl refl refl refl refl refl refl

  pub counter_stays : (value : ℕ) → t.me.0 ≡ counter_set s.me.0 value → IsLockSeat facts t shelf room
  counter_stays value told = quietly facts s t shelf room is same_table same_slots (counter_set s.me.0 value) told refl refl refl refl refl refl refl refl refl
