-- The lock's seat after its fetches.
use Rattle.std.proofs.Common.{◌≡◌, ℕ, ◌+◌, List, refl, inl}
use Rattle.std.specs.Int.{bit_at}
use Rattle.std.specs.Prelude.{◌&&◌, eqb}
use Rattle.atomic_table.specs.declared.shared.Seat.{Seat}
use Rattle.ng_history.specs.Book as book
use Rattle.ng_view.specs.Lists.{select}
use Rattle.ng_view.specs.LockSteps.{avail_emptied, bits_of, bits_pushed, bits_stocked, freed_taken}
use Rattle.ng_view.specs.Steps.{read}
use Rattle.ng_view.specs.declared.view.View.{View}
use Rattle.ng_view.specs.Fetches.{ClearsFreed, EmptiesAvail, HasGroup, PushesFreed, StocksAvail}
use Rattle.ng_space.specs.Names.{Facts}
use Rattle.ng_space.specs.Seats.{IsLockSeat}
use Rattle.ng_space.proofs.Locked.{lock_stays, still-fetched, still-let_go}

module _ (facts : Facts) (s t : Seat (Unit {0}) View) (shelf : List book.Shown) (room : ℕ) (is : IsLockSeat facts s shelf room) (same_table : t.table_id ≡ s.table_id) (same_slots : t.me.1 ≡ s.me.1) where
  pub empties_stays : (meta n : ℕ) → HasGroup s.me.0 meta → EmptiesAvail s.me.0 meta n t.me.0 → IsLockSeat facts t shelf room
  empties_stays meta n has told =
      let g = has.group in
      lock_stays facts s t shelf room (read (avail_emptied s.me.0 g n) (meta + 24) n) is same_table same_slots (told.view g has.there has.of_meta)
      (record { leads = refl; parcel = refl; books = refl; sent = refl; taken = refl; next = refl; groups = λ g q. inl q; carrying = λ n q. inl q; still = still-fetched facts.start.pages g (select (λ i. eqb (bit_at n i) 1) 32) s.me.0.held (is.placed g has.there) })

  pub clears_stays : (meta bits n : ℕ) → HasGroup s.me.0 meta → ClearsFreed s.me.0 meta bits n t.me.0 → IsLockSeat facts t shelf room
  clears_stays meta bits n has told =
      let g = has.group in
      lock_stays facts s t shelf room (read (freed_taken s.me.0 g bits n) (meta + 28) n) is same_table same_slots (told.view g has.there has.of_meta)
      (record { leads = refl; parcel = refl; books = refl; sent = refl; taken = refl; next = refl; groups = λ g q. inl q; carrying = λ n q. inl q; still = still-fetched facts.start.pages g (select (λ i. eqb (bit_at n i) 1 && eqb (bit_at bits i) 1) 32) s.me.0.held (is.placed g has.there) })

  pub stocks_stays : (meta bits n : ℕ) → StocksAvail s.me.0 meta bits n t.me.0 → IsLockSeat facts t shelf room
  stocks_stays meta bits n told = lock_stays facts s t shelf room (read (bits_stocked s.me.0 meta bits) (meta + 24) n) is same_table same_slots told.view
      (record { leads = refl; parcel = refl; books = refl; sent = refl; taken = refl; next = refl; groups = λ g q. inl q; carrying = λ n q. inl q; still = still-let_go facts.start.pages meta (bits_of bits) s.me.0.held })

  pub pushes_stays : (meta bits n : ℕ) → PushesFreed s.me.0 meta bits n t.me.0 → IsLockSeat facts t shelf room
  pushes_stays meta bits n told = lock_stays facts s t shelf room (read (bits_pushed s.me.0 meta bits) (meta + 28) n) is same_table same_slots told.view
      (record { leads = refl; parcel = refl; books = refl; sent = refl; taken = refl; next = refl; groups = λ g q. inl q; carrying = λ n q. inl q; still = still-let_go facts.start.pages meta (bits_of bits) s.me.0.held })
