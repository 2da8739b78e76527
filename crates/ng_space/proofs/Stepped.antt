-- The lock's seat after its loads and stores.
use Rattle.std.proofs.Common.{◌≡◌, ℕ, ◌+◌, ◌%◌, cond, eqb, List, ◌∷◌, ◌++◌, refl, sym, subst, ⊎_elim, inl, inr}
use Rattle.std.specs.Prelude.{None}
use Rattle.atomic_table.specs.declared.shared.Seat.{Seat}
use Rattle.ng_history.specs.Book as book
use Rattle.ng_meta.specs.Place.{IsMetaPlace}
use Rattle.ng_rule.proofs.geometry.Lists.{among_edit, find_among}
use Rattle.ng_view.specs.Conditions.{Builds}
use Rattle.ng_view.specs.LockSteps.{built, learnt_free, read_bits, ring_noted}
use Rattle.ng_view.specs.Lists.{Among}
use Rattle.ng_view.specs.Steps.{read, stored, wrote}
use Rattle.ng_view.specs.declared.view.Group.{Group}
use Rattle.ng_view.specs.declared.view.Held.{Held}
use Rattle.ng_view.specs.declared.view.View.{View}
use Rattle.ng_view.specs.Loads.{Loads}
use Rattle.ng_view.specs.Stores.{MayStore, Stores}
use Rattle.ng_rule.proofs.lock.Deciding.{decide_builds, decide_mask}
use Rattle.ng_space.specs.Names.{Facts}
use Rattle.ng_space.specs.Seats.{IsLockSeat}
use Rattle.ng_space.proofs.Locked.{IsAlike, lock_stays}

-- the same slots
pub alike : (pages : ℕ) (v w : View) → w.leads ≡ v.leads → w.parcel ≡ v.parcel → w.books ≡ v.books → w.sent ≡ v.sent → w.taken ≡ v.taken → w.desk.next ≡ v.desk.next → w.held ≡ v.held → w.desk.groups ≡ v.desk.groups → w.desk.layout.nests ≡ v.desk.layout.nests → IsAlike pages v w
alike pages v w a b c d e f held groups nests = record {
  leads = a;
  parcel = b;
  books = c;
  sent = d;
  taken = e;
  next = f;
  still = λ h s. inl (subst (Among h) held s);
  groups = λ g s. inl (subst (Among g) groups s);
  carrying = λ n s. inl (subst (Among n) nests s);
}

module _ (facts : Facts) (s t : Seat (Unit {0}) View) (shelf : List book.Shown) (room : ℕ) (is : IsLockSeat facts s shelf room) (same_table : t.table_id ≡ s.table_id) (same_slots : t.me.1 ≡ s.me.1) where
  abbrev v : View
  v = s.me.0

  -- the slots are as before
  pub quietly : (w : View) → t.me.0 ≡ w → w.leads ≡ v.leads → w.parcel ≡ v.parcel → w.books ≡ v.books → w.sent ≡ v.sent → w.taken ≡ v.taken → w.desk.next ≡ v.desk.next → w.held ≡ v.held → w.desk.groups ≡ v.desk.groups → w.desk.layout.nests ≡ v.desk.layout.nests → IsLockSeat facts t shelf room
  quietly w e a b c d x f held groups nests = lock_stays facts s t shelf room w is same_table same_slots e (alike facts.start.pages v w a b c d x f held groups nests)

  ring : (ls ba bf : List ℕ) (sf : List (ℕ × ℕ)) (a n : ℕ) → t.me.0 ≡ read (ring_noted v ls ba bf sf) a n → IsLockSeat facts t shelf room
  ring ls ba bf sf a n e = quietly (read (ring_noted v ls ba bf sf) a n) e refl refl refl refl refl refl refl refl refl

  pub looks_stays : (a n : ℕ) → Loads v a n t.me.0 → IsLockSeat facts t shelf room
  looks_stays a n told = ⊎_elim
      (λ (b : Builds v a). quietly (read (learnt_free v a n) a n) (told.page b) refl refl refl refl refl refl refl refl refl)
      (λ (not : Builds v a → ⊥). ⊎_elim
      (λ (r : (g : Group) × Among g v.desk.groups × (a ≡ g.meta + 24)). ring v.desk.listed (cond (eqb (n % 4294967296) 0) (r.0.meta ∷ v.desk.zero_avail) v.desk.zero_avail) v.desk.zero_freed v.desk.set_freed a n (told.avail r.0 r.1 r.2))
      (λ (none : (g : Group) → Among g v.desk.groups → a ≡ g.meta + 24 → ⊥). ⊎_elim
      (λ (r : (g : Group) × Among g v.desk.groups × (a ≡ g.meta + 28)). ring v.desk.listed v.desk.zero_avail (cond (eqb n 0) (r.0.meta ∷ v.desk.zero_freed) v.desk.zero_freed) (read_bits r.0.meta n ++ v.desk.set_freed) a n (told.freed r.0 r.1 r.2))
      (λ (nor : (g : Group) → Among g v.desk.groups → a ≡ g.meta + 28 → ⊥). quietly (read v a n) (told.other (record { not_built = not; no_avail = none; no_freed = nor })) refl refl refl refl refl refl refl refl refl)
      (decide_mask v a 28))
      (decide_mask v a 24))
      (decide_builds v a)

  pub stores_stays : (a x : ℕ) → MayStore v a x → Stores v a x t.me.0 → IsLockSeat facts t shelf room
  stores_stays a x (inl b) told = quietly (built v a x) (told.page b) refl refl refl refl refl refl refl refl refl
  stores_stays a x (inr (inl i)) told = quietly v (told.index i) refl refl refl refl refl refl refl refl refl
  stores_stays a x (inr (inr f)) told =
      let c = f.cell in let m = c.slot.place.group.meta in let i = c.slot.place.index in
      lock_stays facts s t shelf room (stored v m i a x) is same_table same_slots (told.slot c) (record {
        leads = refl;
        parcel = refl;
        books = refl;
        sent = refl;
        taken = refl;
        next = refl;
        groups = λ g q. inl q;
        carrying = λ n q. inl q;
        still = λ h q. ⊎_elim
            (λ (p : Among h v.held). inl p)
            (λ (e : h ≡ wrote a x c.slot). let there = (find_among m i v.held c.slot c.found).0 in inr (subst (λ (y : Held). y.block ≡ None) (sym e) (is.moving c.slot there), subst (λ (y : Held). IsMetaPlace y.place.group.meta facts.start.pages) (sym e) (is.standing c.slot there)))
            (among_edit m i (wrote a x) v.held c.slot h c.found q);
      })
