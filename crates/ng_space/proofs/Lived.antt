-- The lock's seat after a group came to live, or ceased to.
use Rattle.std.proofs.Common.{◌≡◌, ℕ, eqb, cond, Bool, true, false, List, [], ◌∷◌, refl, sym, ap, ◌∙◌, subst, ⊎_elim, inl, inr}
use Rattle.std.specs.Prelude.{Some}
use Rattle.atomic_table.specs.declared.shared.Seat.{Seat}
use Rattle.ng_history.specs.Book as book
use Rattle.ng_meta.specs.Place.{IsMetaPlace}
use Rattle.ng_rule.proofs.geometry.Lists.{among_append, among_without, find_among}
use Rattle.ng_rule.proofs.group.Births.{group_was}
use Rattle.ng_view.specs.LockSteps.{carrier, moving, nest_of, outside, retired_nested, run_published, without_nest}
use Rattle.ng_view.specs.Lists.{Among, select, without}
use Rattle.ng_view.specs.declared.view.Group.{Group}
use Rattle.ng_view.specs.declared.view.Held.{Held}
use Rattle.ng_view.specs.declared.view.Nest.{Nest}
use Rattle.ng_view.specs.declared.view.View.{View}
use Rattle.ng_view.specs.Groups.{MayPublish, Publishes, Retires, slot_published}
use Rattle.ng_space.specs.Names.{Facts}
use Rattle.ng_space.specs.Seats.{IsLockSeat}
use Rattle.ng_space.proofs.Locked.{ArePlacedStill, IsMovingIn, lock_stays, still-fetched}

-- the slots of other groups stay
outside_was : (m : ℕ) (hs : List Held) (h : Held) → Among h (outside m hs) → Among h hs
outside_was m [] h s = elim s [ ]
outside_was m (x ∷ xs) h s = by_test (outside_was m xs h) (eqb x.place.group.meta m) s
  where
    by_test : (Among h (outside m xs) → Among h xs) → (b : Bool) → Among h (cond b (outside m xs) (x ∷ outside m xs)) → Among h (x ∷ xs)
    by_test ih true s = inr (ih s)
    by_test ih false (inl e) = inl e
    by_test ih false (inr s) = inr (ih s)

-- the slot that carries a group is in motion once that is gone
carrier_moves : (pages m : ℕ) (ns : List Nest) → ((n : Nest) → Among n ns → IsMetaPlace n.place.group.meta pages) → (h : Held) → Among h (carrier (nest_of m ns)) → IsMovingIn pages h
carrier_moves pages m [] placed h s = elim s [ ]
carrier_moves pages m (n ∷ ns) placed h s = by_test (carrier_moves pages m ns (λ k t. placed k (inr t)) h) (eqb n.child m) s
  where
    by_test : (Among h (carrier (nest_of m ns)) → IsMovingIn pages h) → (b : Bool) → Among h (carrier (cond b (Some n) (nest_of m ns))) → IsMovingIn pages h
    by_test ih true (inl e) = (ap (λ (y : Held). y.block) e, subst (λ (y : Held). IsMetaPlace y.place.group.meta pages) (sym e) (placed n (inl refl)))
    by_test ih true (inr s) = elim s [ ]
    by_test ih false s = ih s

-- the other slots that carry a group stay
others_carry : (m : ℕ) (ns : List Nest) (n : Nest) → Among n (without_nest m ns) → Among n ns
others_carry m [] n s = elim s [ ]
others_carry m (x ∷ xs) n s = by_test (others_carry m xs n) (eqb x.child m) s
  where
    by_test : (Among n (without_nest m xs) → Among n xs) → (b : Bool) → Among n (cond b xs (x ∷ without_nest m xs)) → Among n (x ∷ xs)
    by_test ih true s = inr s
    by_test ih false (inl e) = inl e
    by_test ih false (inr s) = inr (ih s)

module _ (facts : Facts) (s t : Seat (Unit {0}) View) (shelf : List book.Shown) (room : ℕ) (is : IsLockSeat facts s shelf room) (same_table : t.table_id ≡ s.table_id) (same_slots : t.me.1 ≡ s.me.1) where
  abbrev v : View
  v = s.me.0

  of_place : (b : Group) (meta : ℕ) → b.meta ≡ meta → IsMetaPlace meta facts.start.pages → IsMetaPlace b.meta facts.start.pages
  of_place b meta of place = subst (λ m. IsMetaPlace m facts.start.pages) (sym of) place

  -- a group whose meta is one of the space comes to live
  came_live : (b : Group) (meta : ℕ) → b.meta ≡ meta → IsMetaPlace meta facts.start.pages → ArePlacedStill facts.start.pages v.desk.groups (b ∷ v.desk.groups)
  came_live b meta of place g (inl e) = inr (subst (λ m. IsMetaPlace m facts.start.pages) (sym (ap (λ (y : Group). y.meta) e ∙ of)) place)
  came_live b meta of place g (inr s) = inl s

  pub publishes_stays : (meta class mask : ℕ) → IsMetaPlace meta facts.start.pages → MayPublish v meta class mask → Publishes v meta class mask t.me.0 → IsLockSeat facts t shelf room
  publishes_stays meta class mask place (inl b) told = lock_stays facts s t shelf room (run_published v b.group b.built.run.run mask b.freed) is same_table same_slots (told.run b)
      (record { leads = refl; parcel = refl; books = refl; sent = refl; taken = refl; next = refl; carrying = λ n q. inl q; still = still-fetched facts.start.pages b.group (select (moving b.group mask b.freed) 32) v.held (of_place b.group meta b.of_meta place); groups = came_live b.group meta b.of_meta place })
  publishes_stays meta class mask place (inr b) told = lock_stays facts s t shelf room (slot_published v b.slot b.group mask b.freed) is same_table same_slots (told.nested b) (record {
    leads = refl;
    parcel = refl;
    books = refl;
    sent = refl;
    taken = refl;
    next = refl;
    groups = came_live b.group meta b.of_meta place;
    carrying = λ n q. ⊎_elim
        (λ (e : n ≡ record { place = b.slot.place; child = b.group.meta }). inr (subst (λ (y : Nest). IsMetaPlace y.place.group.meta facts.start.pages) (sym e) (is.standing b.slot (find_among b.slot.place.group.meta b.slot.place.index v.held b.slot b.built.found).0)))
        (λ (t : Among n v.desk.layout.nests). inl t)
        q;
    still = λ h q. let p = b.slot.place in ⊎_elim (λ (r : Among h (without p.group.meta p.index v.held)). inl (among_without p.group.meta p.index v.held h r)) (λ (r : IsMovingIn facts.start.pages h). inr r)
        (still-fetched facts.start.pages b.group (select (moving b.group mask b.freed) 32) (without p.group.meta p.index v.held) (of_place b.group meta b.of_meta place) h q);
  })

  pub retires_stays : (meta : ℕ) → Retires v meta t.me.0 → IsLockSeat facts t shelf room
  retires_stays meta told = lock_stays facts s t shelf room (retired_nested v meta) is same_table same_slots told.view (record {
    leads = refl;
    parcel = refl;
    books = refl;
    sent = refl;
    taken = refl;
    next = refl;
    groups = λ g q. inl (group_was meta v.desk.groups g q).0;
    carrying = λ n q. inl (others_carry meta v.desk.layout.nests n q);
    still = λ h q. ⊎_elim (λ (r : Among h (carrier (nest_of meta v.desk.layout.nests))). inr (carrier_moves facts.start.pages meta v.desk.layout.nests is.carrying h r)) (λ (r : Among h (outside meta v.held)). inl (outside_was meta v.held h r))
        (among_append (carrier (nest_of meta v.desk.layout.nests)) (outside meta v.held) h q);
  })
