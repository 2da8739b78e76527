-- What holds of the lock's seat holds after its steps.
use Rattle.std.proofs.Common.{◌≡◌, ◌⊎◌, ℕ, ◌+◌, ◌*◌, ◌<◌, List, [], ◌∷◌, ◌++◌, map, sym, ap, ◌∙◌, subst, ⊎_elim, inl, inr, arith}
use Rattle.std.specs.Prelude.{None}
use Rattle.atomic_table.specs.declared.shared.Seat.{Seat}
use Rattle.ng_history.specs.Book as book
use Rattle.ng_meta.specs.Place.{IsMetaPlace}
use Rattle.ng_rule.proofs.geometry.Lists.{among_without}
use Rattle.ng_view.specs.Fetches.{HasGroup}
use Rattle.ng_view.specs.Lists.{Among, without}
use Rattle.ng_view.specs.LockSteps.{let_go}
use Rattle.ng_view.specs.Steps.{in_motion}
use Rattle.ng_view.specs.declared.view.Group.{Group}
use Rattle.ng_view.specs.declared.view.Held.{Held}
use Rattle.ng_view.specs.declared.view.Nest.{Nest}
use Rattle.ng_view.specs.declared.view.View.{View}
use Rattle.ng_space.specs.Names.{Facts}
use Rattle.ng_space.specs.Seats.{IsLockSeat}

-- the slot is in motion, and its group has a meta of the space
abbrev pub IsMovingIn : ℕ → Held → Type 0
IsMovingIn pages h = (h.block ≡ None) × IsMetaPlace h.place.group.meta pages

-- the slots of the view after are ones of the view before, or in motion
abbrev pub AreStill : ℕ → List Held → List Held → Type 0
AreStill pages before after = (h : Held) → Among h after → Among h before ⊎ IsMovingIn pages h

-- the slots that carry a group in the view after did so in the view before, or have metas of the space
abbrev pub CarryStill : ℕ → List Nest → List Nest → Type 0
CarryStill pages before after = (n : Nest) → Among n after → Among n before ⊎ IsMetaPlace n.place.group.meta pages

-- the groups of the view after are ones of the view before, or have metas of the space
abbrev pub ArePlacedStill : ℕ → List Group → List Group → Type 0
ArePlacedStill pages before after = (g : Group) → Among g after → Among g before ⊎ IsMetaPlace g.meta pages

-- the view after is like the one before in what makes it the lock's
pub record IsAlike (pages : ℕ) (v w : View) : Type 0 where
  pub leads : w.leads ≡ v.leads
  pub parcel : w.parcel ≡ v.parcel
  pub books : w.books ≡ v.books
  pub sent : w.sent ≡ v.sent
  pub taken : w.taken ≡ v.taken
  pub next : w.desk.next ≡ v.desk.next
  pub still : AreStill pages v.held w.held
  pub carrying : CarryStill pages v.desk.layout.nests w.desk.layout.nests
  pub groups : ArePlacedStill pages v.desk.groups w.desk.groups

pub lock_stays : (facts : Facts) (s t : Seat (Unit {0}) View) (shelf : List book.Shown) (room : ℕ) (w : View) → IsLockSeat facts s shelf room → t.table_id ≡ s.table_id → t.me.1 ≡ s.me.1 → t.me.0 ≡ w → IsAlike facts.start.pages s.me.0 w → IsLockSeat facts t shelf room
lock_stays facts s t shelf room w is same_table same_slots view alike = record {
  fits = same_table ∙ is.fits;
  no_slots = same_slots ∙ is.no_slots;
  leads = ap (λ (v : View). v.leads) view ∙ alike.leads ∙ is.leads;
  whole = ap (λ (v : View). v.parcel) view ∙ alike.parcel ∙ is.whole;
  bookless = ap (λ (v : View). v.books) view ∙ alike.books ∙ is.bookless;
  none_sent = ap (λ (v : View). v.sent) view ∙ alike.sent ∙ is.none_sent;
  none_taken = ap (λ (v : View). v.taken) view ∙ alike.taken ∙ is.none_taken;
  moving = λ h q. ⊎_elim (λ (t : Among h s.me.0.held). is.moving h t) (λ (m : IsMovingIn facts.start.pages h). m.0) (alike.still h (subst (λ (v : View). Among h v.held) view q));
  standing = λ h q. ⊎_elim (λ (t : Among h s.me.0.held). is.standing h t) (λ (m : IsMovingIn facts.start.pages h). m.1) (alike.still h (subst (λ (v : View). Among h v.held) view q));
  carrying = λ n q. ⊎_elim (λ (t : Among n s.me.0.desk.layout.nests). is.carrying n t) (λ (p : IsMetaPlace n.place.group.meta facts.start.pages). p) (alike.carrying n (subst (λ (v : View). Among n v.desk.layout.nests) view q));
  placed = λ g q. ⊎_elim (λ (t : Among g s.me.0.desk.groups). is.placed g t) (λ (p : IsMetaPlace g.meta facts.start.pages). p) (alike.groups g (subst (λ (v : View). Among g v.desk.groups) view q));
  next = ap (λ (v : View). v.desk.next) view ∙ alike.next ∙ is.next;
  few = is.few;
  cleared = is.cleared;
  roomy = is.roomy;
}

-- slots of a group that has a meta of the space come in motion
pub still-fetched : (pages : ℕ) (g : Group) (is : List ℕ) (hs : List Held) → IsMetaPlace g.meta pages → AreStill pages hs (map (in_motion g) is ++ hs)
still-fetched pages g [] hs place h s = inl s
still-fetched pages g (i ∷ is) hs place h (inl e) = inr (ap (λ (y : Held). y.block) e, subst (λ (y : Held). IsMetaPlace y.place.group.meta pages) (sym e) place)
still-fetched pages g (i ∷ is) hs place h (inr s) = still-fetched pages g is hs place h s

-- slots go
pub still-let_go : (pages m : ℕ) (is : List ℕ) (hs : List Held) → AreStill pages hs (let_go m is hs)
still-let_go pages m [] hs h s = inl s
still-let_go pages m (i ∷ is) hs h s = ⊎_elim (λ (t : Among h (without m i hs)). inl (among_without m i hs h t)) (λ (moving : IsMovingIn pages h). inr moving) (still-let_go pages m is (without m i hs) h s)

-- a word of a live group's meta lies in the space
pub word_inside : (facts : Facts) (s : Seat (Unit {0}) View) (shelf : List book.Shown) (room meta b : ℕ) → IsLockSeat facts s shelf room → HasGroup s.me.0 meta → b < 40 → meta + b < 4096 * facts.start.pages
word_inside facts s shelf room meta b is has below =
    let place = subst (λ m. IsMetaPlace m facts.start.pages) has.of_meta (is.placed has.group has.there) in
    let inside = place.inside in let counted = place.counted in let stands = place.stands in omega arith
