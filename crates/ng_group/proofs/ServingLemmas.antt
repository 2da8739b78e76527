-- What the books say of the metas of a ring, and what the steps of a search tell.
use Rattle.std.proofs.Common.{◌≡◌, ◌≢◌, ◌⊎◌, ℕ, ◌+◌, ◌*◌, ◌<◌, ◌≤◌, eqb, ne_eqb, cond, Bool, true, false, List, [], ◌∷◌, Some, refl, sym, ap, ◌∙◌, subst, inl, inr, arith}
use Rattle.std.specs.Prelude.{◌&&◌}
use Rattle.std.specs.List.{slice_get}
use Rattle.std.proofs.lemmas.Bool.{eqb-false}
use Rattle.ng_meta.specs.Place.{IsMetaPlace}
use Rattle.ng_mapper.specs.Runs as mapper
use Rattle.ng_mapper.specs.Mapping.{Span}
use Rattle.ng_mapper.specs.declared.refusals.Refusals.{Refusals}
use Rattle.ng_lists.specs.Rings.{RingTable, ring_of}
use Rattle.ng_lists.proofs.MemberLemmas.{Contains-first}
use Rattle.ng_view.specs.Lists.{Among}
use Rattle.ng_view.specs.LockSteps.{has_number, others}
use Rattle.ng_view.specs.Places.{stride}
use Rattle.ng_view.specs.declared.view.Group.{Group}
use Rattle.ng_view.specs.declared.view.Start.{Start}
use Rattle.ng_view.specs.declared.view.View.{View}
use Rattle.ng_view.specs.Fetches.{HasGroup}
use Rattle.ng_view.specs.Notes.{NotesRing}
use Rattle.ng_serve.specs.Groups.{AreInSpace, RingLives}
use Rattle.ng_ledger.specs.Groups.{AreGroups, IsOfClass}
use Rattle.ng_ledger.specs.Rings.{ChangesRing, IsIn}
use Rattle.ng_group.specs.Serving.{OnlyRing, with_search}
use Rattle.ng_group.specs.States.{State, Working}
use Rattle.ng_group.specs.Steps.{Came}

-- ---- the metas of a ring
pub of_member : {M P : Type 0} (start : Start) (span : M → Span) (runs : M → List mapper.Run) (refused : M → Refusals) (s : State M P) (class m : ℕ)
    → Working start span runs refused s → class < 48 → IsIn s.rings class m → IsOfClass s.seat.desk.groups m class
of_member start span runs refused s class m works known in' = works.stands.ringed.grouped class m known in'

pub member_live : {M P : Type 0} (start : Start) (span : M → Span) (runs : M → List mapper.Run) (refused : M → Refusals) (s : State M P) (class m : ℕ)
    → Working start span runs refused s → class < 48 → IsIn s.rings class m → HasGroup s.seat m
member_live start span runs refused s class m works known in' =
    let is = of_member start span runs refused s class m works known in' in
    record { group = is.group; there = is.there; of_meta = is.of_meta }

pub member_place : {M P : Type 0} (start : Start) (span : M → Span) (runs : M → List mapper.Run) (refused : M → Refusals) (s : State M P) (class m : ℕ)
    → Working start span runs refused s → class < 48 → IsIn s.rings class m → IsMetaPlace m start.pages
member_place start span runs refused s class m works known in' =
    let is = of_member start span runs refused s class m works known in' in
    subst (λ (k : ℕ). IsMetaPlace k start.pages) is.of_meta (works.stands.groups.each is.group is.there).place

pub ring_lives : {M P : Type 0} (start : Start) (span : M → Span) (runs : M → List mapper.Run) (refused : M → Refusals) (s : State M P) (class : ℕ)
    → Working start span runs refused s → class < 48 → RingLives s.seat.desk.groups (ring_of s.rings class) class
ring_lives start span runs refused s class works known m in' =
    let is = of_member start span runs refused s class m works known in' in
    record { group = is.group; there = is.there; of_meta = is.of_meta; of_class = is.of_class }

-- the groups lie in the space
pub groups_inside : (pages : ℕ) (gs : List Group) → AreGroups pages gs → AreInSpace pages gs
groups_inside pages gs are g there =
    let is = are.each g there in
    record { whole = is.whole; inside = begins g.base (stride g * (g.last + 1)) (4096 * pages) is.inside }
  where
    begins : (base slots end : ℕ) → base + (16 + slots) ≤ end → base + 16 ≤ end
    begins base slots end fits = omega (arith, fits)

-- the same of the state that a call's own parts are
pub class_at : {M P : Type 0} (start : Start) (span : M → Span) (runs : M → List mapper.Run) (refused : M → Refusals) (s now : State M P) (class m : ℕ)
    → s ≡ now → Working start span runs refused now → class < 48 → IsIn now.rings class m → IsOfClass s.seat.desk.groups m class
class_at {M} {P} start span runs refused s now class m same works known in' =
    subst (λ (u : State M P). IsOfClass u.seat.desk.groups m class) (sym same) (of_member start span runs refused now class m works known in')

pub live_at : {M P : Type 0} (start : Start) (span : M → Span) (runs : M → List mapper.Run) (refused : M → Refusals) (s now : State M P) (class m : ℕ)
    → s ≡ now → Working start span runs refused now → class < 48 → IsIn now.rings class m → HasGroup s.seat m
live_at {M} {P} start span runs refused s now class m same works known in' =
    subst (λ (u : State M P). HasGroup u.seat m) (sym same) (member_live start span runs refused now class m works known in')

pub inside_at : {M P : Type 0} (start : Start) (span : M → Span) (runs : M → List mapper.Run) (refused : M → Refusals) (s now : State M P)
    → s ≡ now → Working start span runs refused now → AreInSpace start.pages s.seat.desk.groups
inside_at {M} {P} start span runs refused s now same works =
    subst (λ (u : State M P). AreInSpace start.pages u.seat.desk.groups) (sym same) (groups_inside start.pages now.seat.desk.groups works.stands.groups)

pub in_at : {M P : Type 0} (s now : State M P) (class m : ℕ) → s ≡ now → slice_get (ring_of now.rings class) 0 ≡ Some m → IsIn s.rings class m
in_at {M} {P} s now class m same begins =
    subst (λ (u : State M P). IsIn u.rings class m) (sym same) (Contains-first (ring_of now.rings class) m (sym begins))

-- ---- what a note of a ring tells, where the meta isn't listed by it
has_among : (m : ℕ) (ns : List ℕ) → Among m ns → has_number m ns ≡ true
has_among m [] s = elim s [ ]
has_among m (n ∷ ns) s = by_test (has_among m ns) (eqb n m) refl s
  where
    by_test : (Among m ns → has_number m ns ≡ true) → (b : Bool) → eqb n m ≡ b → (m ≡ n) ⊎ Among m ns → cond b true (has_number m ns) ≡ true
    by_test ih true is t = refl
    by_test ih false is (inl e) = absurd (eqb-false n m is (sym e))
    by_test ih false is (inr t) = ih t

pub noted_search : (v w : View) (meta n : ℕ) → NotesRing v meta false n w → w ≡ with_search v w
noted_search v w meta n notes = subst (λ (u : View). u ≡ with_search v u) (sym notes.view) refl

pub noted_came : (v w : View) (meta n : ℕ) → NotesRing v meta false n w → Came v w
noted_came v w meta n notes = record {
  words = (meta + 28, n) ∷ [];
  readings = ap (λ (u : View). u.readings) notes.view;
}

pub noted_avail : (v w : View) (meta n : ℕ) → NotesRing v meta false n w → w.desk.zero_avail ≡ v.desk.zero_avail
noted_avail v w meta n notes = ap (λ (u : View). u.desk.zero_avail) notes.view

pub noted_active : (v w : View) (meta n : ℕ) → NotesRing v meta false n w → w.desk.active ≡ v.desk.active
noted_active v w meta n notes = ap (λ (u : View). u.desk.active) notes.view

pub noted_held : (v w : View) (meta n : ℕ) → NotesRing v meta false n w → w.held ≡ v.held
noted_held v w meta n notes = ap (λ (u : View). u.held) notes.view

-- a slot is freed: the meta stays listed
pub noted_stays : (v w : View) (meta n : ℕ) → n ≢ 0 → NotesRing v meta false n w → w.desk.listed ≡ v.desk.listed
noted_stays v w meta n some notes =
    ap (λ (u : View). u.desk.listed) notes.view
    ∙ ap (λ (b : Bool). cond (b && has_number meta v.desk.zero_avail) (others meta v.desk.listed) v.desk.listed) (ne_eqb n 0 some)

-- none is, nor available: it is listed no more
pub noted_leaves : (v w : View) (meta : ℕ) → Among meta v.desk.zero_avail → NotesRing v meta false 0 w → w.desk.listed ≡ others meta v.desk.listed
noted_leaves v w meta zero notes =
    ap (λ (u : View). u.desk.listed) notes.view
    ∙ ap (λ (b : Bool). cond b (others meta v.desk.listed) v.desk.listed) (has_among meta v.desk.zero_avail zero)

-- ---- what a step on the seat and on one ring leaves
pub only_here : {M P : Type 0} (class : ℕ) (s : State M P) (w : View) (t : RingTable) (ring : List ℕ)
    → w ≡ with_search s.seat w → Came s.seat w → ChangesRing s.rings t class ring
    → ((k m : ℕ) → k < 48 → k ≢ class → IsIn s.rings k m → Among m s.seat.desk.zero_avail → Among m w.desk.zero_avail)
    → OnlyRing class s (record s { seat = w; rings = t })
only_here class s w t ring view came changes bare = record {
  state = refl;
  view = view;
  came = came;
  rings = changes.others;
  bare = bare;
}

-- and on the seat alone
pub only_seat : {M P : Type 0} (class : ℕ) (s : State M P) (w : View)
    → w ≡ with_search s.seat w → Came s.seat w
    → ((k m : ℕ) → k < 48 → k ≢ class → IsIn s.rings k m → Among m s.seat.desk.zero_avail → Among m w.desk.zero_avail)
    → OnlyRing class s (record s { seat = w })
only_seat class s w view came bare = record {
  state = refl;
  view = view;
  came = came;
  rings = λ k apart. refl;
  bare = bare;
}
