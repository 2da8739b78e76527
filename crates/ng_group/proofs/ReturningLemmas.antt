-- What the rules are asked of a group, and how a slot comes back into its group.
use Rattle.std.proofs.Common.{◌≡◌, ◌≢◌, ℕ, ◌+◌, ◌<◌, ◌≤◌, ◌&&◌, Bool, true, cond, eqb, List, [], ◌∷◌, ◌++◌, Some, None, refl, sym, ap, subst, ◌∙◌, ⊎_elim, inl, inr, arith}
use Rattle.std.specs.List.{slice_index}
use Rattle.std.proofs.lemmas.Bool.{eq-eqb}
use Rattle.ng_mapper.specs.Mapping.{Span}
use Rattle.ng_mapper.specs.Runs as mapper
use Rattle.ng_mapper.specs.declared.refusals.Refusals.{Refusals}
use Rattle.ng_class.specs.Slot.{IsGroupClass}
use Rattle.ng_policy.specs.Ask.{SpareInRange}
use Rattle.ng_lists.specs.Rings.{RingTable, IsListed, ring_of}
use Rattle.ng_view.specs.Layouts.{IsLoneKind, IsSmallKind}
use Rattle.ng_view.specs.Lists.{Among, find, is_at, without}
use Rattle.ng_view.specs.LockSteps.{active_set, ring_read}
use Rattle.ng_view.specs.Slots.{IsPlain}
use Rattle.ng_view.specs.Steps.{read}
use Rattle.ng_view.specs.declared.view.Group.{Group}
use Rattle.ng_view.specs.declared.view.Held.{Held}
use Rattle.ng_view.specs.declared.view.Start.{Start}
use Rattle.ng_view.specs.declared.view.View.{View}
use Rattle.ng_view.specs.Fetches.{HasGroup}
use Rattle.ng_view.specs.Notes.{NotesRing}
use Rattle.ng_mask.specs.Fetches.{OfGroup}
use Rattle.ng_serve.specs.Groups.{Describes}
use Rattle.ng_serve.specs.Takes.{ChangesMasks, HasBare, IsServed, PutsSlot}
use Rattle.ng_serve.specs.declared.group.LiveGroup.{LiveGroup}
use Rattle.ng_serve.proofs.Changes.{changes_listed}
use Rattle.ng_ledger.specs.Groups.{IsOfClass}
use Rattle.ng_ledger.specs.Rings.{AreRinged, IsIn, IsTable, entered}
use Rattle.ng_ledger.specs.Standing.{Ledger}
use Rattle.ng_ledger.proofs.RingLemmas.{enter, noted_from_listed}
use Rattle.ng_ledger.proofs.UsageLemmas.{bounded}
use Rattle.ng_group.specs.Returning.{Enlists, GoesBack, HasReturned}
use Rattle.ng_group.specs.Serving.{OnlyRing, with_search}
use Rattle.ng_group.specs.States.{IsWorking, State, Working, first_of, ledger_of, with_active}
use Rattle.ng_group.proofs.WordLemmas.{followed_ring, followed_same, set_search}
use Rattle.ng_group.proofs.WorkingLemmas.{only_then, searched}

-- ---- the numbers of a live group

module _ (start : Start) (span : Span) (live : List mapper.Run) (refused : Refusals) (l : Ledger) (works : IsWorking start span live refused l) (meta : ℕ) (found : LiveGroup) (has : HasGroup l.seat meta) (of : OfGroup l.seat meta (Describes found)) where
  -- it has at most 32 slots
  pub found_few : found.last < 32
  found_few = omega (arith, (works.stands.groups.each has.group has.there).few, (of has.group has.there has.of_meta).last)

  -- and its class has fewer slots than the rules can count
  pub spare_range : start.pages ≤ 16384 → found.class < 48 → (alone bouncing : Bool)
      → SpareInRange (record { class = found.class; slots = found.last + 1; usage = slice_index l.usage found.class; alone = alone; bouncing = bouncing })
  spare_range few known alone bouncing = record {
    class = known;
    some = omega arith;
    most = omega (arith, found_few);
    usage = omega (arith, works.stands.used.each found.class known, bounded start.pages l.seat.desk.groups found.class works.stands.groups few);
  }

  pub found_paged : found.maplen ≤ 16384
  found_paged = omega (arith, (works.stands.groups.each has.group has.there).paged, (of has.group has.there has.of_meta).maplen)

  -- it is one block, or of a class below 48
  pub found_small : found.class ≢ 63 → found.class < 48
  found_small several =
      let tag = (of has.group has.there has.of_meta).tag in
      ⊎_elim
      (λ (small : IsSmallKind has.group). omega (arith, small.low, tag))
      (λ (lone : IsLoneKind has.group). absurd (several (omega (arith, lone.lone, tag))))
      (works.stands.groups.each has.group has.there).kind

  pub found_class : found.class ≢ 63 → IsGroupClass found.class found.last found.maplen
  found_class several = inl (found_small several)

-- ---- a group comes into its ring

module _ {M P : Type 0} (start : Start) (span : M → Span) (runs : M → List mapper.Run) (refused : M → Refusals) (now s : State M P) (same : s ≡ now) (now_works : Working start span runs refused now) where
  works : Working start span runs refused s
  works = subst (Working start span runs refused) (sym same) now_works

  -- a group that is there is noted so
  pub listed_there : (meta : ℕ) → IsTable s.rings → IsListed s.rings meta → Among meta now.seat.desk.listed
  listed_there meta is listed =
      subst (λ (x : State M P). Among meta x.seat.desk.listed) same
      (noted_from_listed s.seat.desk.groups s.seat.desk.listed s.seat.desk.zero_avail s.rings meta is works.stands.ringed listed)

  -- and one that comes leaves the books right
  pub enlisted : (class meta n : ℕ) (w u : View) (t : RingTable) → IsTable s.rings → class < 48 → IsOfClass now.seat.desk.groups meta class → Among meta now.seat.desk.zero_avail
      → NotesRing s.seat meta true n w → t ≡ entered s.rings class meta → u ≡ active_set w class (first_of (ring_of t class))
      → Working start span runs refused (record s { seat = u; rings = t })
  enlisted class meta n w u t is known of_class zero notes turn sets =
      let of_class' : IsOfClass s.seat.desk.groups meta class = subst (λ (x : State M P). IsOfClass x.seat.desk.groups meta class) (sym same) of_class in
      let zero' : Among meta s.seat.desk.zero_avail = subst (λ (x : State M P). Among meta x.seat.desk.zero_avail) (sym same) zero in
      let view : w ≡ with_search s.seat w = subst (λ (x : View). x ≡ with_search s.seat x) (sym notes.view) refl in
      let ringed : AreRinged s.seat.desk.groups w.desk.listed w.desk.zero_avail (entered s.rings class meta) =
      subst (λ (x : View). AreRinged s.seat.desk.groups x.desk.listed x.desk.zero_avail (entered s.rings class meta)) (sym notes.view)
      (enter s.seat.desk.groups s.seat.desk.listed s.seat.desk.zero_avail s.rings class meta is known of_class' zero' works.stands.ringed) in
      let word : ℕ = first_of (ring_of (entered s.rings class meta) class) in
      subst (λ (x : View). Working start span runs refused (record s { seat = x; rings = t })) (sym sets)
      (subst (λ (r : RingTable). Working start span runs refused (record s { seat = active_set w class (first_of (ring_of r class)); rings = r })) (sym turn)
      (searched start (span s.mapper) (runs s.mapper) (refused s.mapper) (ledger_of s) (active_set w class word) (entered s.rings class meta) works
      (set_search s.seat w class word view) refl ringed
      (followed_ring works.followed w.desk.active (entered s.rings class meta) class (ring_of s.rings class ++ meta ∷ []) (ap (λ (x : View). x.desk.active) notes.view) refl)))

-- ---- a step on the masks of one group

pub changed_view : (v w : View) (meta : ℕ) → ChangesMasks v meta w → w ≡ with_search v w
changed_view v w meta changes = changes.view ∙ ap
    (λ (x : View). record v {
      held = w.held;
      readings = x.readings;
      desk = record v.desk {
        listed = x.desk.listed;
        zero_avail = w.desk.zero_avail;
        zero_freed = w.desk.zero_freed;
        set_freed = w.desk.set_freed;
        active = x.desk.active;
      };
    })
    (sym changes.view)

pub changed_only : {M P : Type 0} (class meta : ℕ) (s : State M P) (w : View) → ChangesMasks s.seat meta w
    → ((k m : ℕ) → k < 48 → k ≢ class → IsIn s.rings k m → Among m s.seat.desk.zero_avail → Among m w.desk.zero_avail)
    → OnlyRing class s (record s { seat = w })
changed_only class meta s w changes keeps = record {
  state = refl;
  view = changed_view s.seat w meta changes;
  came = record { words = changes.words; readings = ap (λ (x : View). x.readings) changes.view };
  rings = λ k apart. refl;
  bare = keeps;
}

pub changed_works : {M P : Type 0} (start : Start) (span : M → Span) (runs : M → List mapper.Run) (refused : M → Refusals) (meta : ℕ) (s : State M P) (w : View) → ChangesMasks s.seat meta w
    → AreRinged s.seat.desk.groups s.seat.desk.listed w.desk.zero_avail s.rings
    → Working start span runs refused s → Working start span runs refused (record s { seat = w })
changed_works start span runs refused meta s w changes ringed works =
    searched start (span s.mapper) (runs s.mapper) (refused s.mapper) (ledger_of s) w s.rings works (changed_view s.seat w meta changes) refl
    (subst (λ ls. AreRinged s.seat.desk.groups ls w.desk.zero_avail s.rings) (sym (changes_listed s.seat w meta changes)) ringed)
    (followed_same works.followed (ap (λ (x : View). x.desk.active) changes.view))

-- ---- a slot comes back

pub at_place : (slot : Held) (meta index : ℕ) → slot.place.group.meta ≡ meta → slot.place.index ≡ index → is_at meta index slot.place ≡ true
at_place slot meta index of_meta of_index =
    ap (λ (b : Bool). b && eqb slot.place.index index) (eq-eqb slot.place.group.meta meta of_meta) ∙ eq-eqb slot.place.index index of_index

pub found_alone : (slot : Held) (meta index : ℕ) → slot.place.group.meta ≡ meta → slot.place.index ≡ index → find meta index (slot ∷ []) ≡ Some slot
found_alone slot meta index of_meta of_index = ap (λ (b : Bool). cond b (Some slot) None) (at_place slot meta index of_meta of_index)

-- the class of its group is below 48
pub class_known : (v : View) (meta index class : ℕ) → HasReturned v meta index → OfGroup v meta (λ g. g.tag ≡ class + 1) → OfGroup v meta IsPlain → class < 48
class_known v meta index class has of_class plain =
    omega (arith, of_class has.group has.there has.of_meta, (plain has.group has.there has.of_meta).small)

pub class_of : (v : View) (meta index class : ℕ) → HasReturned v meta index → OfGroup v meta (λ g. g.tag ≡ class + 1) → IsOfClass v.desk.groups meta class
class_of v meta index class has of_class = record {
  group = has.group;
  there = has.there;
  of_meta = has.of_meta;
  of_class = of_class has.group has.there has.of_meta;
}

-- its bit may be set
pub bare_returned : (v : View) (held : List Held) (meta index : ℕ) (has : HasReturned v meta index) → has.group.last < 32 → held ≡ v.held → HasBare held meta index
bare_returned v held meta index has few same = record {
  few = omega (arith, has.within, few);
  slot = has.slot;
  found = ap (find meta index) (same ∙ has.held)
      ∙ found_alone has.slot meta index (ap (λ (g : Group). g.meta) has.of_group ∙ has.of_meta) has.of_index;
  bare = has.bare;
}

module _ {M P : Type 0} (before mid s : State M P) (same : s ≡ mid) (class : ℕ) (only : OnlyRing class before mid) (meta index : ℕ) where
  pub served_back : HasReturned before.seat meta index → OfGroup before.seat meta IsPlain → Among meta mid.seat.desk.listed → IsServed s.seat meta
  served_back has plain listed = subst (λ (x : State M P). IsServed x.seat meta) (sym same) (record {
    group = has.group;
    there = subst (Among has.group) (sym (ap (λ (x : View). x.desk.groups) only.view)) has.there;
    of_meta = has.of_meta;
    plain = plain has.group has.there has.of_meta;
    listed = listed;
  })

  module _ (w : View) where
    pub put_only : PutsSlot s.seat meta index w → OnlyRing class before (record s { seat = w })
    put_only = subst (λ (x : State M P). PutsSlot x.seat meta index w → OnlyRing class before (record x { seat = w })) (sym same)
        (λ (puts : PutsSlot mid.seat meta index w). only_then class before mid (record mid { seat = w }) only
        (changed_only class meta mid w puts.changes (λ k m known apart in' noted. subst (Among m) (sym puts.avail) noted)))

    pub put_works : (start : Start) (span : M → Span) (runs : M → List mapper.Run) (refused : M → Refusals) → Working start span runs refused mid
        → PutsSlot s.seat meta index w → Working start span runs refused (record s { seat = w })
    put_works start span runs refused works = subst (λ (x : State M P). PutsSlot x.seat meta index w → Working start span runs refused (record x { seat = w })) (sym same)
        (λ (puts : PutsSlot mid.seat meta index w). changed_works start span runs refused meta mid w puts.changes
        (subst (λ z. AreRinged mid.seat.desk.groups mid.seat.desk.listed z mid.rings) (sym puts.avail) works.stands.ringed)
        works)

-- none is in the seat then
pub idle_put : (v : View) (held : List Held) (meta index : ℕ) → HasReturned v meta index → held ≡ v.held → without meta index held ≡ []
idle_put v held meta index has same =
    ap (without meta index) (same ∙ has.held)
    ∙ ap (λ (b : Bool). cond b [] (has.slot ∷ [])) (at_place has.slot meta index (ap (λ (g : Group). g.meta) has.of_group ∙ has.of_meta) has.of_index)

-- ---- each step is told

module _ {M P : Type 0} {s now : State M P} (class meta : ℕ) (same : s ≡ now) where
  pub enlists_here : IsListed s.rings meta → Enlists class meta now now
  enlists_here listed = inl (subst (λ (x : State M P). IsListed x.rings meta) same listed, refl)

  pub enlists_last : (n : ℕ) (w u : View) (t : RingTable) → ¬ IsListed s.rings meta → NotesRing s.seat meta true n w → t ≡ entered s.rings class meta
      → u ≡ active_set w class (first_of (ring_of t class)) → Enlists class meta now (record s { seat = u; rings = t })
  enlists_last n w u t absent notes turn sets = subst (λ (x : State M P). Enlists class meta x (record s { seat = u; rings = t })) same
      (inr (
        absent,
        (
          n,
          ap (λ (v : View). record s { seat = v; rings = t }) sets
              ∙ ap (λ (v : View). with_active (record s { seat = v; rings = t }) class) notes.view
              ∙ ap (λ (r : RingTable). with_active (record s { seat = read (ring_read s.seat meta true n) (meta + 28) n; rings = r }) class) turn,
        ),
      ))

  pub goes_back : (before : State M P) (index : ℕ) (w : View) → Enlists class meta before now → PutsSlot s.seat meta index w
      → GoesBack class meta index before (record s { seat = w })
  goes_back before index w enlists puts = record {
    mid = s;
    enlists = subst (Enlists class meta before) (sym same) enlists;
    mask = puts.pushes.mask;
    state = ap (λ (v : View). record s { seat = v }) puts.pushes.view;
  }
