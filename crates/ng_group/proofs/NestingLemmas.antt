-- What stands of the books once a group has come in a slot of another.
use Rattle.std.proofs.Common.{◌≡◌, ◌≢◌, ◌⊎◌, ℕ, ◌+◌, ◌-◌, ◌*◌, ◌/◌, ◌%◌, ◌<◌, ◌≤◌, ◌^◌, eqb, cond, List, [], ◌∷◌, ◌++◌, Contains, Some, set, slice_index, slice_set, append_assoc, refl, sym, ap, subst, ◌∙◌, ⊎_elim, inl, inr, arith}
use Rattle.std.proofs.Math.Nat.{min-le_left, mul-le-mul_left}
use Rattle.std.proofs.lemmas.Bool.{eq-eqb}
use Rattle.ng_build.specs.Cells.{knowing}
use Rattle.ng_build.specs.Drafts as draft
use Rattle.ng_build.specs.Nestings.{HasCarrier, PublishesSlot, StoresBefore, with_nested}
use Rattle.ng_build.proofs.Storing.{stores_both, stores_less, stores_none}
use Rattle.ng_class.specs.Class.{IsLeastClass, units_of}
use Rattle.ng_class.specs.Slot.{IsGroupClass, stride_of}
use Rattle.ng_class.proofs.Slots.{room_of_slot, stride_of_nested}
use Rattle.ng_group.specs.Building.{HasInHand, with_used}
use Rattle.ng_group.specs.Serving.{HasServed}
use Rattle.ng_group.specs.States.{AreFollowed, IsWorking, State, ledger_of}
use Rattle.ng_group.specs.Steps.{GoesOn, HandsOver, LeavesBelow}
use Rattle.ng_group.specs.Untouched.{IsUntouched}
use Rattle.ng_group.proofs.BuildingLemmas.{rings_below, usage_below, zero_grows}
use Rattle.ng_group.proofs.MappingLemmas.{MayBuild, absent, may_build}
use Rattle.ng_group.proofs.WordLemmas.{followed_first}
use Rattle.ng_ledger.specs.Groups.{IsGroup}
use Rattle.ng_ledger.specs.Metas.{IsBlankMeta, IsFreeMeta}
use Rattle.ng_ledger.specs.Rings.{IsBare, IsTable, entered_first}
use Rattle.ng_ledger.specs.Standing.{Ledger, Stands}
use Rattle.ng_ledger.specs.Usage.{AreUsed}
use Rattle.ng_ledger.proofs.AreaLemmas.{area_stays}
use Rattle.ng_ledger.proofs.CarrierLemmas.{carried_set, child_place, nested_in_slot, uncarried}
use Rattle.ng_ledger.proofs.FoundedLemmas.{founded_nested}
use Rattle.ng_ledger.proofs.GroupLemmas.{add_group, unborn_more}
use Rattle.ng_ledger.proofs.HandLemmas.{hand_born_other, hand_born_was, hand_moved}
use Rattle.ng_ledger.proofs.MetaLemmas.{area_places, of_areas_born, of_areas_moved, places_apart}
use Rattle.ng_ledger.proofs.RingLemmas.{first}
use Rattle.ng_ledger.proofs.ServedLemmas.{served_more}
use Rattle.ng_ledger.proofs.UsageLemmas.{published}
use Rattle.ng_mapper.specs.Mapping.{AreLaid, IsSpan, Span}
use Rattle.ng_mapper.specs.Runs as mapper
use Rattle.ng_mapper.specs.declared.refusals.Refusals.{Refusals}
use Rattle.ng_mapper.proofs.LaidLemmas.{lies-contained}
use Rattle.ng_meta.specs.Place.{IsMetaPlace}
use Rattle.ng_policy.specs.Ask.{IsCount}
use Rattle.ng_serve.specs.Groups.{Describes, ReadsFields}
use Rattle.ng_serve.specs.declared.group.LiveGroup.{LiveGroup}
use Rattle.ng_shelf.specs.Parents.{IsSameBut, ParentTable, parent_of}
use Rattle.ng_shelf.specs.Shape.{IsNestedSize}
use Rattle.ng_shelf.specs.Stock.{free_of}
use Rattle.ng_view.specs.Conditions.{IsUnborn, Sees}
use Rattle.ng_view.specs.Layouts.{InArea, IsNested}
use Rattle.ng_view.specs.Lists.{Among, find, without}
use Rattle.ng_view.specs.LockSteps.{active_set}
use Rattle.ng_view.specs.Places.{header, reach, room, size_of, stride}
use Rattle.ng_view.specs.Steps.{in_motion, read}
use Rattle.ng_view.specs.declared.view.Group.{Group}
use Rattle.ng_view.specs.declared.view.Layout.{Layout}
use Rattle.ng_view.specs.declared.view.Place.{Place}
use Rattle.ng_view.specs.declared.view.Start.{Start}
use Rattle.ng_view.specs.declared.view.View.{View}

-- what holds where a call builds a group in a slot of the seat
pub record MayNest (start : Start) (span : Span) (live : List mapper.Run) (refused : Refusals) (l : Ledger) (class count parent index m carrying : ℕ) : Type 0 where
  pub may : MayBuild start span live refused l class m
  pub served : HasServed carrying (16 * units_of class * count + 12) l.seat parent index

-- of two views of one core the one has it where the other does
pub may_nest : {M P : Type 0} (start : Start) (span : M → Span) (runs : M → List mapper.Run) (refused : M → Refusals) {s s' : State M P} (class count parent index m carrying : ℕ) → s ≡ s'
    → IsWorking start (span s'.mapper) (runs s'.mapper) (refused s'.mapper) (ledger_of s') → HasInHand start (ledger_of s') m → IsBare s'.seat.desk.zero_avail s'.rings class
    → HasServed carrying (16 * units_of class * count + 12) s'.seat parent index
    → MayNest start (span s.mapper) (runs s.mapper) (refused s.mapper) (ledger_of s) class count parent index m carrying
may_nest {M = M} {P = P} start span runs refused class count parent index m carrying same working hand bare served = record {
  may = may_build start span runs refused class m same working hand bare;
  served = subst (λ (x : State M P). HasServed carrying (16 * units_of class * count + 12) x.seat parent index) (sym same) served;
}

-- ---- the slot

-- the only slot of a list is found, and the list is empty without it
found_alone : (p : Group) (parent index : ℕ) → p.meta ≡ parent → find parent index (in_motion p index ∷ []) ≡ Some (in_motion p index)
found_alone p parent index same = rw (eq-eqb p.meta parent same, eq-eqb index index refl) refl

without_alone : (p : Group) (parent index : ℕ) → p.meta ≡ parent → without parent index (in_motion p index ∷ []) ≡ []
without_alone p parent index same = rw (eq-eqb p.meta parent same, eq-eqb index index refl) refl

one_step : (s j : ℕ) → s * (j + 1) ≡ s * j + s
one_step s j = grind arith

step_whole : (s j : ℕ) → s % 16 ≡ 0 → (s * j) % 16 ≡ 0
step_whole s j whole =
    let tens : s ≡ 16 * (s / 16) = omega (arith, whole) in
    let all : s * j ≡ 16 * (s / 16) * j = ap (λ n. n * j) tens in
    let out : 16 * (s / 16) * j ≡ 16 * (s / 16 * j) = grind arith in
    omega (arith, all, out)

-- the bytes of a group in a slot
module _ (g : Group) (class count : ℕ) (of_class : g.tag ≡ class + 1) (of_count : g.last + 1 ≡ count) (unmapped : g.maplen ≡ 0) where
  same_class : class ≡ g.tag - 1
  same_class = omega (arith, of_class)

  pub size_is : size_of g ≡ 16 * units_of class * count
  size_is = ap (λ n. 16 * units_of n * (g.last + 1)) (sym same_class) ∙ ap (λ n. 16 * units_of class * n) of_count

  pub reach_is : reach g ≡ 16 + 16 * units_of class * count
  unfolding stride
  reach_is = ap (λ n. 16 + n * (g.last + 1)) (stride_of_nested (g.tag - 1) g.last g.maplen unmapped) ∙ ap (λ n. 16 + n) size_is

room_below : (p : Group) (carrying : ℕ) → p.tag ≡ carrying + 1 → carrying < 48 → room p ≤ stride p
unfolding room stride
room_below p carrying of_class known =
    subst (λ n. n ≤ stride_of (p.tag - 1) p.last p.maplen) (sym (room_of_slot (p.tag - 1) p.last p.maplen (λ (lone : p.tag - 1 ≡ 63). omega (arith, lone, of_class, known)))) (min-le_left (stride_of (p.tag - 1) p.last p.maplen) (16 * units_of (p.tag - 1)))

module _ {start : Start} {span : Span} {live : List mapper.Run} {refused : Refusals} {l : Ledger} {class count parent index carrying : ℕ}
    (old : IsWorking start span live refused l) (known : class < 48) (is : IsCount class count) (small : IsNestedSize class count) (addressed : start.pages ≤ 16384)
    (least : IsLeastClass (16 * units_of class * count + 12) carrying) (above : class < carrying) (served : HasServed carrying (16 * units_of class * count + 12) l.seat parent index) where
  abbrev p : Group
  p = served.group

  pub carrier_group : IsGroup start.pages served.group
  carrier_group = old.stands.groups.each p served.there

  pub carrier_low : served.group.base + 16 < 2 ^ 64
  carrier_low = let inside : p.base + reach p ≤ 4096 * start.pages = carrier_group.inside in omega (arith, inside, addressed)

  pub carrier_few : index < 32
  carrier_few = omega (arith, served.within, carrier_group.few)

  module _ (found : LiveGroup) (describes : Describes found served.group) where
    pub found_class : IsGroupClass found.class found.last found.maplen
    found_class = inl (omega (arith, describes.tag, served.of_class, least.known))

    pub found_low : found.base + 16 < 2 ^ 64
    found_low = subst (λ b. b + 16 < 2 ^ 64) describes.base carrier_low

    pub found_few : found.last < 32
    found_few = omega (arith, describes.last, carrier_group.few)

    pub found_paged : found.maplen ≤ 16384
    found_paged = omega (arith, describes.maplen, carrier_group.paged)

    module _ (step : ℕ) (step_is : step ≡ stride_of found.class found.last found.maplen) where
      pub step_same : step ≡ stride served.group
      unfolding stride
      step_same = step_is
          ∙ ap (λ n. stride_of n found.last found.maplen) (let e : found.class ≡ p.tag - 1 = omega (arith, describes.tag) in e)
          ∙ ap (λ n. stride_of (p.tag - 1) n found.maplen) (sym describes.last)
          ∙ ap (λ n. stride_of (p.tag - 1) p.last n) (sym describes.maplen)

      -- the slot ends in the space
      pub slot_inside : found.base + 16 + step * index + step ≤ 4096 * start.pages
      slot_inside =
          let whole : stride p * (index + 1) ≤ stride p * (p.last + 1) = mul-le-mul_left (stride p) (let e : index + 1 ≤ p.last + 1 = omega (arith, served.within) in e) in
          let inside : p.base + (16 + stride p * (p.last + 1)) ≤ 4096 * start.pages = carrier_group.inside in
          let split : stride p * (index + 1) ≡ stride p * index + stride p = one_step (stride p) index in
          let ends : found.base + 16 + stride p * index + stride p ≤ 4096 * start.pages = omega (arith, whole, inside, split, describes.base) in
          subst (λ s. found.base + 16 + s * index + s ≤ 4096 * start.pages) (sym step_same) ends

      pub slot_low : found.base + 16 + step * index < 2 ^ 64
      slot_low = omega (arith, slot_inside, addressed)

      pub slot_whole : step % 16 ≡ 0 → (found.base + 16 + step * index) % 16 ≡ 0
      slot_whole whole =
          let base : p.base % 16 ≡ 0 = carrier_group.whole in
          let at : p.base ≡ found.base = describes.base in
          let all : (step * index) % 16 ≡ 0 = step_whole step index whole in
          omega (arith, base, at, all)

      module _ (u : View) (reads : ReadsFields l.seat parent u) (g : Group) (of_class : g.tag ≡ class + 1) (of_count : g.last + 1 ≡ count) (unmapped : g.maplen ≡ 0) (begins : g.base ≡ found.base + 16 + step * index) where
        pub slot_fits : reach g ≤ stride served.group
        slot_fits =
            let r : reach g ≡ 16 + 16 * units_of class * count = reach_is g class count of_class of_count unmapped in
            let roomy : 16 * units_of class * count + 12 + 4 ≤ room p = served.roomy in
            let below : room p ≤ stride p = room_below p carrying served.of_class least.known in
            omega (arith, r, roomy, below)

        pub slot_nested : IsNested g served.group
        slot_nested =
            let size : size_of g ≡ 16 * units_of class * count = size_is g class count of_class of_count unmapped in
            let wide : 16 + 16 * units_of class * count ≤ 2048 = small in
            record {
              unmapped = unmapped;
              low = omega (arith, of_class, known);
              small = omega (arith, size, wide);
              parent = (omega (arith, size, wide), carrying, served.of_class, subst (λ n. IsLeastClass (n + 12) carrying) (sym size) least);
            }

        found_slot : find parent index u.held ≡ Some (in_motion p index)
        found_slot =
            let held : u.held ≡ in_motion p index ∷ [] = ap (λ (x : View). x.held) reads.view ∙ served.motion in
            subst (λ hs. find parent index hs ≡ Some (in_motion p index)) (sym held) (found_alone p parent index served.of_meta)

        pub slot_begins : g.base ≡ p.base + 16 + stride p * index
        slot_begins = begins ∙ ap (λ s. found.base + 16 + s * index) step_same ∙ ap (λ b. b + 16 + stride p * index) (sym describes.base)

        pub has_carrier : HasCarrier u (record { meta = parent; index = index; storage = found.base + 16; stride = step }) g
        has_carrier = record {
          slot = in_motion p index;
          found = found_slot;
          storage = omega (arith, describes.base);
          step = step_same;
          within = served.within;
          few = carrier_group.few;
          begins = slot_begins;
          nested = slot_nested;
          fits = slot_fits;
          lower = omega (arith, of_class, served.of_class, above);
        }

        pub slot_group : step % 16 ≡ 0 → IsMetaPlace g.meta start.pages → IsGroup start.pages g
        slot_group whole place = record {
          place = place;
          kind = inl (record { low = omega (arith, of_class, known); fits = subst (λ n. units_of n * (g.last + 1) < 65536) (let e : class ≡ g.tag - 1 = omega (arith, of_class) in e) (subst (λ n. units_of class * n < 65536) (sym of_count) is.fits) });
          live = omega (arith, of_class);
          few = omega (arith, of_count, is.most);
          paged = omega (arith, unmapped);
          whole = subst (λ n. n % 16 ≡ 0) (sym begins) (slot_whole whole);
          inside =
              let fits : reach g ≤ stride p = slot_fits in
              let same : step ≡ stride p = step_same in
              let ends : found.base + 16 + step * index + step ≤ 4096 * start.pages = slot_inside in
              omega (arith, fits, same, ends, begins);
        }

-- the meta of the new group is as blank as before
pub meta_read : {pages : ℕ} {v u : View} {parent m : ℕ} → ReadsFields v parent u → IsFreeMeta pages v.desk.layout v.desk.groups v.desk.cells m → draft.IsBlankMeta u m
meta_read {v = v} {m = m} reads free = record {
  idle = record {
    area = subst (λ (x : View). InArea x.desk.layout m) (sym reads.view) free.area;
    unborn = subst (λ (x : View). IsUnborn x m) (sym reads.view) free.unborn;
  };
  zero = λ b al low high. subst (λ (x : View). Sees x b 0) (sym reads.view) (sees b al low high);
}
  where
    sees : (b : ℕ) → b % 4 ≡ 0 → m ≤ b → b < m + 40 → Sees v b 0
    sees b al low high =
        let at : m ≡ 4096 * free.place.page + 24 + 40 * free.place.i = free.place.stands in
        subst (λ k. Sees v k 0) (let e : m + (b - m) ≡ b = omega (arith, low) in e) (free.blank (b - m) (omega (arith, low, high)) (omega (arith, al, low, at)))

-- ---- and the group

-- what is known where a group comes in a slot of the group p
pub record ComesInSlot (start : Start) (span : Span) (live : List mapper.Run) (refused : Refusals) (l : Ledger) (g p : Group) (class slots active parent index : ℕ) (u w : View) (table : ParentTable) : Type 0 where
  pub working : IsWorking start span live refused l
  pub bounded : IsSpan span
  pub laid : AreLaid span live
  pub reads : ReadsFields l.seat parent u
  pub publishes : PublishesSlot u parent index g active w
  pub of_parent : p.meta ≡ parent
  pub motion : l.seat.held ≡ in_motion p index ∷ []
  pub rings : IsTable l.rings
  pub known : class < 48
  pub of_class : g.tag ≡ class + 1
  pub of_slots : g.last + 1 ≡ slots
  pub group : IsGroup start.pages g
  pub unmapped : g.maplen ≡ 0
  pub free : IsFreeMeta start.pages l.seat.desk.layout l.seat.desk.groups l.seat.desk.cells g.meta
  pub out : ¬ Contains (free_of l.stock) g.meta
  pub bare : IsBare l.seat.desk.zero_avail l.rings class
  pub set : parent_of table g.meta ≡ Some (parent, index)
  pub others : IsSameBut g.meta l.parents table
  pub pages : table.pages ≡ l.parents.pages

module _ {start : Start} {span : Span} {live : List mapper.Run} {refused : Refusals} {l : Ledger} {g p : Group} {class slots active parent index : ℕ} {u w : View} {table : ParentTable} (c : ComesInSlot start span live refused l g p class slots active parent index u w table) where
  abbrev place : Place
  place = record { group = p; index = index }

  abbrev laid_out : Layout
  laid_out = record { runs = l.seat.desk.layout.runs; nests = record { place = place; child = g.meta } ∷ l.seat.desk.layout.nests }

  abbrev seen : View
  seen = read (read l.seat (parent + 16) c.reads.mem) (parent + 32) c.reads.flags

  abbrev shown : View
  shown = record (knowing (with_nested seen parent index g active (in_motion p index)) w.desk.cells seen.readings) { stores = w.stores }

  -- the books after it, where the seat has that view
  abbrev pub after_slot : View → Ledger
  after_slot x = record {
    seat = active_set x class g.meta;
    rings = entered_first l.rings class g.meta;
    stock = l.stock;
    parents = table;
    usage = with_used l.usage class slots;
    counter = l.counter;
  }

  found : find parent index u.held ≡ Some (in_motion p index)
  found =
      let held : u.held ≡ in_motion p index ∷ [] = ap (λ (x : View). x.held) c.reads.view ∙ c.motion in
      subst (λ hs. find parent index hs ≡ Some (in_motion p index)) (sym held) (found_alone p parent index c.of_parent)

  view : w ≡ shown
  view = c.publishes.view (in_motion p index) found ∙ ap (λ (x : View). record (knowing (with_nested x parent index g active (in_motion p index)) w.desk.cells x.readings) { stores = w.stores }) c.reads.view

  kept : (b x : ℕ) → (b < g.meta) ⊎ (g.meta + 40 ≤ b) → Sees l.seat b x → Sees w b x
  kept b x off_meta sees = c.publishes.kept b x off_meta (subst (λ (y : View). Sees y b x) (sym c.reads.view) sees)

  stays : (n : ℕ) → InArea l.seat.desk.layout n → InArea laid_out n
  stays n = area_stays l.seat.desk.layout laid_out n (λ q there area. there)

  was : (n : ℕ) → InArea laid_out n → InArea l.seat.desk.layout n
  was n = area_stays laid_out l.seat.desk.layout n (λ q there area. there)

  area_place : (n : ℕ) → InArea l.seat.desk.layout n → IsMetaPlace n start.pages
  area_place n area =
      let lies : mapper.LiesIn span.lower span.upper (area.run.addr, area.run.pages) = lies-contained span live c.laid (area.run.addr, area.run.pages) (c.working.stands.mapped.mapped area.run area.noted) in
      let low : 4096 ≤ area.run.addr = omega (arith, lies.above, c.bounded.above_first) in
      let high : area.run.addr + 4096 * area.run.pages ≤ 4096 * start.pages = omega (arith, lies.below, c.bounded.inside, c.working.space.size) in
      area_places start.pages area.run.addr n lies.aligned (omega (arith, low)) (omega (arith, high, area.page)) (record { number = area.number; below = area.below; place = area.place })

  blank_shown : (n : ℕ) → n ≢ g.meta → IsMetaPlace n start.pages → IsBlankMeta l.seat.desk.cells n → IsBlankMeta w.desk.cells n
  blank_shown n other at blank b low whole = kept
      (n + b)
      0
      (⊎_elim (λ (h : n + 40 ≤ g.meta). inl (omega (arith, h, low))) (λ (h : g.meta + 40 ≤ n). inr (omega (arith, h))) (places_apart start.pages n g.meta at c.free.place other))
      (blank b low whole)

  free_shown : (n : ℕ) → Contains (free_of l.stock) n → IsFreeMeta start.pages laid_out (g ∷ l.seat.desk.groups) w.desk.cells n
  free_shown n in' =
      let is = c.working.stands.free n in' in
      let other : n ≢ g.meta = λ same. c.out (subst (λ k. Contains (free_of l.stock) k) same in') in
      record {
        place = is.place;
        area = stays n is.area;
        unborn = unborn_more l.seat.desk.groups g n is.unborn (λ same. other (sym same));
        blank = blank_shown n other is.place is.blank;
      }

  stands_shown : Stands start live (after_slot shown)
  stands_shown =
      let st = c.working.stands in
      record {
        groups = add_group start.pages l.seat.desk.groups g st.groups c.group c.free.unborn;
        ringed = first l.seat.desk.groups l.seat.desk.listed l.seat.desk.zero_avail (cond (eqb active 0) (g.meta ∷ l.seat.desk.zero_avail) l.seat.desk.zero_avail) l.rings class g c.rings c.known c.of_class c.free.unborn c.bare (zero_grows l.seat.desk.zero_avail g.meta active) st.ringed;
        free = free_shown;
        of_areas = of_areas_born laid_out l.seat.desk.groups g (of_areas_moved l.seat.desk.layout laid_out l.seat.desk.groups stays st.of_areas) (stays g.meta c.free.area);
        area = st.area;
        mapped = st.mapped;
        served = served_more l.seat.desk.layout.runs l.seat.desk.groups g st.served;
        founded = founded_nested l.seat.desk.layout.runs l.seat.desk.groups st.founded g c.unmapped;
        used = subst (λ n. AreUsed (g ∷ l.seat.desk.groups) (slice_set l.usage class (slice_index l.usage class + n))) c.of_slots (published l.seat.desk.groups l.usage g class st.used c.of_class c.known);
        nested = nested_in_slot l.seat.desk.groups l.seat.desk.layout.nests g place st.nested c.free.unborn;
        carried = carried_set l.seat.desk.layout.nests l.parents table place g.meta st.carried
            (uncarried l.seat.desk.groups l.seat.desk.layout.nests g.meta st.nested c.free.unborn)
            (λ n there. subst (λ k. IsMetaPlace n.child k) (sym c.working.space.parents) (child_place start.pages l.seat.desk.groups l.seat.desk.layout.nests st.groups st.nested n there))
            (subst (λ k. parent_of table g.meta ≡ Some (k, index)) (sym c.of_parent) c.set)
            c.others;
      }

  pub working_nested : IsWorking start span live refused (after_slot w)
  working_nested =
      let old = c.working in
      record {
        space = record {
          lower = old.space.lower;
          upper = old.space.upper;
          size = old.space.size;
          rings = old.space.rings;
          stock = old.space.stock;
          parents = c.pages ∙ old.space.parents;
        };
        stands = subst (λ (x : View). Stands start live (after_slot x)) (sym view) stands_shown;
        followed = subst (λ (x : View). AreFollowed (set x.desk.active class g.meta) x.desk.counter (entered_first l.rings class g.meta) l.counter) (sym view) (followed_first old.followed class g.meta);
        counted = subst (λ (x : View). x.desk.refusals ≤ refused.count) (sym view) old.counted;
        leads = ap (λ (x : View). x.leads) view ∙ old.leads;
        bookless = ap (λ (x : View). x.books) view ∙ old.bookless;
      }

  pub on_nested : GoesOn l.seat (active_set w class g.meta)
  on_nested =
      let mem : List (ℕ × ℕ) = (parent + 16, c.reads.mem) ∷ [] in
      let flags : List (ℕ × ℕ) = (parent + 32, c.reads.flags) ∷ [] in
      record {
        came = record { words = mem ++ flags; readings = ap (λ (x : View). x.readings) view ∙ append_assoc l.seat.readings mem flags };
        next = ap (λ (x : View). x.desk.next) view;
      }

  hand_shown : HandsOver g.meta l (after_slot shown)
  hand_shown = record {
    gone = λ hand. hand.unborn g (inl refl) refl;
    none_more = λ n hand.
        let before = hand_born_was laid_out l.seat.desk.groups (free_of l.stock) g n hand in
        hand_moved laid_out l.seat.desk.groups (free_of l.stock) l.seat.desk.layout n (was n) before.0;
    none_less = λ n other hand. hand_born_other laid_out l.seat.desk.groups (free_of l.stock) g n (hand_moved l.seat.desk.layout l.seat.desk.groups (free_of l.stock) laid_out n (stays n) hand) (λ same. other (sym same));
    blank = λ n other hand blank. blank_shown n other (area_place n hand.area) blank;
  }

  pub hand_nested : HandsOver g.meta l (after_slot w)
  hand_nested = subst (λ (x : View). HandsOver g.meta l (after_slot x)) (sym view) hand_shown

  pub below_nested : LeavesBelow class l (after_slot w)
  below_nested = record {
    rings = λ k below. rings_below l.rings class g.meta k c.rings c.known (absent c.working c.rings c.free) below;
    usage = λ k below. usage_below l.usage class slots k below;
    bare = λ k n below in' there. subst (λ (x : View). Among n x.desk.zero_avail) (sym view) (zero_grows l.seat.desk.zero_avail g.meta active n there);
  }

  pub groups_nested : w.desk.groups ≡ g ∷ l.seat.desk.groups
  groups_nested = ap (λ (x : View). x.desk.groups) view

  pub motion_nested : w.held ≡ in_motion g 0 ∷ []
  motion_nested = ap (λ (x : View). x.held) view ∙ ap (λ hs. in_motion g 0 ∷ without parent index hs) c.motion ∙ ap (λ hs. in_motion g 0 ∷ hs) (without_alone p parent index c.of_parent)

  pub served_nested : (bytes : ℕ) → bytes + 4 ≤ room g → HasServed class bytes (active_set w class g.meta) g.meta 0
  served_nested bytes roomy = record {
    group = g;
    there = subst (Among g) (sym groups_nested) (inl refl);
    of_meta = refl;
    of_class = c.of_class;
    within = omega arith;
    motion = motion_nested;
    roomy = roomy;
  }

  pub excuses_nested : w.excuses ≡ l.seat.excuses
  excuses_nested = ap (λ (x : View). x.excuses) view

  pub runs_nested : w.desk.layout.runs ≡ l.seat.desk.layout.runs
  runs_nested = ap (λ (x : View). x.desk.layout.runs) view

  pub nests_nested : w.desk.layout.nests ≡ record { place = place; child = g.meta } ∷ l.seat.desk.layout.nests
  nests_nested = ap (λ (x : View). x.desk.layout.nests) view

  -- in the new slot nothing but 0 was stored, where so it was of the one that carries the group
  module _ (there : Among p l.seat.desk.groups) (begins : g.base ≡ p.base + 16 + stride p * index) (before : View) (unborn : IsUnborn before g.meta) (carrier : IsUntouched parent index before l.seat) where
    read_same : u.stores ≡ l.seat.stores
    read_same = ap (λ (x : View). x.stores) c.reads.view

    wrote_low : StoresBefore l.seat (active_set w class g.meta) (header g 0)
    wrote_low = stores_both l.seat u (active_set w class g.meta) (header g 0) (stores_none l.seat u (header g 0) read_same)
        (stores_both u w (active_set w class g.meta) (header g 0) c.publishes.stores (stores_none w (active_set w class g.meta) (header g 0) refl))

    pub untouched_nested : IsUntouched g.meta 0 before (active_set w class g.meta)
    untouched_nested = record {
      standing = λ has. absurd (unborn has.group has.there has.of_meta);
      fresh = λ k in' of. ⊎_elim
          (λ (same : k ≡ g). subst (λ (x : Group). StoresBefore before (active_set w class g.meta) (header x 0)) (sym same)
          (stores_both before l.seat (active_set w class g.meta) (header g 0)
          (stores_less before l.seat (header p index) (header g 0) (omega (arith, begins)) (carrier.fresh p there c.of_parent))
          wrote_low))
          (λ (old : Among k l.seat.desk.groups). absurd (c.free.unborn k old of))
          (subst (Among k) groups_nested in');
    }
