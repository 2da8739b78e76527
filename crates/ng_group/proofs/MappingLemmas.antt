-- What stands of the books once a group has come on a run of its own, and once a map call for it was refused.
use Rattle.std.proofs.Common.{◌≡◌, ◌≢◌, ◌⊎◌, ℕ, ◌+◌, ◌-◌, ◌*◌, ◌%◌, ◌^◌, ◌<◌, ◌≤◌, eqb, cond, true, List, [], ◌∷◌, ◌++◌, Contains, set, slice_index, slice_set, refl, sym, ap, subst, ◌∙◌, ⊎_elim, inl, inr, arith}
use Rattle.ng_build.specs.Cells.{knowing}
use Rattle.ng_build.specs.Drafts.{IsLarge}
use Rattle.ng_build.specs.Drafts as draft
use Rattle.ng_build.specs.Runs.{IsMetaOutside, PublishesRun, with_group}
use Rattle.ng_group.specs.Building.{HasInHand, with_used}
use Rattle.ng_group.specs.Serving.{HasServed}
use Rattle.ng_group.specs.States.{AreFollowed, IsWorking, State, ledger_of}
use Rattle.ng_group.specs.Steps.{HandsOver, LeavesBelow}
use Rattle.ng_group.proofs.BuildingLemmas.{rings_below, usage_below, zero_grows}
use Rattle.ng_group.proofs.WordLemmas.{followed_first}
use Rattle.ng_ledger.specs.Groups.{IsGroup}
use Rattle.ng_ledger.specs.Metas.{IsBlankMeta, IsFreeMeta}
use Rattle.ng_ledger.specs.Rings.{IsBare, IsTable, entered_first}
use Rattle.ng_ledger.specs.Runs.{AreMapped, HasRun}
use Rattle.ng_ledger.specs.Standing.{Ledger, Stands}
use Rattle.ng_ledger.specs.Usage.{AreUsed}
use Rattle.ng_ledger.proofs.AreaLemmas.{area_at_stays, area_stays, areas_more, areas_plain}
use Rattle.ng_ledger.proofs.CarrierLemmas.{nested_more}
use Rattle.ng_ledger.proofs.FoundedLemmas.{founded_first, founded_more}
use Rattle.ng_ledger.proofs.GroupLemmas.{add_group, unborn_more}
use Rattle.ng_ledger.proofs.HandLemmas.{hand_born_other, hand_born_was, hand_moved}
use Rattle.ng_ledger.proofs.MetaLemmas.{area_places, of_areas_born, of_areas_moved, places_apart}
use Rattle.ng_ledger.proofs.RingLemmas.{first, unlisted}
use Rattle.ng_ledger.proofs.RunLemmas.{area_apart}
use Rattle.ng_ledger.proofs.ServedLemmas.{served_first, served_new}
use Rattle.ng_ledger.proofs.UsageLemmas.{published}
use Rattle.ng_lists.specs.Rings.{IsListed}
use Rattle.ng_view.specs.Notes.{IsClearedRun, NotesRun, excuse_of_call, plain_run}
use Rattle.ng_rule.proofs.lock.Knowing.{sees-run_else}
use Rattle.ng_mapper.specs.Mapping.{AreLaid, IsSpan, NotesNone, Span}
use Rattle.ng_mapper.specs.Runs as mapper
use Rattle.ng_mapper.specs.declared.refusals.Refusals.{Refusals}
use Rattle.ng_mapper.proofs.LaidLemmas.{lies-contained}
use Rattle.ng_meta.specs.Place.{IsMetaPlace}
use Rattle.ng_shelf.specs.Stock.{free_of}
use Rattle.ng_supply.specs.Runs.{IsHeapMapper, MapsRun, RefusesRun}
use Rattle.ng_view.specs.Conditions.{IsEmpty, IsUnborn, Sees}
use Rattle.ng_view.specs.Layouts.{InArea}
use Rattle.ng_view.specs.Lists.{Among}
use Rattle.ng_view.specs.LockSteps.{active_set, counter_set, refused, run_noted}
use Rattle.ng_view.specs.Places.{reach, room}
use Rattle.ng_view.specs.Steps.{in_motion, read}
use Rattle.ng_view.specs.declared.view.Group.{Group}
use Rattle.ng_view.specs.declared.view.Layout.{Layout}
use Rattle.ng_view.specs.declared.view.Run.{Run}
use Rattle.ng_view.specs.declared.view.Start.{Start}
use Rattle.ng_view.specs.declared.view.View.{View}

-- the books with another view of the seat
abbrev pub with_seat : Ledger → View → Ledger
with_seat l v = record { seat = v; rings = l.rings; stock = l.stock; parents = l.parents; usage = l.usage; counter = l.counter }

-- what holds where a call builds a group of a class with a meta
pub record MayBuild (start : Start) (span : Span) (live : List mapper.Run) (refused : Refusals) (l : Ledger) (class m : ℕ) : Type 0 where
  pub working : IsWorking start span live refused l
  pub hand : HasInHand start l m
  pub bare : IsBare l.seat.desk.zero_avail l.rings class

-- of two views of one core the one has it where the other does
pub may_build : {M P : Type 0} (start : Start) (span : M → Span) (runs : M → List mapper.Run) (refused : M → Refusals) {s s' : State M P} (class m : ℕ) → s ≡ s'
    → IsWorking start (span s'.mapper) (runs s'.mapper) (refused s'.mapper) (ledger_of s') → HasInHand start (ledger_of s') m → IsBare s'.seat.desk.zero_avail s'.rings class
    → MayBuild start (span s.mapper) (runs s.mapper) (refused s.mapper) (ledger_of s) class m
may_build {M = M} {P = P} start span runs refused class m same working hand bare =
    subst (λ (x : State M P). MayBuild start (span x.mapper) (runs x.mapper) (refused x.mapper) (ledger_of x) class m) (sym same) (record { working = working; hand = hand; bare = bare })

-- the mapper as a call that maps is given it
pub heap_mapper : {start : Start} {span : Span} {live : List mapper.Run} {refused : Refusals} {l : Ledger} → IsWorking start span live refused l → IsHeapMapper start l.seat span live refused
heap_mapper is = record {
  lower = is.space.lower;
  upper = is.space.upper;
  size = is.space.size;
  mapped = is.stands.mapped;
  counted = is.counted;
}

-- the meta of a group that is to come is free, and in no ring
pub absent : {start : Start} {span : Span} {live : List mapper.Run} {refused : Refusals} {l : Ledger} {m : ℕ} → IsWorking start span live refused l → IsTable l.rings
    → IsFreeMeta start.pages l.seat.desk.layout l.seat.desk.groups l.seat.desk.cells m → ¬ IsListed l.rings m
absent {l = l} {m = m} is table free = unlisted l.seat.desk.groups l.seat.desk.listed l.seat.desk.zero_avail l.rings m table is.stands.ringed free.unborn

-- ---- a run came

module _ {start : Start} {v u : View} {a pages m : ℕ} (maps : MapsRun start v a pages u) (free : IsFreeMeta start.pages v.desk.layout v.desk.groups v.desk.cells m) where
  abbrev layout : Layout
  layout = record { runs = plain_run a pages ∷ v.desk.layout.runs; nests = v.desk.layout.nests }

  -- a group may begin it
  pub run_ready : IsClearedRun u a pages
  run_ready = record {
    noted = subst (λ (x : View). Among (plain_run a pages) x.desk.layout.runs) (sym maps.note.view) (inl refl);
    empty = subst (λ (x : View). IsEmpty x (plain_run a pages)) (sym maps.note.view) (maps.note.empty refl);
    clear = λ b al inside. maps.zero b al inside.0 inside.1;
  }

  meta_sees : (b : ℕ) → b % 4 ≡ 0 → m ≤ b → b < m + 40 → Sees v b 0
  meta_sees b al low high =
      let p : m ≡ 4096 * free.place.page + 24 + 40 * free.place.i = free.place.stands in
      subst (λ k. Sees v k 0) (let e : m + (b - m) ≡ b = omega (arith, low) in e) (free.blank (b - m) (omega (arith, low, high)) (omega (arith, al, low, p)))

  -- its meta is as blank as before
  pub meta_ready : draft.IsBlankMeta u m
  meta_ready = record {
    idle = record {
      area = subst (λ (x : View). InArea x.desk.layout m) (sym maps.note.view) (area_stays v.desk.layout layout m (areas_more (plain_run a pages) v.desk.layout.runs) free.area);
      unborn = subst (λ (x : View). IsUnborn x m) (sym maps.note.view) free.unborn;
    };
    zero = λ b al low high. subst (λ (x : View). Sees x b 0) (sym maps.note.view) (sees-run_else v a pages b 0 (meta_sees b al low high));
  }

  -- and lies outside the run
  pub meta_outside : (span : Span) (live : List mapper.Run) → AreLaid span live → AreMapped u.desk.layout.runs live → IsMetaOutside m a (a + 4096 * pages)
  meta_outside span live laid mapped =
      let are : AreMapped layout.runs live = subst (λ (x : View). AreMapped x.desk.layout.runs live) maps.note.view mapped in
      area_apart span layout.runs live laid are layout m refl (area_stays v.desk.layout layout m (areas_more (plain_run a pages) v.desk.layout.runs) free.area) (plain_run a pages) (inl refl) refl

-- the group is one of the space
pub group_in_space : (start : Start) (g : Group) → IsLarge g → 0 < g.tag → IsMetaPlace g.meta start.pages → g.last < 32 → g.maplen ≤ 16384 → g.base % 4096 ≡ 0 → g.base + 4096 * g.maplen ≤ 4096 * start.pages → IsGroup start.pages g
group_in_space start g is live place few paged whole inside = record {
  place = place;
  kind = inl is.kind;
  live = live;
  few = few;
  paged = paged;
  whole = omega (arith, whole);
  inside = let fits : reach g ≤ 4096 * g.maplen = is.fits in omega (arith, fits, inside);
}

-- ---- the run is counted, and the counter's word follows

-- the books then, of which the counter is n
abbrev pub counted_up : Ledger → ℕ → Ledger
counted_up l n = record l { seat = counter_set l.seat (n % 2 ^ 32); counter = n }

pub counted_works : {start : Start} {span : Span} {live : List mapper.Run} {refused : Refusals} {l : Ledger} (n : ℕ)
    → IsWorking start span live refused l → IsWorking start span live refused (counted_up l n)
counted_works n is = record {
  space = record { lower = is.space.lower; upper = is.space.upper; size = is.space.size; rings = is.space.rings; stock = is.space.stock; parents = is.space.parents };
  stands = record {
    groups = is.stands.groups;
    ringed = is.stands.ringed;
    free = is.stands.free;
    of_areas = is.stands.of_areas;
    area = is.stands.area;
    mapped = is.stands.mapped;
    served = is.stands.served;
    founded = is.stands.founded;
    used = is.stands.used;
    nested = is.stands.nested;
    carried = is.stands.carried;
  };
  followed = record { firsts = is.followed.firsts; low = refl };
  counted = is.counted;
  leads = is.leads;
  bookless = is.bookless;
}

pub counted_hand : {start : Start} {l : Ledger} {m : ℕ} (n : ℕ) → HasInHand start l m → HasInHand start (counted_up l n) m
counted_hand n has = record { free = has.free; taken = has.taken }

-- the run is new to these books too
pub maps_counted : {start : Start} {v u w : View} {a pages : ℕ} (n : ℕ) → MapsRun start v a pages u → w ≡ counter_set u (n % 2 ^ 32)
    → MapsRun start (counter_set v (n % 2 ^ 32)) a pages w
maps_counted {start = start} {v = v} {a = a} {pages = pages} n maps sets =
    subst (MapsRun start (counter_set v (n % 2 ^ 32)) a pages) (sym sets) (record {
      note = record {
        found = maps.note.found;
        view = ap (λ (x : View). counter_set x (n % 2 ^ 32)) maps.note.view;
        empty = maps.note.empty;
      };
      space = maps.space;
      new = record { whole = maps.new.whole; some = maps.new.some; above = maps.new.above; below = maps.new.below; apart = maps.new.apart };
      zero = maps.zero;
    })

pub mapped_counted : (u w : View) {x : ℕ} {live : List mapper.Run} → AreMapped u.desk.layout.runs live → w ≡ counter_set u x → AreMapped w.desk.layout.runs live
mapped_counted u w {live = live} are sets = subst (λ (y : View). AreMapped y.desk.layout.runs live) (sym sets) are

-- what a call leaves of them, it leaves of the books before
pub over_counted : {l after : Ledger} {m : ℕ} (n : ℕ) → HandsOver m (counted_up l n) after → HandsOver m l after
over_counted n over = record { gone = over.gone; none_more = over.none_more; none_less = over.none_less; blank = over.blank }

pub below_counted : {l after : Ledger} {class : ℕ} (n : ℕ) → LeavesBelow class (counted_up l n) after → LeavesBelow class l after
below_counted n below = record { rings = below.rings; usage = below.usage; bare = below.bare }

-- ---- and the group

-- what is known where a group comes on a new run
pub record ComesOnRun (start : Start) (span span' : Span) (live live' : List mapper.Run) (was now : Refusals) (l : Ledger) (g : Group) (class slots active : ℕ) (u w : View) : Type 0 where
  pub working : IsWorking start span live was l
  pub constant : span' ≡ span
  pub calm : NotesNone was now
  pub bounded : IsSpan span'
  pub laid : AreLaid span' live'
  pub mapped : AreMapped u.desk.layout.runs live'
  pub note : NotesRun l.seat g.base g.maplen true u
  pub publishes : PublishesRun u g active w
  pub table : IsTable l.rings
  pub known : class < 48
  pub of_class : g.tag ≡ class + 1
  pub of_slots : g.last + 1 ≡ slots
  pub group : IsGroup start.pages g
  pub paged : 0 < g.maplen
  pub free : IsFreeMeta start.pages l.seat.desk.layout l.seat.desk.groups l.seat.desk.cells g.meta
  pub out : ¬ Contains (free_of l.stock) g.meta
  pub bare : IsBare l.seat.desk.zero_avail l.rings class

module _ {start : Start} {span span' : Span} {live live' : List mapper.Run} {was now : Refusals} {l : Ledger} {g : Group} {class slots active : ℕ} {u w : View} (c : ComesOnRun start span span' live live' was now l g class slots active u w) where
  abbrev runs : List Run
  runs = plain_run g.base g.maplen ∷ l.seat.desk.layout.runs

  abbrev laid_out : Layout
  laid_out = record { runs = runs; nests = l.seat.desk.layout.nests }

  abbrev shown : View
  shown = knowing (with_group (read (run_noted l.seat g.base g.maplen) 0 c.note.found) g active) w.desk.cells (l.seat.readings ++ (0, c.note.found) ∷ [])

  -- the books after it, where the seat has that view
  abbrev pub after_run : View → Ledger
  after_run x = record {
    seat = active_set x class g.meta;
    rings = entered_first l.rings class g.meta;
    stock = l.stock;
    parents = l.parents;
    usage = with_used l.usage class slots;
    counter = l.counter;
  }

  view : w ≡ shown
  view = c.publishes.view ∙ ap (λ (x : View). knowing (with_group x g active) w.desk.cells x.readings) c.note.view

  kept : (b x : ℕ) → (b < g.meta) ⊎ (g.meta + 40 ≤ b) → (b < g.base) ⊎ (g.base + 4096 * g.maplen ≤ b) → Sees l.seat b x → Sees w b x
  kept b x off_meta off_run sees = c.publishes.kept b x off_meta off_run (subst (λ (y : View). Sees y b x) (sym c.note.view) (sees-run_else l.seat g.base g.maplen b x sees))

  mapped : AreMapped runs live'
  mapped = subst (λ (x : View). AreMapped x.desk.layout.runs live') c.note.view c.mapped

  none_begins : ¬ HasRun l.seat.desk.groups g.base
  none_begins has = c.note.empty refl has.group has.there has.begins

  stays : (n : ℕ) → InArea l.seat.desk.layout n → InArea laid_out n
  stays n = area_stays l.seat.desk.layout laid_out n (areas_more (plain_run g.base g.maplen) l.seat.desk.layout.runs)

  area_place : (n : ℕ) → InArea laid_out n → IsMetaPlace n start.pages
  area_place n area =
      let lies : mapper.LiesIn span'.lower span'.upper (area.run.addr, area.run.pages) = lies-contained span' live' c.laid (area.run.addr, area.run.pages) (mapped.mapped area.run area.noted) in
      let size : span'.size ≡ start.pages = ap (λ (s : Span). s.size) c.constant ∙ c.working.space.size in
      let low : 4096 ≤ area.run.addr = omega (arith, lies.above, c.bounded.above_first) in
      let high : area.run.addr + 4096 * area.run.pages ≤ 4096 * start.pages = omega (arith, lies.below, c.bounded.inside, size) in
      area_places start.pages area.run.addr n lies.aligned (omega (arith, low)) (omega (arith, high, area.page)) (record { number = area.number; below = area.below; place = area.place })

  blank_shown : (n : ℕ) → n ≢ g.meta → IsMetaPlace n start.pages → InArea laid_out n → IsBlankMeta l.seat.desk.cells n → IsBlankMeta w.desk.cells n
  blank_shown n other place area blank b low whole = kept
      (n + b)
      0
      (⊎_elim (λ (h : n + 40 ≤ g.meta). inl (omega (arith, h, low))) (λ (h : g.meta + 40 ≤ n). inr (omega (arith, h))) (places_apart start.pages n g.meta place c.free.place other))
      (⊎_elim (λ (h : n + 40 ≤ g.base). inl (omega (arith, h, low))) (λ (h : g.base + 4096 * g.maplen ≤ n). inr (omega (arith, h))) (area_apart span' runs live' c.laid mapped laid_out n refl area (plain_run g.base g.maplen) (inl refl) refl))
      (blank b low whole)

  free_shown : (n : ℕ) → Contains (free_of l.stock) n → IsFreeMeta start.pages laid_out (g ∷ l.seat.desk.groups) w.desk.cells n
  free_shown n in' =
      let is = c.working.stands.free n in' in
      let other : n ≢ g.meta = λ same. c.out (subst (λ k. Contains (free_of l.stock) k) same in') in
      record {
        place = is.place;
        area = stays n is.area;
        unborn = unborn_more l.seat.desk.groups g n is.unborn (λ same. other (sym same));
        blank = blank_shown n other is.place (stays n is.area) is.blank;
      }

  stands_shown : Stands start live' (after_run shown)
  stands_shown =
      let st = c.working.stands in
      record {
        groups = add_group start.pages l.seat.desk.groups g st.groups c.group c.free.unborn;
        ringed = first l.seat.desk.groups l.seat.desk.listed l.seat.desk.zero_avail (cond (eqb active 0) (g.meta ∷ l.seat.desk.zero_avail) l.seat.desk.zero_avail) l.rings class g c.table c.known c.of_class c.free.unborn c.bare (zero_grows l.seat.desk.zero_avail g.meta active) st.ringed;
        free = free_shown;
        of_areas = of_areas_born laid_out l.seat.desk.groups g (of_areas_moved l.seat.desk.layout laid_out l.seat.desk.groups stays st.of_areas) (stays g.meta c.free.area);
        area = ⊎_elim (λ none. inl none) (λ at. inr (area_at_stays l.seat.desk.layout.runs runs l.stock.area (areas_more (plain_run g.base g.maplen) l.seat.desk.layout.runs) at)) st.area;
        mapped = mapped;
        served = served_first runs l.seat.desk.groups g (served_new l.seat.desk.layout.runs l.seat.desk.groups g.base g.maplen st.served) c.paged;
        founded = founded_first runs l.seat.desk.groups (founded_more l.seat.desk.layout.runs l.seat.desk.groups st.founded (plain_run g.base g.maplen)) g none_begins (inl refl);
        used = subst (λ n. AreUsed (g ∷ l.seat.desk.groups) (slice_set l.usage class (slice_index l.usage class + n))) c.of_slots (published l.seat.desk.groups l.usage g class st.used c.of_class c.known);
        nested = nested_more l.seat.desk.groups l.seat.desk.layout.nests g st.nested;
        carried = st.carried;
      }

  pub working_mapped : IsWorking start span' live' now (after_run w)
  working_mapped =
      let old = c.working in
      record {
        space = record {
          lower = ap (λ (s : Span). s.lower) c.constant ∙ old.space.lower;
          upper = ap (λ (s : Span). s.upper) c.constant ∙ old.space.upper;
          size = ap (λ (s : Span). s.size) c.constant ∙ old.space.size;
          rings = old.space.rings;
          stock = old.space.stock;
          parents = old.space.parents;
        };
        stands = subst (λ (x : View). Stands start live' (after_run x)) (sym view) stands_shown;
        followed = subst (λ (x : View). AreFollowed (set x.desk.active class g.meta) x.desk.counter (entered_first l.rings class g.meta) l.counter) (sym view) (followed_first old.followed class g.meta);
        counted = subst (λ (x : View). x.desk.refusals ≤ now.count) (sym view) (omega (arith, old.counted, c.calm.later));
        leads = ap (λ (x : View). x.leads) view ∙ old.leads;
        bookless = ap (λ (x : View). x.books) view ∙ old.bookless;
      }

  hand_shown : HandsOver g.meta l (after_run shown)
  hand_shown = record {
    gone = λ hand. hand.unborn g (inl refl) refl;
    none_more = λ n hand.
        let before = hand_born_was laid_out l.seat.desk.groups (free_of l.stock) g n hand in
        hand_moved laid_out l.seat.desk.groups (free_of l.stock) l.seat.desk.layout n (area_stays laid_out l.seat.desk.layout n (areas_plain (plain_run g.base g.maplen) l.seat.desk.layout.runs refl)) before.0;
    none_less = λ n other hand. hand_born_other laid_out l.seat.desk.groups (free_of l.stock) g n (hand_moved l.seat.desk.layout l.seat.desk.groups (free_of l.stock) laid_out n (stays n) hand) (λ same. other (sym same));
    blank = λ n other hand blank. blank_shown n other (area_place n (stays n hand.area)) (stays n hand.area) blank;
  }

  pub hand_mapped : HandsOver g.meta l (after_run w)
  hand_mapped = subst (λ (x : View). HandsOver g.meta l (after_run x)) (sym view) hand_shown

  pub below_mapped : LeavesBelow class l (after_run w)
  below_mapped = record {
    rings = λ k below. rings_below l.rings class g.meta k c.table c.known (absent c.working c.table c.free) below;
    usage = λ k below. usage_below l.usage class slots k below;
    bare = λ k n below in' there. subst (λ (x : View). Among n x.desk.zero_avail) (sym view) (zero_grows l.seat.desk.zero_avail g.meta active n there);
  }

  pub groups_mapped : w.desk.groups ≡ g ∷ l.seat.desk.groups
  groups_mapped = ap (λ (x : View). x.desk.groups) view

  pub stores_mapped : w.stores ≡ l.seat.stores
  stores_mapped = ap (λ (x : View). x.stores) view

  pub motion_mapped : l.seat.held ≡ [] → w.held ≡ in_motion g 0 ∷ []
  motion_mapped idle = ap (λ (x : View). x.held) view ∙ ap (λ hs. in_motion g 0 ∷ hs) idle

  pub served_mapped : (bytes : ℕ) → l.seat.held ≡ [] → bytes + 4 ≤ room g → HasServed class bytes (active_set w class g.meta) g.meta 0
  served_mapped bytes idle roomy = record {
    group = g;
    there = subst (Among g) (sym groups_mapped) (inl refl);
    of_meta = refl;
    of_class = c.of_class;
    within = omega arith;
    motion = motion_mapped idle;
    roomy = roomy;
  }

-- ---- a map call was refused

module _ {start : Start} {span : Span} {live : List mapper.Run} {was now : Refusals} {l : Ledger} {pages number : ℕ} {u : View} (old : IsWorking start span live was l) (refuses : RefusesRun l.seat was now pages number u) where
  abbrev left : View
  left = read (refused l.seat (excuse_of_call number)) 0 refuses.note.found

  stands_left : (live' : List mapper.Run) → live' ≡ live → Stands start live' (with_seat l left)
  stands_left live' same =
      let st = old.stands in
      record {
        groups = st.groups;
        ringed = st.ringed;
        free = st.free;
        of_areas = st.of_areas;
        area = st.area;
        mapped = subst (λ rs. AreMapped l.seat.desk.layout.runs rs) (sym same) st.mapped;
        served = st.served;
        founded = st.founded;
        used = st.used;
        nested = st.nested;
        carried = st.carried;
      }

  pub working_refused : {span' : Span} {live' : List mapper.Run} → span' ≡ span → live' ≡ live → u.desk.refusals ≤ now.count → IsWorking start span' live' now (with_seat l u)
  working_refused {live' = live'} constant same counted = record {
    space = record {
      lower = ap (λ (s : Span). s.lower) constant ∙ old.space.lower;
      upper = ap (λ (s : Span). s.upper) constant ∙ old.space.upper;
      size = ap (λ (s : Span). s.size) constant ∙ old.space.size;
      rings = old.space.rings;
      stock = old.space.stock;
      parents = old.space.parents;
    };
    stands = subst (λ (x : View). Stands start live' (with_seat l x)) (sym refuses.note.view) (stands_left live' same);
    followed = subst (λ (x : View). AreFollowed x.desk.active x.desk.counter l.rings l.counter) (sym refuses.note.view) old.followed;
    counted = counted;
    leads = ap (λ (x : View). x.leads) refuses.note.view ∙ old.leads;
    bookless = ap (λ (x : View). x.books) refuses.note.view ∙ old.bookless;
  }

  pub view_refused : u ≡ record l.seat { excuses = u.excuses; readings = u.readings; desk = record l.seat.desk { refusals = u.desk.refusals } }
  view_refused = subst (λ (x : View). x ≡ record l.seat { excuses = x.excuses; readings = x.readings; desk = record l.seat.desk { refusals = x.desk.refusals } }) (sym refuses.note.view) refl

  -- word 0 alone was read
  pub noted_refused : (found : ℕ) × (u.readings ≡ l.seat.readings ++ (0, found) ∷ [])
  noted_refused = (refuses.note.found, ap (λ (x : View). x.readings) refuses.note.view)
