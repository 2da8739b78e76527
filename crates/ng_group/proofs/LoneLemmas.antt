-- What stands of the books once a group that is one block has come on a run of its own.
use Rattle.std.proofs.Common.{◌≡◌, ◌≢◌, ◌⊎◌, ℕ, ◌+◌, ◌-◌, ◌*◌, ◌/◌, ◌%◌, ◌^◌, ◌<◌, ◌≤◌, min, eqb, cond, Bool, false, true, List, [], ◌∷◌, ◌++◌, Contains, refl, sym, ap, subst, ◌∙◌, ⊎_elim, inl, inr, arith, append_assoc}
use Rattle.std.proofs.lemmas.Bool.{cases_eq, eq-eqb}
use Rattle.std.proofs.lemmas.Grind.{div_ceil_times}
use Rattle.ng_build.specs.Cells.{knowing}
use Rattle.ng_build.specs.Runs.{PublishesRun, with_group}
use Rattle.ng_class.specs.Slot.{room_of, stride_of}
use Rattle.ng_class.proofs.Slots.{room_of_lone, stride_of_single}
use Rattle.ng_ledger.specs.Groups.{IsGroup, IsUnborn}
use Rattle.ng_ledger.specs.Metas.{IsBlankMeta, IsFreeMeta}
use Rattle.ng_ledger.specs.Rings.{AreRinged}
use Rattle.ng_ledger.specs.Runs.{AreMapped, HasRun}
use Rattle.ng_ledger.specs.Standing.{Ledger, Stands}
use Rattle.ng_ledger.proofs.AmongLemmas.{among_others, others_were}
use Rattle.ng_ledger.proofs.AreaLemmas.{area_at_stays, area_stays, areas_more, areas_plain}
use Rattle.ng_ledger.proofs.CarrierLemmas.{nested_more}
use Rattle.ng_ledger.proofs.FoundedLemmas.{founded_first, founded_more}
use Rattle.ng_ledger.proofs.GroupLemmas.{add_group, unborn_more}
use Rattle.ng_ledger.proofs.HandLemmas.{hand_born_other, hand_born_was, hand_moved}
use Rattle.ng_ledger.proofs.MetaLemmas.{area_places, of_areas_born, of_areas_moved, places_apart}
use Rattle.ng_ledger.proofs.RingLemmas.{more_groups}
use Rattle.ng_ledger.proofs.RunLemmas.{area_apart}
use Rattle.ng_ledger.proofs.ServedLemmas.{served_first, served_new}
use Rattle.ng_ledger.proofs.UsageLemmas.{published_lone}
use Rattle.ng_lists.specs.Rings.{RingTable}
use Rattle.ng_view.specs.Fetches.{HasGroup}
use Rattle.ng_view.specs.Notes.{NotesRing, NotesRun, plain_run}
use Rattle.ng_rule.proofs.lock.Knowing.{sees-run_else}
use Rattle.ng_mapper.specs.Mapping.{AreLaid, IsSpan, NotesNone, Span}
use Rattle.ng_mapper.specs.Runs as mapper
use Rattle.ng_mapper.specs.declared.refusals.Refusals.{Refusals}
use Rattle.ng_mapper.proofs.LaidLemmas.{lies-contained}
use Rattle.ng_meta.specs.Place.{IsMetaPlace}
use Rattle.ng_shelf.specs.Stock.{free_of}
use Rattle.ng_terms.specs.Accounts.{pages_for}
use Rattle.ng_view.specs.Conditions.{Sees}
use Rattle.ng_view.specs.Layouts.{InArea, IsLoneKind}
use Rattle.ng_view.specs.Lists.{Among}
use Rattle.ng_view.specs.LockSteps.{counter_set, has_number, others, read_bits, ring_noted, ring_read, run_noted}
use Rattle.ng_view.specs.Places.{room, stride}
use Rattle.ng_view.specs.Steps.{in_motion, read}
use Rattle.ng_view.specs.declared.view.Group.{Group}
use Rattle.ng_view.specs.declared.view.Layout.{Layout}
use Rattle.ng_view.specs.declared.view.Run.{Run}
use Rattle.ng_view.specs.declared.view.Start.{Start}
use Rattle.ng_view.specs.declared.view.View.{View}
use Rattle.ng_group.specs.Building.{HasInHand}
use Rattle.ng_group.specs.Lone.{BuildsAlone}
use Rattle.ng_group.specs.Serving.{HasServed}
use Rattle.ng_group.specs.States.{AreFollowed, IsWorking, State, ledger_of}
use Rattle.ng_group.specs.Steps.{HandsOver}
use Rattle.ng_group.proofs.MappingLemmas.{with_seat}

-- what holds where a call builds such a group with a meta
pub record MayBuildLone (start : Start) (span : Span) (live : List mapper.Run) (refused : Refusals) (l : Ledger) (m : ℕ) : Type 0 where
  pub working : IsWorking start span live refused l
  pub hand : HasInHand start l m

-- of two views of one core the one has it where the other does
pub may_build_lone : {M P : Type 0} (start : Start) (span : M → Span) (runs : M → List mapper.Run) (refused : M → Refusals) {s s' : State M P} (m : ℕ) → s ≡ s'
    → IsWorking start (span s'.mapper) (runs s'.mapper) (refused s'.mapper) (ledger_of s') → HasInHand start (ledger_of s') m
    → MayBuildLone start (span s.mapper) (runs s.mapper) (refused s.mapper) (ledger_of s) m
may_build_lone {M = M} {P = P} start span runs refused m same working hand =
    subst (λ (x : State M P). MayBuildLone start (span x.mapper) (runs x.mapper) (refused x.mapper) (ledger_of x) m) (sym same) (record { working = working; hand = hand })

-- ---- its shape

-- the pages for a block hold it with its group's 16 bytes and 4 more
pub pages_hold : (bytes pages : ℕ) → pages ≡ bytes / 4096 + min 1 (bytes % 4096) → bytes ≤ 4096 * pages
pages_hold bytes pages is =
    let most : bytes ≤ (bytes / 4096 + min 1 (bytes % 4096)) * 4096 = (div_ceil_times bytes 4096 (omega arith)).0 in
    let same : (bytes / 4096 + min 1 (bytes % 4096)) * 4096 ≡ pages * 4096 = ap (λ n. n * 4096) (sym is) in
    omega (arith, most, same)

-- and are those that a block's size asks for
pub pages_asked : (bytes pages : ℕ) → pages ≡ (bytes + 16 + 4) / 4096 + min 1 ((bytes + 16 + 4) % 4096) → pages ≡ pages_for bytes
pages_asked bytes pages is = omega arith

lone_stride : (g : Group) → IsLoneKind g → 0 < g.maplen → stride g ≡ g.maplen * 4096 - 16
unfolding stride
lone_stride g kind paged = stride_of_single (g.tag - 1) g.last g.maplen kind.single paged

-- the slot has all but 16 bytes of the pages
pub lone_room : (g : Group) (bytes : ℕ) → IsLoneKind g → 0 < g.maplen → bytes + 20 ≤ 4096 * g.maplen → bytes + 4 ≤ room g
unfolding room
lone_room g bytes kind paged fits =
    let whole : room_of (g.tag - 1) g.last g.maplen ≡ stride_of (g.tag - 1) g.last g.maplen = room_of_lone (g.tag - 1) g.last g.maplen (let t = kind.lone in omega (arith, t)) in
    let wide : stride_of (g.tag - 1) g.last g.maplen ≡ g.maplen * 4096 - 16 = stride_of_single (g.tag - 1) g.last g.maplen kind.single paged in
    omega (arith, whole, wide, fits)

-- the group is one of the space
pub lone_in_space : (start : Start) (g : Group) → IsLoneKind g → 0 < g.maplen → IsMetaPlace g.meta start.pages → g.maplen ≤ 16384 → g.base % 4096 ≡ 0 → g.base + 4096 * g.maplen ≤ 4096 * start.pages → IsGroup start.pages g
lone_in_space start g kind some place paged whole inside = record {
  place = place;
  kind = inr kind;
  live = let t = kind.lone in omega (arith, t);
  few = let one = kind.single in omega (arith, one);
  paged = paged;
  whole = omega (arith, whole);
  inside =
      let wide : stride g ≡ g.maplen * 4096 - 16 = lone_stride g kind some in
      let once : stride g * (g.last + 1) ≡ stride g * 1 = ap (λ n. stride g * n) (let one = kind.single in let n : g.last + 1 ≡ 1 = omega (arith, one) in n) in
      omega (arith, wide, once, some, inside);
}

-- once it is published it is live
pub lone_live : {u p : View} {g : Group} {active : ℕ} → PublishesRun u g active p → HasGroup p g.meta
lone_live {g = g} publishes = record { group = g; there = subst (λ (x : View). Among g x.desk.groups) (sym publishes.view) (inl refl); of_meta = refl }

-- ---- the rings, where the meta of a new group is noted to be in none
pub ringed_apart : (gs : List Group) (ls z : List ℕ) (table : RingTable) (m : ℕ) → IsUnborn gs m → AreRinged gs ls z table → AreRinged gs (others m ls) (m ∷ z) table
ringed_apart gs ls z table m unborn are = record {
  grouped = are.grouped;
  noted_listed = λ class k known in'.
      let is = are.grouped class k known in' in
      among_others m ls k (λ same. unborn is.group is.there (is.of_meta ∙ same)) (are.noted_listed class k known in');
  ringed = λ k there. are.ringed k (others_were m ls k there).0;
  tails = λ class k known in'. inr (are.tails class k known in');
}

-- ---- the group comes

-- what is known where it has come, and was noted to be in no ring
pub record ComesAlone (start : Start) (span span' : Span) (live live' : List mapper.Run) (was now : Refusals) (l : Ledger) (g : Group) (u p : View) (found : ℕ) (w : View) : Type 0 where
  pub working : IsWorking start span live was l
  pub constant : span' ≡ span
  pub calm : NotesNone was now
  pub bounded : IsSpan span'
  pub laid : AreLaid span' live'
  pub mapped : AreMapped u.desk.layout.runs live'
  pub note : NotesRun l.seat g.base g.maplen true u
  pub publishes : PublishesRun u g 0 p
  pub unlists : NotesRing p g.meta false found w
  pub kind : IsLoneKind g
  pub group : IsGroup start.pages g
  pub paged : 0 < g.maplen
  pub free : IsFreeMeta start.pages l.seat.desk.layout l.seat.desk.groups l.seat.desk.cells g.meta
  pub out : ¬ Contains (free_of l.stock) g.meta

module _ {start : Start} {span span' : Span} {live live' : List mapper.Run} {was now : Refusals} {l : Ledger} {g : Group} {u p : View} {found : ℕ} {w : View} (c : ComesAlone start span span' live live' was now l g u p found w) where
  abbrev runs : List Run
  runs = plain_run g.base g.maplen ∷ l.seat.desk.layout.runs

  abbrev laid_out : Layout
  laid_out = record { runs = runs; nests = l.seat.desk.layout.nests }

  -- the view once the group is live
  abbrev live_view : View
  live_view = knowing (with_group (read (run_noted l.seat g.base g.maplen) 0 c.note.found) g 0) p.desk.cells (l.seat.readings ++ (0, c.note.found) ∷ [])

  -- and once it is noted to be in no ring
  abbrev shown : View
  shown = read
      (ring_noted live_view (others g.meta l.seat.desk.listed) (g.meta ∷ l.seat.desk.zero_avail) (g.meta ∷ l.seat.desk.zero_freed) (read_bits g.meta 0 ++ l.seat.desk.set_freed))
      (g.meta + 28)
      0

  live_is : p ≡ live_view
  live_is = c.publishes.view ∙ ap (λ (x : View). knowing (with_group x g 0) p.desk.cells x.readings) c.note.view

  -- no bit of its freed mask is set, since it serves no slots
  none_freed : found ≡ 0
  none_freed =
      let told = c.unlists.tells g (subst (λ (x : View). Among g x.desk.groups) (sym live_is) (inl refl)) refl in
      ⊎_elim (λ (none : found ≡ 0). none) (λ (other : found ≢ 0). let some : 0 < found = omega arith in absurd (serves some (told.serves some).plain.small)) (cases_eq found 0)
    where
      serves : 0 < found → g.tag < 49 → ⊥
      serves some small = let t = c.kind.lone in omega (arith, t, small)

  listed_is : (ring_read live_view g.meta false 0).desk.listed ≡ others g.meta l.seat.desk.listed
  listed_is =
      let same : eqb g.meta g.meta ≡ true = eq-eqb g.meta g.meta refl in
      ap (λ (b : Bool). cond (cond b true (has_number g.meta l.seat.desk.zero_avail)) (cond b (others g.meta l.seat.desk.listed) (g.meta ∷ others g.meta l.seat.desk.listed)) (g.meta ∷ l.seat.desk.listed)) same

  view : w ≡ shown
  view =
      let first : w ≡ read (ring_read live_view g.meta false found) (g.meta + 28) found = subst (λ (x : View). w ≡ read (ring_read x g.meta false found) (g.meta + 28) found) live_is c.unlists.view in
      let none : w ≡ read (ring_read live_view g.meta false 0) (g.meta + 28) 0 = subst (λ (n : ℕ). w ≡ read (ring_read live_view g.meta false n) (g.meta + 28) n) none_freed first in
      none ∙ ap (λ (ls : List ℕ). read (ring_noted live_view ls (g.meta ∷ l.seat.desk.zero_avail) (g.meta ∷ l.seat.desk.zero_freed) (read_bits g.meta 0 ++ l.seat.desk.set_freed)) (g.meta + 28) 0) listed_is

  kept : (b x : ℕ) → (b < g.meta) ⊎ (g.meta + 40 ≤ b) → (b < g.base) ⊎ (g.base + 4096 * g.maplen ≤ b) → Sees l.seat b x → Sees p b x
  kept b x off_meta off_run sees = c.publishes.kept b x off_meta off_run (subst (λ (y : View). Sees y b x) (sym c.note.view) (sees-run_else l.seat g.base g.maplen b x sees))

  mapped : AreMapped runs live'
  mapped = subst (λ (x : View). AreMapped x.desk.layout.runs live') c.note.view c.mapped

  none_begins : ¬ HasRun l.seat.desk.groups g.base
  none_begins has = c.note.empty refl has.group has.there has.begins

  stays : (n : ℕ) → InArea l.seat.desk.layout n → InArea laid_out n
  stays n = area_stays l.seat.desk.layout laid_out n (areas_more (plain_run g.base g.maplen) l.seat.desk.layout.runs)

  area_place : (n : ℕ) → InArea laid_out n → IsMetaPlace n start.pages
  area_place n area =
      let lies : mapper.LiesIn span'.lower span'.upper (area.run.addr, area.run.pages) = lies-contained span' live' c.laid (area.run.addr, area.run.pages) (mapped.mapped area.run area.noted) in
      let size : span'.size ≡ start.pages = ap (λ (s : Span). s.size) c.constant ∙ c.working.space.size in
      let low : 4096 ≤ area.run.addr = omega (arith, lies.above, c.bounded.above_first) in
      let high : area.run.addr + 4096 * area.run.pages ≤ 4096 * start.pages = omega (arith, lies.below, c.bounded.inside, size) in
      area_places start.pages area.run.addr n lies.aligned (omega (arith, low)) (omega (arith, high, area.page)) (record { number = area.number; below = area.below; place = area.place })

  blank_shown : (n : ℕ) → n ≢ g.meta → IsMetaPlace n start.pages → InArea laid_out n → IsBlankMeta l.seat.desk.cells n → IsBlankMeta p.desk.cells n
  blank_shown n other place area blank b low whole = kept
      (n + b)
      0
      (⊎_elim (λ (h : n + 40 ≤ g.meta). inl (omega (arith, h, low))) (λ (h : g.meta + 40 ≤ n). inr (omega (arith, h))) (places_apart start.pages n g.meta place c.free.place other))
      (⊎_elim (λ (h : n + 40 ≤ g.base). inl (omega (arith, h, low))) (λ (h : g.base + 4096 * g.maplen ≤ n). inr (omega (arith, h))) (area_apart span' runs live' c.laid mapped laid_out n refl area (plain_run g.base g.maplen) (inl refl) refl))
      (blank b low whole)

  free_shown : (n : ℕ) → Contains (free_of l.stock) n → IsFreeMeta start.pages laid_out (g ∷ l.seat.desk.groups) p.desk.cells n
  free_shown n in' =
      let is = c.working.stands.free n in' in
      let other : n ≢ g.meta = λ same. c.out (subst (λ k. Contains (free_of l.stock) k) same in') in
      record {
        place = is.place;
        area = stays n is.area;
        unborn = unborn_more l.seat.desk.groups g n is.unborn (λ same. other (sym same));
        blank = blank_shown n other is.place (stays n is.area) is.blank;
      }

  stands_shown : Stands start live' (with_seat l shown)
  stands_shown =
      let st = c.working.stands in
      record {
        groups = add_group start.pages l.seat.desk.groups g st.groups c.group c.free.unborn;
        ringed = more_groups l.seat.desk.groups g (others g.meta l.seat.desk.listed) (g.meta ∷ l.seat.desk.zero_avail) l.rings (ringed_apart l.seat.desk.groups l.seat.desk.listed l.seat.desk.zero_avail l.rings g.meta c.free.unborn st.ringed);
        free = free_shown;
        of_areas = of_areas_born laid_out l.seat.desk.groups g (of_areas_moved l.seat.desk.layout laid_out l.seat.desk.groups stays st.of_areas) (stays g.meta c.free.area);
        area = ⊎_elim (λ none. inl none) (λ at. inr (area_at_stays l.seat.desk.layout.runs runs l.stock.area (areas_more (plain_run g.base g.maplen) l.seat.desk.layout.runs) at)) st.area;
        mapped = mapped;
        served = served_first runs l.seat.desk.groups g (served_new l.seat.desk.layout.runs l.seat.desk.groups g.base g.maplen st.served) c.paged;
        founded = founded_first runs l.seat.desk.groups (founded_more l.seat.desk.layout.runs l.seat.desk.groups st.founded (plain_run g.base g.maplen)) g none_begins (inl refl);
        used = published_lone l.seat.desk.groups l.usage g st.used c.kind.lone;
        nested = nested_more l.seat.desk.groups l.seat.desk.layout.nests g st.nested;
        carried = st.carried;
      }

  pub working_alone : IsWorking start span' live' now (with_seat l w)
  working_alone =
      let old = c.working in
      record {
        space = record {
          lower = ap (λ (s : Span). s.lower) c.constant ∙ old.space.lower;
          upper = ap (λ (s : Span). s.upper) c.constant ∙ old.space.upper;
          size = ap (λ (s : Span). s.size) c.constant ∙ old.space.size;
          rings = old.space.rings;
          stock = old.space.stock;
          parents = old.space.parents;
        };
        stands = subst (λ (x : View). Stands start live' (with_seat l x)) (sym view) stands_shown;
        followed = subst (λ (x : View). AreFollowed x.desk.active x.desk.counter l.rings l.counter) (sym view) old.followed;
        counted = subst (λ (x : View). x.desk.refusals ≤ now.count) (sym view) (omega (arith, old.counted, c.calm.later));
        leads = ap (λ (x : View). x.leads) view ∙ old.leads;
        bookless = ap (λ (x : View). x.books) view ∙ old.bookless;
      }

  hand_shown : HandsOver g.meta l (with_seat l shown)
  hand_shown = record {
    gone = λ hand. hand.unborn g (inl refl) refl;
    none_more = λ n hand.
        let before = hand_born_was laid_out l.seat.desk.groups (free_of l.stock) g n hand in
        hand_moved laid_out l.seat.desk.groups (free_of l.stock) l.seat.desk.layout n (area_stays laid_out l.seat.desk.layout n (areas_plain (plain_run g.base g.maplen) l.seat.desk.layout.runs refl)) before.0;
    none_less = λ n other hand. hand_born_other laid_out l.seat.desk.groups (free_of l.stock) g n (hand_moved l.seat.desk.layout l.seat.desk.groups (free_of l.stock) laid_out n (stays n) hand) (λ same. other (sym same));
    blank = λ n other hand blank. blank_shown n other (area_place n (stays n hand.area)) (stays n hand.area) blank;
  }

  pub hand_alone : HandsOver g.meta l (with_seat l w)
  hand_alone = subst (λ (x : View). HandsOver g.meta l (with_seat l x)) (sym view) hand_shown

  groups_alone : w.desk.groups ≡ g ∷ l.seat.desk.groups
  groups_alone = ap (λ (x : View). x.desk.groups) view

  pub stores_alone : w.stores ≡ l.seat.stores
  stores_alone = ap (λ (x : View). x.stores) view

  pub served_alone : (bytes : ℕ) → l.seat.held ≡ [] → bytes + 20 ≤ 4096 * g.maplen → HasServed 63 bytes w g.meta 0
  served_alone bytes idle fits = record {
    group = g;
    there = subst (Among g) (sym groups_alone) (inl refl);
    of_meta = refl;
    of_class = c.kind.lone;
    within = omega arith;
    motion = ap (λ (x : View). x.held) view ∙ ap (λ hs. in_motion g 0 ∷ hs) idle;
    roomy = lone_room g bytes c.kind c.paged fits;
  }

  -- and nothing else did
  pub built_alone : {M P : Type 0} (s s' e : State M P) (pages word : ℕ) → s ≡ s' → counter_set s.seat word ≡ l.seat → e.seat ≡ w → g.maplen ≡ pages
      → e.counter ≡ (s.counter + 1) % 2 ^ 64 → BuildsAlone g.meta pages s' e
  built_alone {M = M} {P = P} s s' e pages word same was is paged counter = subst (λ (x : State M P). BuildsAlone g.meta pages x e) same (record {
    group = g;
    of_meta = refl;
    of_class = c.kind.lone;
    alone = c.kind.single;
    of_pages = paged;
    groups = ap (λ (x : View). x.desk.groups) (is ∙ view) ∙ ap (λ (x : View). g ∷ x.desk.groups) (sym was);
    run = ap (λ (x : View). x.desk.layout.runs) (is ∙ view)
        ∙ ap (λ n. plain_run g.base n ∷ l.seat.desk.layout.runs) paged
        ∙ ap (λ (x : View). plain_run g.base pages ∷ x.desk.layout.runs) (sym was);
    noted = (
      c.note.found,
      ap (λ (x : View). x.readings) (is ∙ view)
          ∙ append_assoc l.seat.readings ((0, c.note.found) ∷ []) ((g.meta + 28, 0) ∷ [])
          ∙ ap (λ (x : View). x.readings ++ (0, c.note.found) ∷ (g.meta + 28, 0) ∷ []) (sym was),
    );
    counter = counter;
  })
