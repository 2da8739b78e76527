-- What a call builds and asks the mapper for that goes on to a group of its own, by what its calls did.
use Rattle.std.proofs.Common.{◌≡◌, ◌≢◌, ◌⊎◌, ℕ, ◌+◌, ◌%◌, ◌^◌, ◌<◌, ◌≤◌, Bool, true, not, List, [], ◌∷◌, ◌++◌, Some, append_assoc, refl, sym, ap, ◌∙◌, subst, ⊎_elim, inl, inr, arith}
use Rattle.std.specs.List.{slice_get}
use Rattle.std.proofs.lemmas.Bool.{cases_eq}
use Rattle.ng_lists.specs.Rings.{RingTable, ring_of}
use Rattle.ng_view.specs.Notes.{plain_run}
use Rattle.ng_policy.specs.Bounce.{Bounces, accounted, decayed, stepped}
use Rattle.ng_policy.specs.declared.ask.Ask.{Ask}
use Rattle.ng_serve.specs.Reads.{IsBareIn}
use Rattle.ng_serve.proofs.Readings.{all_then}
use Rattle.ng_shelf.specs.Shape.{IsNestedSize, shape_of}
use Rattle.ng_view.specs.Lists.{Among, count_of}
use Rattle.ng_view.specs.declared.view.Group.{Group}
use Rattle.ng_view.specs.declared.view.Run.{Run}
use Rattle.ng_view.specs.declared.view.View.{View}
use Rattle.ng_ledger.specs.Runs.{areas_in}
use Rattle.ng_group.specs.Asking.{AsksRun, GetsByRun, GetsFromRing, GetsSlot, HasSlots, IsAreaWanted, IsAsked, IsCarried, IsGroupWanted, IsRunWanted, IsWalked, LeavesHeap, RefusedWanted, Want, WantsArea, WantsRun, carried_bytes, group_runs}
use Rattle.ng_group.specs.Building.{HasBuilt, LeavesAll}
use Rattle.ng_group.specs.States.{State}
use Rattle.ng_group.specs.Steps.{Came}
use Rattle.ng_group.proofs.WantLemmas.{Seeks, TakesArea, TakesFree, area_first, area_more, bare_left, bare_right, came_on, in_four, last_first, last_more, no_area, rising_less, run_more, runs_of, sought_more}
use Rattle.ng_group.proofs.AskingLemmas.{one_zero, walked_here}
use Rattle.ng_group.proofs.BuildingLemmas.{carrier_above}

module _ {M P : Type 0} (counts : Ask → ℕ → Type 0) (s mid : State M P) (class bytes : ℕ) (sought : Seeks class s mid) (took : TakesFree s mid ⊎ TakesArea s mid)
    (w : Want) (of_class : w.class ≡ class) (of_bytes : w.bytes ≡ bytes) where
  -- the area that came was wanted
  area_came : (words : List (ℕ × ℕ)) → ((m : ℕ) → IsBareIn sought.came.words m → IsBareIn words m) → (runs : List Run) → areas_in runs ≡ areas_in (runs_of mid)
      → (areas_in runs ≡ areas_in (runs_of s)) ⊎ ((areas_in runs ≡ areas_in (runs_of s) + 1) × WantsArea counts s words class bytes)
  area_came words more runs same = ⊎_elim
      (λ (free : TakesFree s mid). inl (same ∙ ap areas_in free.runs))
      (λ (area : TakesArea s mid). inr (same ∙ one_more area, area_first counts s mid class bytes sought w of_class of_bytes words more area.none))
      took
    where
      one_more : (area : TakesArea s mid) → areas_in (runs_of mid) ≡ areas_in (runs_of s) + 1
      one_more area =
          let all : areas_in (runs_of mid) ≡ count_of area.run.area + areas_in (runs_of s) = ap areas_in area.runs in
          let one : count_of area.run.area ≡ 1 = ap count_of area.area in
          omega (arith, all, one)

  -- no run for a group came then
  none_grouped : group_runs (runs_of mid) ≡ group_runs (runs_of s)
  none_grouped = ⊎_elim
      (λ (free : TakesFree s mid). ap group_runs free.runs)
      (λ (area : TakesArea s mid).
      let all : group_runs (runs_of mid) ≡ count_of (not area.run.area) + group_runs (runs_of s) = ap group_runs area.runs in
      let none : count_of (not area.run.area) ≡ 0 = ap (λ (b : Bool). count_of (not b)) area.area in
      omega (arith, all, none))
      took

  -- no run went
  more_runs : (new : List Run) × (runs_of mid ≡ new ++ runs_of s)
  more_runs = ⊎_elim
      (λ (free : TakesFree s mid). ([], free.runs))
      (λ (area : TakesArea s mid). (area.run ∷ [], area.runs))
      took

  -- a run that was noted then
  run_was : (words : List (ℕ × ℕ)) → ((m : ℕ) → IsBareIn sought.came.words m → IsBareIn words m) → (r : Run) → Among r (runs_of mid) → IsRunWanted counts s words class bytes r
  run_was words more r there = ⊎_elim
      (λ (free : TakesFree s mid). inl (subst (λ (rs : List Run). Among r rs) free.runs there))
      (λ (area : TakesArea s mid). new area (subst (λ (rs : List Run). Among r rs) area.runs there))
      took
    where
      new : (area : TakesArea s mid) → Among r (area.run ∷ runs_of s) → IsRunWanted counts s words class bytes r
      new area (inl same) = inr (inl (ap (λ (x : Run). x.area) same ∙ area.area, ap (λ (x : Run). x.pages) same ∙ area.page, area_first counts s mid class bytes sought w of_class of_bytes words more area.none))
      new area (inr was) = inl was

  -- ---- the group got a run of its own
  module _ (asked : IsAsked counts s w) (large : ¬ IsNestedSize w.class w.count) where
    wants_run : (words : List (ℕ × ℕ)) → ((m : ℕ) → IsBareIn sought.came.words m → IsBareIn words m) → WantsRun counts s words class bytes (shape_of w.ask w.bytes w.count).pages
    wants_run words more = record {
      want = w;
      last = last_first counts s mid class bytes sought w of_class of_bytes words more asked;
      large = large;
      pages_are = refl;
    }

    pub builds_run : (after : State M P) (base meta slots : ℕ) → Came mid.seat after.seat → slots ≡ (shape_of w.ask w.bytes w.count).count → HasBuilt meta class slots mid after
        → runs_of after ≡ plain_run base (shape_of w.ask w.bytes w.count).pages ∷ runs_of mid → after.counter ≡ (mid.counter + 1) % 2 ^ 64
        → after.bounces ≡ stepped (accounted mid.bounces class) → GetsSlot counts s after class bytes
    unfolding wants_run
    builds_run after base meta slots last slots_are built runs counter bounces = record {
      early = sought.came.words;
      late = last.words;
      readings = (came_on s.seat mid.seat after.seat sought.came last).readings;
      all = sought.all;
      new_runs = plain_run base (shape_of w.ask w.bytes w.count).pages ∷ more_runs.0;
      runs_are = runs ∙ ap (λ (rs : List Run). plain_run base (shape_of w.ask w.bytes w.count).pages ∷ rs) more_runs.1;
      runs = λ r there. run r (subst (λ (rs : List Run). Among r rs) runs there);
      one_area = area_came sought.came.words (λ m bare. bare) (runs_of after) (ap areas_in runs ∙ none_more);
      new_groups = built.group ∷ [];
      groups_are = built.groups ∙ ap (λ (gs : List Group). built.group ∷ gs) sought.groups;
      groups = λ g there. group g (subst (λ (gs : List Group). Among g gs) built.groups there);
      rising = (let tag : built.group.tag ≡ class + 1 = built.of_class in omega (arith, tag), tt);
      source = inr (record {
        pages = (shape_of w.ask w.bytes w.count).pages;
        wants = wants_run sought.came.words (λ m bare. bare);
        runs = one_run;
        counter = counter ∙ ap (λ n. (n + 1) % 2 ^ 64) sought.counter;
        bounces = bounces
            ∙ ap (λ (b : Bounces). stepped (accounted b class)) sought.bounces
            ∙ ap (λ k. stepped (accounted s.bounces k)) (sym of_class);
      });
    }
      where
        none_more : areas_in (plain_run base (shape_of w.ask w.bytes w.count).pages ∷ runs_of mid) ≡ areas_in (runs_of mid)
        none_more = omega arith

        one_run : group_runs (runs_of after) ≡ group_runs (runs_of s) + 1
        one_run =
            let all : group_runs (runs_of after) ≡ 1 + group_runs (runs_of mid) = ap group_runs runs in
            omega (arith, all, none_grouped)

        run : (r : Run) → Among r (plain_run base (shape_of w.ask w.bytes w.count).pages ∷ runs_of mid) → IsRunWanted counts s sought.came.words class bytes r
        run r (inl same) = inr (inr (ap (λ (x : Run). x.area) same, subst (λ (x : Run). WantsRun counts s sought.came.words class bytes x.pages) (sym same) (wants_run sought.came.words (λ m bare. bare))))
        run r (inr was) = run_was sought.came.words (λ m bare. bare) r was

        slots_of : HasSlots w built.group
        slots_of = record {
          class_is = built.of_class ∙ ap (λ n. n + 1) (sym of_class);
          nested = λ small. absurd (large small);
          mapped = λ wide. built.of_slots ∙ slots_are;
        }

        group : (g : Group) → Among g (built.group ∷ mid.seat.desk.groups) → IsGroupWanted counts s sought.came.words class bytes g
        group g (inl same) = inr (w, last_first counts s mid class bytes sought w of_class of_bytes sought.came.words (λ m bare. bare) asked, subst (λ (x : Group). HasSlots w x) (sym same) slots_of)
        group g (inr was) = inl (subst (λ (gs : List Group). Among g gs) sought.groups was)

    -- its run was refused
    module _ (after : State M P) (inner : State M P) (left : LeavesAll mid inner) (seat : after.seat ≡ inner.seat) (rings : after.rings ≡ inner.rings) (usage : after.usage ≡ inner.usage)
        (counter : after.counter ≡ inner.counter) where
      abbrev noted : List (ℕ × ℕ)
      noted = (0, left.noted.0) ∷ []

      abbrev run_came : Came s.seat after.seat
      run_came = came_on s.seat mid.seat after.seat sought.came (record { words = noted; readings = ap (λ (v : View). v.readings) seat ∙ left.noted.1 })

      run_more_words : (m : ℕ) → IsBareIn sought.came.words m → IsBareIn run_came.words m
      run_more_words m = bare_left sought.came.words noted m

      runs_left : runs_of after ≡ runs_of mid
      runs_left = ap (λ (v : View). v.desk.layout.runs) seat ∙ ap (λ (v : View). v.desk.layout.runs) left.seat

      pub run_cause : (pages : ℕ) → pages ≡ (shape_of w.ask w.bytes w.count).pages → after.bounces ≡ stepped (accounted mid.bounces class)
          → RefusedWanted counts s after class bytes pages
      unfolding wants_run
      run_cause pages same bounces = record {
        came = run_came;
        one_area = area_came run_came.words run_more_words (runs_of after) (ap areas_in runs_left);
        cause = inr (subst (λ n. AsksRun counts s after run_came.words class bytes n) (sym same) (
          wants_run run_came.words run_more_words,
          bounces
              ∙ ap (λ (b : Bounces). stepped (accounted b class)) sought.bounces
              ∙ ap (λ k. stepped (accounted s.bounces k)) (sym of_class),
        ));
      }

      pub run_leaves : LeavesHeap s after
      run_leaves = record {
        came = run_came;
        all = all_then sought.came.words noted sought.all (one_zero left.noted.0);
        groups = ap (λ (v : View). v.desk.groups) seat ∙ ap (λ (v : View). v.desk.groups) left.seat ∙ sought.groups;
        nests = ap (λ (v : View). v.desk.layout.nests) seat ∙ ap (λ (v : View). v.desk.layout.nests) left.seat ∙ sought.nests;
        usage = usage ∙ left.usage ∙ sought.usage;
        counter = counter ∙ left.counter ∙ sought.counter;
        rings = λ k known. ring k;
        runs = ⊎_elim
            (λ (free : TakesFree s mid). inl (runs_left ∙ free.runs))
            (λ (area : TakesArea s mid). inr (area.run, area.area, area.page, runs_left ∙ area.runs))
            took;
      }
        where
          same_ring : (k : ℕ) → ring_of after.rings k ≡ ring_of mid.rings k
          same_ring k = ap (λ (t : RingTable). ring_of t k) (rings ∙ left.rings)

          ring : (k : ℕ) → IsWalked run_came.words (ring_of s.rings k) (ring_of after.rings k)
          ring k = ⊎_elim
              (λ (same : k ≡ class). subst (λ n. IsWalked run_came.words (ring_of s.rings n) (ring_of after.rings n)) (sym same) (walked_here class s mid sought run_came.words (ring_of after.rings class) run_more_words (same_ring class)))
              (λ (apart : k ≢ class). inl (same_ring k ∙ sought.rings k apart))
              (cases_eq k class)

  -- ---- the group got a slot of another
  module _ (next : ℕ) (carried : IsCarried counts s w next) (inner : State M P) where
    impossible : TakesArea s mid → (words : List (ℕ × ℕ)) → WantsArea counts mid words next (carried_bytes w) → ⊥
    impossible area words wants = no_area counts mid words next (carried_bytes w) carried.least.known area.free wants

    -- the words read by the call, in it, and behind it
    module _ (rest words : List (ℕ × ℕ)) (more : (m : ℕ) → IsBareIn sought.came.words m → IsBareIn words m) (reread : (m : ℕ) → IsBareIn rest m → IsBareIn words m) where
      area_inside : WantsArea counts mid rest next (carried_bytes w) → WantsArea counts s words class bytes
      area_inside wants = ⊎_elim
          (λ (free : TakesFree s mid). area_more counts s mid class bytes sought w of_class of_bytes words more next carried rest reread free wants)
          (λ (area : TakesArea s mid). absurd (impossible area rest wants))
          took

      area_then : IsAreaWanted counts mid inner rest next (carried_bytes w) → (runs : List Run) → runs ≡ runs_of inner
          → (areas_in runs ≡ areas_in (runs_of s)) ⊎ ((areas_in runs ≡ areas_in (runs_of s) + 1) × WantsArea counts s words class bytes)
      area_then (inl same) runs is = area_came words more runs (ap areas_in is ∙ same)
      area_then (inr (grew, wants)) runs is = ⊎_elim
          (λ (free : TakesFree s mid). inr (ap areas_in is ∙ grew ∙ ap (λ (rs : List Run). areas_in rs + 1) free.runs, area_inside wants))
          (λ (area : TakesArea s mid). absurd (impossible area rest wants))
          took

      run_then : (r : Run) → IsRunWanted counts mid rest next (carried_bytes w) r → IsRunWanted counts s words class bytes r
      run_then r (inl noted) = run_was words more r noted
      run_then r (inr (inl (area, page, wants))) = inr (inl (area, page, area_inside wants))
      run_then r (inr (inr (plain, wants))) = inr (inr (plain, run_more counts s mid class bytes sought w of_class of_bytes words more next carried rest reread r.pages wants))

      group_then : (g : Group) → IsGroupWanted counts mid rest next (carried_bytes w) g → IsGroupWanted counts s words class bytes g
      group_then g (inl noted) = inl (subst (λ (gs : List Group). Among g gs) sought.groups noted)
      group_then g (inr (v, last, slots)) = inr (v, last_more counts s mid class bytes sought w of_class of_bytes words more next carried rest reread v last, slots)

    -- what the slot of the carrier came out of
    module _ (early late words behind : List (ℕ × ℕ)) (more : (m : ℕ) → IsBareIn sought.came.words m → IsBareIn words m) (reread : (m : ℕ) → IsBareIn early m → IsBareIn words m)
        (known : class < 48) (after : State M P) (runs : runs_of after ≡ runs_of inner) (counter : after.counter ≡ inner.counter) (bounces : after.bounces ≡ inner.bounces) where
      ring_then : GetsFromRing counts mid inner early late next (carried_bytes w) → GetsFromRing counts s after words (late ++ behind) class bytes
      ring_then from =
          let higher : w.class < next = carrier_above w.class w.count next (omega (arith, of_class, known)) carried.asked.allowed.some carried.least in
          let reached : next ≤ from.sought = from.above in
          record {
            sought = from.sought;
            is_sought = sought_more counts s mid class bytes sought w of_class of_bytes words more next carried early reread from.sought from.is_sought;
            above = omega (arith, higher, of_class, reached);
            serves = record {
              first = from.serves.first;
              begins = subst (λ (ring : List ℕ). slice_get ring 0 ≡ Some from.serves.first)
                  (sought.rings from.sought (λ same. omega (arith, higher, of_class, reached, same))) from.serves.begins;
              word = from.serves.word;
              rest = from.serves.rest ++ behind;
              words_are = ap (λ (ws : List (ℕ × ℕ)). ws ++ behind) from.serves.words_are;
              bounces = ⊎_elim
                  (λ (kept : (0 < from.serves.word % 2 ^ 32) × (inner.bounces ≡ mid.bounces)). inl (kept.0, bounces ∙ kept.1 ∙ sought.bounces))
                  (λ (less : (from.serves.word % 2 ^ 32 ≡ 0) × (inner.bounces ≡ decayed mid.bounces from.sought)).
                  inr (less.0, bounces ∙ less.1 ∙ ap (λ (b : Bounces). decayed b from.sought) sought.bounces))
                  from.serves.bounces;
            };
            runs = ap group_runs runs ∙ from.runs ∙ none_grouped;
            counter = counter ∙ from.counter ∙ sought.counter;
          }

      mapped_then : GetsByRun counts mid inner early next (carried_bytes w) → GetsByRun counts s after words class bytes
      unfolding run_more
      mapped_then by = record {
        pages = by.pages;
        wants = run_more counts s mid class bytes sought w of_class of_bytes words more next carried early reread by.pages by.wants;
        runs = ap group_runs runs ∙ by.runs ∙ ap (λ n. n + 1) none_grouped;
        counter = counter ∙ by.counter ∙ ap (λ n. (n + 1) % 2 ^ 64) sought.counter;
        bounces = bounces ∙ by.bounces ∙ ap (λ (b : Bounces). stepped (accounted b by.wants.want.class)) sought.bounces;
      }

    pub builds_nested : (known : class < 48) (after : State M P) (meta : ℕ) → GetsSlot counts mid inner next (carried_bytes w) → Came inner.seat after.seat
        → HasBuilt meta class w.count inner after → runs_of after ≡ runs_of inner → after.counter ≡ inner.counter → after.bounces ≡ inner.bounces
        → GetsSlot counts s after class bytes
    builds_nested known after meta inside last built runs counter bounces = record {
      early = words;
      late = inside.late ++ last.words;
      readings = (came_on s.seat mid.seat after.seat sought.came rest).readings
          ∙ ap (λ (ws : List (ℕ × ℕ)). s.seat.readings ++ ws) (in_four sought.came.words inside.early inside.late last.words);
      all = all_then sought.came.words inside.early sought.all inside.all;
      new_runs = inside.new_runs ++ more_runs.0;
      runs_are = runs ∙ inside.runs_are ∙ ap (λ (rs : List Run). inside.new_runs ++ rs) more_runs.1
          ∙ sym (append_assoc inside.new_runs more_runs.0 (runs_of s));
      runs = λ r there. run_then inside.early words more reread r (inside.runs r (subst (λ (rs : List Run). Among r rs) runs there));
      one_area = area_then inside.early words more reread inside.one_area (runs_of after) runs;
      new_groups = built.group ∷ inside.new_groups;
      groups_are = built.groups ∙ ap (λ (gs : List Group). built.group ∷ gs) (inside.groups_are ∙ ap (λ (gs : List Group). inside.new_groups ++ gs) sought.groups);
      groups = λ g there. group g (subst (λ (gs : List Group). Among g gs) built.groups there);
      rising =
          let tag : built.group.tag ≡ class + 1 = built.of_class in
          let higher : w.class < next = carrier_above w.class w.count next (omega (arith, of_class, known)) carried.asked.allowed.some carried.least in
          (omega (arith, tag), rising_less built.group.tag next inside.new_groups (omega (arith, tag, higher, of_class)) inside.rising);
      source = ⊎_elim
          (λ (ring : GetsFromRing counts mid inner inside.early inside.late next (carried_bytes w)).
          inl (ring_then inside.early inside.late words last.words more reread known after runs counter bounces ring))
          (λ (by : GetsByRun counts mid inner inside.early next (carried_bytes w)).
          inr (mapped_then inside.early inside.late words last.words more reread known after runs counter bounces by))
          inside.source;
    }
      where
        rest : Came mid.seat after.seat
        rest = came_on mid.seat inner.seat after.seat (record { words = inside.early ++ inside.late; readings = inside.readings }) last

        words : List (ℕ × ℕ)
        words = sought.came.words ++ inside.early

        more : (m : ℕ) → IsBareIn sought.came.words m → IsBareIn words m
        more m = bare_left sought.came.words inside.early m

        reread : (m : ℕ) → IsBareIn inside.early m → IsBareIn words m
        reread m = bare_right sought.came.words inside.early m

        slots_of : HasSlots w built.group
        slots_of = record {
          class_is = built.of_class ∙ ap (λ n. n + 1) (sym of_class);
          nested = λ small. built.of_slots;
          mapped = λ wide. absurd (wide carried.small);
        }

        group : (g : Group) → Among g (built.group ∷ inner.seat.desk.groups) → IsGroupWanted counts s words class bytes g
        group g (inl same) = inr (w, last_first counts s mid class bytes sought w of_class of_bytes words more carried.asked, subst (λ (x : Group). HasSlots w x) (sym same) slots_of)
        group g (inr was) = group_then inside.early words more reread g (inside.groups g was)

    -- the slot was refused
    module _ (after : State M P) (seat : after.seat ≡ inner.seat) (rings : after.rings ≡ inner.rings) (usage : after.usage ≡ inner.usage) (counter : after.counter ≡ inner.counter) where
      abbrev slot_came : Came mid.seat inner.seat → Came s.seat after.seat
      slot_came last = came_on s.seat mid.seat after.seat sought.came (record { words = last.words; readings = ap (λ (v : View). v.readings) seat ∙ last.readings })

      runs_inner : runs_of after ≡ runs_of inner
      runs_inner = ap (λ (v : View). v.desk.layout.runs) seat

      pub slot_cause : (pages : ℕ) → after.bounces ≡ inner.bounces → RefusedWanted counts mid inner next (carried_bytes w) pages
          → RefusedWanted counts s after class bytes pages
      unfolding run_more
      slot_cause pages bounces inside = record {
        came = came;
        one_area = area_then inside.came.words came.words more reread inside.one_area (runs_of after) runs_inner;
        cause = cause inside.cause;
      }
        where
          came : Came s.seat after.seat
          came = slot_came inside.came

          more : (m : ℕ) → IsBareIn sought.came.words m → IsBareIn came.words m
          more m = bare_left sought.came.words inside.came.words m

          reread : (m : ℕ) → IsBareIn inside.came.words m → IsBareIn came.words m
          reread m = bare_right sought.came.words inside.came.words m

          cause : ((pages ≡ 1) × (areas_in (runs_of inner) ≡ areas_in (runs_of mid)) × (inner.bounces ≡ mid.bounces) × WantsArea counts mid inside.came.words next (carried_bytes w))
              ⊎ AsksRun counts mid inner inside.came.words next (carried_bytes w) pages
              → ((pages ≡ 1) × (areas_in (runs_of after) ≡ areas_in (runs_of s)) × (after.bounces ≡ s.bounces) × WantsArea counts s came.words class bytes)
              ⊎ AsksRun counts s after came.words class bytes pages
          cause (inl (page, same, kept, wants)) = ⊎_elim
              (λ (free : TakesFree s mid).
              inl (page, ap areas_in runs_inner ∙ same ∙ ap areas_in free.runs, bounces ∙ kept ∙ sought.bounces, area_inside inside.came.words came.words more reread wants))
              (λ (area : TakesArea s mid). absurd (impossible area inside.came.words wants))
              took
          cause (inr (run, stepped_once)) = inr (
            run_more counts s mid class bytes sought w of_class of_bytes came.words more next carried inside.came.words reread pages run,
            bounces ∙ stepped_once ∙ ap (λ (b : Bounces). stepped (accounted b run.want.class)) sought.bounces,
          )

      pub slot_leaves : LeavesHeap mid inner → ((words : List (ℕ × ℕ)) × IsAreaWanted counts mid inner words next (carried_bytes w)) → class < 48 → ring_of inner.rings class ≡ ring_of mid.rings class → LeavesHeap s after
      slot_leaves inside area_inner known below = record {
        came = came;
        all = all_then sought.came.words inside.came.words sought.all inside.all;
        groups = ap (λ (v : View). v.desk.groups) seat ∙ inside.groups ∙ sought.groups;
        nests = ap (λ (v : View). v.desk.layout.nests) seat ∙ inside.nests ∙ sought.nests;
        usage = usage ∙ inside.usage ∙ sought.usage;
        counter = counter ∙ inside.counter ∙ sought.counter;
        rings = ring;
        runs = ⊎_elim free_runs area_runs took;
      }
        where
          came : Came s.seat after.seat
          came = slot_came inside.came

          more : (m : ℕ) → IsBareIn sought.came.words m → IsBareIn came.words m
          more m = bare_left sought.came.words inside.came.words m

          same_ring : (k : ℕ) → ring_of after.rings k ≡ ring_of inner.rings k
          same_ring k = ap (λ (t : RingTable). ring_of t k) rings

          other : (k : ℕ) → k ≢ class → IsWalked inside.came.words (ring_of mid.rings k) (ring_of inner.rings k) → IsWalked came.words (ring_of s.rings k) (ring_of after.rings k)
          other k apart (inl same) = inl (same_ring k ∙ same ∙ sought.rings k apart)
          other k apart (inr (first, left, bare)) = inr (
            first,
            sym (sought.rings k apart) ∙ left ∙ ap (λ (xs : List ℕ). first ∷ xs) (sym (same_ring k)),
            bare_right sought.came.words inside.came.words first bare,
          )

          ring : (k : ℕ) → k < 48 → IsWalked came.words (ring_of s.rings k) (ring_of after.rings k)
          ring k low = ⊎_elim
              (λ (same : k ≡ class). subst (λ n. IsWalked came.words (ring_of s.rings n) (ring_of after.rings n)) (sym same) (walked_here class s mid sought came.words (ring_of after.rings class) more (same_ring class ∙ below)))
              (λ (apart : k ≢ class). other k apart (inside.rings k low))
              (cases_eq k class)

          free_runs : TakesFree s mid → (runs_of after ≡ runs_of s) ⊎ ((r : Run) × (r.area ≡ true) × (r.pages ≡ 1) × (runs_of after ≡ r ∷ runs_of s))
          free_runs free = ⊎_elim
              (λ (same : runs_of inner ≡ runs_of mid). inl (runs_inner ∙ same ∙ free.runs))
              (λ (new : (r : Run) × (r.area ≡ true) × (r.pages ≡ 1) × (runs_of inner ≡ r ∷ runs_of mid)).
              inr (new.0, new.1, new.2, runs_inner ∙ new.3 ∙ ap (λ (rs : List Run). new.0 ∷ rs) free.runs))
              inside.runs

          same_runs : TakesArea s mid → runs_of inner ≡ runs_of mid
          same_runs area = ⊎_elim
              (λ (same : runs_of inner ≡ runs_of mid). same)
              (λ (new : (r : Run) × (r.area ≡ true) × (r.pages ≡ 1) × (runs_of inner ≡ r ∷ runs_of mid)).
              absurd (⊎_elim
              (λ (none : areas_in (runs_of inner) ≡ areas_in (runs_of mid)).
              let all : areas_in (runs_of inner) ≡ count_of new.0.area + areas_in (runs_of mid) = ap areas_in new.3 in
              let one : count_of new.0.area ≡ 1 = ap count_of new.1 in
              omega (arith, all, one, none))
              (λ (one : (areas_in (runs_of inner) ≡ areas_in (runs_of mid) + 1) × WantsArea counts mid area_inner.0 next (carried_bytes w)). impossible area area_inner.0 one.1)
              area_inner.1))
              inside.runs

          area_runs : TakesArea s mid → (runs_of after ≡ runs_of s) ⊎ ((r : Run) × (r.area ≡ true) × (r.pages ≡ 1) × (runs_of after ≡ r ∷ runs_of s))
          area_runs area = inr (area.run, area.area, area.page, runs_inner ∙ same_runs area ∙ area.runs)
