-- What a call for a block that is a group by itself builds and asks for.
use Rattle.std.proofs.Common.{◌≡◌, ◌⊎◌, ℕ, ◌+◌, ◌%◌, ◌^◌, ◌≤◌, max, List, true, [], ◌∷◌, ◌++◌, refl, sym, ap, subst, ◌∙◌, ⊎_elim, inl, inr, arith}
use Rattle.ng_lists.specs.Rings.{RingTable, ring_of}
use Rattle.ng_mapper.specs.Runs as mapper
use Rattle.ng_mapper.specs.declared.refusals.Refusals.{Refusals}
use Rattle.ng_policy.specs.Bounce.{stepped}
use Rattle.ng_shelf.specs.Stock.{Stock, free_of}
use Rattle.ng_supply.specs.Metas.{FindsMeta, TakesNext, TakesOfArea, area_run}
use Rattle.ng_supply.specs.Runs.{RefusesRun}
use Rattle.ng_terms.specs.Accounts.{pages_for}
use Rattle.ng_view.specs.declared.view.Run.{Run}
use Rattle.ng_view.specs.declared.view.Start.{Start}
use Rattle.ng_view.specs.declared.view.View.{View}
use Rattle.ng_group.specs.Asking.{LeavesHeap}
use Rattle.ng_group.specs.Building.{LeavesAll}
use Rattle.ng_group.specs.Lone.{BuildsAlone, BuildsLone, IsAreaNeeded, IsLoneRefused}
use Rattle.ng_group.specs.States.{State}
use Rattle.ng_group.specs.Steps.{Came}
use Rattle.ng_serve.specs.Reads.{AllBare}
use Rattle.ng_serve.proofs.Readings.{all_then}
use Rattle.ng_group.proofs.AskingLemmas.{one_zero, supply_came}
use Rattle.ng_group.proofs.SupplyLemmas.{found_view}
use Rattle.ng_group.proofs.WantLemmas.{came_on}

-- ---- the most refused pages
-- rose to no more than those of the block, where those of an area or of the block were refused
pub most_area : (bytes was now : ℕ) → now ≡ max was 1 → now ≤ max was (pages_for bytes)
most_area bytes was now is = omega arith

pub most_same : (was mid now pages : ℕ) → now ≡ max mid pages → mid ≡ was → now ≤ max was pages
most_same was mid now pages is same = omega arith

-- ---- a run was refused, and of the books all stayed
pub lone_left : {M P : Type 0} (s s' e : State M P) → s ≡ s'
    → e.seat ≡ record s.seat { excuses = e.seat.excuses; readings = e.seat.readings; desk = record s.seat.desk { refusals = e.seat.desk.refusals } }
    → ((found : ℕ) × (e.seat.readings ≡ s.seat.readings ++ (0, found) ∷ []))
    → e.rings ≡ s.rings → e.parents ≡ s.parents → e.usage ≡ s.usage → e.counter ≡ s.counter → LeavesAll s' e
lone_left {M = M} {P = P} s s' e same seat noted rings parents usage counter =
    subst (λ (x : State M P). LeavesAll x e) same (record { seat = seat; noted = noted; rings = rings; parents = parents; usage = usage; counter = counter })

-- ---- a meta was found
module _ {M P : Type 0} (start : Start) (runs : M → List mapper.Run) (s s' : State M P) (same : s ≡ s') (meta : ℕ) (w : View) (stock : Stock) (now : M)
    (finds : FindsMeta start s.seat (runs s.mapper) s.stock meta w (runs now) stock) where
  abbrev mid : State M P
  mid = record s { seat = w; stock = stock; mapper = now }

  needed : IsAreaNeeded s w.desk.layout.runs
  needed = ⊎_elim
      (λ (next : TakesNext s.seat (runs s.mapper) s.stock meta w (runs now) stock). inl (ap (λ (x : View). x.desk.layout.runs) next.seat))
      (λ (of : TakesOfArea start s.seat (runs s.mapper) s.stock meta w (runs now) stock).
      inr (of.none, (area_run of.area, refl, refl, ap (λ (x : View). x.desk.layout.runs) of.adds.view.view)))
      finds.source

  view : w ≡ record s.seat {
    excuses = w.excuses;
    readings = w.readings;
    desk = record s.seat.desk {
      layout = record { runs = w.desk.layout.runs; nests = s.seat.desk.layout.nests };
      cells = w.desk.cells;
      refusals = w.desk.refusals;
    };
  }
  view = found_view start s.seat (runs s.mapper) s.stock meta w (runs now) stock finds

  found_came : (c : Came s.seat w) × AllBare c.words
  found_came = supply_came start (runs s.mapper) (runs now) s.seat s.stock meta w stock finds

  noted_bare : (found : ℕ) → AllBare ((0, found) ∷ (meta + 28, 0) ∷ [])
  noted_bare found word (inl first) = inl (ap (λ (x : ℕ × ℕ). x.0) first)
  noted_bare found word (inr (inl second)) = inr (ap (λ (x : ℕ × ℕ). x.1 % 2 ^ 32) second)
  noted_bare found word (inr (inr none)) = absurd none

  -- and the group came
  pub lone_builds : (bytes : ℕ) (after : State M P) → BuildsAlone meta (pages_for bytes) mid after → after.bounces ≡ stepped s.bounces → BuildsLone meta s' after bytes
  lone_builds bytes after built steps = subst (λ (x : State M P). BuildsLone meta x after bytes) same (record {
    group = built.group;
    of_meta = built.of_meta;
    of_class = built.of_class;
    alone = built.alone;
    pages = built.of_pages;
    groups = built.groups ∙ ap (λ (x : View). built.group ∷ x.desk.groups) view;
    runs = w.desk.layout.runs;
    area = needed;
    run = built.run;
    counter = built.counter;
    bounces = steps;
    came = came_on s.seat w after.seat found_came.0 (record { words = (0, built.noted.0) ∷ (meta + 28, 0) ∷ []; readings = built.noted.1 });
    all = all_then found_came.0.words ((0, built.noted.0) ∷ (meta + 28, 0) ∷ []) found_came.1 (noted_bare built.noted.0);
  })

  -- or its run was refused
  module _ (inner after : State M P) (left : LeavesAll mid inner) (seat : after.seat ≡ inner.seat) where
    same_runs : after.seat.desk.layout.runs ≡ w.desk.layout.runs
    same_runs = ap (λ (x : View). x.desk.layout.runs) (seat ∙ left.seat)

    cause : (bytes pages : ℕ) → pages ≡ pages_for bytes → after.bounces ≡ stepped s.bounces → IsLoneRefused s' after bytes pages
    cause bytes pages is steps = subst (λ (x : State M P). IsLoneRefused x after bytes pages) same
        (inr (is, steps, subst (IsAreaNeeded s) (sym same_runs) needed))

    left_runs : (after.seat.desk.layout.runs ≡ s.seat.desk.layout.runs)
        ⊎ ((r : Run) × (r.area ≡ true) × (r.pages ≡ 1) × (after.seat.desk.layout.runs ≡ r ∷ s.seat.desk.layout.runs))
    left_runs = ⊎_elim
        (λ (none : w.desk.layout.runs ≡ s.seat.desk.layout.runs). inl (same_runs ∙ none))
        (λ (some : (free_of s.stock ≡ []) × ((r : Run) × (r.area ≡ true) × (r.pages ≡ 1) × (w.desk.layout.runs ≡ r ∷ s.seat.desk.layout.runs))).
        inr (some.1.0, some.1.1, some.1.2, same_runs ∙ some.1.3))
        needed

    -- word 0 alone was read
    came : (c : Came s.seat after.seat) × AllBare c.words
    came = (
      came_on s.seat w after.seat found_came.0 (record { words = (0, left.noted.0) ∷ []; readings = ap (λ (x : View). x.readings) seat ∙ left.noted.1 }),
      all_then found_came.0.words ((0, left.noted.0) ∷ []) found_came.1 (one_zero left.noted.0),
    )

    pub lone_leaves : after.rings ≡ inner.rings → after.usage ≡ inner.usage → after.counter ≡ inner.counter → LeavesHeap s' after
    lone_leaves rings usage counter = subst (λ (x : State M P). LeavesHeap x after) same (record {
      came = came.0;
      all = came.1;
      groups = ap (λ (x : View). x.desk.groups) (seat ∙ left.seat) ∙ ap (λ (x : View). x.desk.groups) view;
      nests = ap (λ (x : View). x.desk.layout.nests) (seat ∙ left.seat) ∙ ap (λ (x : View). x.desk.layout.nests) view;
      usage = usage ∙ left.usage;
      counter = counter ∙ left.counter;
      rings = λ k known. inl (ap (λ (t : RingTable). ring_of t k) (rings ∙ left.rings));
      runs = left_runs;
    })

  pub lone_cause : (inner after : State M P) → LeavesAll mid inner → after.seat ≡ inner.seat → (bytes pages : ℕ) → pages ≡ pages_for bytes
      → after.bounces ≡ stepped s.bounces → IsLoneRefused s' after bytes pages
  lone_cause inner after left seat = cause inner after left seat

-- ---- the area of a meta was refused
module _ {M P : Type 0} (s s' : State M P) (same : s ≡ s') (was now : Refusals) (number : ℕ) (w : View)
    (refuses : RefusesRun s.seat was now 1 number w) where
  unmapped : w.desk.layout.runs ≡ s.seat.desk.layout.runs
  unmapped = ap (λ (x : View). x.desk.layout.runs) refuses.note.view

  pub area_cause : (after : State M P) → after.seat ≡ w → after.bounces ≡ s.bounces → (bytes : ℕ) → free_of s.stock ≡ []
      → IsLoneRefused s' after bytes now.last
  area_cause after seat kept bytes none = subst (λ (x : State M P). IsLoneRefused x after bytes now.last) same
      (inl (refuses.asked.last, none, kept, ap (λ (x : View). x.desk.layout.runs) seat ∙ unmapped))

  pub area_leaves : (after : State M P) → after.seat ≡ w → after.rings ≡ s.rings → after.usage ≡ s.usage → after.counter ≡ s.counter → LeavesHeap s' after
  area_leaves after seat rings usage counter = subst (λ (x : State M P). LeavesHeap x after) same (record {
    came = record { words = (0, refuses.note.found) ∷ []; readings = ap (λ (x : View). x.readings) (seat ∙ refuses.note.view) };
    all = one_zero refuses.note.found;
    groups = ap (λ (x : View). x.desk.groups) (seat ∙ refuses.note.view);
    nests = ap (λ (x : View). x.desk.layout.nests) (seat ∙ refuses.note.view);
    usage = usage;
    counter = counter;
    rings = λ k known. inl (ap (λ (t : RingTable). ring_of t k) rings);
    runs = inl (ap (λ (x : View). x.desk.layout.runs) seat ∙ unmapped);
  })
