-- What a call tells of what it built and asked for, once its slot or its excuse has passed to a hand.
use Rattle.std.proofs.Common.{◌≡◌, ◌⊎◌, ℕ, ◌+◌, ◌%◌, ◌^◌, ◌<◌, List, ◌∷◌, true, sym, ap, ◌∙◌, subst, ⊎_elim, inl, inr}
use Rattle.ng_lists.specs.Rings.{RingTable, ring_of}
use Rattle.ng_policy.specs.Bounce.{Bounces, decayed}
use Rattle.ng_policy.specs.declared.ask.Ask.{Ask}
use Rattle.ng_view.specs.Lists.{Among}
use Rattle.ng_view.specs.declared.view.Desk.{Desk}
use Rattle.ng_view.specs.declared.view.Run.{Run}
use Rattle.ng_ledger.specs.Runs.{areas_in}
use Rattle.ng_group.specs.Asking.{AsksRun, GetsByRun, GetsFromRing, GetsSlot, IsAreaWanted, IsWalked, LeavesHeap, RefusedWanted, WantsArea, group_runs}
use Rattle.ng_group.specs.Lone.{BuildsLone, IsAreaNeeded, IsLoneRefused}
use Rattle.ng_group.specs.Serving.{ServesRing}
use Rattle.ng_group.specs.States.{State}
use Rattle.ng_group.specs.Steps.{Came}

-- the desk and the readings of the seat are the same later
module _ {M P : Type 0} (before after later : State M P) (desk : later.seat.desk ≡ after.seat.desk) where
  pub lone_still : (meta bytes : ℕ) → later.seat.readings ≡ after.seat.readings → later.counter ≡ after.counter → later.bounces ≡ after.bounces → BuildsLone meta before after bytes → BuildsLone meta before later bytes
  lone_still meta bytes readings counter bounces builds = record {
    group = builds.group;
    of_meta = builds.of_meta;
    of_class = builds.of_class;
    alone = builds.alone;
    pages = builds.pages;
    groups = ap (λ (d : Desk). d.groups) desk ∙ builds.groups;
    runs = builds.runs;
    area = builds.area;
    run = ap (λ (d : Desk). d.layout.runs) desk ∙ builds.run;
    counter = counter ∙ builds.counter;
    bounces = bounces ∙ builds.bounces;
    came = record { words = builds.came.words; readings = readings ∙ builds.came.readings };
    all = builds.all;
  }

  pub lone_cause_still : (bytes pages : ℕ) → later.bounces ≡ after.bounces → IsLoneRefused before after bytes pages → IsLoneRefused before later bytes pages
  lone_cause_still bytes pages bounces (inl (page, none, kept, runs)) = inl (page, none, bounces ∙ kept, ap (λ (d : Desk). d.layout.runs) desk ∙ runs)
  lone_cause_still bytes pages bounces (inr (asked, steps, needed)) = inr (asked, bounces ∙ steps, subst (λ (d : Desk). IsAreaNeeded before d.layout.runs) (sym desk) needed)

  module _ (readings : later.seat.readings ≡ after.seat.readings) where
    area_still : (words : List (ℕ × ℕ)) (counts : Ask → ℕ → Type 0) (class bytes : ℕ) → IsAreaWanted counts before after words class bytes
        → IsAreaWanted counts before later words class bytes
    area_still words counts class bytes area = subst
        (λ (d : Desk). (areas_in d.layout.runs ≡ areas_in before.seat.desk.layout.runs)
        ⊎ ((areas_in d.layout.runs ≡ areas_in before.seat.desk.layout.runs + 1) × WantsArea counts before words class bytes))
        (sym desk)
        area

    abbrev came_still : Came before.seat after.seat → Came before.seat later.seat
    came_still came = record { words = came.words; readings = readings ∙ came.readings }

    module _ (bounces : later.bounces ≡ after.bounces) where
      serves_still : (class : ℕ) (words : List (ℕ × ℕ)) → ServesRing class before after words → ServesRing class before later words
      serves_still class words serves = record {
        first = serves.first;
        begins = serves.begins;
        word = serves.word;
        rest = serves.rest;
        words_are = serves.words_are;
        bounces = subst (λ (b : Bounces). ((0 < serves.word % 2 ^ 32) × (b ≡ before.bounces)) ⊎ ((serves.word % 2 ^ 32 ≡ 0) × (b ≡ decayed before.bounces class)))
            (sym bounces) serves.bounces;
      }

      source_still : (counts : Ask → ℕ → Type 0) (early late : List (ℕ × ℕ)) (class bytes : ℕ) → later.counter ≡ after.counter
          → GetsFromRing counts before after early late class bytes ⊎ GetsByRun counts before after early class bytes
          → GetsFromRing counts before later early late class bytes ⊎ GetsByRun counts before later early class bytes
      source_still counts early late class bytes counter (inl ring) = inl (record {
        sought = ring.sought;
        is_sought = ring.is_sought;
        above = ring.above;
        serves = serves_still ring.sought late ring.serves;
        runs = ap (λ (d : Desk). group_runs d.layout.runs) desk ∙ ring.runs;
        counter = counter ∙ ring.counter;
      })
      source_still counts early late class bytes counter (inr by) = inr (record {
        pages = by.pages;
        wants = by.wants;
        runs = ap (λ (d : Desk). group_runs d.layout.runs) desk ∙ by.runs;
        counter = counter ∙ by.counter;
        bounces = bounces ∙ by.bounces;
      })

      pub gets_still : (counts : Ask → ℕ → Type 0) (class bytes : ℕ) → later.counter ≡ after.counter → GetsSlot counts before after class bytes
          → GetsSlot counts before later class bytes
      gets_still counts class bytes counter gets = record {
        early = gets.early;
        late = gets.late;
        readings = readings ∙ gets.readings;
        all = gets.all;
        new_runs = gets.new_runs;
        runs_are = ap (λ (d : Desk). d.layout.runs) desk ∙ gets.runs_are;
        runs = λ r there. gets.runs r (subst (λ (d : Desk). Among r d.layout.runs) desk there);
        one_area = area_still gets.early counts class bytes gets.one_area;
        new_groups = gets.new_groups;
        groups_are = ap (λ (d : Desk). d.groups) desk ∙ gets.groups_are;
        groups = λ g there. gets.groups g (subst (λ (d : Desk). Among g d.groups) desk there);
        rising = gets.rising;
        source = source_still counts gets.early gets.late class bytes counter gets.source;
      }

      pub cause_still : (counts : Ask → ℕ → Type 0) (class bytes pages : ℕ) → RefusedWanted counts before after class bytes pages
          → RefusedWanted counts before later class bytes pages
      cause_still counts class bytes pages told = record {
        came = came_still told.came;
        one_area = area_still told.came.words counts class bytes told.one_area;
        cause = ⊎_elim
            (λ (area : (pages ≡ 1) × (areas_in after.seat.desk.layout.runs ≡ areas_in before.seat.desk.layout.runs) × (after.bounces ≡ before.bounces)
            × WantsArea counts before told.came.words class bytes).
            inl (area.0, ap (λ (d : Desk). areas_in d.layout.runs) desk ∙ area.1, bounces ∙ area.2, area.3))
            (λ (run : AsksRun counts before after told.came.words class bytes pages). inr (run.0, bounces ∙ run.1))
            told.cause;
      }

    pub leaves_still : later.rings ≡ after.rings → later.usage ≡ after.usage → later.counter ≡ after.counter → LeavesHeap before after
        → LeavesHeap before later
    leaves_still rings usage counter leaves = record {
      came = came_still leaves.came;
      all = leaves.all;
      groups = ap (λ (d : Desk). d.groups) desk ∙ leaves.groups;
      nests = ap (λ (d : Desk). d.layout.nests) desk ∙ leaves.nests;
      usage = usage ∙ leaves.usage;
      counter = counter ∙ leaves.counter;
      rings = λ k known. subst (λ (t : RingTable). IsWalked leaves.came.words (ring_of before.rings k) (ring_of t k)) (sym rings) (leaves.rings k known);
      runs = subst
          (λ (d : Desk). (d.layout.runs ≡ before.seat.desk.layout.runs)
          ⊎ ((r : Run) × (r.area ≡ true) × (r.pages ≡ 1) × (d.layout.runs ≡ r ∷ before.seat.desk.layout.runs)))
          (sym desk)
          leaves.runs;
    }

-- ---- over the views of a call's own parts, whose mapper's last refused pages are these
module _ {M P : Type 0} (gives : P → Ask → ℕ → Type 0) (last : M → ℕ) (class bytes : ℕ) {w w' s s' : State M P} (same : w ≡ w')
    (same_then : s ≡ s') (later : State M P) (desk : later.seat.desk ≡ s.seat.desk) (readings : later.seat.readings ≡ s.seat.readings) where
  module _ (bounces : later.bounces ≡ s.bounces) where
    pub passed_builds : later.counter ≡ s.counter → GetsSlot (gives w.rules) w s' class bytes → GetsSlot (gives w'.rules) w' later class bytes
    passed_builds counter gets =
        let before : GetsSlot (gives w'.rules) w' s' class bytes = subst (λ (x : State M P). GetsSlot (gives x.rules) x s' class bytes) same gets in
        gets_still w' s later desk readings bounces (gives w'.rules) class bytes counter
        (subst (λ (x : State M P). GetsSlot (gives w'.rules) w' x class bytes) (sym same_then) before)

    pub passed_cause : RefusedWanted (gives w.rules) w s' class bytes (last s'.mapper) → RefusedWanted (gives w'.rules) w' later class bytes (last s.mapper)
    passed_cause cause =
        let before : RefusedWanted (gives w'.rules) w' s' class bytes (last s'.mapper) =
        subst (λ (x : State M P). RefusedWanted (gives x.rules) x s' class bytes (last s'.mapper)) same cause in
        cause_still w' s later desk readings bounces (gives w'.rules) class bytes (last s.mapper)
        (subst (λ (x : State M P). RefusedWanted (gives w'.rules) w' x class bytes (last x.mapper)) (sym same_then) before)

-- the same of what a refused call leaves, and of a block that is a group by itself
module _ {M P : Type 0} {w w' s s' : State M P} (same : w ≡ w') (same_then : s ≡ s') (later : State M P) (desk : later.seat.desk ≡ s.seat.desk) where
  pub passed_leaves : later.seat.readings ≡ s.seat.readings → later.rings ≡ s.rings → later.usage ≡ s.usage → later.counter ≡ s.counter
      → LeavesHeap w s' → LeavesHeap w' later
  passed_leaves readings rings usage counter leaves =
      let before : LeavesHeap w' s' = subst (λ (x : State M P). LeavesHeap x s') same leaves in
      leaves_still w' s later desk readings rings usage counter (subst (LeavesHeap w') (sym same_then) before)

  -- of which the hand's slot tells the meta
  pub passed_lone : (bytes meta told : ℕ) → told ≡ meta → later.seat.readings ≡ s.seat.readings → later.counter ≡ s.counter → later.bounces ≡ s.bounces → BuildsLone meta w s' bytes → BuildsLone told w' later bytes
  passed_lone bytes meta told is readings counter bounces builds =
      let before : BuildsLone meta w' s' bytes = subst (λ (x : State M P). BuildsLone meta x s' bytes) same builds in
      let passed : BuildsLone meta w' later bytes =
      lone_still w' s later desk meta bytes readings counter bounces (subst (λ (x : State M P). BuildsLone meta w' x bytes) (sym same_then) before) in
      subst (λ (m : ℕ). BuildsLone m w' later bytes) (sym is) passed

pub passed_lone_cause : {M P : Type 0} (last : M → ℕ) {w w' s s' : State M P} → w ≡ w' → s ≡ s' → (later : State M P) → later.seat.desk ≡ s.seat.desk → later.bounces ≡ s.bounces
    → (bytes : ℕ) → IsLoneRefused w s' bytes (last s'.mapper) → IsLoneRefused w' later bytes (last s.mapper)
passed_lone_cause {M = M} {P = P} last {w = w} {w' = w'} {s = s} {s' = s'} same same_then later desk bounces bytes cause =
    let before : IsLoneRefused w' s' bytes (last s'.mapper) = subst (λ (x : State M P). IsLoneRefused x s' bytes (last s'.mapper)) same cause in
    lone_cause_still w' s later desk bytes (last s.mapper) bounces
    (subst (λ (x : State M P). IsLoneRefused w' x bytes (last x.mapper)) (sym same_then) before)
