-- What holds of a core as it opens and as it closes, and how large the numbers are that the rules are asked.
use Rattle.std.proofs.Common.{◌≡◌, ℕ, ◌^◌, ◌<◌, ◌≤◌, List, [], Contains, slice_index, length, map, replicate, refl, sym, ap, subst, ◌∙◌, inl, arith}
use Rattle.std.specs.List.{slice_index_or}
use Rattle.std.proofs.lemmas.List.{get_or-replicate, length-replicate}
use Rattle.ng_mapper.specs.Mapping.{AreLaid, Span}
use Rattle.ng_mapper.specs.Runs as mapper
use Rattle.ng_mapper.specs.declared.refusals.Refusals.{Refusals}
use Rattle.ng_lists.specs.Rings.{RingTable, ring_of}
use Rattle.ng_shelf.specs.Parents.{ParentTable}
use Rattle.ng_shelf.specs.Stock.{Stock, free_of}
use Rattle.ng_space.specs.Callers.{opened}
use Rattle.ng_space.specs.Names.{Facts}
use Rattle.ng_view.specs.Conditions.{IsBlanked, IsSettled}
use Rattle.ng_view.specs.Lists.{Among}
use Rattle.ng_view.specs.declared.view.Start.{Start}
use Rattle.ng_view.specs.declared.view.View.{View}
use Rattle.ng_ledger.specs.Rings.{AreRinged, IsIn}
use Rattle.ng_ledger.specs.Runs.{AreMapped}
use Rattle.ng_ledger.specs.Standing.{Ledger, Stands}
use Rattle.ng_ledger.specs.Usage.{AreUsed}
use Rattle.ng_ledger.proofs.HandLemmas.{blanked}
use Rattle.ng_ledger.proofs.PageLemmas.{pages_are}
use Rattle.ng_ledger.proofs.ServedLemmas.{settled}
use Rattle.ng_ledger.proofs.TableLemmas.{nowhere, tail_in}
use Rattle.ng_ledger.proofs.UsageLemmas.{bounded}
use Rattle.ng_group.specs.Opening.{AreEmpty, IsFreshMapper, IsFreshSeat, IsHandedBack, IsMostBounded}
use Rattle.ng_group.specs.States.{IsResting, IsWorking, Resting, State, Working, first_of}

-- ---- the usage of a class is far below 2 ^ 32
pub usage_below : {start : Start} {span : Span} {live : List mapper.Run} {refused : Refusals} {l : Ledger} (class : ℕ)
    → IsWorking start span live refused l → start.pages ≤ 16384 → class < 48 → slice_index l.usage class < 2 ^ 32
usage_below {start = start} {l = l} class works few known =
    let is : slice_index l.usage class ≡ _ = works.stands.used.each class known in
    let most = bounded start.pages l.seat.desk.groups class works.stands.groups few in
    omega (arith, is, most)

pub usage_at : {M P : Type 0} (start : Start) (span : M → Span) (runs : M → List mapper.Run) (refused : M → Refusals) {s s' : State M P} (class : ℕ)
    → s ≡ s' → Working start span runs refused s' → start.pages ≤ 16384 → class < 48 → slice_index s.usage class < 2 ^ 32
usage_at {M = M} {P = P} start span runs refused class same works few known =
    subst (λ (x : State M P). slice_index x.usage class < 2 ^ 32) (sym same) (usage_below class works few known)

-- ---- a core as it opens
none_there : {A : Type 0} (x : A) → Among x [] → ⊥
none_there x there = elim there [ ]

none_live : (live : List mapper.Run) (r : mapper.Run) → live ≡ [] → Contains live r → ⊥
none_live live r none (k, within, is) = let few : length live ≡ 0 = ap (λ (rs : List mapper.Run). length rs) none in omega (arith, within, few)

module _ (start : Start) (t : RingTable) (empty : t.rings ≡ replicate 48 []) where
  ring_empty : (class : ℕ) → class < 48 → ring_of t class ≡ []
  ring_empty class known =
      ap (λ (rs : List (List ℕ)). slice_index_or rs class []) empty ∙ get_or-replicate {A = List ℕ} 48 class [] [] known

  no_member : (class m : ℕ) → class < 48 → IsIn t class m → ⊥
  no_member class m known in' = nowhere m (subst (λ (ring : List ℕ). Contains ring m) (ring_empty class known) in')

  ringed_none : AreRinged [] [] [] t
  ringed_none = record {
    grouped = λ class m known in'. absurd (no_member class m known in');
    noted_listed = λ class m known in'. absurd (no_member class m known in');
    ringed = λ m there. absurd (none_there m there);
    tails = λ class m known in'. absurd (no_member class m known (tail_in (ring_of t class) m in'));
  }

mapped_none : (live : List mapper.Run) → live ≡ [] → AreMapped [] live
mapped_none live none = record {
  single = λ a. omega arith;
  once = λ r s there. absurd (none_there r there);
  known = λ a pages in'. absurd (none_live live (a, pages) none in');
  mapped = λ r there. absurd (none_there r there);
}

used_none : AreUsed [] (replicate 48 0)
used_none = record {
  many = length-replicate {A = ℕ} 48 0;
  each = λ class known. get_or-replicate {A = ℕ} 48 class 0 0 known;
}

module _ (start : Start) (span : Span) (live : List mapper.Run) (refused : Refusals) (t : RingTable) (s : Stock) (p : ParentTable)
    (empty : AreEmpty start.pages (record { rings = t; stock = s; parents = p })) (mapper : IsFreshMapper start span live refused) where
  abbrev books : View → Ledger
  books v = record { seat = v; rings = t; stock = s; parents = p; usage = replicate 48 0; counter = 0 }

  stands_open : (hands : ℕ) → Stands start live (books (opened start hands))
  stands_open hands = record {
    groups = record { each = λ g there. absurd (none_there g there); once = λ m. omega arith };
    ringed = ringed_none start t empty.rings;
    free = λ m in'. absurd (nowhere m (subst (λ (xs : List ℕ). Contains xs m) empty.stock in'));
    of_areas = λ g there. absurd (none_there g there);
    area = inl empty.area;
    mapped = mapped_none live mapper.none;
    served = λ r there. absurd (none_there r there);
    founded = record { runs = λ g there. absurd (none_there g there); alone = λ g h there. absurd (none_there g there) };
    used = used_none;
    nested = record { born = λ n there. absurd (none_there n there); once = λ m. omega arith };
    carried = λ n there. absurd (none_there n there);
  }

  rests_open : (hands : ℕ) → IsResting start span live refused (books (opened start hands))
  rests_open hands = record {
    working = record {
      space = record {
        lower = mapper.lower;
        upper = mapper.upper;
        size = mapper.size;
        rings = empty.ring_pages;
        stock = empty.stock_pages;
        parents = empty.parent_pages;
      };
      stands = stands_open hands;
      followed = record { firsts = ap (map first_of) (sym empty.rings); low = refl };
      counted = let same = mapper.count in omega (arith, same);
      leads = refl;
      bookless = refl;
    };
    still = refl;
    answered = refl;
    at_rest = λ m hand. none_there hand.area.run hand.area.noted;
  }

  -- it rests
  pub resting_open : (v : View) → IsFreshSeat start v → IsResting start span live refused (books v)
  resting_open v fresh = subst (λ (x : View). IsResting start span live refused (books x)) (sym fresh.view) (rests_open fresh.hands)

-- ---- a core as it closes
pub settled_at : {M P : Type 0} (start : Start) (span : M → Span) (runs : M → List mapper.Run) (refused : M → Refusals) {s s' : State M P}
    → s ≡ s' → Resting start span runs refused s → IsSettled s'.seat
settled_at {M = M} {P = P} start span runs refused {s = s} same rests =
    subst (λ (x : State M P). IsSettled x.seat) same (settled s.seat rests.working.stands.served)

pub blanked_at : {M P : Type 0} (start : Start) (span : M → Span) (runs : M → List mapper.Run) (refused : M → Refusals) {s s' : State M P}
    → s ≡ s' → Resting start span runs refused s → IsBlanked s'.seat
blanked_at {M = M} {P = P} start span runs refused {s = s} same rests =
    subst (λ (x : State M P). IsBlanked x.seat) same (blanked start.pages s.seat (free_of s.stock) rests.working.stands.free rests.at_rest)

pub handed_at : {M P : Type 0} (facts : Facts) (span : M → Span) (runs : M → List mapper.Run) (refused : M → Refusals) {s s' : State M P}
    → ((m : M) → AreLaid (span m) (runs m)) → s ≡ s' → Resting facts.start span runs refused s → IsMostBounded facts (refused s.mapper)
    → IsHandedBack facts s'.seat (span s'.mapper) (runs s'.mapper) (refused s'.mapper)
handed_at {M = M} {P = P} facts span runs refused {s = s} laid same rests most =
    let stands = rests.working.stands in
    subst (λ (x : State M P). IsHandedBack facts x.seat (span x.mapper) (runs x.mapper) (refused x.mapper)) same (record {
      lower = rests.working.space.lower;
      upper = rests.working.space.upper;
      size = rests.working.space.size;
      most = most;
      mapped = stands.mapped;
      pages = pages_are facts.start.pages (span s.mapper) s.seat.desk.layout.runs s.seat.desk.groups (runs s.mapper) (laid s.mapper) stands.mapped stands.served stands.founded stands.groups;
      counted = rests.working.counted;
      leads = rests.working.leads;
      still = rests.still;
      answered = rests.answered;
      bookless = rests.working.bookless;
    })
