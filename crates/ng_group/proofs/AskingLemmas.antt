-- What a search for a slot and for a meta leaves, and what it asks the mapper for.
use Rattle.std.proofs.Common.{◌≡◌, ◌≢◌, ◌⊎◌, ℕ, ◌+◌, ◌-◌, false, List, [], ◌∷◌, ◌++◌, Contains, length, refl, sym, ap, ◌∙◌, subst, ⊎_elim, inl, inr, arith}
use Rattle.std.proofs.lemmas.Bool.{cases_eq}
use Rattle.std.proofs.lemmas.List.{append-nil, length-append, length-drop}
use Rattle.ng_lists.specs.Rings.{ring_of}
use Rattle.ng_lists.proofs.MemberLemmas.{Contains-first}
use Rattle.ng_mapper.specs.Runs as mapper
use Rattle.ng_mapper.specs.declared.refusals.Refusals.{Refusals}
use Rattle.ng_policy.specs.declared.ask.Ask.{Ask}
use Rattle.ng_serve.specs.Reads.{AllBare, IsBareIn}
use Rattle.ng_serve.proofs.Readings.{all_then}
use Rattle.ng_shelf.specs.Stock.{Stock, free_of, metas_of}
use Rattle.ng_supply.specs.Metas.{FindsMeta, TakesNext, TakesOfArea, area_run}
use Rattle.ng_supply.specs.Runs.{RefusesRun}
use Rattle.ng_view.specs.Lists.{Among}
use Rattle.ng_view.specs.declared.view.Group.{Group}
use Rattle.ng_view.specs.declared.view.Run.{Run}
use Rattle.ng_view.specs.declared.view.Start.{Start}
use Rattle.ng_view.specs.declared.view.View.{View}
use Rattle.ng_ledger.specs.Rings.{IsIn}
use Rattle.ng_ledger.specs.Runs.{areas_in}
use Rattle.ng_group.specs.Asking.{GetsSlot, IsWalked, LeavesHeap, RefusedWanted, Want, group_runs}
use Rattle.ng_group.specs.Serving.{FindsNoSlot, IsServedBy, OnlyRing}
use Rattle.ng_group.specs.States.{State}
use Rattle.ng_group.specs.Steps.{Came}
use Rattle.ng_group.proofs.WantLemmas.{Seeks, TakesArea, TakesFree, area_first, bare_left, came_on, runs_of}

-- ---- the core, seen by its parts
pub only_inside : {M P : Type 0} (class : ℕ) (s inside found : State M P) → inside ≡ found → OnlyRing class s found → OnlyRing class s inside
only_inside {M = M} {P = P} class s inside found same only = subst (λ (x : State M P). OnlyRing class s x) (sym same) only

pub none_inside : {M P : Type 0} (class : ℕ) (s inside found : State M P) → inside ≡ found → FindsNoSlot class s found → FindsNoSlot class s inside
none_inside {M = M} {P = P} class s inside found same none = subst (λ (x : State M P). FindsNoSlot class s x) (sym same) none

-- ---- words that were read at a note
pub one_zero : (found : ℕ) → AllBare ((0, found) ∷ [])
one_zero found word (inl same) = inl (ap (λ (x : ℕ × ℕ). x.0) same)
one_zero found word (inr none) = absurd none

two_zero : (first second : ℕ) → AllBare ((0, first) ∷ (0, second) ∷ [])
two_zero first second word (inl same) = inl (ap (λ (x : ℕ × ℕ). x.0) same)
two_zero first second word (inr rest) = one_zero second word rest

-- of a meta that was found only where an area came
pub supply_came : (start : Start) (live live' : List mapper.Run) (v : View) (kept : Stock) (meta : ℕ) (w : View) (stock : Stock)
    → FindsMeta start v live kept meta w live' stock → (came : Came v w) × AllBare came.words
supply_came start live live' v kept meta w stock finds = ⊎_elim
    (λ (next : TakesNext v live kept meta w live' stock). (
      record { words = []; readings = ap (λ (x : View). x.readings) next.seat ∙ sym (append-nil v.readings) },
      λ word there. absurd there,
    ))
    (λ (of : TakesOfArea start v live kept meta w live' stock). (
      record { words = (0, of.adds.reads.0) ∷ (0, of.adds.reads.1) ∷ []; readings = of.adds.reads.2 },
      two_zero of.adds.reads.0 of.adds.reads.1,
    ))
    finds.source

-- ---- the ring served the call
pub gets_served : {M P : Type 0} (counts : Ask → ℕ → Type 0) (s after : State M P) (class bytes : ℕ) → OnlyRing class s after → IsServedBy class s after → GetsSlot counts s after class bytes
gets_served {M = M} {P = P} counts s after class bytes only served = record {
  early = [];
  late = served.came.words;
  readings = served.came.readings;
  all = λ word there. absurd there;
  new_runs = [];
  runs_are = runs;
  runs = λ r there. inl (subst (λ (rs : List Run). Among r rs) runs there);
  one_area = inl (ap areas_in runs);
  new_groups = [];
  groups_are = ap (λ (v : View). v.desk.groups) only.view;
  groups = λ g there. inl (subst (λ (gs : List Group). Among g gs) (ap (λ (v : View). v.desk.groups) only.view) there);
  rising = tt;
  source = inl (record {
    sought = class;
    is_sought = inl refl;
    above = omega arith;
    serves = served.serves;
    runs = ap group_runs runs;
    counter = ap (λ (x : State M P). x.counter) only.state;
  });
}
  where
    runs : after.seat.desk.layout.runs ≡ s.seat.desk.layout.runs
    runs = ap (λ (v : View). v.desk.layout.runs) only.view

-- ---- the rings after a search
module _ {M P : Type 0} (class : ℕ) (s mid : State M P) (sought : Seeks class s mid) where
  -- the ring of the class
  pub walked_here : (words : List (ℕ × ℕ)) (ring : List ℕ) → ((m : ℕ) → IsBareIn sought.came.words m → IsBareIn words m) → ring ≡ ring_of mid.rings class → IsWalked words (ring_of s.rings class) ring
  walked_here words ring more same = ⊎_elim
      (λ (stays : ring_of mid.rings class ≡ ring_of s.rings class). inl (same ∙ stays))
      (λ (left : (first : ℕ) × (ring_of s.rings class ≡ first ∷ ring_of mid.rings class)).
      inr (left.0, left.1 ∙ ap (λ (rest : List ℕ). left.0 ∷ rest) (sym same), more left.0 (sought.read left.0 (first left.0 left.1))))
      sought.left
    where
      first : (m : ℕ) → ring_of s.rings class ≡ m ∷ ring_of mid.rings class → IsIn s.rings class m
      first m is = subst (λ (xs : List ℕ). Contains xs m) (sym is) (Contains-first (m ∷ ring_of mid.rings class) m refl)

  pub walked : (k : ℕ) → IsWalked sought.came.words (ring_of s.rings k) (ring_of mid.rings k)
  walked k = ⊎_elim
      (λ (same : k ≡ class). subst (λ n. IsWalked sought.came.words (ring_of s.rings n) (ring_of mid.rings n)) (sym same) (walked_here sought.came.words (ring_of mid.rings class) (λ m bare. bare) refl))
      (λ (apart : k ≢ class). inl (sought.rings k apart))
      (cases_eq k class)

-- ---- the ring didn't, and the seat went on from there
pub seeks : {M P : Type 0} (class : ℕ) (s found : State M P) (w : View) (stock : Stock) (m : M)
    → OnlyRing class s found → FindsNoSlot class s found → (came : Came found.seat w) → AllBare came.words → w.desk.groups ≡ found.seat.desk.groups → w.desk.layout.nests ≡ found.seat.desk.layout.nests
    → Seeks class s (record found { seat = w; stock = stock; mapper = m })
seeks {M = M} {P = P} class s found w stock m only none came bare groups nests = record {
  came = came_on s.seat found.seat w none.came came;
  all = all_then none.came.words came.words none.all bare;
  read = λ m in'. bare_left none.came.words came.words m (none.read m in');
  left = none.left;
  rings = only.rings;
  groups = groups ∙ ap (λ (v : View). v.desk.groups) only.view;
  nests = nests ∙ ap (λ (v : View). v.desk.layout.nests) only.view;
  usage = ap (λ (x : State M P). x.usage) only.state;
  bounces = none.bounces;
  counter = ap (λ (x : State M P). x.counter) only.state;
}

module _ {M P : Type 0} (class : ℕ) (s found : State M P) (only : OnlyRing class s found) where
  same_stock : found.stock ≡ s.stock
  same_stock = ap (λ (x : State M P). x.stock) only.state

  same_runs : runs_of found ≡ runs_of s
  same_runs = ap (λ (v : View). v.desk.layout.runs) only.view

  -- a meta was found
  module _ (start : Start) (live live' : List mapper.Run) (meta : ℕ) (w : View) (stock : Stock) (m : M) (finds : FindsMeta start found.seat live found.stock meta w live' stock) where
    abbrev mid : State M P
    mid = record found { seat = w; stock = stock; mapper = m }

    takes_free : TakesNext found.seat live found.stock meta w live' stock → TakesFree s mid
    takes_free next = record {
      runs = ap (λ (v : View). v.desk.layout.runs) next.seat ∙ same_runs;
      free =
          let rest : length (free_of stock) ≡ length (free_of found.stock) - 1 = ap (λ (xs : List ℕ). length xs) next.next.rest ∙ length-drop 1 (free_of found.stock) in
          let same : length (free_of found.stock) ≡ length (free_of s.stock) = ap (λ (x : Stock). length (free_of x)) same_stock in
          omega (arith, rest, same);
    }

    takes_area : TakesOfArea start found.seat live found.stock meta w live' stock → TakesArea s mid
    takes_area of = record {
      run = area_run of.area;
      area = refl;
      page = refl;
      runs = ap (λ (v : View). v.desk.layout.runs) of.adds.view.view ∙ ap (λ (rs : List Run). area_run of.area ∷ rs) same_runs;
      none = ap free_of (sym same_stock) ∙ of.none;
      free =
          let rest : length (free_of stock) ≡ length (free_of of.with_metas) - 1 = ap (λ (xs : List ℕ). length xs) of.next.rest ∙ length-drop 1 (free_of of.with_metas) in
          let metas : length (free_of of.with_metas) ≡ length (found.stock.returned ++ metas_of of.area) = ap (λ (x : Stock). length (free_of x)) of.adds.stock in
          let all : length (found.stock.returned ++ metas_of of.area) ≡ length found.stock.returned + 101 = length-append found.stock.returned (metas_of of.area) in
          omega (arith, rest, metas, all);
    }

    pub takes : TakesFree s mid ⊎ TakesArea s mid
    takes = ⊎_elim
        (λ (next : TakesNext found.seat live found.stock meta w live' stock). inl (takes_free next))
        (λ (of : TakesOfArea start found.seat live found.stock meta w live' stock). inr (takes_area of))
        finds.source

    pub found_seeks : FindsNoSlot class s found → Seeks class s mid
    found_seeks none =
        let came = supply_came start live live' found.seat found.stock meta w stock finds in
        seeks class s found w stock m only none came.0 came.1
        (ap (λ (v : View). v.desk.groups) finds.view.view)
        (ap (λ (v : View). v.desk.layout.nests) finds.view.view)

  -- an area was refused
  module _ (before now : Refusals) (number : ℕ) (w : View) (stock : Stock) (m : M) (refuses : RefusesRun found.seat before now 1 number w) (none : FindsNoSlot class s found) where
    refused_seeks : Seeks class s (record found { seat = w; stock = stock; mapper = m })
    refused_seeks = seeks class s found w stock m only none
        (record { words = (0, refuses.note.found) ∷ []; readings = ap (λ (v : View). v.readings) refuses.note.view })
        (one_zero refuses.note.found)
        (ap (λ (v : View). v.desk.groups) refuses.note.view)
        (ap (λ (v : View). v.desk.layout.nests) refuses.note.view)

    refused_runs : runs_of (record found { seat = w; stock = stock; mapper = m }) ≡ runs_of s
    refused_runs = ap (λ (v : View). v.desk.layout.runs) refuses.note.view ∙ same_runs

    -- a group is wanted, and no meta was free
    pub area_cause : (counts : Ask → ℕ → Type 0) (bytes pages : ℕ) → pages ≡ now.last → free_of found.stock ≡ [] → RefusedWanted counts s (record found { seat = w; stock = stock; mapper = m }) class bytes pages
    area_cause counts bytes pages last empty = record {
      came = refused_seeks.came;
      one_area = inl (ap areas_in refused_runs);
      cause = inl (
        last ∙ refuses.asked.last,
        ap areas_in refused_runs,
        refused_seeks.bounces,
        area_first counts s (record found { seat = w; stock = stock; mapper = m }) class bytes refused_seeks want refl refl refused_seeks.came.words (λ m bare. bare) (ap free_of (sym same_stock) ∙ empty),
      );
    }
      where
        want : Want
        want = record { class = class; bytes = bytes; ask = record { class = class; usage = 0; near = 0; bouncing = false }; count = 0 }

    pub area_leaves : LeavesHeap s (record found { seat = w; stock = stock; mapper = m })
    area_leaves = record {
      came = refused_seeks.came;
      all = refused_seeks.all;
      groups = refused_seeks.groups;
      nests = refused_seeks.nests;
      usage = refused_seeks.usage;
      counter = refused_seeks.counter;
      rings = λ k known. walked class s (record found { seat = w; stock = stock; mapper = m }) refused_seeks k;
      runs = inl refused_runs;
    }
