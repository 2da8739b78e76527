-- What a search for a free meta leaves.
use Rattle.std.proofs.Common.{◌≡◌, ◌⊎◌, ℕ, ◌+◌, ◌*◌, ◌<◌, ◌≤◌, List, [], ◌∷◌, Contains, Some, refl, sym, ap, ◌∙◌, subst, ⊎_elim, inl, inr, arith}
use Rattle.std.specs.List.{slice_get}
use Rattle.ng_mapper.specs.Mapping.{Span}
use Rattle.ng_mapper.specs.Runs as mapper
use Rattle.ng_mapper.specs.declared.refusals.Refusals.{Refusals}
use Rattle.ng_meta.specs.Place.{meta_place}
use Rattle.ng_shelf.specs.Stock.{Stock, free_of, metas_of}
use Rattle.ng_view.specs.Layouts.{InArea}
use Rattle.ng_view.specs.Lists.{Among}
use Rattle.ng_view.specs.declared.view.Run.{Run}
use Rattle.ng_view.specs.declared.view.Start.{Start}
use Rattle.ng_view.specs.declared.view.View.{View}
use Rattle.ng_ledger.specs.Carriers.{AreCarried, AreNested}
use Rattle.ng_ledger.specs.Groups.{AreGroups}
use Rattle.ng_ledger.specs.Rings.{AreRinged, IsBare}
use Rattle.ng_ledger.specs.Runs.{AreFounded}
use Rattle.ng_ledger.specs.Standing.{Ledger}
use Rattle.ng_ledger.specs.Usage.{AreUsed}
use Rattle.ng_ledger.proofs.AreaLemmas.{IsOfArea}
use Rattle.ng_ledger.proofs.ElementLemmas.{contains_get}
use Rattle.ng_ledger.proofs.MetaLemmas.{of_area, stock_area}
use Rattle.ng_supply.specs.Metas.{FindsMeta, IsHeapStock, TakesNext, TakesOfArea}
use Rattle.ng_supply.specs.Runs.{IsHeapMapper, RefusesRun}
use Rattle.ng_group.specs.States.{AreFollowed, IsWorking}
use Rattle.ng_group.specs.Steps.{GoesOn, LeavesBelow}
use Rattle.ng_group.proofs.RecursionLemmas.{Brings}

-- what a search asks
pub heap_mapper : (start : Start) (span : Span) (live : List mapper.Run) (refused : Refusals) (l : Ledger)
    → IsWorking start span live refused l → IsHeapMapper start l.seat span live refused
heap_mapper start span live refused l works = record {
  lower = works.space.lower;
  upper = works.space.upper;
  size = works.space.size;
  mapped = works.stands.mapped;
  counted = works.counted;
}

pub heap_stock : (start : Start) (span : Span) (live : List mapper.Run) (refused : Refusals) (l : Ledger)
    → IsWorking start span live refused l → IsHeapStock start l.seat l.stock
heap_stock start span live refused l works = record {
  pages = works.space.stock;
  free = works.stands.free;
  area = works.stands.area;
  of_areas = works.stands.of_areas;
  served = works.stands.served;
}

-- the view with other runs, known cells, refusals, excuses and readings
abbrev pub with_supply : View → View → View
with_supply v w = record v {
  excuses = w.excuses;
  readings = w.readings;
  desk = record v.desk {
    layout = record { runs = w.desk.layout.runs; nests = v.desk.layout.nests };
    cells = w.desk.cells;
    refusals = w.desk.refusals;
  };
}

founded_more : (start : Start) (v w : View) → ((r : Run) → Among r v.desk.layout.runs → Among r w.desk.layout.runs)
    → AreFounded v.desk.layout.runs v.desk.groups → AreFounded w.desk.layout.runs v.desk.groups
founded_more start v w more founded = record {
  runs = λ g there paged. more _ (founded.runs g there paged);
  alone = founded.alone;
}

-- the books stand after it
pub supplied : (start : Start) (span span' : Span) (live live' : List mapper.Run) (refused refused' : Refusals) (l : Ledger) (w : View) (s : Stock)
    → IsWorking start span live refused l → w ≡ with_supply l.seat w → ((r : Run) → Among r l.seat.desk.layout.runs → Among r w.desk.layout.runs)
    → IsHeapMapper start w span' live' refused' → IsHeapStock start w s
    → IsWorking start span' live' refused' (record l { seat = w; stock = s })
supplied start span span' live live' refused refused' l w s works view more maps stock = record {
  space = record {
    lower = maps.lower;
    upper = maps.upper;
    size = maps.size;
    rings = works.space.rings;
    stock = stock.pages;
    parents = works.space.parents;
  };
  stands = record {
    groups = subst (λ (x : View). AreGroups start.pages x.desk.groups) (sym view) works.stands.groups;
    ringed = subst (λ (x : View). AreRinged x.desk.groups x.desk.listed x.desk.zero_avail l.rings) (sym view) works.stands.ringed;
    free = stock.free;
    of_areas = stock.of_areas;
    area = stock.area;
    mapped = maps.mapped;
    served = stock.served;
    founded = subst (λ (x : View). AreFounded w.desk.layout.runs x.desk.groups) (sym view) (founded_more start l.seat w more works.stands.founded);
    used = subst (λ (x : View). AreUsed x.desk.groups l.usage) (sym view) works.stands.used;
    nested = subst (λ (x : View). AreNested x.desk.groups x.desk.layout.nests) (sym view) works.stands.nested;
    carried = subst (λ (x : View). AreCarried x.desk.layout.nests l.parents) (sym view) works.stands.carried;
  };
  followed = subst (λ (x : View). AreFollowed x.desk.active x.desk.counter l.rings l.counter) (sym view) works.followed;
  counted = maps.counted;
  leads = ap (λ (x : View). x.leads) view ∙ works.leads;
  bookless = ap (λ (x : View). x.books) view ∙ works.bookless;
}

-- the classes below are as before
pub supplied_below : (class : ℕ) (l : Ledger) (w : View) (s : Stock) → w ≡ with_supply l.seat w → LeavesBelow class l (record l { seat = w; stock = s })
supplied_below class l w s view = record {
  rings = λ k below. refl;
  usage = λ k below. refl;
  bare = λ k m below in' noted. subst (λ (x : View). Among m x.desk.zero_avail) (sym view) noted;
}

pub supplied_bare : (class : ℕ) (l : Ledger) (w : View) → w ≡ with_supply l.seat w → IsBare l.seat.desk.zero_avail l.rings class → IsBare w.desk.zero_avail l.rings class
supplied_bare class l w view bare m in' = subst (λ (x : View). Among m x.desk.zero_avail) (sym view) (bare m in')

-- ---- a meta was found
module _ (start : Start) (v : View) (live : List mapper.Run) (s : Stock) (meta : ℕ) (w : View) (live' : List mapper.Run) (s' : Stock) (finds : FindsMeta start v live s meta w live' s') where
  pub found_view : w ≡ with_supply v w
  found_view = subst (λ (x : View). x ≡ with_supply v x) (sym finds.view.view) refl

  pub found_goes : GoesOn v w
  found_goes = record {
    came = record { words = finds.view.came; readings = finds.view.readings };
    next = ap (λ (x : View). x.desk.next) found_view;
  }

  pub found_runs : (r : Run) → Among r v.desk.layout.runs → Among r w.desk.layout.runs
  found_runs r there = ⊎_elim
      (λ (next : TakesNext v live s meta w live' s'). subst (λ (x : View). Among r x.desk.layout.runs) (sym next.seat) there)
      (λ (of : TakesOfArea start v live s meta w live' s'). subst (λ (x : View). Among r x.desk.layout.runs) (sym of.adds.view.view) (inr there))
      finds.source

  apart : ¬ InArea v.desk.layout meta ⊎ Contains (free_of s) meta
  apart = ⊎_elim
      (λ (next : TakesNext v live s meta w live' s'). inr (contains_get (free_of s) meta next.next.first))
      (λ (of : TakesOfArea start v live s meta w live' s'). inl (new_area of))
      finds.source
    where
      new_area : TakesOfArea start v live s meta w live' s' → ¬ InArea v.desk.layout meta
      new_area of inside =
          let metas : free_of of.with_metas ≡ metas_of of.area = ap free_of of.adds.stock ∙ stock_area s of.area of.none in
          let new : IsOfArea of.area meta = of_area of.area meta (contains_get (metas_of of.area) meta (subst (λ (xs : List ℕ). slice_get xs 0 ≡ Some meta) metas of.next.first)) in
          let low : inside.run.addr ≤ meta = (let p = inside.place in omega arith) in
          let high : meta < inside.run.addr + 4096 * inside.run.pages = (let p = inside.place in let b = inside.below in let one = inside.page in omega arith) in
          let p : meta ≡ meta_place of.area new.number = new.place in
          let b : new.number < 101 = new.below in
          ⊎_elim (λ (before : meta < of.area). omega (arith, p, before)) (λ (after : of.area + 4096 * 1 ≤ meta). omega (arith, p, b, after)) (of.adds.new.apart inside.run meta inside.noted (low, high))

-- it comes in hand
pub found_brings : (start : Start) (live live' : List mapper.Run) (l : Ledger) (meta : ℕ) (w : View) (s : Stock)
    → FindsMeta start l.seat live l.stock meta w live' s → Brings start meta l (record l { seat = w; stock = s })
found_brings start live live' l meta w s finds = record {
  apart = λ hand. ⊎_elim
      (λ (out : ¬ InArea l.seat.desk.layout meta). out hand.area)
      (λ (in' : Contains (free_of l.stock) meta). hand.taken in')
      (apart start l.seat live l.stock meta w live' s finds);
  has = record { free = finds.free; taken = finds.hand.taken.taken };
  none_more = λ m other hand. finds.hand.none_more m hand other;
  none_less = finds.hand.none_less;
  blank = finds.hand.blank;
}

-- ---- a page was refused
module _ (v w : View) (before now : Refusals) (pages number : ℕ) (refuses : RefusesRun v before now pages number w) where
  pub refused_view : w ≡ with_supply v w
  refused_view = subst (λ (x : View). x ≡ with_supply v x) (sym refuses.note.view) refl

  pub refused_runs : (r : Run) → Among r v.desk.layout.runs → Among r w.desk.layout.runs
  refused_runs r there = subst (λ (x : View). Among r x.desk.layout.runs) (sym refuses.note.view) there

  pub refused_goes : GoesOn v w
  refused_goes = record {
    came = record { words = (0, refuses.note.found) ∷ []; readings = ap (λ (x : View). x.readings) refuses.note.view };
    next = ap (λ (x : View). x.desk.next) refuses.note.view;
  }
