-- The next meta of the stock is taken.
use Rattle.std.proofs.Common.{◌≡◌, ◌≢◌, ◌⊎◌, ℕ, ◌+◌, List, [], ◌∷◌, Contains, refl, sym, ap, subst, ◌∙◌, inl, inr, arith}
use Rattle.std.proofs.lemmas.List.{append-nil}
use Rattle.std.proofs.lemmas.List.Elements.{Contains-append_right}
use Rattle.ng_meta.specs.Place.{meta_place}
use Rattle.ng_mapper.specs.Runs as mapper
use Rattle.ng_shelf.specs.Stock.{Stock, free_of, metas_of}
use Rattle.ng_view.specs.Layouts.{InArea, IsAreaAt}
use Rattle.ng_view.specs.Lists.{Among}
use Rattle.ng_view.specs.LockSteps.{runs_but}
use Rattle.ng_view.specs.declared.view.Run.{Run}
use Rattle.ng_view.specs.declared.view.Start.{Start}
use Rattle.ng_view.specs.declared.view.View.{View}
use Rattle.ng_view.specs.Notes.{plain_run}
use Rattle.ng_build.specs.Areas.{with_runs}
use Rattle.ng_build.specs.Cells.{OnlyCells}
use Rattle.ng_ledger.specs.Metas.{IsInHand}
use Rattle.ng_ledger.proofs.AreaLemmas.{KeepsAreas, area_stays, areas_more}
use Rattle.ng_ledger.proofs.HandLemmas.{hand_area_more, hand_area_was, hand_taken_more, hand_taken_other}
use Rattle.ng_ledger.proofs.MetaLemmas.{area_contains, blank_kept, free_left, free_taken}
use Rattle.ng_supply.specs.Metas.{AddsArea, FindsMeta, IsHeapStock, IsNext, area_run}
use Rattle.ng_supply.proofs.AreaLemmas.{area_apart, runs_none}

-- a stock with a new area has a meta
pub some_metas : (s s' : Stock) (a : ℕ) → s' ≡ record s { unused = metas_of a; area = a } → free_of s' ≢ []
some_metas s s' a stock none = nothing (subst (λ xs. Contains xs (meta_place a 0)) (ap free_of (sym stock) ∙ none) (Contains-append_right s.returned (metas_of a) (meta_place a 0) first))
  where
    first : Contains (metas_of a) (meta_place a 0)
    first = area_contains a (meta_place a 0) (record { number = 0; below = omega arith; place = refl })

    nothing : ¬ Contains [] (meta_place a 0)
    nothing (k, within, is) = absurd (omega arith)

module _ (start : Start) (v : View) (s : Stock) (is : IsHeapStock start v s) (m : ℕ) (s' : Stock) (next : IsNext s m s') where
  -- the stock without the meta
  pub stock_left : IsHeapStock start v s'
  stock_left = record {
    pages = next.pages ∙ is.pages;
    free = free_left start.pages v.desk.layout v.desk.groups v.desk.cells (free_of s) is.free (free_of s') next.rest;
    area = subst (λ n. (n ≡ 0) ⊎ IsAreaAt v.desk.layout.runs n) (sym next.area) is.area;
    of_areas = is.of_areas;
    served = is.served;
  }

  hand : IsInHand v.desk.layout v.desk.groups (free_of s') m
  hand =
      let free = free_taken start.pages v.desk.layout v.desk.groups v.desk.cells (free_of s) is.free m next.first in
      record { area = free.area; unborn = free.unborn; taken = next.gone }

  pub finds_next : (live : List mapper.Run) → FindsMeta start v live s m v live s'
  finds_next live = record {
    view = record { view = refl; came = []; readings = sym (append-nil v.readings) };
    source = inl (record { next = next; seat = refl; runs = refl });
    free = free_taken start.pages v.desk.layout v.desk.groups v.desk.cells (free_of s) is.free m next.first;
    hand = record {
      taken = hand;
      none_more = λ n in' other. hand_taken_other v.desk.layout v.desk.groups (free_of s) (free_of s') m n next.first next.rest in' other;
      none_less = λ n in'. hand_taken_more v.desk.layout v.desk.groups (free_of s) (free_of s') n next.rest in';
      blank = λ n in' known. known;
    };
  }

module _ (start : Start) (v : View) (live : List mapper.Run) (s : Stock) (a : ℕ) (w : View) (live' : List mapper.Run) (mid : Stock) (adds : AddsArea start v live s a w live' mid) (none : free_of s ≡ []) (none_there : (r : Run) → Among r v.desk.layout.runs → r.addr ≢ a) (is : IsHeapStock start w mid) (m : ℕ) (s' : Stock) (next : IsNext mid m s') where
  runs_are : w.desk.layout.runs ≡ area_run a ∷ v.desk.layout.runs
  runs_are = ap (λ (x : View). x.desk.layout.runs) adds.view.view

  groups_are : w.desk.groups ≡ v.desk.groups
  groups_are = ap (λ (x : View). x.desk.groups) adds.view.view

  made : w.desk.layout.runs ≡ area_run a ∷ runs_but a v.desk.layout.runs
  made = runs_are ∙ ap (λ rs. area_run a ∷ rs) (sym (runs_none a v.desk.layout.runs none_there))

  stays : (n : ℕ) → InArea v.desk.layout n → InArea w.desk.layout n
  stays n = area_stays v.desk.layout w.desk.layout n (subst (λ rs. KeepsAreas v.desk.layout.runs rs) (sym runs_are) (areas_more (area_run a) v.desk.layout.runs))

  was : (n : ℕ) → IsInHand w.desk.layout w.desk.groups (free_of mid) n → IsInHand v.desk.layout v.desk.groups (free_of s) n
  was n in' =
      let here : IsInHand w.desk.layout v.desk.groups (free_of (record s { unused = metas_of a; area = a })) n =
      subst (λ gs. IsInHand w.desk.layout gs (free_of (record s { unused = metas_of a; area = a })) n) groups_are (subst (λ (t : Stock). IsInHand w.desk.layout w.desk.groups (free_of t) n) adds.stock in') in
      hand_area_was v.desk.layout v.desk.groups s w.desk.layout (plain_run a 1) made none n here

  still : (n : ℕ) → IsInHand v.desk.layout v.desk.groups (free_of s) n → IsInHand w.desk.layout w.desk.groups (free_of mid) n
  still n in' =
      let there : IsInHand w.desk.layout v.desk.groups (free_of (record s { unused = metas_of a; area = a })) n =
      hand_area_more v.desk.layout v.desk.groups s w.desk.layout (plain_run a 1) made none n (stays n) refl (area_apart start v a n adds.new in'.area) in' in
      subst (λ (t : Stock). IsInHand w.desk.layout w.desk.groups (free_of t) n) (sym adds.stock) (subst (λ gs. IsInHand w.desk.layout gs (free_of (record s { unused = metas_of a; area = a })) n) (sym groups_are) there)

  -- the first meta of a new area is taken
  pub finds_of_area : FindsMeta start v live s m w live' s'
  finds_of_area =
      let taken = finds_next start w mid is m s' next live' in
      record {
        view = subst (λ rs. OnlyCells (with_runs v rs) w) (sym runs_are) adds.view;
        source = inr (record { none = none; area = a; with_metas = mid; adds = adds; next = next });
        free = taken.free;
        hand = record {
          taken = taken.hand.taken;
          none_more = λ n in' other. was n (taken.hand.none_more n in' other);
          none_less = λ n in'. taken.hand.none_less n (still n in');
          blank = λ n in' known. blank_kept v.desk.cells w.desk.cells a (a + 4096) n adds.kept (area_apart start v a n adds.new in'.area) known;
        };
      }
