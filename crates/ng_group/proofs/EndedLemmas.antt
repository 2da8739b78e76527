-- A group is no more, whose slots were all in the seat: what stands then, and what is in hand.
use Rattle.std.proofs.Common.{◌≡◌, ◌≢◌, ℕ, ◌+◌, ◌*◌, ◌<◌, List, Contains, refl, sym, ◌∙◌, subst, ⊎_elim, inl, inr, arith}
use Rattle.ng_rule.proofs.geometry.Lists.{run_was}
use Rattle.ng_meta.specs.Place.{IsMetaPlace}
use Rattle.ng_mapper.specs.Mapping.{AreLaid, IsSpan, NotesNone, Span}
use Rattle.ng_mapper.specs.Runs as mapper
use Rattle.ng_mapper.specs.declared.refusals.Refusals.{Refusals}
use Rattle.ng_mapper.proofs.LaidLemmas.{lies-contained}
use Rattle.ng_lists.specs.Rings.{IsListed}
use Rattle.ng_shelf.specs.Stock.{free_of}
use Rattle.ng_view.specs.Groups.{HasAllSlots}
use Rattle.ng_view.specs.Notes.{plain_run}
use Rattle.ng_view.specs.Layouts.{InArea}
use Rattle.ng_view.specs.Lists.{Among}
use Rattle.ng_view.specs.LockSteps.{groups_but, retired_nested, runs_but}
use Rattle.ng_view.specs.declared.view.Held.{Held}
use Rattle.ng_view.specs.declared.view.Layout.{Layout}
use Rattle.ng_view.specs.declared.view.Start.{Start}
use Rattle.ng_view.specs.declared.view.Store.{Store}
use Rattle.ng_view.specs.declared.view.View.{View}
use Rattle.ng_build.specs.Areas.{without_run}
use Rattle.ng_build.specs.Cells.{knowing}
use Rattle.ng_ledger.specs.Groups.{IsUnborn}
use Rattle.ng_ledger.specs.Metas.{AreFree, IsBlankMeta, Keeps}
use Rattle.ng_ledger.specs.Runs.{AreMapped, AreServed, AreServedBut, HasRun}
use Rattle.ng_ledger.specs.Standing.{Ledger}
use Rattle.ng_ledger.specs.Usage.{AreUsed}
use Rattle.ng_ledger.proofs.AreaLemmas.{KeepsAreas, area_at_stays, area_stays, areas_gone, areas_less}
use Rattle.ng_ledger.proofs.CarrierLemmas.{carried_less, nested_less}
use Rattle.ng_ledger.proofs.FoundedLemmas.{founded_gone, founded_less, none_left}
use Rattle.ng_ledger.proofs.GroupLemmas.{drop_group, unborn_before, unborn_dropped, unborn_stays}
use Rattle.ng_ledger.proofs.MetaLemmas.{area_places, blank_kept, free_kept_meta, free_kept_run, free_moved, free_retired, of_areas_moved, of_areas_retired, places_apart}
use Rattle.ng_ledger.proofs.RingLemmas.{retire}
use Rattle.ng_ledger.proofs.RunLemmas.{area_apart, mapped_gone}
use Rattle.ng_ledger.proofs.ServedLemmas.{served_gone, served_nested_less, served_run_less}
use Rattle.ng_group.specs.Returning.{ComesInHand, HasWhole}
use Rattle.ng_group.specs.States.{IsWorking}

-- where a live group has all of its slots in the seat, the seat may end it
pub all_slots : (v : View) (meta : ℕ) → HasWhole v meta → HasAllSlots v meta
all_slots v meta whole = record { live = record { group = whole.group; there = whole.there; of_meta = whole.of_meta }; each = whole.each }

module _ (start : Start) (span : Span) (live : List mapper.Run) (refused : Refusals) (l : Ledger) (works : IsWorking start span live refused l) (meta : ℕ) (whole : HasWhole l.seat meta) where
  -- the meta of the group is one of an area, and none of the free ones
  pub whole_place : IsMetaPlace meta start.pages
  whole_place = subst (λ m. IsMetaPlace m start.pages) whole.of_meta (works.stands.groups.each whole.group whole.there).place

  not_free : ¬ Contains (free_of l.stock) meta
  not_free in' = (works.stands.free meta in').unborn whole.group whole.there whole.of_meta

  pub whole_area : InArea l.seat.desk.layout meta
  whole_area = subst (InArea l.seat.desk.layout) whole.of_meta (works.stands.of_areas whole.group whole.there)

  -- the free metas are as before once it is cleared
  free_cleared : (cells : List (ℕ × ℕ)) → Keeps l.seat.desk.cells cells meta (meta + 40) → AreFree start.pages l.seat.desk.layout l.seat.desk.groups cells (free_of l.stock)
  free_cleared cells kept = free_kept_meta start.pages l.seat.desk.layout l.seat.desk.groups l.seat.desk.cells (free_of l.stock) works.stands.free cells meta kept whole_place not_free

  -- what is in hand once the group is no more
  comes_in_hand : (after : Ledger) → after.seat.desk.groups ≡ groups_but meta l.seat.desk.groups → free_of after.stock ≡ free_of l.stock
      → KeepsAreas l.seat.desk.layout.runs after.seat.desk.layout.runs → KeepsAreas after.seat.desk.layout.runs l.seat.desk.layout.runs
      → IsBlankMeta after.seat.desk.cells meta
      → ((m : ℕ) → m ≢ meta → InArea l.seat.desk.layout m → IsBlankMeta l.seat.desk.cells m → IsBlankMeta after.seat.desk.cells m)
      → ComesInHand meta l after
  comes_in_hand after groups free stay were clear blanks = record {
    unborn = unborn;
    here = record { area = area_stays l.seat.desk.layout after.seat.desk.layout meta stay whole_area; unborn = unborn; taken = subst (λ f. ¬ Contains f meta) (sym free) not_free };
    clear = clear;
    none_more = λ m apart hand. record {
      area = area_stays after.seat.desk.layout l.seat.desk.layout m were hand.area;
      unborn = unborn_before l.seat.desk.groups meta m (subst (λ gs. IsUnborn gs m) groups hand.unborn) apart;
      taken = subst (λ f. ¬ Contains f m) free hand.taken;
    };
    none_less = λ m hand. record {
      area = area_stays l.seat.desk.layout after.seat.desk.layout m stay hand.area;
      unborn = subst (λ gs. IsUnborn gs m) (sym groups) (unborn_stays l.seat.desk.groups meta m hand.unborn);
      taken = subst (λ f. ¬ Contains f m) (sym free) hand.taken;
    };
    blank = λ m hand known. blanks m (λ same. hand.unborn whole.group whole.there (whole.of_meta ∙ sym same)) hand.area known;
  }
    where
      unborn : IsUnborn after.seat.desk.groups meta
      unborn = subst (λ gs. IsUnborn gs meta) (sym groups) (unborn_dropped l.seat.desk.groups meta)

  -- the metas of areas are metas of the space
  area_place : AreLaid span live → IsSpan span → (m : ℕ) → InArea l.seat.desk.layout m → IsMetaPlace m start.pages
  area_place laid bounded m area =
      let lies = lies-contained span live laid (area.run.addr, area.run.pages) (works.stands.mapped.mapped area.run area.noted) in
      area_places start.pages area.run.addr m lies.aligned (omega (arith, lies.above, bounded.above_first)) (omega (arith, lies.below, lies.some, bounded.inside, works.space.size)) (record { number = area.number; below = area.below; place = area.place })

  -- the other metas of areas stay known to be 0 as this one is cleared
  others_clear : AreLaid span live → IsSpan span → (cells : List (ℕ × ℕ)) → Keeps l.seat.desk.cells cells meta (meta + 40) → (m : ℕ) → m ≢ meta → InArea l.seat.desk.layout m → IsBlankMeta l.seat.desk.cells m → IsBlankMeta cells m
  others_clear laid bounded cells kept m apart area = blank_kept l.seat.desk.cells cells meta (meta + 40) m kept (places_apart start.pages m meta (area_place laid bounded m area) whole_place apart)

  -- ---- a group in a slot
  module _ (nested : whole.group.maplen ≡ 0) (absent : ¬ IsListed l.rings meta) (w : View) (cells readings : List (ℕ × ℕ)) (held : List Held) (stores : List Store) (usage : List ℕ) (is : w ≡ record (knowing (retired_nested l.seat meta) cells readings) { held = held; stores = stores }) (kept : Keeps l.seat.desk.cells cells meta (meta + 40)) where
    pub nested_works : AreUsed (groups_but meta l.seat.desk.groups) usage → IsWorking start span live refused (record l { seat = w; usage = usage })
    nested_works used = subst (λ (x : View). IsWorking start span live refused (record l { seat = x; usage = usage })) (sym is) (record {
      space = record { lower = works.space.lower; upper = works.space.upper; size = works.space.size; rings = works.space.rings; stock = works.space.stock; parents = works.space.parents };
      stands = record {
        groups = drop_group start.pages l.seat.desk.groups meta works.stands.groups;
        ringed = retire l.seat.desk.groups l.seat.desk.listed l.seat.desk.zero_avail l.rings meta absent works.stands.ringed;
        free = free_moved start.pages l.seat.desk.layout (groups_but meta l.seat.desk.groups) cells (free_of l.stock)
            (free_retired start.pages l.seat.desk.layout l.seat.desk.groups cells (free_of l.stock) (free_cleared cells kept) meta)
            (retired_nested l.seat meta).desk.layout (λ m area. area_stays l.seat.desk.layout (retired_nested l.seat meta).desk.layout m (λ q t area. t) area);
        of_areas = of_areas_moved l.seat.desk.layout (retired_nested l.seat meta).desk.layout (groups_but meta l.seat.desk.groups) (λ m area. area_stays l.seat.desk.layout (retired_nested l.seat meta).desk.layout m (λ q t area. t) area)
            (of_areas_retired l.seat.desk.layout l.seat.desk.groups meta works.stands.of_areas);
        area = works.stands.area;
        mapped = works.stands.mapped;
        served = subst (λ m. AreServed l.seat.desk.layout.runs (groups_but m l.seat.desk.groups)) whole.of_meta (served_nested_less start.pages l.seat.desk.layout.runs l.seat.desk.groups whole.group works.stands.groups whole.there works.stands.served nested);
        founded = founded_less l.seat.desk.layout.runs l.seat.desk.groups works.stands.founded meta;
        used = used;
        nested = nested_less l.seat.desk.groups l.seat.desk.layout.nests meta works.stands.nested;
        carried = carried_less l.seat.desk.layout.nests l.parents meta works.stands.carried;
      };
      followed = works.followed;
      counted = works.counted;
      leads = works.leads;
      bookless = works.bookless;
    })

    pub nested_hand : AreLaid span live → IsSpan span → IsBlankMeta cells meta → ComesInHand meta l (record l { seat = w; usage = usage })
    nested_hand laid bounded clear = subst (λ (x : View). ComesInHand meta l (record l { seat = x; usage = usage })) (sym is)
        (comes_in_hand (record l { seat = record (knowing (retired_nested l.seat meta) cells readings) { held = held; stores = stores }; usage = usage }) refl refl (λ q t area. t) (λ q t area. t) clear (others_clear laid bounded cells kept))

  -- ---- a group on a run
  module _ (paged : 0 < whole.group.maplen) (laid : AreLaid span live) where
    its_run : Among (plain_run whole.group.base whole.group.maplen) l.seat.desk.layout.runs
    its_run = works.stands.founded.runs whole.group whole.there paged

    pub run_mapped : Contains live (whole.group.base, whole.group.maplen)
    run_mapped = works.stands.mapped.mapped (plain_run whole.group.base whole.group.maplen) its_run

    pub run_lies : mapper.LiesIn span.lower span.upper (whole.group.base, whole.group.maplen)
    run_lies = lies-contained span live laid (whole.group.base, whole.group.maplen) run_mapped

    abbrev run_layout : Layout
    run_layout = record { runs = runs_but whole.group.base l.seat.desk.layout.runs; nests = (retired_nested l.seat meta).desk.layout.nests }

    areas_stay : KeepsAreas l.seat.desk.layout.runs (runs_but whole.group.base l.seat.desk.layout.runs)
    areas_stay = areas_gone (plain_run whole.group.base whole.group.maplen) l.seat.desk.layout.runs its_run works.stands.mapped.once refl

    module _ (live' : List mapper.Run) (removes : mapper.RemovesRun live live' (whole.group.base, whole.group.maplen)) where
      pub mapped_left : AreMapped (runs_but whole.group.base l.seat.desk.layout.runs) live'
      mapped_left = mapped_gone span l.seat.desk.layout.runs live live' (plain_run whole.group.base whole.group.maplen) laid works.stands.mapped its_run removes

      -- the run is live no more
      pub run_gone : ¬ Contains live' (whole.group.base, whole.group.maplen)
      run_gone in' =
          let left = mapped_left.known whole.group.base whole.group.maplen in' in
          (run_was whole.group.base l.seat.desk.layout.runs left.run left.there).1 left.begins

      module _ (absent : ¬ IsListed l.rings meta) (w : View) (between cells readings : List (ℕ × ℕ)) (usage : List ℕ) (is : w ≡ knowing (without_run (retired_nested l.seat meta) whole.group.base) cells readings)
          (kept : Keeps l.seat.desk.cells between meta (meta + 40)) (kept_run : Keeps between cells whole.group.base (whole.group.base + 4096 * whole.group.maplen)) where
        pub run_works : (span' : Span) (refused' : Refusals) → span' ≡ span → NotesNone refused refused' → AreUsed (groups_but meta l.seat.desk.groups) usage → IsWorking start span' live' refused' (record l { seat = w; usage = usage })
        run_works span' refused' span_is calm used = subst (λ (x : View). IsWorking start span' live' refused' (record l { seat = x; usage = usage })) (sym is)
            (subst (λ (s : Span). IsWorking start s live' refused' (record l { seat = knowing (without_run (retired_nested l.seat meta) whole.group.base) cells readings; usage = usage })) (sym span_is)
            (record {
              space = record { lower = works.space.lower; upper = works.space.upper; size = works.space.size; rings = works.space.rings; stock = works.space.stock; parents = works.space.parents };
              stands = record {
                groups = drop_group start.pages l.seat.desk.groups meta works.stands.groups;
                ringed = retire l.seat.desk.groups l.seat.desk.listed l.seat.desk.zero_avail l.rings meta absent works.stands.ringed;
                free = free_moved start.pages l.seat.desk.layout (groups_but meta l.seat.desk.groups) cells (free_of l.stock)
                    (free_kept_run start.pages l.seat.desk.layout (groups_but meta l.seat.desk.groups) between (free_of l.stock)
                    (free_retired start.pages l.seat.desk.layout l.seat.desk.groups between (free_of l.stock) (free_cleared between kept) meta)
                    cells span live (plain_run whole.group.base whole.group.maplen) laid works.stands.mapped its_run refl kept_run)
                    run_layout (λ m area. area_stays l.seat.desk.layout run_layout m areas_stay area);
                of_areas = of_areas_moved l.seat.desk.layout run_layout (groups_but meta l.seat.desk.groups) (λ m area. area_stays l.seat.desk.layout run_layout m areas_stay area)
                    (of_areas_retired l.seat.desk.layout l.seat.desk.groups meta works.stands.of_areas);
                area = ⊎_elim (λ none. inl none) (λ at. inr (area_at_stays l.seat.desk.layout.runs (runs_but whole.group.base l.seat.desk.layout.runs) l.stock.area areas_stay at)) works.stands.area;
                mapped = mapped_left;
                served = served_gone whole.group.base l.seat.desk.layout.runs (groups_but meta l.seat.desk.groups)
                    (subst (λ m. AreServedBut whole.group.base l.seat.desk.layout.runs (groups_but m l.seat.desk.groups)) whole.of_meta (served_run_less start.pages l.seat.desk.layout.runs l.seat.desk.groups whole.group works.stands.groups whole.there works.stands.served));
                founded = founded_gone l.seat.desk.layout.runs (groups_but meta l.seat.desk.groups) (founded_less l.seat.desk.layout.runs l.seat.desk.groups works.stands.founded meta) whole.group.base
                    (subst (λ m. ¬ HasRun (groups_but m l.seat.desk.groups) whole.group.base) whole.of_meta (none_left l.seat.desk.layout.runs l.seat.desk.groups works.stands.founded whole.group whole.there paged));
                used = used;
                nested = nested_less l.seat.desk.groups l.seat.desk.layout.nests meta works.stands.nested;
                carried = carried_less l.seat.desk.layout.nests l.parents meta works.stands.carried;
              };
              followed = works.followed;
              counted = omega (arith, works.counted, calm.later);
              leads = works.leads;
              bookless = works.bookless;
            }))

        -- the metas of areas are apart from the run
        run_clear : (m : ℕ) → InArea l.seat.desk.layout m → IsBlankMeta between m → IsBlankMeta cells m
        run_clear m area = blank_kept between cells whole.group.base (whole.group.base + 4096 * whole.group.maplen) m kept_run
            (area_apart span l.seat.desk.layout.runs live laid works.stands.mapped l.seat.desk.layout m refl area (plain_run whole.group.base whole.group.maplen) its_run refl)

        pub run_hand : IsSpan span → IsBlankMeta between meta → ComesInHand meta l (record l { seat = w; usage = usage })
        run_hand bounded clear = subst (λ (x : View). ComesInHand meta l (record l { seat = x; usage = usage })) (sym is)
            (comes_in_hand (record l { seat = knowing (without_run (retired_nested l.seat meta) whole.group.base) cells readings; usage = usage }) refl refl areas_stay (areas_less whole.group.base l.seat.desk.layout.runs)
            (run_clear meta whole_area clear)
            (λ m apart area known. run_clear m area (others_clear laid bounded between kept m apart area known)))
