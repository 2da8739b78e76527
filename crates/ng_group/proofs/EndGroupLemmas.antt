-- A group has left its ring and is no more: what the steps that end it owe, and what stands then.
use Rattle.std.proofs.Common.{◌≡◌, ℕ, ◌+◌, ◌*◌, ◌%◌, ◌<◌, ◌≤◌, List, [], ◌++◌, Contains, Option, Some, IsSome, refl, sym, ap, ◌∙◌, subst, arith, inr, None}
use Rattle.std.proofs.lemmas.List.{append-nil}
use Rattle.std.proofs.lemmas.Option.{same_Some}
use Rattle.ng_meta.specs.Place.{IsMetaPlace}
use Rattle.ng_mapper.specs.Mapping.{AreLaid, IsSpan, NotesNone, Span}
use Rattle.ng_mapper.specs.Runs as mapper
use Rattle.ng_mapper.specs.declared.refusals.Refusals.{Refusals}
use Rattle.ng_lists.specs.Rings.{IsListed}
use Rattle.ng_policy.specs.Bounce.{Bounces, stamped, stepped}
use Rattle.ng_shelf.specs.Parents.{parent_of}
use Rattle.ng_view.specs.Groups.{IsCarriedIn}
use Rattle.ng_view.specs.Notes.{plain_run}
use Rattle.ng_view.specs.Conditions.{Sees}
use Rattle.ng_view.specs.Lists.{Among, edit}
use Rattle.ng_view.specs.LockSteps.{groups_but, nest_of, retired_nested}
use Rattle.ng_view.specs.declared.view.Group.{Group}
use Rattle.ng_view.specs.declared.view.Start.{Start}
use Rattle.ng_view.specs.declared.view.View.{View}
use Rattle.ng_build.specs.Areas.{without_run}
use Rattle.ng_build.specs.Cells.{IsIdleRun, KeepsOutside, OnlyCells, ReadsWithin, knowing}
use Rattle.ng_build.specs.Nestings.{HasHead, OnlySlot, StoresBefore, recalling}
use Rattle.ng_mask.specs.Fetches.{OfGroup}
use Rattle.ng_ledger.specs.Metas.{IsBlankMeta, Keeps}
use Rattle.ng_ledger.specs.Standing.{KeepsHand, Ledger}
use Rattle.ng_serve.specs.Groups.{Describes}
use Rattle.ng_serve.specs.declared.group.LiveGroup.{LiveGroup}
use Rattle.ng_ledger.proofs.CarrierLemmas.{carrier}
use Rattle.ng_ledger.proofs.GroupLemmas.{groups_were}
use Rattle.ng_group.specs.Ending.{Ends, EndsGroup, LeavesAnyRing}
use Rattle.ng_group.specs.Returning.{ComesInHand, HasReturned, HasWhole, IsAbove}
use Rattle.ng_group.specs.Serving.{OnlyRing}
use Rattle.ng_group.specs.States.{IsWorking, State, Working, ledger_of}
use Rattle.ng_group.specs.Steps.{GoesOn}
use Rattle.ng_group.proofs.EndedLemmas.{nested_hand, nested_works, run_gone, run_hand, run_lies, run_mapped, run_works, whole_place}
use Rattle.ng_group.proofs.SlotBackLemmas.{has_head, is_above, none_back, returned}
use Rattle.ng_group.proofs.WorkingLemmas.{goes_then, only_goes, only_hand}

-- what was told of the group before it left its ring holds of it
pub still_of : {M P : Type 0} (class meta : ℕ) (R : Group → Type 0) (s t : State M P) → OnlyRing class s t → OfGroup s.seat meta R → OfGroup t.seat meta R
still_of class meta R s t only of g there = of g (subst (λ (v : View). Among g v.desk.groups) only.view there)

-- what is in hand once the group has left its ring and is no more
pub comes_then : (meta : ℕ) (before mid after : Ledger) → KeepsHand before mid → ComesInHand meta mid after → ComesInHand meta before after
comes_then meta before mid after first second = record {
  unborn = second.unborn;
  here = second.here;
  clear = second.clear;
  none_more = λ m apart hand. first.none_more m (second.none_more m apart hand);
  none_less = λ m hand. second.none_less m (first.none_less m hand);
  blank = λ m hand known. second.blank m (first.none_less m hand) (first.blank m hand known);
}

-- a group has left its ring and is no more: the state between, and what stood there
pub record Gone {M P : Type 0} (start : Start) (span : M → Span) (runs : M → List mapper.Run) (refused : M → Refusals) (meta : ℕ) (found : LiveGroup) (before after : State M P) : Type 0 where
  pub mid : State M P
  pub only : OnlyRing found.class before mid
  pub works : Working start span runs refused mid
  pub whole : HasWhole mid.seat meta
  pub absent : ¬ IsListed mid.rings meta
  pub ends : EndsGroup meta mid after
  pub is : Describes found whole.group

pub gone : {M P : Type 0} {before mid told after : State M P} (start : Start) (span : M → Span) (runs : M → List mapper.Run) (refused : M → Refusals) (meta : ℕ) (found : LiveGroup)
    → after ≡ told → OnlyRing found.class before mid → Working start span runs refused mid → HasWhole mid.seat meta → ¬ IsListed mid.rings meta → EndsGroup meta mid told → OfGroup before.seat meta (Describes found)
    → Gone start span runs refused meta found before after
gone {M} {P} {before} {mid} {told} {after} start span runs refused meta found same only works whole absent ends of = record {
  mid = mid;
  only = only;
  works = works;
  whole = whole;
  absent = absent;
  ends = subst (λ (s : State M P). EndsGroup meta mid s) (sym same) ends;
  is = still_of found.class meta (Describes found) before mid only of whole.group whole.there whole.of_meta;
}

module _ {M P : Type 0} {start : Start} {span : M → Span} {runs : M → List mapper.Run} {refused : M → Refusals} {meta : ℕ} {found : LiveGroup} {old t : State M P} (e : Gone start span runs refused meta found old t) where
  seat_is : t.seat ≡ knowing (retired_nested e.mid.seat meta) t.seat.desk.cells t.seat.readings
  seat_is = e.ends.cells.view ∙ ap (λ (v : View). knowing v t.seat.desk.cells t.seat.readings) e.ends.retires.view

  kept : Keeps e.mid.seat.desk.cells t.seat.desk.cells meta (meta + 40)
  kept b x outside there = e.ends.kept b x outside (subst (λ (v : View). Sees v b x) (sym e.ends.retires.view) (inr there))

  clear : IsBlankMeta t.seat.desk.cells meta
  clear b low whole4 =
      let place : IsMetaPlace meta start.pages = whole_place start (span e.mid.mapper) (runs e.mid.mapper) (refused e.mid.mapper) (ledger_of e.mid) e.works meta e.whole in
      e.ends.zero (meta + b) (omega (arith, place.stands, whole4)) (omega arith) (omega (arith, low))

  goes : GoesOn old.seat t.seat
  goes = goes_then old.seat e.mid.seat t.seat (only_goes found.class old e.mid e.only) (record {
    came = record { words = e.ends.cells.came; readings = e.ends.cells.readings ∙ ap (λ (v : View). v.readings ++ e.ends.cells.came) e.ends.retires.view };
    next = ap (λ (v : View). v.desk.next) seat_is;
  })

  -- ---- a group on a run
  module _ (paged : 0 < found.maplen) (laid : AreLaid (span e.mid.mapper) (runs e.mid.mapper)) where
    has_pages : 0 < e.whole.group.maplen
    has_pages = subst (λ p. 0 < p) (sym e.is.maplen) paged

    at_group : (R : ℕ → ℕ → Type 0) → R found.base found.maplen → R e.whole.group.base e.whole.group.maplen
    at_group R r = subst (λ b. R b e.whole.group.maplen) (sym e.is.base) (subst (λ p. R found.base p) (sym e.is.maplen) r)

    at_run : (R : ℕ → ℕ → Type 0) → R e.whole.group.base e.whole.group.maplen → R found.base found.maplen
    at_run R r = subst (λ b. R b found.maplen) e.is.base (subst (λ p. R e.whole.group.base p) e.is.maplen r)

    lies : mapper.LiesIn (span e.mid.mapper).lower (span e.mid.mapper).upper (found.base, found.maplen)
    lies = at_run (λ b p. mapper.LiesIn (span e.mid.mapper).lower (span e.mid.mapper).upper (b, p)) (run_lies start (span e.mid.mapper) (runs e.mid.mapper) (refused e.mid.mapper) (ledger_of e.mid) e.works meta e.whole has_pages laid)

    pub run_whole : found.base % 4096 ≡ 0
    run_whole = lies.aligned

    pub run_inside : IsSpan (span e.mid.mapper) → found.base + 4096 * found.maplen ≤ 4096 * start.pages
    run_inside bounded = omega (arith, lies.below, bounded.inside, e.works.space.size)

    -- the run is noted, and no live group begins there
    pub run_idle : IsIdleRun t.seat found.base found.maplen
    run_idle = record {
      noted = subst (λ (v : View). Among (plain_run found.base found.maplen) v.desk.layout.runs) (sym seat_is) (at_run (λ b p. Among (plain_run b p) e.mid.seat.desk.layout.runs) (e.ends.retires.paged e.whole.group e.whole.there e.whole.of_meta has_pages));
      empty = λ h there begins.
          let was = groups_were e.mid.seat.desk.groups meta h (subst (λ (v : View). Among h v.desk.groups) seat_is there) in
          was.1 (ap (λ (x : Group). x.meta) (e.ends.retires.alone e.whole.group h e.whole.there e.whole.of_meta was.0 (begins ∙ sym e.is.base)) ∙ e.whole.of_meta);
    }

    pub run_live : Contains (runs t.mapper) (found.base, found.maplen)
    run_live = subst (λ (x : State M P). Contains (runs x.mapper) (found.base, found.maplen)) (sym e.ends.state)
        (at_run (λ b p. Contains (runs e.mid.mapper) (b, p)) (run_mapped start (span e.mid.mapper) (runs e.mid.mapper) (refused e.mid.mapper) (ledger_of e.mid) e.works meta e.whole has_pages laid))

    module _ (w : View) (only : OnlyCells (without_run t.seat found.base) w) where
      dropped_is : w ≡ knowing (without_run (retired_nested e.mid.seat meta) e.whole.group.base) w.desk.cells w.readings
      dropped_is = only.view ∙ ap (λ (v : View). knowing (without_run v found.base) w.desk.cells w.readings) seat_is ∙ ap (λ b. knowing (without_run (retired_nested e.mid.seat meta) b) w.desk.cells w.readings) (sym e.is.base)

      pub run_held : w.held ≡ []
      run_held = ap (λ (v : View). v.held) dropped_is ∙ none_back start.pages e.mid.seat meta e.works.stands.groups e.whole (e.ends.retires.uncarried e.whole.group e.whole.there e.whole.of_meta has_pages)

      module _ (m' : M) (removes : mapper.RemovesRun (runs t.mapper) (runs m') (found.base, found.maplen)) where
        removed : mapper.RemovesRun (runs e.mid.mapper) (runs m') (e.whole.group.base, e.whole.group.maplen)
        removed = at_group (λ b p. mapper.RemovesRun (runs e.mid.mapper) (runs m') (b, p)) (subst (λ (x : State M P). mapper.RemovesRun (runs x.mapper) (runs m') (found.base, found.maplen)) e.ends.state removes)

        pub run_unmapped : ¬ Contains (runs m') (found.base, found.maplen)
        run_unmapped = at_run (λ b p. ¬ Contains (runs m') (b, p)) (run_gone start (span e.mid.mapper) (runs e.mid.mapper) (refused e.mid.mapper) (ledger_of e.mid) e.works meta e.whole has_pages laid (runs m') removed)

        module _ (apart : KeepsOutside t.seat w found.base (found.base + 4096 * found.maplen)) where
          kept_run : Keeps t.seat.desk.cells w.desk.cells e.whole.group.base (e.whole.group.base + 4096 * e.whole.group.maplen)
          kept_run = at_group (λ b p. Keeps t.seat.desk.cells w.desk.cells b (b + 4096 * p)) apart

          pub run_state : span m' ≡ span t.mapper → NotesNone (refused t.mapper) (refused m') → IsWorking start (span m') (runs m') (refused m') (record (ledger_of t) { seat = w })
          run_state constant calm = subst (λ (x : State M P). IsWorking start (span m') (runs m') (refused m') (record (ledger_of x) { seat = w })) (sym e.ends.state)
              (run_works start (span e.mid.mapper) (runs e.mid.mapper) (refused e.mid.mapper) (ledger_of e.mid) e.works meta e.whole has_pages laid (runs m') removed e.absent w t.seat.desk.cells w.desk.cells w.readings t.usage dropped_is kept kept_run
              (span m') (refused m') (constant ∙ ap (λ (x : State M P). span x.mapper) e.ends.state) (subst (λ (r : Refusals). NotesNone r (refused m')) (ap (λ (x : State M P). refused x.mapper) e.ends.state) calm) e.ends.used)

          pub run_in_hand : IsSpan (span e.mid.mapper) → ComesInHand meta (ledger_of old) (record (ledger_of t) { seat = w })
          run_in_hand bounded = comes_then meta (ledger_of old) (ledger_of e.mid) (record (ledger_of t) { seat = w }) (only_hand found.class old e.mid e.only) (subst (λ (x : State M P). ComesInHand meta (ledger_of e.mid) (record (ledger_of x) { seat = w })) (sym e.ends.state)
              (run_hand start (span e.mid.mapper) (runs e.mid.mapper) (refused e.mid.mapper) (ledger_of e.mid) e.works meta e.whole has_pages laid (runs m') removed e.absent w t.seat.desk.cells w.desk.cells w.readings t.usage dropped_is kept kept_run bounded clear))

  -- ---- a group in a slot
  module _ (pageless : found.maplen ≡ 0) where
    nested : e.whole.group.maplen ≡ 0
    nested = e.is.maplen ∙ pageless

    pub of_slot : IsCarriedIn e.mid.seat e.whole.group
    of_slot = e.ends.retires.carried e.whole.group e.whole.there e.whole.of_meta nested

    parent_is : parent_of t.parents meta ≡ Some (of_slot.nest.place.group.meta, of_slot.nest.place.index)
    parent_is = subst (λ (x : State M P). parent_of x.parents meta ≡ Some (of_slot.nest.place.group.meta, of_slot.nest.place.index)) (sym e.ends.state)
        (carrier e.mid.seat.desk.layout.nests e.mid.parents meta of_slot.nest (subst (λ m. nest_of m e.mid.seat.desk.layout.nests ≡ Some of_slot.nest) e.whole.of_meta of_slot.carries) e.works.stands.carried)

    pub has_parent : IsSome (parent_of t.parents meta)
    has_parent = subst (λ (o : Option (ℕ × ℕ)). IsSome o) (sym parent_is) refl

    module _ (p i : ℕ) (at : parent_of t.parents meta ≡ Some (p, i)) where
      slot_is : ◌≡◌ {A = ℕ × ℕ} (of_slot.nest.place.group.meta, of_slot.nest.place.index) (p, i)
      slot_is = same_Some {A = ℕ × ℕ} (of_slot.nest.place.group.meta, of_slot.nest.place.index) (p, i) (sym parent_is ∙ at)

      meta_is : of_slot.nest.place.group.meta ≡ p
      meta_is = ap (λ (x : ℕ × ℕ). x.0) slot_is

      index_is : of_slot.nest.place.index ≡ i
      index_is = ap (λ (x : ℕ × ℕ). x.1) slot_is

      pub slot_head : HasHead t.seat p i found.base
      slot_head = has_head start.pages e.mid.seat meta e.works.stands.groups e.whole of_slot p i meta_is index_is t.seat found.base (ap (λ (v : View). v.held) seat_is) (sym e.is.base ∙ of_slot.begins) (let fits = of_slot.fits in omega arith)

      module _ (w : View) (only : OnlySlot t.seat p i w) where
        cleared_is : w ≡ record (knowing (retired_nested e.mid.seat meta) t.seat.desk.cells t.seat.readings) { held = edit p i (recalling only.cells) (retired_nested e.mid.seat meta).held; stores = w.stores }
        cleared_is = only.view ∙ ap (λ (v : View). record v { held = edit p i (recalling only.cells) v.held; stores = w.stores }) seat_is

        groups_are : w.desk.groups ≡ groups_but meta e.mid.seat.desk.groups
        groups_are = ap (λ (v : View). v.desk.groups) cleared_is

        pub slot_on : GoesOn old.seat w
        slot_on = goes_then old.seat t.seat w goes (subst (λ (v : View). GoesOn t.seat v) (sym only.view) (record { came = record { words = []; readings = sym (append-nil t.seat.readings) }; next = refl }))

        pub slot_returned : HasReturned w p i
        slot_returned = returned start.pages e.mid.seat meta e.works.stands.groups e.whole of_slot p i meta_is index_is w only.cells (ap (λ (v : View). v.held) cleared_is) groups_are

        pub slot_above : IsAbove found.class w p
        slot_above = is_above start.pages e.mid.seat meta e.works.stands.groups e.whole of_slot p i meta_is index_is w found.class e.is.tag groups_are

        pub slot_state : IsWorking start (span t.mapper) (runs t.mapper) (refused t.mapper) (record (ledger_of t) { seat = w })
        slot_state = subst (λ (x : State M P). IsWorking start (span x.mapper) (runs x.mapper) (refused x.mapper) (record (ledger_of x) { seat = w })) (sym e.ends.state)
            (nested_works start (span e.mid.mapper) (runs e.mid.mapper) (refused e.mid.mapper) (ledger_of e.mid) e.works meta e.whole nested e.absent w t.seat.desk.cells t.seat.readings (edit p i (recalling only.cells) (retired_nested e.mid.seat meta).held) w.stores t.usage cleared_is kept e.ends.used)

        pub slot_in_hand : AreLaid (span e.mid.mapper) (runs e.mid.mapper) → IsSpan (span e.mid.mapper) → ComesInHand meta (ledger_of old) (record (ledger_of t) { seat = w })
        slot_in_hand laid bounded = comes_then meta (ledger_of old) (ledger_of e.mid) (record (ledger_of t) { seat = w }) (only_hand found.class old e.mid e.only) (subst (λ (x : State M P). ComesInHand meta (ledger_of e.mid) (record (ledger_of x) { seat = w })) (sym e.ends.state)
            (nested_hand start (span e.mid.mapper) (runs e.mid.mapper) (refused e.mid.mapper) (ledger_of e.mid) e.works meta e.whole nested e.absent w t.seat.desk.cells t.seat.readings (edit p i (recalling only.cells) (retired_nested e.mid.seat meta).held) w.stores t.usage cleared_is kept laid bounded clear))

-- ---- how the group ended is told

module _ {M P : Type 0} {old mid told t : State M P} (runs : M → List mapper.Run) (meta : ℕ) (found : LiveGroup) (same : t ≡ told) (leaves : LeavesAnyRing found.class meta old mid) (ended : EndsGroup meta mid told) where
  pub ends_run : (w : View) (b : Bounces) (m' : M) → 0 < found.maplen → OnlyCells (without_run t.seat found.base) w → ReadsWithin t.seat w found.base (found.base + 4096 * found.maplen) → b ≡ stamped (stepped t.bounces) found.class
      → mapper.RemovesRun (runs t.mapper) (runs m') (found.base, found.maplen) → ¬ Contains (runs m') (found.base, found.maplen)
      → Ends runs meta found None old (record t { seat = w; bounces = b; mapper = m' })
  ends_run w b m' paged cells reads counted removes gone = record {
    unlisted = mid;
    retired = t;
    leaves = leaves;
    ends = subst (EndsGroup meta mid) (sym same) ended;
    run = record {
      paged = paged;
      state = ap (λ (x : Bounces). record t { seat = w; bounces = x; mapper = m' }) counted;
      cells = cells;
      reads = reads;
      removes = removes;
      gone = gone;
    };
    slot = tt;
  }

  pub ends_slot : (p i : ℕ) (w : View) → found.maplen ≡ 0 → parent_of t.parents meta ≡ Some (p, i) → OnlySlot t.seat p i w → StoresBefore t.seat w 0
      → Ends runs meta found (Some (p, i)) old (record t { seat = w })
  ends_slot p i w pageless carries only stores = record {
    unlisted = mid;
    retired = t;
    leaves = leaves;
    ends = subst (EndsGroup meta mid) (sym same) ended;
    run = tt;
    slot = record { pageless = pageless; carries = carries; only = only; stores = stores; state = refl };
  }
