-- A group is built in a slot, and published.
use Rattle.std.proofs.Common.{◌≡◌, ℕ, ◌+◌, ◌-◌, ◌*◌, ◌<◌, ◌≤◌, eqb, cond, List, [], ◌∷◌, refl, sym, ap, ◌∙◌, subst, ⊎_elim, inl, inr, arith}
use Rattle.std.specs.Prelude.{Some}
use Rattle.ng_rule.proofs.geometry.Lists.{find_among, is_at-true}
use Rattle.ng_view.specs.Conditions.{Sees}
use Rattle.ng_view.specs.Layouts.{IsKind, IsNested}
use Rattle.ng_view.specs.LockSteps.{cells_off, nested_in}
use Rattle.ng_view.specs.Lists.{edit, find, without}
use Rattle.ng_view.specs.Places.{header, slot_end, slot_start, stride, units}
use Rattle.ng_view.specs.Steps.{in_motion}
use Rattle.ng_view.specs.declared.view.Group.{Group}
use Rattle.ng_view.specs.declared.view.Held.{Held}
use Rattle.ng_view.specs.declared.view.Store.{Store}
use Rattle.ng_view.specs.declared.view.View.{View}
use Rattle.ng_meta.specs.Place.{IsMetaPlace}
use Rattle.ng_view.specs.Groups.{BuildsNested, BuiltMeta, BuiltNested, IsLowHeader, Publishes, slot_published}
use Rattle.ng_rule.proofs.lock.Knowing.{off_else}
use Rattle.ng_build.specs.Cells.{IsIdleMeta, knowing}
use Rattle.ng_build.specs.Drafts.{IsBlankMeta, IsCounted, avail_of, draft_group}
use Rattle.ng_build.specs.Nestings.{AreHeadersLow, HasCarrier, HasWritten, OnlySlot, PublishesSlot, SeesIn, StoresBefore, carrying_header, recalling, with_nested}
use Rattle.ng_build.specs.declared.draft.Draft.{Draft}
use Rattle.ng_build.specs.declared.nesting.Carrier.{Carrier}
use Rattle.ng_build.specs.Written.{KeepsIn, freed_of, with_meta}
use Rattle.ng_build.proofs.Cells.{by_cells}
use Rattle.ng_build.proofs.Heads.{carrier_base}
use Rattle.ng_build.proofs.Masks.{are_masks, is_bare, moves_first}
use Rattle.ng_build.proofs.Metas.{built_meta, meta_kept, meta_view, meta_whole, several_plain}
use Rattle.ng_build.proofs.Storing.{stores_both, stores_less, stores_none}
use Rattle.ng_build.proofs.Slots.{slot_both, slot_found, without-edit}

-- a nested group is of few units
small_kind : (g : Group) (p : Group) → IsNested g p → IsKind g
small_kind g p n = inl (record { low = n.low; fits = few (units g.tag) (g.last + 1) n.small })
  where
    few : (u l : ℕ) → 16 * u * l + 16 ≤ 2048 → u * l < 65536
    few u l s = grind arith

-- a header behind the group's last slot is the carrier's neighbour's, where the group fills its slot
end_of : (g : Group) (h : Held) (i room : ℕ) → g.base ≡ slot_start h.place → room ≡ stride h.place.group → 16 + stride g * i ≡ room → header g i ≡ slot_end h.place
end_of g h i room begins step full = omega arith

module _ (v w1 w2 : View) (c : Carrier) (d : Draft) (blank : IsBlankMeta v d.meta) (has : HasCarrier v c (draft_group d)) (o1 : OnlySlot v c.meta c.index w1) (o2 : OnlySlot w1 c.meta c.index w2) where
  abbrev g : Group
  g = draft_group d

  only : OnlySlot v c.meta c.index w2
  only = slot_both v w1 w2 c.meta c.index o1 o2

  blank_2 : IsBlankMeta w2 d.meta
  blank_2 = subst (λ (x : View). IsBlankMeta x d.meta) (sym only.view) (record { idle = record { area = blank.idle.area; unborn = blank.idle.unborn }; zero = blank.zero })

  pub nested_idle : IsIdleMeta w2 d.meta
  nested_idle = blank_2.idle

  module _ (w3 : View) (pages : ℕ) (place : IsMetaPlace d.meta pages) (counted : IsCounted d) (e3 : w3 ≡ with_meta w2 d)
      (base : SeesIn w1 c.meta c.index d.base d.meta) (high : SeesIn w1 c.meta c.index (d.base + 4) 0) (kept : KeepsIn w1 w2 c.meta c.index (d.base + 12)) (lows : AreHeadersLow w2 c.meta c.index g c.stride) where
    abbrev h : Held
    h = recalling only.cells has.slot

    found_2 : find c.meta c.index w2.held ≡ Some h
    found_2 = slot_found v w2 c.meta c.index has.slot has.found only

    found_3 : find c.meta c.index w3.held ≡ Some h
    found_3 = ap (λ (x : View). find c.meta c.index x.held) (meta_view w2 w3 d e3) ∙ found_2

    at_meta : has.slot.place.group.meta ≡ c.meta
    at_meta = (is_at-true c.meta c.index has.slot.place (find_among c.meta c.index v.held has.slot has.found).1).0

    at_index : has.slot.place.index ≡ c.index
    at_index = (is_at-true c.meta c.index has.slot.place (find_among c.meta c.index v.held has.slot has.found).1).1

    class_low : d.class < 48
    class_low = let low : d.class + 1 < 49 = has.nested.low in omega arith

    meta : BuiltMeta w3 g (freed_of d.active d.last)
    meta = built_meta w2 w3 d e3 (meta_whole d.meta pages place) blank_2 (small_kind g has.slot.place.group has.nested) counted.last (let low = class_low in omega arith)

    low : (i : ℕ) → i ≤ d.last + 1 → IsLowHeader h g i
    low i le = ⊎_elim
        (λ (s : SeesIn w2 c.meta c.index (header g i) 0). inr (0, s h found_2, refl))
        (λ (full : 16 + stride g * i ≡ c.stride). inl (end_of g h i c.stride has.begins has.step full))
        (lows i le)

    is_built : BuiltNested w3 h g (avail_of d.active) (freed_of d.active d.last)
    is_built = record {
      meta = meta;
      masks = are_masks g d.active counted.active counted.last (λ some. several_plain d class_low some);
      found = ap (λ n. find n has.slot.place.index w3.held) at_meta ∙ ap (λ n. find c.meta n w3.held) at_index ∙ found_3;
      begins = has.begins;
      nested = has.nested;
      fits = has.fits;
      lower = has.lower;
      base = kept d.base d.meta (omega arith) base h found_2;
      base_high = kept (d.base + 4) 0 (omega arith) high h found_2;
      lows = low;
    }

    pub slot_builds : BuildsNested w3 d.meta d.class (avail_of d.active)
    slot_builds = record { group = g; slot = h; freed = freed_of d.active d.last; built = is_built; of_meta = refl; of_class = refl }

    module _ (w : View) (p : Publishes w3 d.meta d.class (avail_of d.active) w) (noted : StoresBefore v w2 (d.base + 12)) where
      abbrev cs : List (ℕ × ℕ)
      cs = cells_off d.meta (d.meta + 40) w3.desk.cells

      is_published : w ≡ slot_published w3 h g (avail_of d.active) (freed_of d.active d.last)
      unfolding slot_builds
      is_published = p.nested slot_builds

      left_2 : without has.slot.place.group.meta has.slot.place.index w2.held ≡ without c.meta c.index v.held
      left_2 =
          let hi = has.slot.place.index in
          ap (λ (x : View). without has.slot.place.group.meta hi x.held) only.view
          ∙ ap (λ n. without n hi (edit c.meta c.index (recalling only.cells) v.held)) at_meta
          ∙ ap (λ n. without c.meta n (edit c.meta c.index (recalling only.cells) v.held)) at_index
          ∙ without-edit c.meta c.index (recalling only.cells) v.held (λ y. refl)

      -- the view by those of the steps before
      step_3 : nested_in w3 g (0 ∷ []) cs (cond (eqb d.active 0) (d.meta ∷ w3.desk.zero_avail) w3.desk.zero_avail) h ≡ nested_in (knowing w2 cs w2.readings) g (0 ∷ []) cs (cond (eqb d.active 0) (d.meta ∷ w2.desk.zero_avail) w2.desk.zero_avail) h
      step_3 = ap (λ (x : View). nested_in x g (0 ∷ []) cs (cond (eqb d.active 0) (d.meta ∷ x.desk.zero_avail) x.desk.zero_avail) h) (meta_view w2 w3 d e3)

      -- that view, with other slots behind the group's own
      behind : View → List Held → List Store → View
      behind x hs ss = record (knowing (with_nested x c.meta c.index g d.active has.slot) cs x.readings) { held = in_motion g 0 ∷ hs; stores = ss }

      step_2 : behind w2 (without has.slot.place.group.meta has.slot.place.index w2.held) w2.stores ≡ behind v (without c.meta c.index v.held) w2.stores
      unfolding behind
      step_2 = ap (λ hs. behind w2 hs w2.stores) left_2 ∙ ap (λ (x : View). behind x (without c.meta c.index v.held) w2.stores) only.view

      same_stores : w.stores ≡ w2.stores
      same_stores = ap (λ (x : View). x.stores) is_published ∙ ap (λ (x : View). x.stores) (meta_view w2 w3 d e3)

      is_view : w ≡ record (knowing (with_nested v c.meta c.index g d.active has.slot) cs v.readings) { stores = w.stores }
      unfolding behind
      is_view =
          is_published
          ∙ ap (λ (is : List ℕ). nested_in w3 g is cs (cond (eqb (avail_of d.active) 0) (d.meta ∷ w3.desk.zero_avail) w3.desk.zero_avail) h) (moves_first g d.active counted.active counted.last)
          ∙ ap (λ b. nested_in w3 g (0 ∷ []) cs (cond b (d.meta ∷ w3.desk.zero_avail) w3.desk.zero_avail) h) (is_bare d.active)
          ∙ step_3
          ∙ step_2
          ∙ ap (λ (ss : List Store). record (knowing (with_nested v c.meta c.index g d.active has.slot) cs v.readings) { stores = ss }) (sym same_stores)

      pub slot_publishes : PublishesSlot v c.meta c.index g d.active w
      slot_publishes = record {
        view = λ k e.
            let q : has.slot ≡ k = cc in
            by_cells (record (with_nested v c.meta c.index g d.active k) { stores = w.stores }) w cs v.readings (is_view ∙ ap (λ y. record (knowing (with_nested v c.meta c.index g d.active y) cs v.readings) { stores = w.stores }) q);
        stores = stores_less v w (d.base + 12) (header g 0) (let e : header g 0 ≡ d.base + 12 = omega arith in omega (arith, e)) (stores_both v w2 w (d.base + 12) noted (stores_none w2 w (d.base + 12) same_stores));
        kept = λ b x out s. subst (λ (y : View). Sees y b x) (sym is_published)
            (off_else d.meta (d.meta + 40) b x w3.desk.cells out (meta_kept w2 w3 d e3 b x out (subst (λ (y : View). Sees y b x) (sym only.view) s)));
      }

-- what was written in the carrier is still known, once the headers and the meta are written
pub written_kept : (w1 w2 w3 : View) (c : Carrier) (d : Draft) {v : View} → HasCarrier v c (draft_group d) → HasWritten w1 c d.base d.meta d.active → KeepsIn w1 w2 c.meta c.index (d.base + 12) → w3 ≡ with_meta w2 d → HasWritten w3 c d.base d.meta d.active
written_kept w1 w2 w3 c d {v} has head kept e3 =
    let front = carrier_base v c (draft_group d) has in
    let then : (a x : ℕ) → a < d.base + 12 → SeesIn w1 c.meta c.index a x → SeesIn w3 c.meta c.index a x = λ a x lt s. subst (λ (y : View). SeesIn y c.meta c.index a x) (sym (meta_view w2 w3 d e3)) (kept a x lt s) in record {
      header = then (d.base - 4) (carrying_header c d.base) (omega arith) head.header;
      meta_low = then d.base d.meta (omega arith) head.meta_low;
      meta_high = then (d.base + 4) 0 (omega arith) head.meta_high;
      index = then (d.base + 8) d.active (omega arith) head.index;
    }

-- the headers of the slots are still known to be 0, once the meta is written
pub lows_kept : (w2 w3 : View) (c : Carrier) (d : Draft) → AreHeadersLow w2 c.meta c.index (draft_group d) c.stride → w3 ≡ with_meta w2 d → AreHeadersLow w3 c.meta c.index (draft_group d) c.stride
lows_kept w2 w3 c d lows e3 = subst (λ (x : View). AreHeadersLow x c.meta c.index (draft_group d) c.stride) (sym (meta_view w2 w3 d e3)) lows
