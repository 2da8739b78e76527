-- Where the slots of a seat lie.
use Rattle.std.proofs.Common.{◌≡◌, ℕ, ◌+◌, ◌-◌, ◌*◌, ◌/◌, ◌<◌, ◌≤◌, List, sym, ap, ◌∙◌, subst, ⊎_elim, inl, inr, arith}
use mathlib.Core.Option.{some}
use lib.ListN.{get_elem?}
use Rattle.ng_class.specs.Slot.{IsGroupClass}
use Rattle.ng_meta.specs.Place.{IsMetaPlace, meta_place}
use Rattle.ng_view.specs.Layouts.{InArea, InNest, IsKind, IsLaid, OnRun}
use Rattle.ng_view.specs.Lists.{Among}
use Rattle.ng_view.specs.Places.{reach, stride}
use Rattle.ng_view.specs.Rule.{Rule}
use Rattle.ng_view.specs.Views.{desk_of}
use Rattle.ng_view.specs.declared.view.Group.{Group}
use Rattle.ng_view.specs.declared.view.Held.{Held}
use Rattle.ng_view.specs.declared.view.View.{View}
use Rattle.ng_view.specs.declared.view.Start.{Start}
use Rattle.ng_space.specs.Placed.{LiesIn}
use Rattle.ng_rule.proofs.geometry.Facts.{held_slot, nested}
use Rattle.ng_rule.proofs.geometry.Nesting.{IsSlot, past_top}
use Rattle.ng_rule.proofs.geometry.Strides.{stride_whole, times_whole}

module _ (key : Start) (ws : List ℕ) (vs : List View) (id : ℕ) (v : View) (kept : Rule key ws vs) (here_v : get_elem? vs id ≡ some v) (h : Held) (s : Among h v.held) where
  abbrev g : Group
  g = h.place.group

  slot : IsSlot ws h.place
  slot = held_slot ws vs kept.slots id v h here_v s

  laid : IsLaid ws (desk_of vs).layout g
  laid = subst (IsLaid ws (desk_of vs).layout) (sym slot.0.group) (kept.words.lawful.groups g.meta slot.0.whole (subst (λ (x : Group). 0 < x.tag) slot.0.group slot.1))

  meta_in : InArea (desk_of vs).layout g.meta → IsMetaPlace g.meta key.pages
  meta_in r =
      let run = kept.words.lawful.in_space r.run r.noted in
      let range = kept.words.lawful.range in
      let whole = run.whole in let above = run.above in let below = run.below in let page = r.page in let low = range.above in let high = range.below in record {
        page = r.run.addr / 4096;
        i = r.number;
        mapped = omega arith;
        inside = omega arith;
        counted = r.below;
        stands = r.place ∙ ap (λ (a : ℕ). meta_place a r.number) (let e : r.run.addr ≡ 4096 * (r.run.addr / 4096) = omega arith in e);
      }

  few_pages : OnRun (desk_of vs).layout.runs g → (1 ≤ g.maplen) × (g.maplen ≤ 16384)
  few_pages r =
      let run = kept.words.lawful.in_space r.run r.noted in
      let range = kept.words.lawful.range in
      let pages = r.pages in let some_page = run.some in let below = run.below in let high = range.below in let most = range.addressed in (omega arith, omega arith)

  class_is : IsKind g → IsGroupClass (g.tag - 1) g.last g.maplen
  class_is (inl k) = inl (let low = k.low in omega arith)
  class_is (inr k) = inr (record {
    lone = (let lone = k.lone in omega arith);
    single = k.single;
    mapped = ⊎_elim (λ (r : OnRun (desk_of vs).layout.runs g). (few_pages r).0) (λ (n : InNest (desk_of vs).layout.nests g). absurd (let low = n.nested.low in let lone = k.lone in omega arith)) laid.lies;
  })

  -- its past cell is one of a run
  inside : g.base + reach g ≤ 4096 * key.pages
  inside =
      let s : ℕ = stride g in let r : ℕ = s * (g.last + 1) in
      let whole = times_whole s (g.last + 1) (stride_whole g) in
      let a : ℕ = g.base + reach g - 4 in
      let low : g.base ≤ a = omega arith in
      let high : a + 4 ≤ g.base + reach g = omega arith in
      let t = past_top key ws (desk_of vs).layout kept.words.lawful (nested ws vs kept.slots) 65 a g.meta (omega arith) slot.0.whole (subst (λ (x : Group). 0 < x.tag) slot.0.group slot.1) (subst (λ (x : Group). x.base ≤ a) slot.0.group low) (subst (λ (x : Group). a + 4 ≤ x.base + reach x) slot.0.group high) in
      let on = t.3 in let run = kept.words.lawful.in_space on.run on.noted in
      let below = run.below in let begins = run.whole in let most = kept.words.lawful.range.below in let base = laid.whole in
      let there : a < on.run.addr + 4096 * on.run.pages = t.4.1 in
      omega arith

  pub lies_in : LiesIn key h.place
  lies_in = record {
    index = slot.2;
    many = laid.many;
    live = slot.1;
    class = class_is laid.kind;
    few = ⊎_elim (λ (r : OnRun (desk_of vs).layout.runs g). (few_pages r).1) (λ (n : InNest (desk_of vs).layout.nests g). let none = n.nested.unmapped in omega arith) laid.lies;
    meta = meta_in laid.in_area;
    whole = laid.whole;
    inside = inside;
  }
