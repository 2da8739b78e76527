-- What a load tells.
use Rattle.std.proofs.Common.{◌≡◌, ◌⊎◌, ℕ, ◌+◌, ◌-◌, ◌*◌, ◌/◌, ◌%◌, ◌<◌, ◌≤◌, List, sym, ap, ◌∙◌, subst, ⊎_elim, inl, inr, arith}
use mathlib.Core.Option.{some}
use lib.ListN.{get_elem?}
use Rattle.std.specs.Int.{bit_at}
use Rattle.ng_view.specs.declared.view.Group.{Group}
use Rattle.ng_view.specs.declared.view.Held.{Held}
use Rattle.ng_view.specs.declared.view.View.{View}
use Rattle.ng_view.specs.declared.view.Start.{Start}
use Rattle.ng_view.specs.Lists.{Among}
use Rattle.ng_view.specs.Cells.{cell, tag, last, avail, freed, marked, group_at}
use Rattle.ng_view.specs.Places.{header, slot_start, stride, reach}
use Rattle.ng_view.specs.Views.{has, desk_of}
use Rattle.ng_view.specs.Rule.{Rule}
use Rattle.ng_view.specs.Layouts.{IsLaid, InArea, OnRun, InNest}
use Rattle.ng_meta.specs.Place.{IsMetaPlace}
use Rattle.ng_view.specs.Tells.{Tells, TellsSlot, IsOfRun}
use Rattle.ng_rule.proofs.geometry.Nesting.{IsSlot, in_run}
use Rattle.ng_rule.proofs.geometry.Strides.{stride_whole, times_whole}
use Rattle.ng_rule.proofs.geometry.Facts.{marked_live, held_slot, nested, has_held, owed_most}
use Rattle.ng_rule.proofs.geometry.Lists.{total_by-one}

module _ (key : Start) (ws : List ℕ) (vs : List View) (id : ℕ) (v : View) (kept : Rule key ws vs) (here_v : get_elem? vs id ≡ some v) (a : ℕ) (al : a % 4 ≡ 0) where
  tells_slot : (h : Held) → Among h v.held → TellsSlot key h a (cell ws a)
  tells_slot h s =
      let i = held_slot ws vs kept.slots id v h here_v s in
      let m = h.place.group.meta in
      let ml = i.0.whole in
      let live : 0 < tag ws m = subst (λ (g : Group). 0 < g.tag) i.0.group i.1 in
      let l : IsLaid ws (desk_of vs).layout h.place.group = subst (IsLaid ws (desk_of vs).layout) (sym i.0.group) (kept.words.lawful.groups m ml live) in
      let r = l.in_area in
      let area = kept.words.lawful.areas r.run r.noted r.is_area in
      let page = (kept.words.lawful.in_space r.run r.noted).whole in
      let where_area : m / 4096 * 4096 ≡ r.run.addr = (let p = r.place in let b = r.below in area_of m r.run.addr r.number page p b) in
      let none = no_bit h i s in
      record {
        index = i.2;
        kind = l.kind;
        live = i.1;
        few = l.many;
        whole = l.whole;
        meta = meta_place_of m r;
        above = subst (λ (g : Group). key.lower ≤ g.base) (sym i.0.group) (bounds m ml live).0;
        below = subst (λ (g : Group). g.base + reach g ≤ key.upper) (sym i.0.group) (bounds m ml live).1;
        lies = ⊎_elim (λ (o : OnRun (desk_of vs).layout.runs h.place.group). inl (on_run h.place.group o))
            (λ (n : InNest (desk_of vs).layout.nests h.place.group). inr (record { unmapped = n.nested.unmapped; low = n.nested.low; small = n.nested.small })) l.lies;
        block = kept.words.blocks id v here_v h s;
        mem = λ e. ap (cell ws) e ∙ sym (ap (λ (g : Group). g.base) i.0.group);
        mem_high = λ e. ap (cell ws) e ∙ l.fields.mem_high;
        flags = λ e. record { last = ap (λ b. cell ws b % 32) e ∙ sym (ap (λ (g : Group). g.last) i.0.group); freeable = ap (λ b. cell ws b / 32 % 2) e ∙ l.fields.freeable; class = ap (λ b. cell ws b / 64 % 64 + 1) e ∙ l.fields.class; maplen = ap (λ b. cell ws b / 4096) e ∙ sym (ap (λ (g : Group). g.maplen) i.0.group) };
        flags_high = λ e. ap (cell ws) e ∙ l.fields.flags_high;
        avail = λ e. (ap (λ b. cell ws b / 4294967296) e ∙ sym (ap (λ (g : Group). g.tag) i.0.group), ap (λ b. bit_at (cell ws b) h.place.index) e ∙ none.0);
        freed = λ e. ap (λ b. bit_at (cell ws b) h.place.index) e ∙ none.1;
        base = λ e. ap (cell ws) e ∙ l.base;
        base_high = λ e. ap (cell ws) e ∙ l.base_high;
        check = λ e. ap (cell ws) (e ∙ where_area ∙ (let q : r.run.addr ≡ r.run.addr + 0 = omega arith in q)) ∙ area.check;
        check_high = λ e. ap (cell ws) (e ∙ ap (λ (n : ℕ). n + 4) where_area) ∙ area.check_high;
        end = λ e. ap (λ b. cell ws b % 256) (end_header h e) ∙ l.lows (h.place.index + 1) (let k = i.2 in omega arith);
        known = λ y t. (kept.knowledge.each id v here_v h s a y t).value;
      }
    where
      on_run : (g : Group) → OnRun (desk_of vs).layout.runs g → IsOfRun g
      on_run g o =
          let p = (kept.words.lawful.in_space o.run o.noted).some in let q = o.pages in let f = o.fits in
          record { paged = omega arith; fits = (let x : ℕ = reach g in omega (arith, f, q)); large = o.large }

      meta_place_of : (m : ℕ) → InArea (desk_of vs).layout m → IsMetaPlace m key.pages
      meta_place_of m r =
          let s = kept.words.lawful.in_space r.run r.noted in
          let w = s.whole in let lo = s.above in let hi = s.below in let one = r.page in
          let first = kept.words.lawful.range.above in let top = kept.words.lawful.range.below in let p = r.place in
          record { page = r.run.addr / 4096; i = r.number; mapped = omega arith; inside = omega arith; counted = r.below; stands = omega arith }

      -- a live group lies between the bounds
      bounds : (m : ℕ) → m % 4 ≡ 0 → 0 < tag ws m → (key.lower ≤ (group_at ws m).base) × ((group_at ws m).base + reach (group_at ws m) ≤ key.upper)
      bounds m ml live =
          let g = group_at ws m in
          let nests = nested ws vs kept.slots in
          let low = in_run key ws (desk_of vs).layout kept.words.lawful nests g.base m ml live (omega arith) (omega arith) in
          let high = in_run key ws (desk_of vs).layout kept.words.lawful nests (g.base + (reach g - 5)) m ml live (omega arith) (omega arith) in
          let lo = (kept.words.lawful.in_space low.0 low.1).above in let i = low.3.0 in
          let hi = (kept.words.lawful.in_space high.0 high.1).below in let j = high.3.1 in
          let b = (kept.words.lawful.groups m ml live).whole in
          let t = times_whole (stride g) (g.last + 1) (stride_whole g) in
          let u = kept.words.lawful.range.upper_whole in
          (omega arith, (let s : ℕ = stride g * (g.last + 1) in omega (arith, hi, j, b, t, u)))

      area_of : (m r n : ℕ) → r % 4096 ≡ 0 → m ≡ r + 24 + 40 * n → n < 101 → m / 4096 * 4096 ≡ r
      area_of m r n whole e lt = omega arith

      end_header : (h : Held) → a + 4 ≡ slot_start h.place + stride h.place.group → a ≡ header h.place.group (h.place.index + 1)
      end_header h e = let s : ℕ = stride h.place.group in let k : s * (h.place.index + 1) ≡ s * h.place.index + s = omega arith in omega (arith, e, k)

      no_bit : (h : Held) → IsSlot ws h.place → Among h v.held → (bit_at (avail ws h.place.group.meta) h.place.index ≡ 0) × (bit_at (freed ws h.place.group.meta) h.place.index ≡ 0)
      no_bit h i s =
          let m = h.place.group.meta in let k = h.place.index in
          let live : 0 < tag ws m = subst (λ (g : Group). 0 < g.tag) i.0.group i.1 in
          let e = kept.slots.each m k i.0.whole i.0.few in
          let o = owed_most (tag ws m) (last ws m) k in
          let b = total_by-one (has m k) vs id v here_v in
          let c = has_held v h s in
          let d = marked_live (tag ws m) (avail ws m) (freed ws m) k live in
          let x : ℕ = bit_at (avail ws m) k in let y : ℕ = bit_at (freed ws m) k in let d' : marked ws m k ≡ x + y = d in
          (omega arith, omega arith)

  pub tells : Tells key v a (cell ws a)
  tells = record {
    slots = tells_slot;
    active = λ c lt e. subst (λ b. (cell ws b ≡ 0) ⊎ IsMetaPlace (cell ws b) key.pages) (sym e) (kept.words.lawful.first.active c lt);
    rest = λ lt far ne. kept.words.lawful.first.rest a al lt far ne;
  }
