-- Groups that come to live, by the view of the lock's seat alone.
use Rattle.std.proofs.Common.{◌≡◌, ◌≢◌, ◌⊎◌, ℕ, ◌+◌, ◌*◌, ◌/◌, ◌%◌, ◌^◌, ◌<◌, ◌≤◌, eqb, leb, cond, Bool, true, false, List, [], ◌∷◌, set, refl, sym, ap, ◌∙◌, subst, ⊎_elim, inl, inr, arith}
use mathlib.Core.Option.{some}
use lib.ListN.{get_elem?}
use Rattle.std.specs.Int.{bit_at}
use Rattle.std.specs.Prelude.{◌&&◌, None}
use Rattle.std.proofs.lemmas.Bool.{cases_lt}
use Rattle.ng_view.specs.Blocks.{Knows}
use Rattle.ng_view.specs.Cells.{cell, tag, last, freed, group_at}
use Rattle.ng_view.specs.Conditions.{Built, IsUnborn, Sees}
use Rattle.ng_view.specs.Knowledge.{IsKnownCell}
use Rattle.ng_view.specs.Layouts.{InArea, IsKind, IsLaid, IsMeta, IsNested}
use Rattle.ng_view.specs.LockSteps.{cells_off, nested_in, run_published}
use Rattle.ng_view.specs.Lists.{Among, count_of, select}
use Rattle.ng_view.specs.May.{May}
use Rattle.ng_view.specs.Places.{Owns, header, reach, slot_start, stride}
use Rattle.ng_view.specs.Rule.{Rule}
use Rattle.ng_view.specs.Slots.{IsPlain}
use Rattle.ng_view.specs.Views.{desk_of}
use Rattle.ng_view.specs.declared.view.Desk.{Desk}
use Rattle.ng_view.specs.declared.view.Group.{Group}
use Rattle.ng_view.specs.declared.view.Held.{Held}
use Rattle.ng_view.specs.declared.view.Nest.{Nest}
use Rattle.ng_view.specs.declared.view.Place.{Place}
use Rattle.ng_view.specs.declared.view.Run.{Run}
use Rattle.ng_view.specs.declared.view.View.{View}
use Rattle.ng_view.specs.declared.view.Start.{Start}
use Rattle.ng_rule.proofs.geometry.Facts.{held_leaf, held_slot, nested}
use Rattle.ng_rule.proofs.geometry.Lists.{find_among}
use Rattle.ng_rule.proofs.geometry.Nesting.{IsSlot, leaves_apart}
use Rattle.ng_rule.proofs.geometry.Strides.{stride_whole, times_whole}
use Rattle.ng_rule.proofs.group.Nestle.{nests_in}
use Rattle.ng_rule.proofs.lock.LockNotes.{cells_was, is_number, led}
use Rattle.ng_rule.proofs.lock.LockSteps.{publish_may}
use Rattle.ng_view.specs.Groups.{BuildsNested, BuildsRun, BuiltNested, MayPublish, Publishes, slot_published}
use Rattle.ng_rule.proofs.lock.Facts.{listing, noted}
use Rattle.ng_rule.proofs.lock.Lying.{unborn_uncarried}

-- the group that the words of a meta tell, with a tag
abbrev told_group : List ℕ → ℕ → ℕ → Group
told_group ws m t = record (group_at ws m) { tag = t }

module _ (key : Start) (id : ℕ) (v : View) (leads : v.leads ≡ true) (moves : (h : Held) → Among h v.held → h.block ≡ None) where
  module _ (ws : List ℕ) (vs : List View) (kept : Rule key ws vs) (at : get_elem? vs id ≡ some v) where
    sees : (a x : ℕ) → Sees v a x → cell ws a ≡ x
    sees a x s = ((noted key id v leads ws vs kept at).free a x s).1

    dead : (m : ℕ) → m % 4 ≡ 0 → IsUnborn v m → tag ws m ≡ 0
    dead m al u = ⊎_elim
        (λ (l : 0 < tag ws m). absurd (u (group_at ws m) ((listing key id v leads ws vs kept at).known m al l) refl))
        (λ (l : tag ws m ≤ 0). let t : ℕ = tag ws m in omega arith) (cases_lt 0 (tag ws m))

    -- a group whose mem and flags are known is as its meta tells
    told_is : (g : Group) (flags : ℕ) → Sees v (g.meta + 16) g.base → Sees v (g.meta + 32) flags → flags % 32 ≡ g.last → flags / 4096 ≡ g.maplen → told_group ws g.meta g.tag ≡ g
    told_is g flags mem known l p = (λ i. record { meta = g.meta; base = sees (g.meta + 16) g.base mem i; tag = g.tag; last = (ap (λ (y : ℕ). y % 32) (sees (g.meta + 32) flags known) ∙ l) i; maplen = (ap (λ (y : ℕ). y / 4096) (sees (g.meta + 32) flags known) ∙ p) i })

    run_told : (g : Group) (mask f : ℕ) → Built v g mask f → told_group ws g.meta g.tag ≡ g
    run_told g mask f b = told_is g b.flags b.mem b.flags_known b.flags_are.last b.flags_are.maplen

    nested_told : (h : Held) (g : Group) (mask f : ℕ) → BuiltNested v h g mask f → told_group ws g.meta g.tag ≡ g
    nested_told h g mask f b = let m = b.meta in told_is g m.flags m.mem m.flags_known m.flags_are.last m.flags_are.maplen

    -- two that are built for one meta with one tag are one
    one_group : (g h : Group) → told_group ws g.meta g.tag ≡ g → told_group ws h.meta h.tag ≡ h → g.meta ≡ h.meta → g.tag ≡ h.tag → g ≡ h
    one_group g h a b m t = sym a ∙ (λ i. told_group ws (m i) (t i)) ∙ b

    one_freed : (m n f e : ℕ) → Sees v (m + 28) f → Sees v (n + 28) e → m ≡ n → f ≡ e
    one_freed m n f e a b q = sym (sees (m + 28) f a) ∙ ap (λ k. cell ws (k + 28)) q ∙ sees (n + 28) e b

    some_pages : (r : Run) → Among r v.desk.layout.runs → 1 ≤ r.pages
    some_pages r there = (kept.words.lawful.in_space r (subst (λ (d : Desk). Among r d.layout.runs) (sym (led key id v leads ws vs kept at)) there)).some

    one_run : (r s : Run) → Among r v.desk.layout.runs → Among s v.desk.layout.runs → r.addr ≡ s.addr → r ≡ s
    one_run r s there here e =
        let d = sym (led key id v leads ws vs kept at) in
        let p = some_pages r there in let q = some_pages s here in
        kept.words.lawful.apart r s r.addr (subst (λ (d : Desk). Among r d.layout.runs) d there) (subst (λ (d : Desk). Among s d.layout.runs) d here) (omega arith, omega arith) (omega arith, omega arith)

    -- a mapped group and a nested one differ in maplen
    no_both : (meta class mask : ℕ) → BuildsRun v meta class mask → BuildsNested v meta class mask → ⊥
    no_both meta class mask b c =
        let on = b.built.run in
        let e = one_group b.group c.group (run_told b.group mask b.freed b.built) (nested_told c.slot c.group mask c.freed c.built) (b.of_meta ∙ sym c.of_meta) (b.of_class ∙ sym c.of_class) in
        let same : b.group.maplen ≡ c.group.maplen = ap (λ (g : Group). g.maplen) e in
        let some_page = some_pages on.run on.noted in let q = on.pages in let none = c.built.nested.unmapped in omega arith

    -- ---- the slot of a nested group
    slot_of : (h : Held) (g : Group) (mask f : ℕ) → BuiltNested v h g mask f → IsSlot ws h.place
    slot_of h g mask f b = held_slot ws vs kept.slots id v h at (find_among _ _ v.held h b.found).0

    knows : (h : Held) (g : Group) (mask f : ℕ) → BuiltNested v h g mask f → (a x : ℕ) → Knows a x h → IsKnownCell ws h.place a x
    knows h g mask f b a x k = kept.knowledge.each id v at h (find_among _ _ v.held h b.found).0 a x k

    one_place : (h i : Held) (g k : Group) (mask f e : ℕ) → BuiltNested v h g mask f → BuiltNested v i k mask e → g ≡ k → h.place ≡ i.place
    one_place h i g k mask f e b c q =
        leaves_apart key ws (desk_of vs).layout kept.words.lawful (nested ws vs kept.slots) g.base h.place i.place (slot_of h g mask f b) (slot_of i k mask e c)
        (held_leaf ws vs kept.slots id v h at (find_among _ _ v.held h b.found).0) (held_leaf ws vs kept.slots id v i at (find_among _ _ v.held i c.found).0)
        (knows h g mask f b g.base g.meta b.base).own (subst (Owns i.place) (ap (λ (y : Group). y.base) (sym q)) (knows i k mask e c k.base k.meta c.base).own)

    parent : (h : Held) (g : Group) (mask f : ℕ) → BuiltNested v h g mask f → IsLaid ws (desk_of vs).layout h.place.group
    parent h g mask f b = let i = slot_of h g mask f b in subst (IsLaid ws (desk_of vs).layout) (sym i.0.group) (kept.words.lawful.groups h.place.group.meta i.0.whole (subst (λ (y : Group). 0 < y.tag) i.0.group i.1))

    aligned : (h : Held) (g : Group) (mask f : ℕ) → BuiltNested v h g mask f → g.base % 16 ≡ 0
    aligned h g mask f b =
        let w = (parent h g mask f b).whole in let t = times_whole (stride h.place.group) h.place.index (stride_whole h.place.group) in
        let s : ℕ = stride h.place.group * h.place.index in let e = b.begins in omega arith

    -- the low byte of each header cell, and of the past cell, which may be the header of the parent's next slot
    low_bytes : (h : Held) (g : Group) (mask f : ℕ) → BuiltNested v h g mask f → (i : ℕ) → i ≤ g.last + 1 → cell ws (header g i) % 256 ≡ 0
    low_bytes h g mask f b i le = ⊎_elim
        (λ (e : header g i ≡ Rattle.ng_view.specs.Places.slot_end h.place).
        let in_slot = (slot_of h g mask f b).2 in
        let l = (parent h g mask f b).lows (h.place.index + 1) (omega arith) in
        ap (λ a. cell ws a % 256) (e ∙ next_header h.place) ∙ l)
        (λ (q : (x : ℕ) × Knows (header g i) x h × (x % 256 ≡ 0)). ap (λ (n : ℕ). n % 256) (knows h g mask f b (header g i) q.0 q.1).value ∙ q.2)
        (b.lows i le)
      where
        next_header : (p : Place) → Rattle.ng_view.specs.Places.slot_end p ≡ header p.group (p.index + 1)
        next_header p = let s : ℕ = stride p.group in let i : ℕ = p.index in let d : s * (i + 1) ≡ s * i + s = omega arith in let m : ℕ = s * i in let n : ℕ = s * (i + 1) in omega (arith, d)

  nests : (h : Held) (g : Group) (mask f : ℕ) (b : BuiltNested v h g mask f) → May key id v ((g.meta + 24) / 4) (λ n. g.tag * 2 ^ 32 + mask) (λ before n after. after ≡ slot_published before h g mask f)
  nests h g mask f b ws vs kept at wide =
      let d = led key id v leads ws vs kept at in
      let m = g.meta in let meta = b.meta in let fl = meta.flags_are in
      let look = sees ws vs kept at in
      let base : cell ws (m + 16) ≡ g.base = look (m + 16) g.base meta.mem in
      let flags : cell ws (m + 32) ≡ meta.flags = look (m + 32) meta.flags meta.flags_known in
      let freed_is : freed ws m ≡ f = look (m + 28) f meta.freed in
      let last_is : last ws m ≡ g.last = ap (λ (y : ℕ). y % 32) flags ∙ fl.last in
      let same : told_group ws m g.tag ≡ g = nested_told ws vs kept at h g mask f b in
      let cs = cells_off m (m + 40) v.desk.cells in
      let ba = cond (eqb mask 0) (m ∷ v.desk.zero_avail) v.desk.zero_avail in
      let fields : IsMeta ws g = record {
        links = λ c lt al. look (m + c) 0 (meta.links c lt al);
        mem_high = look (m + 20) 0 meta.mem_high;
        flags_high = look (m + 36) 0 meta.flags_high;
        freeable = ap (λ (y : ℕ). y / 32 % 2) flags ∙ fl.freeable;
        class = ap (λ (y : ℕ). y / 64 % 64 + 1) flags ∙ fl.class;
      } in
      let kept' = nests_in key ws vs id v kept at leads m g.tag mask meta.whole (subst (λ (z : Desk). InArea z.layout m) (sym d) meta.area) (dead ws vs kept at m meta.whole meta.unborn) meta.live meta.low b.masks.small
      h b.found (moves h (find_among _ _ v.held h b.found).0) (base ∙ b.begins) (subst (λ (y : Group). reach y ≤ stride h.place.group) (sym same) b.fits) b.lower
      (ap (λ (y : ℕ). y % 16) base ∙ aligned ws vs kept at h g mask f b) (ap (cell ws) base ∙ (knows ws vs kept at h g mask f b g.base m b.base).value) (ap (λ y. cell ws (y + 4)) base ∙ (knows ws vs kept at h g mask f b (g.base + 4) 0 b.base_high).value)
      (subst (λ (y : Group). IsNested y h.place.group) (sym same) b.nested) (subst IsKind (sym same) meta.kind) (subst (IsMeta ws) (sym same) fields)
      (λ i le. subst (λ (y : Group). cell ws (header y i) % 256 ≡ 0) (sym same) (low_bytes ws vs kept at h g mask f b i (subst (λ n. i ≤ n + 1) last_is le)))
      (λ i lt. subst (λ (p : ℕ × ℕ). bit_at mask i + bit_at p.0 i ≤ count_of (leb i p.1)) (λ j. (sym freed_is j, sym last_is j)) (b.masks.apart i lt))
      (λ i lt some_bit. subst IsPlain (sym same) (b.masks.plain i lt (subst (λ y. 0 < bit_at mask i + bit_at y i) freed_is some_bit)))
      ba (λ n q. noted_zero n (eqb mask 0) refl q)
      cs (λ a y q. cells_was key id v leads m (m + 40) v.desk.cells a y q) in
      let view : nested_in v (told_group ws m g.tag) (select (λ j. leb j (last ws m) && eqb (bit_at mask j + bit_at (freed ws m) j) 0) 32) cs ba h ≡ slot_published v h g mask f = (λ i. nested_in v (same i) (select (λ j. leb j (last_is i) && eqb (bit_at mask j + bit_at (freed_is i) j) 0) 32) cs ba h) in
      (slot_published v h g mask f, subst (λ (u : View). Rule key (set ws ((m + 24) / 4) (g.tag * 2 ^ 32 + mask)) (set vs id u)) view kept', refl)
    where
      noted_zero : (n : ℕ) → (c : Bool) → eqb mask 0 ≡ c → Among n (cond c (g.meta ∷ v.desk.zero_avail) v.desk.zero_avail) → Among n v.desk.zero_avail ⊎ ((n ≡ g.meta) × (mask ≡ 0))
      noted_zero n true is (inl q) = inr (q, is_number key id v leads mask 0 is)
      noted_zero n true is (inr q) = inl q
      noted_zero n false is q = inl q

  module _ (meta class mask : ℕ) where
    -- the step for a group of that meta and class is the call's
    abbrev Told : ℕ → ℕ → (View → ℕ → View → Type 0) → Type 0
    Told m t told = May key id v ((m + 24) / 4) (λ n. t * 2 ^ 32 + mask) told

    of_run : (b : BuildsRun v meta class mask) → May key id v ((meta + 24) / 4) (λ n. (class + 1) * 2 ^ 32 + mask) (λ before n after. Publishes before meta class mask after)
    of_run b ws vs kept at wide =
        let g = b.group in let on = b.built.run in
        let p = subst (λ (q : ℕ × ℕ). Told q.0 q.1 (λ before n after. after ≡ run_published before g on.run mask b.freed)) (λ i. (b.of_meta i, b.of_class i)) (publish_may key id v leads g mask b.freed b.built) ws vs kept at wide in (
          p.0,
          p.1,
          record {
            run = λ c.
                let e = one_group ws vs kept at g c.group (run_told ws vs kept at g mask b.freed b.built) (run_told ws vs kept at c.group mask c.freed c.built) (b.of_meta ∙ sym c.of_meta) (b.of_class ∙ sym c.of_class) in
                let f = one_freed ws vs kept at g.meta c.group.meta b.freed c.freed b.built.freed c.built.freed (b.of_meta ∙ sym c.of_meta) in
                let r = one_run ws vs kept at on.run c.built.run.run on.noted c.built.run.noted (on.begins ∙ ap (λ (y : Group). y.base) e ∙ sym c.built.run.begins) in
                p.2 ∙ (λ i. run_published v (e i) (r i) mask (f i));
            nested = λ c. absurd (no_both ws vs kept at meta class mask b c);
            uncarried = subst (λ m. (n : Nest) → Among n v.desk.layout.nests → n.child ≢ m) b.of_meta (unborn_uncarried key id v leads ws vs kept at g.meta b.built.unborn);
          },
        )

    of_nested : (b : BuildsNested v meta class mask) → May key id v ((meta + 24) / 4) (λ n. (class + 1) * 2 ^ 32 + mask) (λ before n after. Publishes before meta class mask after)
    of_nested b ws vs kept at wide =
        let g = b.group in
        let p = subst (λ (q : ℕ × ℕ). Told q.0 q.1 (λ before n after. after ≡ slot_published before b.slot g mask b.freed)) (λ i. (b.of_meta i, b.of_class i)) (nests b.slot g mask b.freed b.built) ws vs kept at wide in (
          p.0,
          p.1,
          record {
            run = λ c. absurd (no_both ws vs kept at meta class mask c b);
            nested = λ c.
                let e = one_group ws vs kept at g c.group (nested_told ws vs kept at b.slot g mask b.freed b.built) (nested_told ws vs kept at c.slot c.group mask c.freed c.built) (b.of_meta ∙ sym c.of_meta) (b.of_class ∙ sym c.of_class) in
                let f = one_freed ws vs kept at g.meta c.group.meta b.freed c.freed b.built.meta.freed c.built.meta.freed (b.of_meta ∙ sym c.of_meta) in
                let place = one_place ws vs kept at b.slot c.slot g c.group mask b.freed c.freed b.built c.built e in
                p.2 ∙ (λ i. slot_published v (record { place = place i; block = None; cells = [] }) (e i) mask (f i));
            uncarried = subst (λ m. (n : Nest) → Among n v.desk.layout.nests → n.child ≢ m) b.of_meta (unborn_uncarried key id v leads ws vs kept at g.meta b.built.meta.unborn);
          },
        )

    pub publishes : MayPublish v meta class mask → May key id v ((meta + 24) / 4) (λ n. (class + 1) * 2 ^ 32 + mask) (λ before n after. Publishes before meta class mask after)
    publishes (inl b) = of_run b
    publishes (inr b) = of_nested b
