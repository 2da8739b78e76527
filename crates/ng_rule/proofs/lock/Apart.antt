-- The cells that the lock's seat steps on are of one kind each.
use Rattle.std.proofs.Common.{◌≡◌, ◌⊎◌, ℕ, ◌+◌, ◌-◌, ◌<◌, ◌≤◌, ◌%◌, ◌/◌, true, List, sym, ap, ◌∙◌, subst, ⊎_elim, arith}
use mathlib.Core.Option.{some}
use lib.ListN.{get_elem?}
use Rattle.ng_view.specs.Cells.{tag, group_at}
use Rattle.ng_view.specs.Conditions.{Builds}
use Rattle.ng_view.specs.Knowledge.{IsFree, IsOfFreeRun, IsOfFreeMeta}
use Rattle.ng_view.specs.Layouts.{InArea, Inside}
use Rattle.ng_view.specs.Lists.{Among}
use Rattle.ng_view.specs.Rule.{Rule}
use Rattle.ng_view.specs.Views.{desk_of}
use Rattle.ng_view.specs.declared.view.Desk.{Desk}
use Rattle.ng_view.specs.declared.view.Group.{Group}
use Rattle.ng_view.specs.declared.view.Layout.{Layout}
use Rattle.ng_view.specs.declared.view.Nest.{Nest}
use Rattle.ng_view.specs.declared.view.Run.{Run}
use Rattle.ng_view.specs.declared.view.View.{View}
use Rattle.ng_view.specs.declared.view.Start.{Start}
use Rattle.ng_rule.proofs.geometry.Facts.{nested, held_slot, held_leaf}
use Rattle.ng_rule.proofs.geometry.Frames.{free_not_own}
use Rattle.ng_rule.proofs.geometry.Lists.{find_among}
use Rattle.ng_rule.proofs.geometry.Nesting.{IsSlot, behind, in_run, leaves_apart, metas_apart, off_areas, reach_top}
use Rattle.ng_rule.proofs.lock.LockNotes.{led}
use Rattle.ng_rule.proofs.lock.LockSteps.{builds_free}
use Rattle.ng_view.specs.Stores.{IsActiveIndex, IsInMotion}
use Rattle.ng_rule.proofs.lock.Facts.{group_is, meta_whole, tag_live}

module _ (key : Start) (id : ℕ) (v : View) (leads : v.leads ≡ true) (ws : List ℕ) (vs : List View) (kept : Rule key ws vs) (at : get_elem? vs id ≡ some v) where
  abbrev d : Layout
  d = (desk_of vs).layout

  nests_ok : (n : Nest) → Among n d.nests → IsSlot ws n.place
  nests_ok = nested ws vs kept.slots

  free : (a : ℕ) → Builds v a → IsFree ws d a
  free a b = subst (λ (d : Desk). IsFree ws d.layout a) (sym (led key id v leads ws vs kept at)) (builds_free key id v leads ws vs kept at a b)

  in_area : (g : Group) → Among g v.desk.groups → InArea d g.meta
  in_area g there = (kept.words.lawful.groups g.meta (meta_whole key id v leads ws vs kept at g there) (tag_live key id v leads ws vs kept at g there)).in_area

  -- the base of a live group, and the cells behind it
  base_is : (g : Group) → Among g v.desk.groups → (a : ℕ) → a ≡ g.base + 8 → a ≡ (group_at ws g.meta).base + 8
  base_is g there a e = e ∙ ap (λ (y : Group). y.base + 8) (group_is key id v leads ws vs kept at g there)

  index_home : (g : Group) → Among g v.desk.groups → (a : ℕ) → a ≡ g.base + 8 → (r : Run) × Among r d.runs × (r.area ≡ Rattle.std.proofs.Common.false) × Inside r a
  index_home g there a e =
      let q = base_is g there a e in
      in_run key ws d kept.words.lawful nests_ok a g.meta (meta_whole key id v leads ws vs kept at g there) (tag_live key id v leads ws vs kept at g there) (omega arith) (omega arith)

  pub built_no_meta : (a b : ℕ) (g : Group) → Builds v a → Among g v.desk.groups → b < 40 → a ≡ g.meta + b → ⊥
  built_no_meta a b g builds there lt e =
      ⊎_elim
      (λ (y : IsOfFreeRun ws d a). off_areas key ws d kept.words.lawful nests_ok a g.meta (y.run, y.noted, y.plain, y.inside) (in_area g there) (omega arith) (omega arith))
      (λ (y : IsOfFreeMeta ws d a).
      let low = y.from in let high = y.below in
      let e' : y.meta + (a - y.meta) ≡ g.meta + b = omega arith in
      let p = metas_apart key ws d kept.words.lawful nests_ok y.meta g.meta (a - y.meta) b y.in_area (in_area g there) (omega arith) lt e' in
      let z : tag ws g.meta ≡ 0 = ap (tag ws) (sym p.0) ∙ y.free in
      let l = tag_live key id v leads ws vs kept at g there in let t : ℕ = tag ws g.meta in let l' : 0 < t = l in let z' : t ≡ 0 = z in absurd (omega arith))
      (free a builds).1

  pub built_no_index : (a : ℕ) → Builds v a → IsActiveIndex v a → ⊥
  built_no_index a builds i =
      let g = i.group in
      let q = base_is g i.there a i.place in
      let t = reach_top key ws d kept.words.lawful nests_ok a g.meta (meta_whole key id v leads ws vs kept at g i.there) (tag_live key id v leads ws vs kept at g i.there) (omega arith) (omega arith) in
      ⊎_elim
      (λ (y : IsOfFreeRun ws d a). y.free t.0 t.1 t.2 (sym t.3.begins ∙ ap (λ (z : Run). z.addr) (kept.words.lawful.apart t.3.run y.run a t.3.noted y.noted t.4 y.inside)))
      (λ (y : IsOfFreeMeta ws d a). off_areas key ws d kept.words.lawful nests_ok a y.meta (t.3.run, t.3.noted, t.3.plain, t.4) y.in_area y.from y.below)
      (free a builds).1

  pub index_no_meta : (a b : ℕ) (g : Group) → IsActiveIndex v a → Among g v.desk.groups → b < 40 → a ≡ g.meta + b → ⊥
  index_no_meta a b g i there lt e = off_areas key ws d kept.words.lawful nests_ok a g.meta (index_home i.group i.there a i.place) (in_area g there) (omega arith) (omega arith)

  pub same_meta : (g h : Group) (b c : ℕ) → Among g v.desk.groups → Among h v.desk.groups → b < 40 → c < 40 → g.meta + b ≡ h.meta + c → (g.meta ≡ h.meta) × (b ≡ c)
  same_meta g h b c there here lb lc e = metas_apart key ws d kept.words.lawful nests_ok g.meta h.meta b c (in_area g there) (in_area h here) lb lc e

  -- ---- the slots in motion
  slot : (a : ℕ) (c : IsInMotion v a) → IsSlot ws c.slot.place
  slot a c = held_slot ws vs kept.slots id v c.slot at (find_among _ _ v.held c.slot c.found).0

  pub built_no_slot : (a : ℕ) → Builds v a → IsInMotion v a → ⊥
  built_no_slot a builds c = free_not_own key ws d kept.words.lawful nests_ok a c.slot.place (slot a c) c.own (free a builds)

  pub index_no_slot : (a : ℕ) → IsActiveIndex v a → IsInMotion v a → ⊥
  index_no_slot a i c =
      let g = i.group in let q = base_is g i.there a i.place in
      let w = behind key ws d kept.words.lawful nests_ok a g.meta c.slot.place (meta_whole key id v leads ws vs kept at g i.there) (tag_live key id v leads ws vs kept at g i.there) (slot a c)
      (held_leaf ws vs kept.slots id v c.slot at (find_among _ _ v.held c.slot c.found).0) c.own (omega arith) (omega arith) in omega arith

  pub same_slot : (a : ℕ) (b c : IsInMotion v a) → b.slot.place ≡ c.slot.place
  same_slot a b c = leaves_apart key ws d kept.words.lawful nests_ok a b.slot.place c.slot.place (slot a b) (slot a c)
      (held_leaf ws vs kept.slots id v b.slot at (find_among _ _ v.held b.slot b.found).0)
      (held_leaf ws vs kept.slots id v c.slot at (find_among _ _ v.held c.slot c.found).0) b.own c.own
