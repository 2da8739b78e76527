-- Where live groups lie, for the view of the lock's seat.
use Rattle.std.proofs.Common.{◌≡◌, ◌≢◌, ℕ, zero, suc, ◌+◌, ◌*◌, ◌<◌, ◌≤◌, eqb, cond, Bool, true, false, List, [], ◌∷◌, refl, sym, ap, ◌∙◌, subst, ⊎_elim, inl, inr, arith}
use Rattle.std.specs.Prelude.{Option, Some, None}
use Rattle.std.proofs.lemmas.Bool.Decides.{nat_tests}
use mathlib.Core.Option.{some}
use lib.ListN.{get_elem?}
use Rattle.ng_view.specs.Cells.{cell, group_at}
use Rattle.ng_view.specs.Conditions.{IsEmpty, IsUnborn}
use Rattle.ng_view.specs.Layouts.{InNest, IsLaid, OnRun}
use Rattle.ng_view.specs.LockSteps.{nest_of}
use Rattle.ng_view.specs.Lists.{Among}
use Rattle.ng_view.specs.Places.{Owns, slot_start}
use Rattle.ng_view.specs.Rule.{Rule}
use Rattle.ng_view.specs.Views.{desk_of}
use Rattle.ng_view.specs.declared.view.Desk.{Desk}
use Rattle.ng_view.specs.declared.view.Group.{Group}
use Rattle.ng_view.specs.declared.view.Layout.{Layout}
use Rattle.ng_view.specs.declared.view.Nest.{Nest}
use Rattle.ng_view.specs.declared.view.Place.{Place}
use Rattle.ng_view.specs.declared.view.Run.{Run}
use Rattle.ng_view.specs.declared.view.View.{View}
use Rattle.ng_view.specs.declared.view.Start.{Start}
use Rattle.ng_rule.proofs.geometry.Facts.{nested}
use Rattle.ng_rule.proofs.geometry.Nesting.{IsSlot, in_run, within}
use Rattle.ng_rule.proofs.geometry.Strides.{some_stride, stride_whole}
use Rattle.ng_rule.proofs.lock.LockNotes.{led}
use Rattle.ng_view.specs.Notes.{IsNewRun, plain_run}
use Rattle.ng_rule.proofs.lock.Facts.{group_is, listing, meta_whole, same_group, tag_live}

-- a list of slots that carry where one is found, or none
carries : (m : ℕ) (ns : List Nest) (n : Nest) → nest_of m ns ≡ Some n → Among n ns × (n.child ≡ m)
carries m [] n e = absurd (cc)
carries m (x ∷ xs) n e = by_test (carries m xs n) (eqb x.child m) refl e
  where
    same : (k : ℕ) → eqb k m ≡ true → k ≡ m
    same k is = grind (arith, nat_tests)

    option : Some x ≡ Some n → x ≡ n
    option q = cc

    by_test : (nest_of m xs ≡ Some n → Among n xs × (n.child ≡ m)) → (b : Bool) → eqb x.child m ≡ b → cond b (Some x) (nest_of m xs) ≡ Some n → Among n (x ∷ xs) × (n.child ≡ m)
    by_test ih true is q = let o = option q in (inl (sym o), ap (λ (y : Nest). y.child) (sym o) ∙ same x.child is)
    by_test ih false is q = let p = ih q in (inr p.0, p.1)

none_found : (o : Option Nest) → ((n : Nest) → o ≡ Some n → ⊥) → o ≡ None
none_found None h = refl
none_found (Some n) h = absurd (h n refl)

module _ (key : Start) (id : ℕ) (v : View) (leads : v.leads ≡ true) (ws : List ℕ) (vs : List View) (kept : Rule key ws vs) (at : get_elem? vs id ≡ some v) where
  abbrev d : Layout
  d = (desk_of vs).layout

  desk_is : desk_of vs ≡ v.desk
  desk_is = led key id v leads ws vs kept at

  laid : (g : Group) → Among g v.desk.groups → IsLaid ws d g
  laid g there = subst (IsLaid ws d) (sym (group_is key id v leads ws vs kept at g there)) (kept.words.lawful.groups g.meta (meta_whole key id v leads ws vs kept at g there) (tag_live key id v leads ws vs kept at g there))

  slot_laid : (p : Place) → IsSlot ws p → IsLaid ws d p.group
  slot_laid p s = subst (IsLaid ws d) (sym s.0.group) (kept.words.lawful.groups p.group.meta s.0.whole (subst (λ (g : Group). 0 < g.tag) s.0.group s.1))

  -- two live groups of one base are one
  pub one_base : (g h : Group) → Among g v.desk.groups → Among h v.desk.groups → h.base ≡ g.base → h ≡ g
  one_base g h there here e =
      same_group key id v leads ws vs kept at h g here there (sym (laid h here).base ∙ ap (cell ws) e ∙ (laid g there).base)

  on_run : (g : Group) → Among g v.desk.groups → 0 < g.maplen → OnRun d.runs g
  on_run g there some_pages = ⊎_elim
      (λ (r : OnRun d.runs g). r)
      (λ (n : InNest d.nests g). absurd (let none = n.nested.unmapped in omega arith))
      (laid g there).lies

  -- a live group with pages has their run
  pub paged : (g : Group) → Among g v.desk.groups → 0 < g.maplen → Among (record { addr = g.base; pages = g.maplen; area = false }) v.desk.layout.runs
  paged g there some_pages =
      let r = on_run g there some_pages in
      let same : r.run ≡ record { addr = g.base; pages = g.maplen; area = false } = (λ i. record { addr = r.begins i; pages = r.pages i; area = r.plain i }) in
      subst (λ (e : Desk). Among (record { addr = g.base; pages = g.maplen; area = false }) e.layout.runs) desk_is (subst (λ (s : Run). Among s d.runs) same r.noted)

  -- no slot's own cell is where a run of a live group begins
  no_own : (fuel a : ℕ) (p : Place) → 65 ≤ p.group.tag + fuel → IsSlot ws p → Owns p a → (r : Run) → Among r d.runs → r.addr ≡ a → 1 ≤ r.pages → ⊥
  no_own zero a p f i o r there begins some_pages = let l = (slot_laid p i).low in absurd (omega arith)
  no_own (suc fuel) a p f i o r there begins some_pages =
      let w = within p a i.2 o in let w0 = w.0 in let w1 = w.1 in
      ⊎_elim
      (λ (on : OnRun d.runs p.group).
      let e = on.begins in let l = on.fits in
      let same = kept.words.lawful.apart r on.run a there on.noted (omega arith, omega arith) (omega arith, omega arith) in
      let addr : r.addr ≡ on.run.addr = ap (λ (z : Run). z.addr) same in absurd (omega arith))
      (λ (n : InNest d.nests p.group).
      let b = n.begins in let h = n.fits in let t = n.lower in
      no_own fuel a n.nest.place (omega arith) (nested ws vs kept.slots n.nest n.noted) (omega arith, omega arith) r there begins some_pages)
      (slot_laid p i).lies

  -- a live group with pages is carried by no slot
  pub uncarried : (g : Group) → Among g v.desk.groups → 0 < g.maplen → nest_of g.meta v.desk.layout.nests ≡ None
  uncarried g there some_pages = none_found (nest_of g.meta v.desk.layout.nests) (λ n q.
      let c = carries g.meta v.desk.layout.nests n q in
      let noted : Among n d.nests = subst (λ (e : Desk). Among n e.layout.nests) (sym desk_is) c.0 in
      let i = nested ws vs kept.slots n noted in
      let r = on_run g there some_pages in
      let base : g.base ≡ slot_start n.place = ap (λ (y : Group). y.base) (group_is key id v leads ws vs kept at g there) ∙ ap (λ k. cell ws (k + 16)) (sym c.1) ∙ (kept.words.lawful.carried n noted).base in
      let s = some_stride ws d n.place.group i.1 (slot_laid n.place i) in
      let t = stride_whole n.place.group in
      let pages = (kept.words.lawful.in_space r.run r.noted).some in
      no_own 65 g.base n.place (omega arith) i (omega arith, omega arith) r.run r.noted r.begins pages)

  -- a meta without a live group is carried by no slot
  pub unborn_uncarried : (m : ℕ) → IsUnborn v m → (n : Nest) → Among n v.desk.layout.nests → n.child ≢ m
  unborn_uncarried m unborn n there e =
      let c = kept.words.lawful.carried n (subst (λ (k : Desk). Among n k.layout.nests) (sym desk_is) there) in
      unborn (group_at ws n.child) ((listing key id v leads ws vs kept at).known n.child c.whole c.live) e

  -- no live group begins at a run that is new
  pub new_empty : (a pages : ℕ) → IsNewRun key v a pages → IsEmpty v (plain_run a pages)
  new_empty a pages new g there e =
      let base : g.base ≡ (group_at ws g.meta).base = ap (λ (y : Group). y.base) (group_is key id v leads ws vs kept at g there) in
      let r = in_run key ws d kept.words.lawful (nested ws vs kept.slots) g.base g.meta (meta_whole key id v leads ws vs kept at g there) (tag_live key id v leads ws vs kept at g there) (omega arith) (omega arith) in
      let some_pages = new.some in
      ⊎_elim (λ (l : g.base < a). omega arith) (λ (l : a + 4096 * pages ≤ g.base). omega arith)
      (new.apart r.0 g.base (subst (λ (k : Desk). Among r.0 k.layout.runs) desk_is r.1) r.3)
