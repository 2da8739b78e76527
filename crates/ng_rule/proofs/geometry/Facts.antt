-- What the rule says of one slot.
use Rattle.std.proofs.Common.{◌≡◌, ◌≢◌, ℕ, zero, suc, ◌+◌, ◌<◌, ◌≤◌, leb, Bool, true, false, List, refl, sym, ap, ◌∙◌, subst, ⊎_elim, arith}
use mathlib.Core.Option.{some}
use lib.ListN.{get_elem?}
use Rattle.std.specs.Int.{bit_at}
use Rattle.std.proofs.lemmas.Bool.{cases_eq, leb-true}
use Rattle.ng_view.specs.declared.view.Group.{Group}
use Rattle.ng_view.specs.declared.view.Place.{Place}
use Rattle.ng_view.specs.declared.view.Held.{Held}
use Rattle.ng_view.specs.declared.view.Nest.{Nest}
use Rattle.ng_view.specs.declared.view.Desk.{Desk}
use Rattle.ng_view.specs.declared.view.View.{View}
use Rattle.ng_view.specs.Lists.{Among, total_by, count_of}
use Rattle.ng_view.specs.Cells.{tag, last, owed_of, marked_of}
use Rattle.ng_view.specs.Views.{here, has, desk_of, no_desk}
use Rattle.ng_view.specs.Slots.{Slots, IsPlace}
use Rattle.ng_rule.proofs.geometry.Lists.{total_by-among, total_by-one, total_by-two, is_at-here, desk_at}
use Rattle.ng_rule.proofs.geometry.Nesting.{IsSlot, IsLeaf}

pub owed_most : (t l i : ℕ) → owed_of t l i ≤ 1
owed_most zero l i = omega arith
owed_most (suc t) l i = by_test (leb i l)
  where
    by_test : (b : Bool) → count_of b ≤ 1
    by_test true = omega arith
    by_test false = omega arith

pub owed_live : (t l i : ℕ) → 0 < owed_of t l i → (0 < t) × (i ≤ l)
owed_live zero l i h = absurd (omega arith)
owed_live (suc t) l i h = (omega arith, by_test (leb i l) refl h)
  where
    by_test : (b : Bool) → leb i l ≡ b → 0 < count_of b → i ≤ l
    by_test true is h = leb-true i l is
    by_test false is h = absurd (omega arith)

pub marked_live : (t a f i : ℕ) → 0 < t → marked_of t a f i ≡ bit_at a i + bit_at f i
marked_live zero a f i h = absurd (omega arith)
marked_live (suc t) a f i h = refl

pub marked_dead : (t a f i : ℕ) → t ≡ 0 → marked_of t a f i ≡ 0
marked_dead t a f i e = ap (λ x. marked_of x a f i) e

pub here_self : (p : Place) → here p.group.meta p.index p ≡ 1
here_self p = ap count_of (is_at-here p)

pub has_held : (v : View) (h : Held) → Among h v.held → 1 ≤ has h.place.group.meta h.place.index v
has_held v h s = let a = total_by-among (λ (x : Held). here h.place.group.meta h.place.index x.place) v.held h s in let b = here_self h.place in omega arith

module _ (ws : List ℕ) (vs : List View) (slots : Slots ws vs) where
  -- a place of which some view has the slot
  counted : (j : ℕ) (u : View) (p : Place) → get_elem? vs j ≡ some u → IsPlace ws p → 1 ≤ has p.group.meta p.index u → IsSlot ws p
  counted j u p e i h =
      let s = slots.each p.group.meta p.index i.whole i.few in
      let w = total_by-one (has p.group.meta p.index) vs j u e in
      let l = owed_live (tag ws p.group.meta) (last ws p.group.meta) p.index (omega arith) in
      (i, subst (λ (g : Group). 0 < g.tag) (sym i.group) l.0, subst (λ (g : Group). p.index ≤ g.last) (sym i.group) l.1)

  pub held_slot : (j : ℕ) (u : View) (h : Held) → get_elem? vs j ≡ some u → Among h u.held → IsSlot ws h.place
  held_slot j u h e s = counted j u h.place e (slots.held j u e h s) (has_held u h s)

  nest_here : (u : View) (n : Nest) → Among n u.desk.layout.nests → 1 ≤ total_by (λ (x : Nest). here n.place.group.meta n.place.index x.place) u.desk.layout.nests
  nest_here u n s = let a = total_by-among (λ (x : Nest). here n.place.group.meta n.place.index x.place) u.desk.layout.nests n s in let b = here_self n.place in omega arith

  pub nest_at : (n : Nest) → Among n (desk_of vs).layout.nests → (j : ℕ) × (u : View) × (get_elem? vs j ≡ some u) × Among n u.desk.layout.nests
  nest_at n s =
      ⊎_elim
      (λ (e : desk_of vs ≡ no_desk). absurd (subst (λ (d : Desk). Among n d.layout.nests) e s))
      (λ (r : (j : ℕ) × (u : View) × (get_elem? vs j ≡ some u) × (u.desk ≡ desk_of vs)). (r.0, r.1, r.2, subst (λ (d : Desk). Among n d.layout.nests) (sym r.3) s))
      (desk_at vs)

  pub nest_slot : (j : ℕ) (u : View) (n : Nest) → get_elem? vs j ≡ some u → Among n u.desk.layout.nests → IsSlot ws n.place
  nest_slot j u n e s = counted j u n.place e (slots.nests j u e n s) (let a = nest_here u n s in omega arith)

  pub nested : (n : Nest) → Among n (desk_of vs).layout.nests → IsSlot ws n.place
  nested n s = let r = nest_at n s in counted r.0 r.1 n.place r.2 (slots.nests r.0 r.1 r.2 n r.3) (let a = nest_here r.1 n r.3 in omega arith)

  -- a slot is in no more than one view
  pub alone : (j k : ℕ) (u v : View) (p : Place) → get_elem? vs j ≡ some u → get_elem? vs k ≡ some v → IsPlace ws p → 1 ≤ has p.group.meta p.index u → 1 ≤ has p.group.meta p.index v → j ≡ k
  alone j k u v p e f i a b =
      let s = slots.each p.group.meta p.index i.whole i.few in
      let o = owed_most (tag ws p.group.meta) (last ws p.group.meta) p.index in
      ⊎_elim (λ (h : j ≡ k). h) (λ (n : j ≢ k). let w = total_by-two (has p.group.meta p.index) vs k j v u n f e in absurd (omega arith)) (cases_eq j k)

  -- and there once
  pub once : (j : ℕ) (u : View) (p : Place) → get_elem? vs j ≡ some u → IsPlace ws p → has p.group.meta p.index u ≤ 1
  once j u p e i =
      let s = slots.each p.group.meta p.index i.whole i.few in
      let o = owed_most (tag ws p.group.meta) (last ws p.group.meta) p.index in
      let w = total_by-one (has p.group.meta p.index) vs j u e in omega arith

  pub held_leaf : (j : ℕ) (u : View) (h : Held) → get_elem? vs j ≡ some u → Among h u.held → IsLeaf (desk_of vs).layout h.place
  held_leaf j u h e s n t is =
      let r = nest_at n t in
      let i = slots.held j u e h s in
      let a : 1 ≤ total_by (λ (x : Held). here h.place.group.meta h.place.index x.place) u.held = (let a = total_by-among (λ (x : Held). here h.place.group.meta h.place.index x.place) u.held h s in let b = here_self h.place in omega arith) in
      let b : 1 ≤ total_by (λ (x : Nest). here h.place.group.meta h.place.index x.place) r.1.desk.layout.nests = subst (λ (p : Place). 1 ≤ total_by (λ (x : Nest). here p.group.meta p.index x.place) r.1.desk.layout.nests) is (nest_here r.1 n r.3) in
      let same = alone j r.0 u r.1 h.place e r.2 i (omega arith) (omega arith) in
      let b' : 1 ≤ total_by (λ (x : Nest). here h.place.group.meta h.place.index x.place) u.desk.layout.nests = subst (λ (v : View). 1 ≤ total_by (λ (x : Nest). here h.place.group.meta h.place.index x.place) v.desk.layout.nests) (mathlib.Core.Option.some-injective r.1 u (sym r.2 ∙ ap (λ k. get_elem? vs k) (sym same) ∙ e)) b in
      let o = once j u h.place e i in absurd (omega arith)
