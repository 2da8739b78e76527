-- At a close one view has everything.
use Rattle.std.proofs.Common.{◌≡◌, ◌≢◌, ℕ, zero, suc, ◌+◌, ◌%◌, ◌<◌, ◌≤◌, eqb, eq-eqb, true, false, List, [], ◌∷◌, refl, sym, ap, ◌∙◌, subst, ⊎_elim, arith}
use mathlib.Core.Option.{some, some-ne-none, some-injective}
use lib.ListN.{get_elem?}
use Rattle.std.proofs.lemmas.Bool.{cases_lt}
use Rattle.ng_terms.specs.declared.entry.Extent.{Extent}
use Rattle.ng_view.specs.declared.view.Held.{Held}
use Rattle.ng_view.specs.declared.view.Nest.{Nest}
use Rattle.ng_view.specs.declared.view.Book.{Book}
use Rattle.ng_view.specs.declared.view.Desk.{Desk}
use Rattle.ng_view.specs.declared.view.View.{View}
use Rattle.ng_view.specs.declared.view.Start.{Start}
use Rattle.ng_view.specs.Lists.{total_by, count_of}
use Rattle.ng_view.specs.Cells.{marked, owed}
use Rattle.ng_view.specs.Views.{here, has, desk_of, numbered, blocks, lives}
use Rattle.ng_view.specs.Rule.{Rule}
use Rattle.ng_rule.proofs.geometry.Lists.{total_by-two, count_of-zero}

-- where the others count for nothing, all count for what one does
only : (f : View → ℕ) (vs : List View) (id : ℕ) (v : View) → get_elem? vs id ≡ some v → ((j : ℕ) (u : View) → j ≢ id → get_elem? vs j ≡ some u → f u ≡ 0) → total_by f vs ≡ f v
only f [] id v e h = absurd (some-ne-none v (sym e))
only f (x ∷ xs) zero v e h = let a : f x ≡ f v = ap f (some-injective x v e) in let b = nothing f xs (λ j u s. h (suc j) u (λ q. omega arith) s) in omega arith
  where
    nothing : (f : View → ℕ) (xs : List View) → ((j : ℕ) (u : View) → get_elem? xs j ≡ some u → f u ≡ 0) → total_by f xs ≡ 0
    nothing f [] h = refl
    nothing f (x ∷ xs) h = let a = h 0 x refl in let b = nothing f xs (λ j u s. h (suc j) u s) in omega arith
only f (x ∷ xs) (suc id) v e h = let a = h 0 x (λ q. omega arith) refl in let b = only f xs id v e (λ j u n s. h (suc j) u (λ q. n (omega arith)) s) in omega arith

module _ (key : Start) (ws : List ℕ) (vs : List View) (id : ℕ) (v : View) (kept : Rule key ws vs) (here_v : get_elem? vs id ≡ some v)
    (leads : v.leads ≡ true) (desk : desk_of vs ≡ v.desk) (all : (k : ℕ) → 0 < k → k < v.desk.next → 1 ≤ numbered k v) (even : v.sent ≡ v.taken) (whole : v.parcel ≡ false) where
  follows : (j : ℕ) (u : View) → j ≢ id → get_elem? vs j ≡ some u → u.leads ≡ false
  follows j u n e = count_of-zero u.leads (let a = total_by-two (λ (x : View). count_of x.leads) vs id j v u n here_v e in let b = kept.hands.leaders in let c : count_of v.leads ≡ 1 = ap count_of leads in omega arith)

  bookless : (j : ℕ) (u : View) → j ≢ id → get_elem? vs j ≡ some u → u.books ≡ []
  bookless j u n e = by_books u.books refl
    where
      by_books : (bs : List Book) → u.books ≡ bs → bs ≡ []
      by_books [] q = refl
      by_books (b ∷ bs) q =
          let k = b.number in
          let one : count_of (eqb b.number k) ≡ 1 = ap count_of (eq-eqb k k refl) in
          let c : numbered k u ≡ count_of (eqb b.number k) + total_by (λ (x : Book). count_of (eqb x.number k)) bs = ap (total_by (λ (x : Book). count_of (eqb x.number k))) q in
          let two = total_by-two (numbered k) vs id j v u n here_v e in
          ⊎_elim
          (λ (z : 0 < k).
          ⊎_elim (λ (l : k < v.desk.next). absurd (let a = all k z l in let o = kept.hands.once k in omega arith))
          (λ (l : v.desk.next ≤ k). absurd (let a = kept.hands.above k (subst (λ (d : Desk). d.next ≤ k) (sym desk) l) in omega arith))
          (cases_lt k v.desk.next))
          (λ (z : k ≤ 0). absurd (let a = kept.hands.none in let k0 : k ≡ 0 = omega arith in let a' : total_by (numbered k) vs ≡ 0 = ap (λ x. total_by (numbered x) vs) k0 ∙ a in omega arith))
          (cases_lt 0 k)

  no_parcel : (j : ℕ) (u : View) → j ≢ id → get_elem? vs j ≡ some u → u.parcel ≡ false
  no_parcel j u n e =
      let sent = only (λ x. x.sent) vs id v here_v (λ i x m s. (kept.hands.idle i x s (bookless i x m s)).0) in
      let taken = only (λ x. x.taken) vs id v here_v (λ i x m s. (kept.hands.idle i x s (bookless i x m s)).1) in
      count_of-zero u.parcel (let a = total_by-two (λ (x : View). count_of x.parcel) vs id j v u n here_v e in let p = kept.hands.parcels in let q = even in omega arith)

  empty : (j : ℕ) (u : View) → j ≢ id → get_elem? vs j ≡ some u → (u.held ≡ []) × (u.excuses ≡ [])
  empty j u n e = (kept.hands.idle j u e (bookless j u n e)).2 (follows j u n e) (no_parcel j u n e)

  -- each slot of a live group is in a mask or in this view
  pub all_slots : (m i : ℕ) → m % 4 ≡ 0 → i < 32 → marked ws m i + has m i v ≡ owed ws m i
  all_slots m i al lt =
      let a = kept.slots.each m i al lt in
      let b = only (has m i) vs id v here_v (λ j u n e. (let h = ap (total_by (λ (y : Held). here m i y.place)) (empty j u n e).0 in let d = ap (λ (d : Desk). total_by (λ (y : Nest). here m i y.place) d.layout.nests) (kept.hands.desks j u e (follows j u n e)) in omega arith)) in omega arith

  -- its blocks are the live list of the history
  pub all_blocks : (b : Extent) → total_by (blocks b) vs ≡ blocks b v
  all_blocks b = only (blocks b) vs id v here_v (λ j u n e. ap (total_by (λ (y : Held). lives b y.block)) (empty j u n e).0)

  -- and the history has no other entries than those of its books
  pub all_books : (k : ℕ) → numbered k v ≡ 0 → total_by (numbered k) vs ≡ 0
  all_books k z = only (numbered k) vs id v here_v (λ j u n e. ap (total_by (λ (x : Book). count_of (eqb x.number k))) (bookless j u n e)) ∙ z
