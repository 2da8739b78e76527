-- Groups that cease to live, by the view of the lock's seat alone.
use Rattle.std.proofs.Common.{◌≡◌, ◌≢◌, ℕ, ◌+◌, ◌/◌, ◌<◌, ◌≤◌, eqb, eq-eqb, cond, Bool, true, false, List, [], ◌∷◌, refl, sym, ap, ◌∙◌, subst, ⊎_elim, inl, inr, arith}
use Rattle.std.specs.Prelude.{Option, Some, None}
use Rattle.std.proofs.lemmas.Bool.Decides.{nat_tests}
use mathlib.Core.Option.{some}
use lib.ListN.{get_elem?}
use Rattle.ng_view.specs.Layouts.{InNest, IsLaid, OnRun}
use Rattle.ng_view.specs.Rule.{Rule}
use Rattle.ng_view.specs.Views.{desk_of}
use Rattle.ng_view.specs.declared.view.Desk.{Desk}
use Rattle.ng_rule.proofs.geometry.Facts.{nested}
use Rattle.ng_rule.proofs.lock.LockNotes.{led}
use Rattle.ng_rule.proofs.lock.Facts.{group_is, listing, meta_whole, tag_live}
use Rattle.ng_rule.proofs.lock.Lying.{one_base, paged, uncarried}
use Rattle.ng_view.specs.LockSteps.{carrier, nest_of, retired, retired_nested, without_nest}
use Rattle.ng_view.specs.Lists.{Among, count_of, find, total_by}
use Rattle.ng_view.specs.May.{May}
use Rattle.ng_view.specs.declared.view.Group.{Group}
use Rattle.ng_view.specs.declared.view.Held.{Held}
use Rattle.ng_view.specs.declared.view.Nest.{Nest}
use Rattle.ng_view.specs.declared.view.View.{View}
use Rattle.ng_view.specs.declared.view.Start.{Start}
use Rattle.ng_rule.proofs.geometry.Lists.{find_among, total_by-among}
use Rattle.ng_rule.proofs.lock.LockSteps.{retire_may, retire_nested_may}
use Rattle.ng_view.specs.Groups.{HasAllSlots, IsCarriedIn, Retires}

-- no slot carries the group where none is found
none_carries : (m : ℕ) (ns : List Nest) → nest_of m ns ≡ None → (n : Nest) → Among n ns → n.child ≢ m
none_carries m [] e n s = elim s [ ]
none_carries m (x ∷ xs) e n s = by_test (none_carries m xs) (eqb x.child m) refl e s
  where
    other : (k : ℕ) → eqb k m ≡ false → k ≢ m
    other k is q = grind (arith, nat_tests)

    by_test : (nest_of m xs ≡ None → (n : Nest) → Among n xs → n.child ≢ m) → (b : Bool) → eqb x.child m ≡ b → cond b (Some x) (nest_of m xs) ≡ None → Among n (x ∷ xs) → n.child ≢ m
    by_test ih true is e s = absurd (cc)
    by_test ih false is e (inl q) = λ f. other x.child is (ap (λ (y : Nest). y.child) (sym q) ∙ f)
    by_test ih false is e (inr t) = ih e n t

-- and all that carry stay
all_stay : (m : ℕ) (ns : List Nest) → nest_of m ns ≡ None → without_nest m ns ≡ ns
all_stay m [] e = refl
all_stay m (x ∷ xs) e = by_test (all_stay m xs) (eqb x.child m) e
  where
    by_test : (nest_of m xs ≡ None → without_nest m xs ≡ xs) → (b : Bool) → cond b (Some x) (nest_of m xs) ≡ None → cond b xs (x ∷ without_nest m xs) ≡ x ∷ xs
    by_test ih true e = absurd (cc)
    by_test ih false e = ap (λ (ys : List Nest). x ∷ ys) (ih e)

-- the one that carries it is found
found_nest : (m : ℕ) (ns : List Nest) (n : Nest) → Among n ns → n.child ≡ m → total_by (λ (y : Nest). count_of (eqb y.child m)) ns ≤ 1 → nest_of m ns ≡ Some n
found_nest m [] n s e one = elim s [ ]
found_nest m (x ∷ xs) n s e one = by_test (λ t. found_nest m xs n t e) (eqb x.child m) refl s one
  where
    here : (n m : ℕ) → n ≡ m → eqb n m ≡ false → ⊥
    here n m q is = grind (arith, nat_tests)

    some_more : Among n xs → 1 ≤ total_by (λ (y : Nest). count_of (eqb y.child m)) xs
    some_more t = let a = total_by-among (λ (y : Nest). count_of (eqb y.child m)) xs n t in let c : count_of (eqb n.child m) ≡ 1 = ap count_of (eq-eqb n.child m e) in omega arith

    by_test : (Among n xs → total_by (λ (y : Nest). count_of (eqb y.child m)) xs ≤ 1 → nest_of m xs ≡ Some n) → (b : Bool) → eqb x.child m ≡ b → Among n (x ∷ xs) → count_of b + total_by (λ (y : Nest). count_of (eqb y.child m)) xs ≤ 1 → cond b (Some x) (nest_of m xs) ≡ Some n
    by_test ih true is (inl q) one = ap (λ (y : Nest). Some y) (sym q)
    by_test ih true is (inr t) one = absurd (let a = some_more t in omega arith)
    by_test ih false is (inl q) one = absurd (here x.child m (ap (λ (y : Nest). y.child) (sym q) ∙ e) is)
    by_test ih false is (inr t) one = ih t (omega arith)

-- the view after, where no slot carries the group
pub retired_mapped : (v : View) (m : ℕ) → nest_of m v.desk.layout.nests ≡ None → retired_nested v m ≡ retired v m [] v.desk.layout.nests
retired_mapped v m e = (λ i. retired v m (carrier (e i)) (all_stay m v.desk.layout.nests e i))

module _ (key : Start) (id : ℕ) (v : View) (leads : v.leads ≡ true) (moves : (h : Held) → Among h v.held → h.block ≡ None) where
  of_group : (g : Group) → Among g v.desk.groups → ((i : ℕ) → i ≤ g.last → (h : Held) × (find g.meta i v.held ≡ Some h) × (h.block ≡ None)) → (o : Option Nest) → nest_of g.meta v.desk.layout.nests ≡ o
      → May key id v ((g.meta + 24) / 4) (λ n. 0) (λ before n after. after ≡ retired_nested before g.meta)
  of_group g there all None e ws vs kept at wide =
      let p = retire_may key id v leads g there all (none_carries g.meta v.desk.layout.nests e) ws vs kept at wide in (p.0, p.1, p.2 ∙ sym (retired_mapped v g.meta e))
  of_group g there all (Some n) e ws vs kept at wide =
      let p = retire_nested_may key id v leads g n there all e ws vs kept at wide in (p.0, p.1, p.2 ∙ ap (λ (o : Option Nest). retired v g.meta (carrier o) (without_nest g.meta v.desk.layout.nests)) (sym e))

  -- the slot that carries a group without pages
  carried_in : (ws : List ℕ) (vs : List View) → Rule key ws vs → get_elem? vs id ≡ some v → (g : Group) → Among g v.desk.groups → g.maplen ≡ 0 → IsCarriedIn v g
  carried_in ws vs kept at g there none = ⊎_elim
      (λ (r : OnRun (desk_of vs).layout.runs g). absurd (let some_page = (kept.words.lawful.in_space r.run r.noted).some in let p = r.pages in omega arith))
      (λ (n : InNest (desk_of vs).layout.nests g).
      let slot = nested ws vs kept.slots n.nest n.noted in
      let q = led key id v leads ws vs kept at in
      record {
        nest = n.nest;
        carries = found_nest g.meta v.desk.layout.nests n.nest (subst (λ (e : Desk). Among n.nest e.layout.nests) q n.noted) n.child (subst (λ (e : Desk). total_by (λ (y : Nest). count_of (eqb y.child g.meta)) e.layout.nests ≤ 1) q (kept.words.lawful.single g.meta));
        parent = subst (λ (y : Group). Among y v.desk.groups) (sym slot.0.group) ((listing key id v leads ws vs kept at).known n.nest.place.group.meta slot.0.whole (subst (λ (y : Group). 0 < y.tag) slot.0.group slot.1));
        index = slot.2;
        nested = n.nested;
        lower = n.lower;
        begins = n.begins;
        fits = n.fits;
      })
      laid.lies
    where
      laid : IsLaid ws (desk_of vs).layout g
      laid = subst (IsLaid ws (desk_of vs).layout) (sym (group_is key id v leads ws vs kept at g there)) (kept.words.lawful.groups g.meta (meta_whole key id v leads ws vs kept at g there) (tag_live key id v leads ws vs kept at g there))

  pub retires : (meta : ℕ) → HasAllSlots v meta → May key id v ((meta + 24) / 4) (λ n. 0) (λ before n after. Retires before meta after)
  retires meta all ws vs kept at wide =
      let p = subst (λ m. May key id v ((m + 24) / 4) (λ n. 0) (λ before n after. after ≡ retired_nested before m)) all.live.of_meta
      (of_group all.live.group all.live.there (λ i le. let r = all.each i le in (r.0, subst (λ m. find m i v.held ≡ Some r.0) (sym all.live.of_meta) r.1, moves r.0 (find_among meta i v.held r.0 r.1).0)) (nest_of all.live.group.meta v.desk.layout.nests) refl) ws vs kept at wide in (
        p.0,
        p.1,
        record {
          view = p.2;
          carried = λ g there e none. carried_in ws vs kept at g there none;
          alone = λ g h there e here same. one_base key id v leads ws vs kept at g h there here same;
          uncarried = λ g there e pages. subst (λ m. nest_of m v.desk.layout.nests ≡ None) e (uncarried key id v leads ws vs kept at g there pages);
          paged = λ g there e pages. paged key id v leads ws vs kept at g there pages;
        },
      )
