-- Blocks come and go with their entries.
use Rattle.std.proofs.Common.{◌≡◌, ◌⊎◌, ℕ, zero, suc, ◌+◌, ◌-◌, ◌%◌, ◌<◌, ◌≤◌, max, eqb, Bool, true, false, List, [], ◌∷◌, set, refl, sym, ap, ◌∙◌, subst, ⊎_elim, inl, inr, arith}
use mathlib.Core.Option.{some}
use lib.ListN.{get_elem?}
use Rattle.std.specs.Prelude.{Option, Some, None}
use Rattle.std.proofs.lemmas.Bool.{cases_lt}
use Rattle.ng_view.specs.declared.view.Place.{Place}
use Rattle.ng_terms.specs.declared.entry.Extent.{Extent}
use Rattle.ng_view.specs.declared.view.Held.{Held}
use Rattle.ng_view.specs.declared.view.Nest.{Nest}
use Rattle.ng_view.specs.declared.view.Book.{Book}
use Rattle.ng_view.specs.declared.view.Desk.{Desk}
use Rattle.ng_terms.specs.declared.entry.Entry.{Entry}
use Rattle.ng_terms.specs.declared.entry.Entry.TheVariants.{Give, Take, Resize}
use Rattle.ng_view.specs.declared.view.View.{View}
use Rattle.ng_view.specs.declared.view.Start.{Start}
use Rattle.ng_view.specs.Lists.{Among, total_by, count_of, is_at, find, excused}
use Rattle.ng_terms.specs.Heap.{extent, Apart, IsAlignment, empty}
use Rattle.ng_view.specs.Places.{Owns}
use Rattle.ng_view.specs.Hands.{IsDeskless, IsIdle, IsMoving, IsParcel, IsSingle}
use Rattle.ng_view.specs.Classes.{IsServed}
use Rattle.ng_view.specs.Words.{IsLawful}
use Rattle.ng_view.specs.Views.{here, has, desk_of, excuse_of, booked, numbered, blocks, lives, same_extent}
use Rattle.ng_view.specs.Rule.{Rule}
use Rattle.ng_view.specs.History.{History}
use Rattle.ng_view.specs.Slots.{IsPlace}
use Rattle.ng_view.specs.Knowledge.{IsKnown, Noted}
use Rattle.ng_view.specs.Blocks.{IsSet}
use Rattle.ng_view.specs.Listing.{Listing}
use Rattle.ng_view.specs.Steps.{write, with_block, booked_block}
use Rattle.ng_rule.proofs.geometry.Lists.{total_by-some_at, total_by-set, total_by-one, total_by-among, each_set, desk_same, total_by-edit, among_edit, find_among, among_one, is_at-true}
use Rattle.ng_rule.proofs.geometry.Nesting.{IsSlot, leaves_apart, own_in_run}
use Rattle.ng_rule.proofs.geometry.Facts.{held_slot, held_leaf, nested, alone, once, has_held}
use Rattle.ng_terms.specs.Histories.{state_after}
use Rattle.ng_rule.proofs.entry.Histories.{same_extent-true, same_extent-self, counted, among_counts, contains-among, among-contains, without-counts, resized-counts, live-once}
use Rattle.ng_view.specs.History.{space_between}
use Rattle.ng_rule.proofs.geometry.Parts.{total_by-keep, each_keep, slots_by}
use Rattle.ng_rule.proofs.entry.Enter.{history_by, total_by-write, length-write}

lives_some : (c : Extent) (b : Option Extent) → 0 < lives c b → b ≡ Some c
lives_some c None h = absurd (omega arith)
lives_some c (Some b) h = by_test (same_extent b c) refl h
  where
    by_test : (t : Bool) → same_extent b c ≡ t → 0 < count_of t → Some b ≡ Some c
    by_test true is h = ap Some (same_extent-true b c is)
    by_test false is h = absurd (omega arith)

module _ (key : Start) (ws : List ℕ) (vs : List View) (id : ℕ) (v : View) (kept : Rule key ws vs) (here_v : get_elem? vs id ≡ some v)
    (m i : ℕ) (h : Held) (found : find m i v.held ≡ Some h) where
  there : Among h v.held × (is_at m i h.place ≡ true)
  there = find_among m i v.held h found

  slot : IsSlot ws h.place
  slot = held_slot ws vs kept.slots id v h here_v there.0

  -- a live pair has a holder
  holder : (c : Extent) → Among c (state_after empty kept.history.calls).live → (j : ℕ) × (u : View) × (y : Held) × (get_elem? vs j ≡ some u) × Among y u.held × (y.block ≡ Some c)
  holder c s =
      let n = among_counts c (state_after empty kept.history.calls).live s in
      let l = kept.history.live c in
      let a = total_by-some_at (blocks c) vs (omega arith) in
      let b = total_by-some_at (λ (y : Held). lives c y.block) a.1.held a.3 in
      (a.0, a.1, b.1, a.2, from_index a.1.held b.0 b.1 b.2, lives_some c b.1.block b.3)
    where
      from_index : (hs : List Held) (n : ℕ) (y : Held) → get_elem? hs n ≡ some y → Among y hs
      from_index [] n y e = absurd (mathlib.Core.Option.some-ne-none y (sym e))
      from_index (x ∷ xs) zero y e = inl (sym (mathlib.Core.Option.some-injective x y e))
      from_index (x ∷ xs) (suc n) y e = inr (from_index xs n y e)

  -- who has a cell of this slot holds this slot
  same_holder : (j : ℕ) (u : View) (y : Held) (a : ℕ) → get_elem? vs j ≡ some u → Among y u.held → Owns y.place a → Owns h.place a → y ≡ h
  same_holder j u y a e s o q =
      let p = leaves_apart key ws (desk_of vs).layout kept.words.lawful (nested ws vs kept.slots) a y.place h.place
      (held_slot ws vs kept.slots j u y e s) slot (held_leaf ws vs kept.slots j u y e s) (held_leaf ws vs kept.slots id v h here_v there.0) o q in
      let k = alone ws vs kept.slots j id u v h.place e here_v slot.0 (subst (λ (z : Place). 1 ≤ has z.group.meta z.index u) p (has_held u y s)) (has_held v h there.0) in
      let uv : u ≡ v = mathlib.Core.Option.some-injective u v (sym e ∙ ap (λ n. get_elem? vs n) k ∙ here_v) in
      let s' : Among y v.held = subst (λ (z : View). Among y z.held) uv s in
      let at = is_at-true m i h.place there.1 in
      let o1 = once ws vs kept.slots id v h.place here_v slot.0 in
      let o2 : has m i v ≤ 1 = subst (λ (z : ℕ × ℕ). has z.0 z.1 v ≤ 1) (λ t. (at.0 t, at.1 t)) o1 in
      among_one m i v.held h y found (omega arith) s' (ap (is_at m i) p ∙ there.1)

  -- the first cell of a block is its slot's
  first_cell : (y : Held) (c : Extent) → IsSet y (Some c) → Owns y.place c.at
  first_cell y c s = let a = s.from in let b = s.first in (omega arith, b)

  module _ (k : ℕ) (mine : numbered k v ≡ 1) where
    abbrev to : Option Extent → Entry → View
    to b e = booked_block v m i b k e

    counts_blocks : (c : Extent) (b : Option Extent) (e : Entry) → blocks c (to b e) + lives c h.block ≡ blocks c v + lives c b
    counts_blocks c b e = total_by-edit (λ (y : Held). lives c y.block) m i (with_block b) v.held h found

    numbers_mine : (e : Entry) → total_by (λ (y : Book). count_of (eqb y.number k)) (write k e v.books) ≡ 1
    numbers_mine e = let a = total_by-write (λ (y : Book). count_of (eqb y.number k)) k e v.books 0 (λ y. omega arith) mine in omega arith

    -- the rule after the entry, where the history goes on
    kept_by : (b : Option Extent) (e : Entry) → ((x : ℕ) → excuse_of x e ≡ 0) → IsSet (with_block b h) b → IsServed (with_block b h) b → History key (set vs id (to b e)) → Rule key ws (set vs id (to b e))
    kept_by b e none sets served history =
        let w = to b e in
        let d : desk_of (set vs id w) ≡ desk_of vs = desk_same vs id v w here_v refl refl in
        let numbers : (n : ℕ) → total_by (numbered n) (set vs id w) ≡ total_by (numbered n) vs =
        λ n. total_by-keep (numbered n) vs id v w here_v (let a = total_by-write (λ (y : Book). count_of (eqb y.number n)) k e v.books 0 (λ y. omega arith) mine in omega arith) in
        let excuses : (n : ℕ) → total_by (λ (u : View). excused n u.excuses + booked n u) (set vs id w) ≡ total_by (λ (u : View). excused n u.excuses + booked n u) vs =
        λ n. total_by-keep (λ (u : View). excused n u.excuses + booked n u) vs id v w here_v
        (let a = total_by-write (λ (y : Book). total_by (excuse_of n) y.entries) k e v.books 0 (λ y. let z = none n in let q = Rattle.ng_rule.proofs.geometry.Lists.total_by-append (excuse_of n) y.entries (e ∷ []) in omega arith) mine in omega arith) in
        record {
          slots = record {
            each = slots_by ws ws vs id v w here_v (λ n j nl lj. ((let q = total_by-edit (λ (y : Held). here n j y.place) m i (with_block b) v.held h found in omega arith), refl)) kept.slots;
            plain = kept.slots.plain;
            held = each_keep (λ u. (y : Held) → Among y u.held → IsPlace ws y.place) vs id v w here_v (λ f y s. ⊎_elim (λ (t : Among y v.held). f y t) (λ (q : y ≡ with_block b h). subst (λ (z : Held). IsPlace ws z.place) (sym q) (f h there.0)) (among_edit m i (with_block b) v.held h y found s)) kept.slots.held;
            nests = each_keep (λ u. (n : Nest) → Among n u.desk.layout.nests → IsPlace ws n.place) vs id v w here_v (λ f. f) kept.slots.nests;
          };
          words = record {
            lawful = subst (λ (z : Desk). IsLawful key ws z.layout) (sym d) kept.words.lawful;
            blocks = each_keep (λ u. (y : Held) → Among y u.held → IsSet y y.block) vs id v w here_v (λ f y s. ⊎_elim (λ (t : Among y v.held). f y t) (λ (q : y ≡ with_block b h). subst (λ (z : Held). IsSet z z.block) (sym q) sets) (among_edit m i (with_block b) v.held h y found s)) kept.words.blocks;
          };
          listing = subst (Listing ws) (sym d) kept.listing;
          excuses = record {
            once = λ n l. let a = excuses n in let o = kept.excuses.once n l in omega arith;
            answered = λ n l. let r = kept.excuses.answered n (let a = excuses n in omega arith) in (r.0, subst (λ (z : Desk). n ≤ z.refusals) (sym d) r.1);
            last = subst (λ (z : Desk). (key.refusals ≤ z.refusals) × (z.refusals ≤ 18446744073709551615)) (sym d) kept.excuses.last;
          };
          history = history;
          knowledge = record {
            desk = subst (Noted ws) (sym d) kept.knowledge.desk;
            each = each_keep (λ u. (y : Held) → Among y u.held → IsKnown ws y) vs id v w here_v (λ f y s. ⊎_elim (λ (t : Among y v.held). f y t) (λ (q : y ≡ with_block b h). subst (IsKnown ws) (sym q) (f h there.0)) (among_edit m i (with_block b) v.held h y found s)) kept.knowledge.each;
          };
          classes = record { each = each_keep (λ u. (y : Held) → Among y u.held → IsServed y y.block) vs id v w here_v (λ f y s. ⊎_elim (λ (t : Among y v.held). f y t) (λ (q : y ≡ with_block b h). subst (λ (z : Held). IsServed z z.block) (sym q) served) (among_edit m i (with_block b) v.held h y found s)) kept.classes.each };
          hands = record {
            desks = each_keep IsDeskless vs id v w here_v (λ f. f) kept.hands.desks;
            moving = each_keep IsMoving vs id v w here_v (λ f l q. absurd (let a = numbers_mine e in let z = ap (total_by (λ (y : Book). count_of (eqb y.number k))) q in omega arith)) kept.hands.moving;
            idle = each_keep IsIdle vs id v w here_v (λ f q. absurd (let a = numbers_mine e in let z = ap (total_by (λ (y : Book). count_of (eqb y.number k))) q in omega arith)) kept.hands.idle;
            whole = each_keep IsParcel vs id v w here_v (λ f p. absurd (let z = ap (total_by (λ (y : Book). count_of (eqb y.number k))) (f p).bookless in let m = mine in omega arith)) kept.hands.whole;
            single = each_keep IsSingle vs id v w here_v (λ f l. let n = length-write k e v.books in let o = f l in omega arith) kept.hands.single;
            none = numbers 0 ∙ kept.hands.none;
            first = subst (λ (z : Desk). 0 < z.next) (sym d) kept.hands.first;
            parcels = (let x = total_by-keep (λ u. count_of u.parcel) vs id v w here_v refl in let y = total_by-keep (λ u. u.taken) vs id v w here_v refl in let z = total_by-keep (λ u. u.sent) vs id v w here_v refl in let p = kept.hands.parcels in omega arith);
            once = λ n. let a = numbers n in let o = kept.hands.once n in omega arith;
            above = λ n l. numbers n ∙ kept.hands.above n (subst (λ (z : Desk). z.next ≤ n) d l);
            leaders = total_by-keep (λ u. count_of u.leads) vs id v w here_v refl ∙ kept.hands.leaders;
          };
        }

    -- a live block is this slot's, or doesn't meet one that would lie in it
    apart_from : (b c : Extent) → IsSet (with_block (Some b) h) (Some b) → Among c (state_after empty kept.history.calls).live → (h.block ≡ Some c) ⊎ Apart c b
    apart_from b c sets s =
        let r = holder c s in
        let cs = subst (IsSet r.2) r.5 (kept.words.blocks r.0 r.1 r.3 r.2 r.4) in
        let clash : (a : ℕ) → Owns r.2.place a → Owns h.place a → (h.block ≡ Some c) ⊎ Apart c b =
        λ a o q. inl (sym (ap (λ (z : Held). z.block) (same_holder r.0 r.1 r.2 a r.3 r.4 o q)) ∙ r.5) in
        let c1 = cs.from in let c2 = cs.first in let c3 = cs.within in let b1 = sets.from in let b2 = sets.first in let b3 = sets.within in
        ⊎_elim
        (λ (l : c.at + max c.len 1 < b.at + 1). inr (inl (omega arith)))
        (λ (l : b.at + 1 ≤ c.at + max c.len 1).
        ⊎_elim
        (λ (g : b.at + max b.len 1 < c.at + 1). inr (inr (omega arith)))
        (λ (g : c.at + 1 ≤ b.at + max b.len 1).
        ⊎_elim
        (λ (x : b.at < c.at). clash c.at (first_cell r.2 c cs) (omega arith, omega arith))
        (λ (x : c.at ≤ b.at). clash b.at (omega arith, omega arith) (first_cell (with_block (Some b) h) b sets))
        (cases_lt b.at c.at))
        (cases_lt (b.at + max b.len 1) (c.at + 1)))
        (cases_lt (c.at + max c.len 1) (b.at + 1))

    -- the last cell of a block is below the upper bound
    below_upper : (b : Extent) → IsSet (with_block (Some b) h) (Some b) → b.at + max b.len 1 ≤ key.upper
    below_upper b sets =
        let l = own_in_run key ws (desk_of vs).layout kept.words.lawful (nested ws vs kept.slots) (b.at + (max b.len 1 - 1)) h.place slot (let s1 = sets.from in let s2 = sets.first in let s3 = sets.within in (omega arith, omega arith)) in
        let r2 = (kept.words.lawful.in_space l.0 l.1).below in let i1 = l.3.1 in omega arith

    pub gives : (p n a : ℕ) → h.block ≡ None → IsAlignment a → p % max a 16 ≡ 0 → IsSet (with_block (Some (extent p n a)) h) (Some (extent p n a)) → IsServed (with_block (Some (extent p n a)) h) (Some (extent p n a)) → Rule key ws (set vs id (to (Some (extent p n a)) (Give n a p)))
    gives p n a none power aligned sets served =
        let live = (state_after empty kept.history.calls).live in
        let b = extent p n a in
        let o = own_in_run key ws (desk_of vs).layout kept.words.lawful (nested ws vs kept.slots) p h.place slot (first_cell (with_block (Some b) h) b sets) in
        kept_by (Some b) (Give n a p) (λ x. refl) sets served
        (history_by key vs id v (to (Some b) (Give n a p)) k (Give n a p) here_v kept.hands mine refl kept.history
        (record {
          alignment = power;
          aligned = aligned;
          above = (let r1 = (kept.words.lawful.in_space o.0 o.1).above in let i0 = o.3.0 in omega arith);
          below = below_upper b sets;
          apart = λ c s. ⊎_elim (λ (e : h.block ≡ Some c). absurd (let q = sym e ∙ none in cc)) (λ (z : Apart c b). z) (apart_from b c sets (contains-among live c s));
        })
        (λ c. let q = counts_blocks c (Some b) (Give n a p) in let z : lives c h.block ≡ 0 = ap (lives c) none in omega arith))

    -- the slot's block lives in the history
    block_lives : (b : Extent) → h.block ≡ Some b → Among b (state_after empty kept.history.calls).live
    block_lives b is =
        let live = (state_after empty kept.history.calls).live in
        let blocked : 0 < blocks b v = (let a = total_by-among (λ (y : Held). lives b y.block) v.held h there.0 in let q : lives b h.block ≡ 1 = ap (lives b) is ∙ ap count_of (same_extent-self b) in omega arith) in
        counted b live (let l = kept.history.live b in let o = total_by-one (blocks b) vs id v here_v in omega arith)

    pub kills : (b : Extent) → h.block ≡ Some b → Rule key ws (set vs id (to None (Take b.at)))
    kills b is =
        let live = (state_after empty kept.history.calls).live in
        let f = block_lives b is in
        let once = live-once (space_between key) kept.history.calls kept.history.legal b.at in
        kept_by None (Take b.at) (λ x. refl) tt tt
        (history_by key vs id v (to None (Take b.at)) k (Take b.at) here_v kept.hands mine refl kept.history
        (b, among-contains live b f, refl)
        (λ c. let q = counts_blocks c None (Take b.at) in let z : lives c h.block ≡ count_of (same_extent b c) = ap (lives c) is in
        let x = without-counts (λ d. count_of (same_extent d c)) b live f once in omega arith))

    pub regives : (b : Extent) (n : ℕ) → h.block ≡ Some b → IsSet (with_block (Some (extent b.at n 16)) h) (Some (extent b.at n 16)) → IsServed (with_block (Some (extent b.at n 16)) h) (Some (extent b.at n 16)) → Rule key ws (set vs id (to (Some (extent b.at n 16)) (Resize b.at n)))
    regives b n is sets served =
        let live = (state_after empty kept.history.calls).live in
        let f = block_lives b is in
        let once = live-once (space_between key) kept.history.calls kept.history.legal b.at in
        let new = extent b.at n 16 in
        kept_by (Some new) (Resize b.at n) (λ x. refl) sets served
        (history_by key vs id v (to (Some new) (Resize b.at n)) k (Resize b.at n) here_v kept.hands mine refl kept.history
        (record {
          there = (b, among-contains live b f, refl);
          below = below_upper new sets;
          apart = λ c s. ⊎_elim (λ (e : h.block ≡ Some c). inl (ap (λ (z : Extent). z.at) (let q : c ≡ b = (let t = sym e ∙ is in cc) in q))) (λ (z : Apart c new). inr z) (apart_from new c sets (contains-among live c s));
        })
        (λ c. let q = counts_blocks c (Some new) (Resize b.at n) in let z : lives c h.block ≡ count_of (same_extent b c) = ap (lives c) is in
        let x = resized-counts (λ d. count_of (same_extent d c)) n b live f once in omega arith))
