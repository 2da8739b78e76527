-- A mapped group is retired.
use Rattle.std.proofs.Common.{◌≡◌, ◌≢◌, ◌⊎◌, ℕ, ◌+◌, ◌/◌, ◌%◌, ◌<◌, ◌≤◌, eqb, ne_eqb, eq-eqb, ◌&&◌, cond, Bool, true, false, true≢false, List, [], ◌∷◌, set, refl, sym, ap, ◌∙◌, subst, ⊎_elim, inl, inr, arith}
use mathlib.Core.Option.{some}
use lib.ListN.{get_elem?}
use Rattle.std.specs.Prelude.{Some, None}
use Rattle.std.proofs.lemmas.Bool.{cases_eq, cases_lt}
use Rattle.std.proofs.lemmas.Bool.Decides.{nat_tests}
use Rattle.ng_rule.proofs.group.Births.{listing_gone, avail_else, freed_else, bit_else, bit_was, numbers_page, plain_gone}
use Rattle.ng_view.specs.Knowledge.{IsOfFreeRun, IsOfFreeMeta}
use Rattle.ng_view.specs.declared.view.Group.{Group}
use Rattle.ng_view.specs.declared.view.Place.{Place}
use Rattle.ng_terms.specs.declared.entry.Extent.{Extent}
use Rattle.ng_view.specs.declared.view.Held.{Held}
use Rattle.ng_view.specs.declared.view.Nest.{Nest}
use Rattle.ng_view.specs.declared.view.Layout.{Layout}
use Rattle.ng_view.specs.declared.view.Desk.{Desk}
use Rattle.ng_view.specs.declared.view.View.{View}
use Rattle.ng_view.specs.declared.view.Start.{Start}
use Rattle.ng_view.specs.Lists.{Among, total_by, count_of, is_at, find}
use Rattle.ng_view.specs.Cells.{cell, tag, last, avail, freed, owed_of, owed, marked, group_at}
use Rattle.ng_view.specs.Hands.{IsDeskless, IsMoving}
use Rattle.ng_view.specs.Classes.{IsServed}
use Rattle.ng_view.specs.Words.{IsLawful}
use Rattle.ng_view.specs.Views.{here, has, desk_of, lives}
use Rattle.ng_view.specs.Rule.{Rule}
use Rattle.ng_view.specs.Layouts.{InArea}
use Rattle.ng_view.specs.Knowledge.{IsFree, IsKnown, Noted}
use Rattle.ng_view.specs.Slots.{IsPlace}
use Rattle.ng_view.specs.Blocks.{IsSet}
use Rattle.ng_view.specs.Listing.{Listing}
use Rattle.ng_view.specs.LockSteps.{outside, others, retired}
use Rattle.ng_rule.proofs.geometry.Lists.{total_by-set, total_by-one, total_by-two, total_by-among, each_set, desk_lead, find_among, among_one, is_at-here, total_by-append, among_append}
use Rattle.ng_rule.proofs.geometry.Nesting.{IsSlot, own_in_run}
use Rattle.ng_rule.proofs.geometry.Facts.{marked_dead, held_slot, nest_slot, nested, has_held, owed_most, owed_live, here_self}
use Rattle.ng_rule.proofs.group.But.{but_avail, but_field, but_tags, but_group, but_off, but_marks, but_owed, but_place, but_first, but_words_in}
use Rattle.ng_rule.proofs.geometry.Parts.{Quiet, quiet_excuses, quiet_hands, quiet_history, each_keep}

tested : (n k : ℕ) → eqb n k ≡ true → n ≡ k
tested n k e = grind (arith, nat_tests)

untested : (n k : ℕ) → eqb n k ≡ false → n ≢ k
untested n k e q = true≢false (sym (eq-eqb n k q) ∙ e)

among_outside : (m : ℕ) (hs : List Held) (h : Held) → Among h (outside m hs) → Among h hs × (h.place.group.meta ≢ m)
among_outside m [] h s = elim s [ ]
among_outside m (y ∷ ys) h s = by_test (among_outside m ys h) (eqb y.place.group.meta m) refl s
  where
    by_test : (Among h (outside m ys) → Among h ys × (h.place.group.meta ≢ m)) → (b : Bool) → eqb y.place.group.meta m ≡ b → Among h (cond b (outside m ys) (y ∷ outside m ys)) → Among h (y ∷ ys) × (h.place.group.meta ≢ m)
    by_test ih true is s = let r = ih s in (inr r.0, r.1)
    by_test ih false is (inl e) = (inl e, subst (λ (z : Held). z.place.group.meta ≢ m) (sym e) (untested y.place.group.meta m is))
    by_test ih false is (inr s) = let r = ih s in (inr r.0, r.1)

pub among_others : (m : ℕ) (ns : List ℕ) (n : ℕ) → Among n (others m ns) → Among n ns × (n ≢ m)
among_others m [] n s = elim s [ ]
among_others m (y ∷ ys) n s = by_test (among_others m ys n) (eqb y m) refl s
  where
    by_test : (Among n (others m ys) → Among n ys × (n ≢ m)) → (b : Bool) → eqb y m ≡ b → Among n (cond b (others m ys) (y ∷ others m ys)) → Among n (y ∷ ys) × (n ≢ m)
    by_test ih true is s = let r = ih s in (inr r.0, r.1)
    by_test ih false is (inl e) = (inl e, λ q. untested y m is (sym e ∙ q))
    by_test ih false is (inr s) = let r = ih s in (inr r.0, r.1)

-- what the removed slots count nothing for stays
outside-total : (g : Held → ℕ) (m : ℕ) (hs : List Held) → ((h : Held) → Among h hs → h.place.group.meta ≡ m → g h ≡ 0) → total_by g (outside m hs) ≡ total_by g hs
outside-total g m [] z = refl
outside-total g m (y ∷ ys) z = by_test (outside-total g m ys (λ h s. z h (inr s))) (eqb y.place.group.meta m) refl
  where
    by_test : total_by g (outside m ys) ≡ total_by g ys → (b : Bool) → eqb y.place.group.meta m ≡ b → total_by g (cond b (outside m ys) (y ∷ outside m ys)) ≡ g y + total_by g ys
    by_test ih true is = let q = z y (inl refl) (tested y.place.group.meta m is) in omega arith
    by_test ih false is = omega arith

outside_none : (m j : ℕ) (hs : List Held) → total_by (λ (y : Held). here m j y.place) (outside m hs) ≡ 0
outside_none m j [] = refl
outside_none m j (y ∷ ys) = by_test (outside_none m j ys) (eqb y.place.group.meta m) refl
  where
    by_test : total_by (λ (y : Held). here m j y.place) (outside m ys) ≡ 0 → (b : Bool) → eqb y.place.group.meta m ≡ b → total_by (λ (y : Held). here m j y.place) (cond b (outside m ys) (y ∷ outside m ys)) ≡ 0
    by_test ih true is = ih
    by_test ih false is = let q : here m j y.place ≡ 0 = ap (λ b. count_of (b && eqb y.place.index j)) is in omega arith

module _ (key : Start) (ws : List ℕ) (vs : List View) (id : ℕ) (v : View) (kept : Rule key ws vs) (here_v : get_elem? vs id ≡ some v) (leads : v.leads ≡ true)
    (m : ℕ) (al : m % 4 ≡ 0) (live : 0 < tag ws m) (all : (i : ℕ) → i ≤ last ws m → (h : Held) × (find m i v.held ≡ Some h) × (h.block ≡ None))
    (back : List Held) (ns : List Nest) (was : (n : Nest) → Among n ns → Among n (desk_of vs).layout.nests × (n.child ≢ m)) (stays : (n : Nest) → Among n (desk_of vs).layout.nests → n.child ≢ m → Among n ns)
    (fewer : (k : ℕ) → total_by (λ (n : Nest). count_of (eqb n.child k)) ns ≤ total_by (λ (n : Nest). count_of (eqb n.child k)) (desk_of vs).layout.nests)
    (moved : (f : Place → ℕ) → total_by (λ (h : Held). f h.place) back + total_by (λ (n : Nest). f n.place) ns ≡ total_by (λ (n : Nest). f n.place) v.desk.layout.nests)
    (fresh : (h : Held) → Among h back → (h.block ≡ None) × (h.cells ≡ []) × (n : Nest) × Among n v.desk.layout.nests × (h.place ≡ n.place)) where
  abbrev d : Layout
  d = (desk_of vs).layout

  abbrev ws' : List ℕ
  ws' = set ws ((m + 24) / 4) 0

  abbrev w : View
  w = retired v m back ns

  nests_ok : (n : Nest) → Among n d.nests → IsSlot ws n.place
  nests_ok = nested ws vs kept.slots

  area : InArea d m
  area = (kept.words.lawful.groups m al live).in_area

  desk_was : desk_of vs ≡ v.desk
  desk_was = (desk_lead vs id v w here_v leads kept.hands.leaders leads).0

  desk_is : desk_of (set vs id w) ≡ w.desk
  desk_is = (desk_lead vs id v w here_v leads kept.hands.leaders leads).1

  abbrev e : Layout
  e = record { runs = d.runs; nests = ns }

  layout_same : e ≡ w.desk.layout
  layout_same = ap (λ (y : Desk). record { runs = y.layout.runs; nests = ns }) desk_was

  area_in : (d : Layout) (n : ℕ) → InArea d n → InArea (record { runs = d.runs; nests = ns }) n
  area_in d n r = record { run = r.run; number = r.number; noted = r.noted; is_area = r.is_area; page = r.page; place = r.place; below = r.below }

  has_w : (n j : ℕ) → has n j w ≡ total_by (λ (y : Held). here n j y.place) (outside m v.held) + total_by (λ (y : Nest). here n j y.place) v.desk.layout.nests
  has_w n j = let a = total_by-append (λ (y : Held). here n j y.place) back (outside m v.held) in let b = moved (here n j) in omega arith

  gone : tag ws' m ≡ 0
  gone = ap (λ (y : ℕ). y / 4294967296) (but_avail key ws d kept.words.lawful nests_ok m 0 al area)

  tags : (n : ℕ) → n % 4 ≡ 0 → n ≢ m → tag ws' n ≡ tag ws n
  tags = but_tags key ws d kept.words.lawful nests_ok m 0 al area

  -- this view has every slot of the group in motion, so no other place is one
  holds : (i : ℕ) → i ≤ last ws m → 1 ≤ total_by (λ (y : Held). here m i y.place) v.held
  holds i le =
      let r = all i le in
      let f = find_among m i v.held r.0 r.1 in
      let a = total_by-among (λ (y : Held). here m i y.place) v.held r.0 f.0 in let o : here m i r.0.place ≡ 1 = ap count_of f.1 in omega arith

  in_last : (p : Place) → IsSlot ws p → p.group.meta ≡ m → p.index ≤ last ws m
  in_last p i e = subst (λ k. p.index ≤ last ws k) e (subst (λ (g : Group). p.index ≤ g.last) i.0.group i.2)

  counts : (j : ℕ) (u : View) (p : Place) → get_elem? vs j ≡ some u → IsSlot ws p → p.group.meta ≡ m → 1 ≤ has p.group.meta p.index u → j ≡ id
  counts j u p e i q n =
      let s = kept.slots.each m p.index al i.0.few in
      let o = owed_most (tag ws m) (last ws m) p.index in
      let n' : 1 ≤ has m p.index u = subst (λ k. 1 ≤ has k p.index u) q n in
      let h = holds p.index (in_last p i q) in
      ⊎_elim (λ (x : j ≡ id). x) (λ (x : j ≢ id). let t = total_by-two (has m p.index) vs id j v u x here_v e in absurd (omega arith)) (cases_eq j id)

  no_nest : (j : ℕ) (u : View) (n : Nest) → get_elem? vs j ≡ some u → Among n u.desk.layout.nests → n.place.group.meta ≢ m
  no_nest j u n e s q =
      let i = nest_slot ws vs kept.slots j u n e s in
      let a = total_by-among (λ (x : Nest). here n.place.group.meta n.place.index x.place) u.desk.layout.nests n s in
      let b = here_self n.place in
      let k = counts j u n.place e i q (omega arith) in
      let uv : u ≡ v = mathlib.Core.Option.some-injective u v (sym e ∙ ap (λ x. get_elem? vs x) k ∙ here_v) in
      let c : 1 ≤ total_by (λ (x : Nest). here m n.place.index x.place) v.desk.layout.nests = subst (λ (z : ℕ × View). 1 ≤ total_by (λ (x : Nest). here z.0 n.place.index x.place) z.1.desk.layout.nests) (λ t. (q t, uv t)) (omega arith) in
      let h = holds n.place.index (in_last n.place i q) in
      let sl = kept.slots.each m n.place.index al i.0.few in
      let o = owed_most (tag ws m) (last ws m) n.place.index in
      let one = total_by-one (has m n.place.index) vs id v here_v in omega arith

  other_held : (j : ℕ) (u : View) (h : Held) → j ≢ id → get_elem? vs j ≡ some u → Among h u.held → h.place.group.meta ≢ m
  other_held j u h n e s q = n (counts j u h.place e (held_slot ws vs kept.slots j u h e s) q (has_held u h s))

  -- a slot of the group in this view has no block
  blockless : (h : Held) → Among h v.held → h.place.group.meta ≡ m → h.block ≡ None
  blockless h s q =
      let i = held_slot ws vs kept.slots id v h here_v s in
      let r = all h.place.index (in_last h.place i q) in
      let sl = kept.slots.each m h.place.index al i.0.few in
      let o = owed_most (tag ws m) (last ws m) h.place.index in
      let one = total_by-one (has m h.place.index) vs id v here_v in
      let e : h ≡ r.0 = among_one m h.place.index v.held r.0 h r.1 (omega arith) s (subst (λ k. is_at k h.place.index h.place ≡ true) q (is_at-here h.place)) in
      ap (λ (y : Held). y.block) e ∙ r.2

  slots_after : (n j : ℕ) → n % 4 ≡ 0 → j < 32 → marked ws' n j + total_by (has n j) (set vs id w) ≡ owed ws' n j
  slots_after n j nl lj =
      let s = kept.slots.each n j nl lj in
      let u = total_by-set (has n j) vs id v w here_v in
      let hw = has_w n j in
      ⊎_elim
      (λ (e : n ≡ m). subst (λ k. marked ws' k j + total_by (has k j) (set vs id w) ≡ owed ws' k j) (sym e)
      (let sm = kept.slots.each m j al lj in
      let um = total_by-set (has m j) vs id v w here_v in
      let hm = has_w m j in
      let a = marked_dead (tag ws' m) (avail ws' m) (freed ws' m) j gone in
      let b : owed ws' m j ≡ 0 = ap (λ y. owed_of y (last ws' m) j) gone in
      let none = outside_none m j v.held in
      let one = total_by-one (has m j) vs id v here_v in
      let most = owed_most (tag ws m) (last ws m) j in
      ⊎_elim
      (λ (l : 0 < owed ws m j). let h = holds j (owed_live (tag ws m) (last ws m) j l).1 in omega arith)
      (λ (l : owed ws m j ≤ 0). omega arith)
      (cases_lt 0 (owed ws m j))))
      (λ (ne : n ≢ m).
      let a = but_marks key ws d kept.words.lawful nests_ok m 0 al area n j nl ne in
      let b = but_owed key ws d kept.words.lawful nests_ok m 0 al area n j nl ne in
      let c = outside-total (λ (y : Held). here n j y.place) m v.held (λ h t q. ap (λ b. count_of (b && eqb h.place.index j)) (ne_eqb h.place.group.meta n (λ p. ne (sym p ∙ q)))) in
      omega arith)
      (cases_eq n m)

  none_lives : (hs : List Held) → ((h : Held) → Among h hs → (h.block ≡ None) × (h.cells ≡ []) × (n : Nest) × Among n v.desk.layout.nests × (h.place ≡ n.place)) → (b : Extent) → total_by (λ (y : Held). lives b y.block) hs ≡ 0
  none_lives [] f b = refl
  none_lives (h ∷ hs) f b = let r = none_lives hs (λ y s. f y (inr s)) b in let z : lives b h.block ≡ 0 = ap (lives b) (f h (inl refl)).0 in omega arith

  quiet : Quiet v w
  quiet = record {
    leads = refl;
    books = refl;
    excuses = refl;
    sent = refl;
    taken = refl;
    parcel = refl;
    blocks = λ b. let a = total_by-append (λ (y : Held). lives b y.block) back (outside m v.held) in let c = outside-total (λ (y : Held). lives b y.block) m v.held (λ h s q. ap (lives b) (blockless h s q)) in let z = none_lives back fresh b in omega arith;
    idle = λ f b. let r = f b in (r.0, r.1, λ l. absurd (true≢false (sym leads ∙ l)));
    whole = λ f p. absurd (true≢false (sym leads ∙ (f p).follows));
  }

  known : (j : ℕ) (u : View) (h : Held) → get_elem? vs j ≡ some u → Among h u.held → IsKnown ws' h
  known j u h e s a y q =
      let k = kept.knowledge.each j u e h s a y q in
      record { own = k.own; whole = k.whole; value = but_off key ws d kept.words.lawful nests_ok m 0 al area a k.whole (own_in_run key ws d kept.words.lawful nests_ok a h.place (held_slot ws vs kept.slots j u h e s) k.own) ∙ k.value }

  free : (a y : ℕ) → Among {A = ℕ × ℕ} (a, y) v.desk.cells → IsFree ws' e a × (cell ws' a ≡ y)
  free a y q =
      let k = kept.knowledge.desk.free a y (subst (λ (e : Desk). Among {A = ℕ × ℕ} (a, y) e.cells) (sym desk_was) q) in (
        (
          k.0.0,
          ⊎_elim
              (λ (z : IsOfFreeRun ws d a).
              inl (record {
                run = z.run;
                noted = z.noted;
                plain = z.plain;
                inside = z.inside;
                free = λ n nl l e.
                    let ne : n ≢ m = (λ p. let t : tag ws' n ≡ 0 = ap (tag ws') p ∙ gone in omega arith) in
                    let l' : 0 < tag ws n = subst (λ p. 0 < p) (tags n nl ne) l in
                    z.free n nl l' (sym (but_field key ws d kept.words.lawful nests_ok m 0 al area n 16 nl (kept.words.lawful.groups n nl l').in_area (omega arith) refl (λ p. ne p.0)) ∙ e);
              }))
              (λ (z : IsOfFreeMeta ws d a).
              let ne : z.meta ≢ m = (λ p. let t : tag ws m ≡ 0 = ap (tag ws) (sym p) ∙ z.free in omega arith) in
              inr (record { meta = z.meta; whole = z.whole; in_area = area_in d z.meta z.in_area; free = tags z.meta z.whole ne ∙ z.free; from = z.from; below = z.below }))
              k.0.1,
        ),
        value k.0 ∙ k.1,
      )
    where
      value : IsFree ws d a → cell ws' a ≡ cell ws a
      value f = Rattle.ng_rule.proofs.geometry.Frames.free_meta key ws d kept.words.lawful nests_ok m 24 0 a al live (omega arith) refl f

  -- the avail word of the group is 0 now
  emptied : IsFree ws' e (m + 24) × (cell ws' (m + 24) ≡ 0)
  emptied = (
    (omega arith, inr (record { meta = m; whole = al; in_area = area_in d m area; free = gone; from = omega arith; below = omega arith })),
    but_avail key ws d kept.words.lawful nests_ok m 0 al area,
  )

  not_m : (n : ℕ) → n % 4 ≡ 0 → 0 < tag ws' n → n ≢ m
  not_m n nl l p = let t : tag ws' n ≡ 0 = ap (tag ws') p ∙ gone in omega arith

  group_same : (n : ℕ) → n % 4 ≡ 0 → n ≢ m → 0 < tag ws n → group_at ws' n ≡ group_at ws n
  group_same = but_group key ws d kept.words.lawful nests_ok m 0 al area

  marks_else : (n j : ℕ) → n % 4 ≡ 0 → n ≢ m → marked ws' n j ≡ marked ws n j
  marks_else n j nl ne = but_marks key ws d kept.words.lawful nests_ok m 0 al area n j nl ne

  was_listing : Listing ws v.desk
  was_listing = subst (Listing ws) desk_was kept.listing

  words_else : (n b : ℕ) → n % 4 ≡ 0 → 0 < tag ws n → n ≢ m → (b ≡ 24) ⊎ (b ≡ 28) → cell ws' (n + b) ≡ cell ws (n + b)
  words_else n b nl l ne s =
      let f : b < 40 → b % 4 ≡ 0 → cell ws' (n + b) ≡ cell ws (n + b) = λ lb bl. but_field key ws d kept.words.lawful nests_ok m 0 al area n b nl (kept.words.lawful.groups n nl l).in_area lb bl (λ q. ne q.0) in
      ⊎_elim (λ (e : b ≡ 24). f (omega arith) (omega arith)) (λ (e : b ≡ 28). f (omega arith) (omega arith)) s

  known_free : (a y : ℕ) → Among {A = ℕ × ℕ} (a, y) w.desk.cells → IsFree ws' w.desk.layout a × (cell ws' a ≡ y)
  known_free a y (inl same) =
      let at : m + 24 ≡ a = sym (ap (λ (c : ℕ × ℕ). c.0) same) in let zero : 0 ≡ y = sym (ap (λ (c : ℕ × ℕ). c.1) same) in
      let one = subst (λ b. IsFree ws' e b × (cell ws' b ≡ 0)) at emptied in
      (subst (λ (e : Layout). IsFree ws' e a) layout_same one.0, one.1 ∙ zero)
  known_free a y (inr q) = let k = free a y q in (subst (λ (e : Layout). IsFree ws' e a) layout_same k.0, k.1)

  noted_is : Noted ws' w.desk
  noted_is =
      let o = subst (Noted ws) desk_was kept.knowledge.desk in
      record {
        free = known_free;
        masks = record {
          zero_avail = λ n q. let z = among_others m v.desk.zero_avail n q in avail_else ws ws' v.desk w.desk m al tags group_same marks_else (area_in v.desk.layout) was_listing words_else n z.1 (o.masks.zero_avail n z.0);
          zero_freed = λ n q. let z = among_others m v.desk.zero_freed n q in freed_else ws ws' v.desk w.desk m al tags group_same marks_else (area_in v.desk.layout) was_listing words_else n z.1 (o.masks.zero_freed n z.0);
          set_freed = λ n i q. let z = bit_was m v.desk.set_freed n i q in bit_else ws ws' v.desk w.desk m al tags group_same marks_else (area_in v.desk.layout) was_listing words_else n i z.1 (o.masks.set_freed n i z.0);
        };
        numbers = numbers_page ws ws' v.desk w.desk (but_first key ws d kept.words.lawful nests_ok m 0 al area) refl refl o.numbers;
      }

  -- each entry afterwards is a slot that carried, or was there and is of another group
  entry : (Q : Held → Type 0) → ((h : Held) → (h.block ≡ None) × (h.cells ≡ []) × (n : Nest) × Among n v.desk.layout.nests × (h.place ≡ n.place) → Q h) → ((h : Held) → Among h v.held → h.place.group.meta ≢ m → Q h) → (h : Held) → Among h w.held → Q h
  entry Q new old h s = ⊎_elim (λ (q : Among h back). new h (fresh h q)) (λ (q : Among h (outside m v.held)). let r = among_outside m v.held h q in old h r.0 r.1) (among_append back (outside m v.held) h s)

  pub retires : Rule key ws' (set vs id w)
  retires = record {
    slots = record {
      each = slots_after;
      plain = plain_gone ws ws' v.desk w.desk m al tags group_same marks_else (area_in v.desk.layout) was_listing kept.slots.plain gone;
      held = each_set (λ u. Unit {0}) (λ u. (h : Held) → Among h u.held → IsPlace ws' h.place) vs id w
          (λ j u n e h s. but_place key ws d kept.words.lawful nests_ok m 0 al area h.place (held_slot ws vs kept.slots j u h e s) (other_held j u h n e s))
          (entry (λ h. IsPlace ws' h.place) (λ h f. subst (IsPlace ws') (sym f.4) (but_place key ws d kept.words.lawful nests_ok m 0 al area f.2.place (nest_slot ws vs kept.slots id v f.2 here_v f.3) (no_nest id v f.2 here_v f.3)))
          (λ h s ne. but_place key ws d kept.words.lawful nests_ok m 0 al area h.place (held_slot ws vs kept.slots id v h here_v s) ne));
      nests = each_set (λ u. Unit {0}) (λ u. (n : Nest) → Among n u.desk.layout.nests → IsPlace ws' n.place) vs id w
          (λ j u n e y s. but_place key ws d kept.words.lawful nests_ok m 0 al area y.place (nest_slot ws vs kept.slots j u y e s) (no_nest j u y e s))
          (λ y s. let q = subst (λ (z : Layout). Among y z.nests) (ap (λ (z : Desk). z.layout) desk_was) (was y s).0 in but_place key ws d kept.words.lawful nests_ok m 0 al area y.place (nest_slot ws vs kept.slots id v y here_v q) (no_nest id v y here_v q));
    };
    words = record {
      lawful = subst (λ (e : Desk). IsLawful key ws' e.layout) (sym desk_is) (subst (IsLawful key ws') layout_same (but_words_in key ws d kept.words.lawful nests_ok m 0 al area ns was stays fewer (λ l. absurd (let t = gone in omega arith))));
      blocks = each_keep (λ u. (y : Held) → Among y u.held → IsSet y y.block) vs id v w here_v (λ f. entry (λ h. IsSet h h.block) (λ h q. subst (IsSet h) (sym q.0) tt) (λ h s ne. f h s)) kept.words.blocks;
    };
    listing = subst (Listing ws') (sym desk_is) (listing_gone ws ws' v.desk w.desk m al tags group_same marks_else (area_in v.desk.layout) was_listing gone refl refl);
    excuses = quiet_excuses key vs id v w here_v quiet (ap (λ (e : Desk). e.refusals) desk_is ∙ ap (λ (e : Desk). e.refusals) (sym desk_was)) kept.excuses;
    history = quiet_history key vs id v w here_v quiet kept.history;
    knowledge = record {
      desk = subst (Noted ws') (sym desk_is) noted_is;
      each = each_set (λ u. Unit {0}) (λ u. (h : Held) → Among h u.held → IsKnown ws' h) vs id w (λ j u n e h s. known j u h e s) (entry (IsKnown ws') (λ h f a y z. absurd (subst (λ (l : List (ℕ × ℕ)). Among {A = ℕ × ℕ} (a, y) l) f.1 z)) (λ h s ne. known id v h here_v s));
    };
    classes = record { each = each_keep (λ u. (y : Held) → Among y u.held → IsServed y y.block) vs id v w here_v (λ f. entry (λ h. IsServed h h.block) (λ h q. subst (IsServed h) (sym q.0) tt) (λ h s ne. f h s)) kept.classes.each };
    hands = quiet_hands vs id v w here_v quiet (ap (λ (e : Desk). e.next) desk_is ∙ ap (λ (e : Desk). e.next) (sym desk_was)) kept.hands
        (each_keep IsDeskless vs id v w here_v (λ f l. absurd (true≢false (sym leads ∙ l))) kept.hands.desks)
        (each_keep IsMoving vs id v w here_v (λ f l b. entry (λ h. h.block ≡ None) (λ h q. q.0) (λ h s ne. f l b h s)) kept.hands.moving);
  }
