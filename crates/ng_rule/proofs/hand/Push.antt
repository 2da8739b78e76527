-- A push keeps the rule.
use Rattle.std.proofs.Common.{◌≡◌, ◌≢◌, ℕ, ◌+◌, ◌/◌, ◌%◌, ◌<◌, ◌≤◌, eqb, ne_eqb, eq-eqb, ◌&&◌, true, List, [], ◌∷◌, set, refl, sym, ap, ◌∙◌, subst, ⊎_elim, inl, inr, arith}
use mathlib.Core.Option.{some}
use lib.ListN.{get_elem?}
use Rattle.std.specs.Prelude.{Some, None}
use Rattle.std.specs.Int.{bit_at, w32, trailing_zeros}
use Rattle.std.proofs.lemmas.Bool.{cases_eq}
use Rattle.std.proofs.lemmas.Nat.Bits.{bit_at-trailing_zeros, bit_at-lt}
use Rattle.ng_view.specs.declared.view.Group.{Group}
use Rattle.ng_terms.specs.declared.entry.Extent.{Extent}
use Rattle.ng_view.specs.declared.view.Held.{Held}
use Rattle.ng_view.specs.declared.view.Desk.{Desk}
use Rattle.ng_view.specs.declared.view.View.{View}
use Rattle.ng_view.specs.declared.view.Start.{Start}
use Rattle.ng_view.specs.Lists.{Among, count_of, is_at, find, without}
use Rattle.ng_view.specs.Cells.{cell, tag, last, avail, freed, marked, group_at}
use Rattle.ng_view.specs.Hands.{IsDeskless, IsMoving}
use Rattle.ng_view.specs.Classes.{IsServed}
use Rattle.ng_view.specs.Words.{IsLawful, IsAvailWord}
use Rattle.ng_view.specs.Views.{here, has, desk_of, lives}
use Rattle.ng_view.specs.Rule.{Rule}
use Rattle.ng_view.specs.Layouts.{InArea}
use Rattle.ng_view.specs.Knowledge.{IsFree, IsKnown, Noted, Masks}
use Rattle.ng_view.specs.Blocks.{IsSet}
use Rattle.ng_view.specs.Slots.{IsPlain}
use Rattle.ng_view.specs.Listing.{Listing}
use Rattle.ng_view.specs.Steps.{pushed}
use Rattle.ng_rule.proofs.geometry.Lists.{each_set, desk_same, at_other, index_same, find_among, among_without, total_by-without, is_at-true}
use Rattle.ng_rule.proofs.geometry.Bits.{raised, raised_bit, raised_small}
use Rattle.ng_rule.proofs.geometry.Facts.{marked_live, owed_most, has_held, held_slot, nested}
use Rattle.ng_rule.proofs.geometry.Nesting.{IsSlot, metas_apart}
use Rattle.ng_rule.proofs.geometry.Frames.{Same, same_mask, words_same, place_same, meta_below, free_meta, first_same, zero_meta}
use Rattle.ng_rule.proofs.geometry.Parts.{Quiet, quiet_excuses, quiet_hands, quiet_history, slots_by, owed_same, slots_with, marked_other, field_other, known_meta, each_keep, listing_by, free_cells_by, numbers_by, keep_avail, keep_freed, keep_bit}
use Rattle.ng_rule.proofs.geometry.Lists as list

module _ (key : Start) (ws : List ℕ) (vs : List View) (id : ℕ) (v : View) (kept : Rule key ws vs) (here_v : get_elem? vs id ≡ some v)
    (m i : ℕ) (h : Held) (found : find m i v.held ≡ Some h) where
  there : Among h v.held × (is_at m i h.place ≡ true)
  there = find_among m i v.held h found

  at_place : (h.place.group.meta ≡ m) × (h.place.index ≡ i)
  at_place = is_at-true m i h.place there.1

  slot : IsSlot ws h.place
  slot = held_slot ws vs kept.slots id v h here_v there.0

  al : m % 4 ≡ 0
  al = subst (λ k. k % 4 ≡ 0) at_place.0 slot.0.whole

  pub low : i < 32
  low = subst (λ k. k < 32) at_place.1 slot.0.few

  live : 0 < tag ws m
  live = subst (λ k. 0 < tag ws k) at_place.0 (subst (λ (g : Group). 0 < g.tag) slot.0.group slot.1)

  area : InArea (desk_of vs).layout m
  area = (kept.words.lawful.groups m al live).in_area

  -- neither mask has the bit
  pub empty : (bit_at (avail ws m) i ≡ 0) × (bit_at (freed ws m) i ≡ 0)
  empty =
      let s = kept.slots.each m i al low in
      let o = owed_most (tag ws m) (last ws m) i in
      let a = has_held v h there.0 in
      let a' : 1 ≤ has m i v = subst (λ (p : ℕ × ℕ). 1 ≤ has p.0 p.1 v) (λ j. (at_place.0 j, at_place.1 j)) a in
      let b = list.total_by-one (has m i) vs id v here_v in
      let c = marked_live (tag ws m) (avail ws m) (freed ws m) i live in
      let x : ℕ = bit_at (avail ws m) i in let y : ℕ = bit_at (freed ws m) i in let c' : marked ws m i ≡ x + y = c in
      (omega arith, omega arith)

  pub small_freed : freed ws m < 4294967296
  small_freed =
      ⊎_elim (λ (l : freed ws m < 4294967296). l)
      (λ (r : IsAvailWord (desk_of vs).layout ((m + 28) / 4)).
      let n = r.meta in let nl = r.whole in let e = r.place in let ml = al in absurd (let p = (metas_apart key ws (desk_of vs).layout kept.words.lawful (nested ws vs kept.slots) m n 28 24 area r.in_area (omega arith) (omega arith) (omega arith)).1 in omega arith))
      (kept.words.lawful.upper ((m + 28) / 4))

  abbrev x : ℕ
  x = raised (freed ws m) i

  abbrev ws' : List ℕ
  ws' = set ws ((m + 28) / 4) x

  abbrev w : View
  w = pushed v m i

  same : Same ws ws' (desk_of vs).layout
  same = same_mask key ws (desk_of vs).layout kept.words.lawful (nested ws vs kept.slots) m 28 x al live (inr (refl, raised_small (freed ws m) i small_freed low))

  new_freed : freed ws' m ≡ x
  new_freed = index_same ws ((m + 28) / 4) x (meta_below key ws (desk_of vs).layout kept.words.lawful (nested ws vs kept.slots) m 28 area (omega arith))

  same_avail : avail ws' m ≡ avail ws m
  same_avail = let ml = al in at_other ws (m + 28) (m + 24) x (omega arith) (omega arith) (λ e. omega arith)

  here_is : (n j : ℕ) → here n j h.place ≡ count_of (eqb m n && eqb i j)
  here_is n j = λ t. count_of (eqb (at_place.0 t) n && eqb (at_place.1 t) j)

  marks : (n j : ℕ) → n % 4 ≡ 0 → j < 32 → marked ws' n j ≡ marked ws n j + here n j h.place
  marks n j nl lj =
      ⊎_elim
      (λ (e : n ≡ m).
      subst (λ k. marked ws' k j ≡ marked ws k j + here k j h.place) (sym e)
      (let a = marked_live (tag ws' m) (avail ws' m) (freed ws' m) j (subst (λ t. 0 < t) (sym (same.tags m al)) live) in
      let b = marked_live (tag ws m) (avail ws m) (freed ws m) j live in
      let g : here m j h.place ≡ count_of (eqb i j) = here_is m j ∙ ap (λ b. count_of (b && eqb i j)) (eq-eqb m m refl) in
      let y0 : ℕ = bit_at (avail ws m) j in let y1 : ℕ = bit_at (freed ws m) j in let y2 : ℕ = bit_at x j in let y3 : ℕ = count_of (eqb i j) in
      let c : bit_at (freed ws' m) j ≡ y2 = ap (λ y. bit_at y j) new_freed in let d : bit_at (avail ws' m) j ≡ y0 = ap (λ y. bit_at y j) same_avail in
      let f : y2 ≡ y1 + y3 = raised_bit (freed ws m) i j (let l = low in omega arith) empty.1 in
      omega (arith, a, b, c, d, f, g)))
      (λ (ne : n ≢ m).
      let a = marked_other key ws vs kept.slots kept.words.lawful m 28 x n j al (omega arith) refl live nl ne (same.tags n nl) in
      let b : here n j h.place ≡ 0 = here_is n j ∙ ap (λ b. count_of (b && eqb i j)) (ne_eqb m n (λ e. ne (sym e))) in omega arith)
      (cases_eq n m)

  -- some bit was there
  listed : 0 < freed ws m → Among m (desk_of vs).listed × IsPlain (group_at ws m)
  listed seen =
      let t = bit_at-trailing_zeros w32 (freed ws m) seen small_freed in
      let k = trailing_zeros w32 (freed ws m) in
      let some_bit : 0 < marked ws m k = (let a = marked_live (tag ws m) (avail ws m) (freed ws m) k live in let b : bit_at (freed ws m) k ≡ 1 = t.1 in let y : ℕ = bit_at (avail ws m) k in omega arith) in
      (kept.listing.bits m k al t.0 some_bit, kept.slots.plain m k al t.0 some_bit)

  page_zero : (b : ℕ) → b % 4 ≡ 0 → b < 4096 → cell ws' b ≡ cell ws b
  page_zero = zero_meta key ws (desk_of vs).layout kept.words.lawful (nested ws vs kept.slots) m 28 x al area (omega arith) refl

  quiet : h.block ≡ None → Quiet v w
  quiet none = record {
    leads = refl;
    books = refl;
    excuses = refl;
    sent = refl;
    taken = refl;
    parcel = refl;
    blocks = λ b. let a = total_by-without (λ (y : Held). lives b y.block) m i v.held h found in let c : lives b h.block ≡ 0 = ap (lives b) none in omega arith;
    idle = λ f b. let r = f b in (r.0, r.1, λ l p. let e = r.2 l p in (ap (without m i) e.0, e.1));
    whole = λ f p. let o = f p in absurd (blocked o.slot o.block (subst (Among h) o.held (find_among m i v.held h found).0) o.live);
  }
    where
      blocked : (y : Held) (b : Extent) → Among h (y ∷ []) → y.block ≡ Some b → ⊥
      blocked y b (inl e) live = let q : None ≡ Some b = sym none ∙ ap (λ (z : Held). z.block) e ∙ live in cc
      blocked y b (inr s) live = s

  desk : desk_of (set vs id w) ≡ desk_of vs
  desk = desk_same vs id v w here_v refl refl

  counts : (n j : ℕ) → has n j w + here n j h.place ≡ has n j v
  counts n j = let a = total_by-without (λ (y : Held). here n j y.place) m i v.held h found in omega arith

  pub pushes : h.block ≡ None → 0 < freed ws m → Rule key ws' (set vs id w)
  pushes none seen = record {
    slots = slots_with key ws vs kept.slots kept.words.lawful ws' id v w here_v (slots_by ws ws' vs id v w here_v (λ n j nl lj. ((let a = marks n j nl lj in let b = counts n j in omega arith), owed_same ws ws' (desk_of vs).layout same n j nl)) kept.slots) plains same refl (λ y s. place_same ws ws' (desk_of vs).layout same y.place (held_slot ws vs kept.slots id v y here_v (among_without m i v.held y s)));
    words = record {
      lawful = subst (λ (z : Desk). IsLawful key ws' z.layout) (sym desk) (words_same key ws ws' (desk_of vs).layout kept.words.lawful same (first_same key ws ws' page_zero kept.words.lawful.first));
      blocks = each_keep (λ u. (y : Held) → Among y u.held → IsSet y y.block) vs id v w here_v (λ f y s. f y (among_without m i v.held y s)) kept.words.blocks;
    };
    listing = subst (Listing ws') (sym desk) (listing_by ws ws' (desk_of vs) same bits kept.listing);
    excuses = quiet_excuses key vs id v w here_v (quiet none) (ap (λ (d : Desk). d.refusals) desk) kept.excuses;
    history = quiet_history key vs id v w here_v (quiet none) kept.history;
    knowledge = record {
      desk = subst (Noted ws') (sym desk) (record { free = free_cells_by ws ws' (desk_of vs) same free kept.knowledge.desk.free; masks = masks; numbers = numbers_by ws ws' (desk_of vs) page_zero kept.knowledge.desk.numbers });
      each = each_set (λ u. Unit {0}) (λ u. (y : Held) → Among y u.held → IsKnown ws' y) vs id w (λ j u n e y s. known j u y e s) (λ y s. known id v y here_v (among_without m i v.held y s));
    };
    classes = record { each = each_keep (λ u. (y : Held) → Among y u.held → IsServed y y.block) vs id v w here_v (λ f y s. f y (among_without m i v.held y s)) kept.classes.each };
    hands = quiet_hands vs id v w here_v (quiet none) (ap (λ (d : Desk). d.next) desk) kept.hands
        (each_keep IsDeskless vs id v w here_v (λ f. f) kept.hands.desks)
        (each_keep IsMoving vs id v w here_v (λ f l b y s. f l b y (among_without m i v.held y s)) kept.hands.moving);
  }
    where
      bits : (n j : ℕ) → n % 4 ≡ 0 → j < 32 → 0 < marked ws' n j → Among n (desk_of vs).listed
      bits n j nl lj some_bit =
          ⊎_elim (λ (e : n ≡ m). subst (λ k. Among k (desk_of vs).listed) (sym e) (listed seen).0)
          (λ (ne : n ≢ m). kept.listing.bits n j nl lj (let a = marked_other key ws vs kept.slots kept.words.lawful m 28 x n j al (omega arith) refl live nl ne (same.tags n nl) in omega arith))
          (cases_eq n m)

      plains : (n j : ℕ) → n % 4 ≡ 0 → j < 32 → 0 < marked ws' n j → IsPlain (group_at ws n)
      plains n j nl lj some_bit =
          ⊎_elim (λ (e : n ≡ m). subst (λ k. IsPlain (group_at ws k)) (sym e) (listed seen).1)
          (λ (ne : n ≢ m). kept.slots.plain n j nl lj (let a = marked_other key ws vs kept.slots kept.words.lawful m 28 x n j al (omega arith) refl live nl ne (same.tags n nl) in omega arith))
          (cases_eq n m)

      known : (j : ℕ) (u : View) (y : Held) → get_elem? vs j ≡ some u → Among y u.held → IsKnown ws' y
      known j u y e s = known_meta key ws vs kept.slots kept.words.lawful m 28 x al (omega arith) refl live j u y e s (kept.knowledge.each j u e y s)

      free : (a : ℕ) → IsFree ws (desk_of vs).layout a → cell ws' a ≡ cell ws a
      free a k = free_meta key ws (desk_of vs).layout kept.words.lawful (nested ws vs kept.slots) m 28 x a al live (omega arith) refl k

      other : (n b : ℕ) → n % 4 ≡ 0 → 0 < tag ws n → b < 40 → b % 4 ≡ 0 → ((n ≡ m) × (b ≡ 28) → ⊥) → cell ws' (n + b) ≡ cell ws (n + b)
      other n b nl l lb bl ne = field_other key ws vs kept.slots kept.words.lawful m 28 x n b al (omega arith) refl live nl l lb bl ne

      -- a set bit stays set
      rises : (n j : ℕ) → n % 4 ≡ 0 → j < 32 → 0 < tag ws n → bit_at (freed ws n) j ≡ 1 → bit_at (freed ws' n) j ≡ 1
      rises n j nl lj l z = ⊎_elim
          (λ (e : n ≡ m).
          let z' : bit_at (freed ws m) j ≡ 1 = subst (λ k. bit_at (freed ws k) j ≡ 1) e z in
          let f = raised_bit (freed ws m) i j (let l = low in omega arith) empty.1 in
          let b = bit_at-lt x j in
          let y2 : ℕ = bit_at x j in
          let o : y2 ≡ 1 = omega (arith, z', f, b) in
          subst (λ k. bit_at (freed ws' k) j ≡ 1) (sym e) (ap (λ y. bit_at y j) new_freed ∙ o))
          (λ (ne : n ≢ m). ap (λ y. bit_at y j) (other n 28 nl l (omega arith) refl (λ e. ne e.0)) ∙ z)
          (cases_eq n m)

      masks : Masks ws' (desk_of vs)
      masks = record {
        zero_avail = λ n t. let k = kept.knowledge.desk.masks.zero_avail n t in keep_avail ws ws' (desk_of vs).layout same n (λ j lj z. ap (λ y. bit_at y j) (other n 24 k.whole k.live (omega arith) refl (λ e. let f = e.1 in omega arith)) ∙ z) k;
        zero_freed = λ n t.
            let k = kept.knowledge.desk.masks.zero_freed n t in
            keep_freed ws ws' (desk_of vs).layout same n (λ z. other n 28 k.whole k.live (omega arith) refl (λ e. let q = ap (freed ws) e.0 in let z' = z in let s = seen in omega arith) ∙ z) k;
        set_freed = λ n j t. let k = kept.knowledge.desk.masks.set_freed n j t in keep_bit ws ws' (desk_of vs).layout same n j (rises n j k.whole k.few k.live) k;
      }
