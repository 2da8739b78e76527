-- A fetch of the lock's seat clears bits of a mask: their slots are in motion.
use Rattle.std.proofs.Common.{◌≡◌, ◌≢◌, ◌⊎◌, ℕ, ◌+◌, ◌/◌, ◌%◌, ◌<◌, eqb, ne_eqb, eq-eqb, ◌&&◌, Bool, true, false, true≢false, List, map, set, refl, sym, ap, ◌∙◌, subst, ⊎_elim, arith}
use mathlib.Core.Option.{some}
use lib.ListN.{get_elem?}
use Rattle.std.specs.Prelude.{None}
use Rattle.std.specs.Int.{bit_at}
use Rattle.std.proofs.lemmas.Bool.{cases_eq}
use Rattle.ng_view.specs.declared.view.Layout.{Layout}
use Rattle.ng_view.specs.declared.view.Group.{Group}
use Rattle.ng_view.specs.declared.view.Held.{Held}
use Rattle.ng_view.specs.declared.view.Desk.{Desk}
use Rattle.ng_view.specs.declared.view.View.{View}
use Rattle.ng_view.specs.declared.view.Start.{Start}
use Rattle.ng_view.specs.Lists.{Among, total_by, count_of, select}
use Rattle.ng_view.specs.Cells.{cell, tag, avail, freed, marked, group_at}
use Rattle.ng_view.specs.Hands.{IsDeskless, IsMoving}
use Rattle.ng_view.specs.Classes.{IsServed}
use Rattle.ng_view.specs.Words.{IsLawful}
use Rattle.ng_view.specs.Views.{here, has, desk_of, lives}
use Rattle.ng_view.specs.Rule.{Rule}
use Rattle.ng_view.specs.Layouts.{InArea}
use Rattle.ng_view.specs.Knowledge.{IsFree, IsKnown, Noted, Masks, Numbers, IsZeroAvail, IsZeroFreed}
use Rattle.ng_view.specs.Blocks.{IsSet}
use Rattle.ng_view.specs.Slots.{IsPlace}
use Rattle.ng_view.specs.Listing.{Listing}
use Rattle.ng_view.specs.Steps.{in_motion}
use Rattle.ng_view.specs.LockSteps.{fetched}
use Rattle.ng_rule.proofs.geometry.Lists.{total_by-append, total_by-same, each_set, index_same, select-times, among_append, desk_lead}
use Rattle.ng_rule.proofs.geometry.Facts.{marked_live, held_slot, nested}
use Rattle.ng_rule.proofs.geometry.Frames.{Same, same_mask, words_same, place_same, meta_below, free_meta, first_same, zero_meta}
use Rattle.ng_rule.proofs.group.Publish.{map-total, among_in_motion, among_select, zeros}
use Rattle.ng_rule.proofs.geometry.Parts.{Quiet, quiet_excuses, quiet_hands, quiet_history, slots_by, owed_same, slots_with, marked_other, field_other, known_meta, each_keep, listing_of, listing_less, free_cells_by, numbers_of, numbers_by, keep_avail, keep_freed, keep_bit, plain_less}

module _ (key : Start) (ws : List ℕ) (vs : List View) (id : ℕ) (v : View) (kept : Rule key ws vs) (here_v : get_elem? vs id ≡ some v) (leads : v.leads ≡ true)
    (m c x : ℕ) (cleared : ℕ → Bool) (al : m % 4 ≡ 0) (live : 0 < tag ws m) (kind : ((c ≡ 24) × (x / 4294967296 ≡ tag ws m)) ⊎ ((c ≡ 28) × (x < 4294967296)))
    (bits : (j : ℕ) → j < 32 → bit_at x j + count_of (cleared j) ≡ bit_at (cell ws (m + c)) j) (none : cell ws (m + 28) ≡ 0 → c ≡ 28 → x ≡ 0)
    (ba bf : List ℕ) (sf : List (ℕ × ℕ))
    (notes_a : (n : ℕ) → Among n ba → Among n v.desk.zero_avail ⊎ ((n ≡ m) × (c ≡ 24) × ((j : ℕ) → j < 32 → bit_at x j ≡ 0)))
    (notes_f : (n : ℕ) → Among n bf → Among n v.desk.zero_freed ⊎ ((n ≡ m) × (c ≡ 28) × (x ≡ 0)))
    (notes_s : (n j : ℕ) → Among {A = ℕ × ℕ} (n, j) sf → Among {A = ℕ × ℕ} (n, j) v.desk.set_freed × (c ≡ 28 → n ≡ m → cleared j ≡ false)) where
  abbrev ws' : List ℕ
  ws' = set ws ((m + c) / 4) x

  abbrev g : Group
  g = group_at ws m

  abbrev w : View
  w = fetched v g (select cleared 32) ba bf sf

  small : (c < 40) × (c % 4 ≡ 0)
  small = ⊎_elim (λ (k : (c ≡ 24) × (x / 4294967296 ≡ tag ws m)). (let e = k.0 in omega arith, let e = k.0 in omega arith)) (λ (k : (c ≡ 28) × (x < 4294967296)). (let e = k.0 in omega arith, let e = k.0 in omega arith)) kind

  same : Same ws ws' (desk_of vs).layout
  same = same_mask key ws (desk_of vs).layout kept.words.lawful (nested ws vs kept.slots) m c x al live kind

  area : InArea (desk_of vs).layout m
  area = (kept.words.lawful.groups m al live).in_area

  new_word : cell ws' (m + c) ≡ x
  new_word = index_same ws ((m + c) / 4) x (meta_below key ws (desk_of vs).layout kept.words.lawful (nested ws vs kept.slots) m c area small.0)

  -- the other mask
  other_word : (b : ℕ) → b < 40 → b % 4 ≡ 0 → b ≢ c → cell ws' (m + b) ≡ cell ws (m + b)
  other_word b lb bl ne = field_other key ws vs kept.slots kept.words.lawful m c x m b al small.0 small.1 live al live lb bl (λ p. ne p.1)

  -- the two masks together
  both : (j : ℕ) → j < 32 → (bit_at (avail ws' m) j + bit_at (freed ws' m) j) + count_of (cleared j) ≡ bit_at (avail ws m) j + bit_at (freed ws m) j
  both j lj =
      let b = bits j lj in
      let p : ℕ = count_of (cleared j) in let o : ℕ = bit_at x j in
      ⊎_elim
      (λ (k : (c ≡ 24) × (x / 4294967296 ≡ tag ws m)).
      let y0 : ℕ = bit_at (avail ws' m) j in let y1 : ℕ = bit_at (freed ws' m) j in let z0 : ℕ = bit_at (avail ws m) j in let z1 : ℕ = bit_at (freed ws m) j in
      let a : y0 ≡ o = ap (λ n. bit_at (cell ws' (m + n)) j) (sym k.0) ∙ ap (λ y. bit_at y j) new_word in
      let e : y1 ≡ z1 = ap (λ y. bit_at y j) (other_word 28 (omega arith) refl (λ q. let f = k.0 in omega arith)) in
      let d : o + p ≡ z0 = b ∙ ap (λ n. bit_at (cell ws (m + n)) j) k.0 in omega (arith, a, e, d))
      (λ (k : (c ≡ 28) × (x < 4294967296)).
      let y0 : ℕ = bit_at (avail ws' m) j in let y1 : ℕ = bit_at (freed ws' m) j in let z0 : ℕ = bit_at (avail ws m) j in let z1 : ℕ = bit_at (freed ws m) j in
      let a : y1 ≡ o = ap (λ n. bit_at (cell ws' (m + n)) j) (sym k.0) ∙ ap (λ y. bit_at y j) new_word in
      let e : y0 ≡ z0 = ap (λ y. bit_at y j) (other_word 24 (omega arith) refl (λ q. let f = k.0 in omega arith)) in
      let d : o + p ≡ z1 = b ∙ ap (λ n. bit_at (cell ws (m + n)) j) k.0 in omega (arith, a, e, d))
      kind

  marks : (n j : ℕ) → n % 4 ≡ 0 → j < 32 → marked ws' n j + total_by (λ i. here n j (in_motion g i).place) (select cleared 32) ≡ marked ws n j
  marks n j nl lj =
      ⊎_elim
      (λ (e : n ≡ m).
      subst (λ k. marked ws' k j + total_by (λ i. here k j (in_motion g i).place) (select cleared 32) ≡ marked ws k j) (sym e)
      (let a = marked_live (tag ws' m) (avail ws' m) (freed ws' m) j (subst (λ t. 0 < t) (sym (same.tags m al)) live) in
      let b = marked_live (tag ws m) (avail ws m) (freed ws m) j live in
      let sel : total_by (λ i. here m j (in_motion g i).place) (select cleared 32) ≡ count_of (cleared j) =
      total_by-same (λ i. here m j (in_motion g i).place) (λ i. count_of (eqb i j)) (select cleared 32) (λ i. ap (λ b. count_of (b && eqb i j)) (eq-eqb m m refl)) ∙ select-times cleared 32 j lj in
      let y0 : ℕ = bit_at (avail ws' m) j in let y1 : ℕ = bit_at (freed ws' m) j in let z0 : ℕ = bit_at (avail ws m) j in let z1 : ℕ = bit_at (freed ws m) j in let p : ℕ = count_of (cleared j) in
      let t : (y0 + y1) + p ≡ z0 + z1 = both j lj in let a' : marked ws' m j ≡ y0 + y1 = a in let b' : marked ws m j ≡ z0 + z1 = b in let s' : total_by (λ i. here m j (in_motion g i).place) (select cleared 32) ≡ p = sel in
      omega (arith, t, a', b', s')))
      (λ (ne : n ≢ m).
      let a = marked_other key ws vs kept.slots kept.words.lawful m c x n j al small.0 small.1 live nl ne (same.tags n nl) in
      let z : total_by (λ i. here n j (in_motion g i).place) (select cleared 32) ≡ 0 = total_by-same (λ i. here n j (in_motion g i).place) (λ i. 0) (select cleared 32) (λ i. ap (λ b. count_of (b && eqb i j)) (ne_eqb m n (λ q. ne (sym q)))) ∙ zeros (select cleared 32) in
      omega arith)
      (cases_eq n m)

  has_new : (n j : ℕ) → has n j w ≡ total_by (λ i. here n j (in_motion g i).place) (select cleared 32) + has n j v
  has_new n j = let a = total_by-append (λ (y : Held). here n j y.place) (map (in_motion g) (select cleared 32)) v.held in let b = map-total (λ (y : Held). here n j y.place) g (select cleared 32) in omega arith

  page_zero : (b : ℕ) → b % 4 ≡ 0 → b < 4096 → cell ws' b ≡ cell ws b
  page_zero = zero_meta key ws (desk_of vs).layout kept.words.lawful (nested ws vs kept.slots) m c x al area small.0 small.1

  quiet : Quiet v w
  quiet = record {
    leads = refl;
    books = refl;
    excuses = refl;
    sent = refl;
    taken = refl;
    parcel = refl;
    blocks = λ b. let a = total_by-append (λ (y : Held). lives b y.block) (map (in_motion g) (select cleared 32)) v.held in let e = map-total (λ (y : Held). lives b y.block) g (select cleared 32) in let z = zeros (select cleared 32) in omega arith;
    idle = λ f b. let r = f b in (r.0, r.1, λ l. absurd (true≢false (sym leads ∙ l)));
    whole = λ f p. absurd (true≢false (sym leads ∙ (f p).follows));
  }

  desk_was : desk_of vs ≡ v.desk
  desk_was = (desk_lead vs id v w here_v leads kept.hands.leaders leads).0

  desk_is : desk_of (set vs id w) ≡ w.desk
  desk_is = (desk_lead vs id v w here_v leads kept.hands.leaders leads).1

  layout_same : (desk_of vs).layout ≡ w.desk.layout
  layout_same = ap (λ (y : Desk). y.layout) desk_was

  other : (n b : ℕ) → n % 4 ≡ 0 → 0 < tag ws n → b < 40 → b % 4 ≡ 0 → ((n ≡ m) × (b ≡ c) → ⊥) → cell ws' (n + b) ≡ cell ws (n + b)
  other n b nl l lb bl ne = field_other key ws vs kept.slots kept.words.lawful m c x n b al small.0 small.1 live nl l lb bl ne

  -- each mask of the meta has no bit that it hadn't
  avail_less : (j : ℕ) → j < 32 → bit_at (avail ws m) j ≡ 0 → bit_at (avail ws' m) j ≡ 0
  avail_less j lj z = ⊎_elim
      (λ (q : (c ≡ 24) × (x / 4294967296 ≡ tag ws m)).
      let b = bits j lj in let y0 : ℕ = bit_at (avail ws' m) j in let o : ℕ = bit_at x j in let p : ℕ = count_of (cleared j) in let z0 : ℕ = bit_at (avail ws m) j in
      let a : y0 ≡ o = ap (λ r. bit_at (cell ws' (m + r)) j) (sym q.0) ∙ ap (λ y. bit_at y j) new_word in
      let d : o + p ≡ z0 = b ∙ ap (λ r. bit_at (cell ws (m + r)) j) q.0 in let z' : z0 ≡ 0 = z in let r : y0 ≡ 0 = omega (arith, a, d, z') in r)
      (λ (q : (c ≡ 28) × (x < 4294967296)). ap (λ y. bit_at y j) (other_word 24 (omega arith) refl (λ f. let h = q.0 in omega arith)) ∙ z)
      kind

  freed_less : freed ws m ≡ 0 → freed ws' m ≡ 0
  freed_less z = ⊎_elim
      (λ (q : (c ≡ 24) × (x / 4294967296 ≡ tag ws m)). other_word 28 (omega arith) refl (λ f. let h = q.0 in omega arith) ∙ z)
      (λ (q : (c ≡ 28) × (x < 4294967296)). ap (λ r. cell ws' (m + r)) (sym q.0) ∙ new_word ∙ none z q.0)
      kind

  -- a freed bit that isn't cleared stays
  freed_keeps : (j : ℕ) → j < 32 → (c ≡ 28 → cleared j ≡ false) → bit_at (freed ws m) j ≡ 1 → bit_at (freed ws' m) j ≡ 1
  freed_keeps j lj keep z = ⊎_elim
      (λ (q : (c ≡ 24) × (x / 4294967296 ≡ tag ws m)). ap (λ y. bit_at y j) (other_word 28 (omega arith) refl (λ f. let h = q.0 in omega arith)) ∙ z)
      (λ (q : (c ≡ 28) × (x < 4294967296)).
      let b = bits j lj in let y0 : ℕ = bit_at (freed ws' m) j in let o : ℕ = bit_at x j in let p : ℕ = count_of (cleared j) in let z0 : ℕ = bit_at (freed ws m) j in
      let a : y0 ≡ o = ap (λ r. bit_at (cell ws' (m + r)) j) (sym q.0) ∙ ap (λ y. bit_at y j) new_word in
      let e : p ≡ 0 = ap count_of (keep q.0) in
      let d : o + p ≡ z0 = b ∙ ap (λ r. bit_at (cell ws (m + r)) j) q.0 in let z' : z0 ≡ 1 = z in let r : y0 ≡ 1 = omega (arith, a, d, e, z') in r)
      kind

  masks_is : Masks ws' w.desk
  masks_is =
      let o = (subst (Noted ws) desk_was kept.knowledge.desk).masks in
      let lay = (desk_of vs).layout in
      record {
        zero_avail = λ n t. ⊎_elim
            (λ (q : Among n v.desk.zero_avail).
            let k = o.zero_avail n q in
            keep_avail ws ws' lay same n (λ j lj z. ⊎_elim
            (λ (e : n ≡ m). subst (λ y. bit_at (avail ws' y) j ≡ 0) (sym e) (avail_less j lj (subst (λ y. bit_at (avail ws y) j ≡ 0) e z)))
            (λ (ne : n ≢ m). ap (λ y. bit_at y j) (other n 24 k.whole k.live (omega arith) refl (λ p. ne p.0)) ∙ z) (cases_eq n m)) k)
            (λ (q : (n ≡ m) × (c ≡ 24) × ((j : ℕ) → j < 32 → bit_at x j ≡ 0)).
            subst (IsZeroAvail ws') (sym q.0) (record { whole = al; live = subst (λ t. 0 < t) (sym (same.tags m al)) live; zero_bits = λ j lj. ap (λ r. bit_at (cell ws' (m + r)) j) (sym q.1) ∙ ap (λ y. bit_at y j) new_word ∙ q.2 j lj }))
            (notes_a n t);
        zero_freed = λ n t. ⊎_elim
            (λ (q : Among n v.desk.zero_freed).
            let k = o.zero_freed n q in
            keep_freed ws ws' lay same n (λ z. ⊎_elim
            (λ (e : n ≡ m). subst (λ y. freed ws' y ≡ 0) (sym e) (freed_less (subst (λ y. freed ws y ≡ 0) e z)))
            (λ (ne : n ≢ m). other n 28 k.whole k.live (omega arith) refl (λ p. ne p.0) ∙ z) (cases_eq n m)) k)
            (λ (q : (n ≡ m) × (c ≡ 28) × (x ≡ 0)).
            subst (IsZeroFreed ws') (sym q.0) (record { whole = al; live = subst (λ t. 0 < t) (sym (same.tags m al)) live; zero_mask = ap (λ r. cell ws' (m + r)) (sym q.1) ∙ new_word ∙ q.2 }))
            (notes_f n t);
        set_freed = λ n j t.
            let q = notes_s n j t in
            let k = o.set_freed n j q.0 in
            keep_bit ws ws' lay same n j (λ z. ⊎_elim
            (λ (e : n ≡ m). subst (λ y. bit_at (freed ws' y) j ≡ 1) (sym e) (freed_keeps j k.few (λ f. q.1 f e) (subst (λ y. bit_at (freed ws y) j ≡ 1) e z)))
            (λ (ne : n ≢ m). ap (λ y. bit_at y j) (other n 28 k.whole k.live (omega arith) refl (λ p. ne p.0)) ∙ z) (cases_eq n m)) k;
      }

  noted_is : Noted ws' w.desk
  noted_is =
      let o = free_cells_by ws ws' (desk_of vs) same (λ a k. free_meta key ws (desk_of vs).layout kept.words.lawful (nested ws vs kept.slots) m c x a al live small.0 small.1 k) kept.knowledge.desk.free in
      record {
        free = λ a y t. let k = o a y (subst (λ (z : Desk). Among {A = ℕ × ℕ} (a, y) z.cells) (sym desk_was) t) in (subst (λ (z : Layout). IsFree ws' z a) layout_same k.0, k.1);
        masks = masks_is;
        numbers = numbers_of ws' v.desk w.desk refl refl (subst (Numbers ws') desk_was (numbers_by ws ws' (desk_of vs) page_zero kept.knowledge.desk.numbers));
      }

  pub takes : Rule key ws' (set vs id w)
  takes = record {
    slots = slots_with key ws vs kept.slots kept.words.lawful ws' id v w here_v (slots_by ws ws' vs id v w here_v (λ n j nl lj. ((let a = marks n j nl lj in let b = has_new n j in omega arith), owed_same ws ws' (desk_of vs).layout same n j nl)) kept.slots) (plain_less ws ws' (λ n j nl lj. let a = marks n j nl lj in omega arith) kept.slots.plain) same refl mine;
    words = record {
      lawful = subst (λ (z : Desk). IsLawful key ws' z.layout) (sym desk_is) (subst (IsLawful key ws') layout_same (words_same key ws ws' (desk_of vs).layout kept.words.lawful same (first_same key ws ws' page_zero kept.words.lawful.first)));
      blocks = each_keep (λ u. (h : Held) → Among h u.held → IsSet h h.block) vs id v w here_v sound_mine kept.words.blocks;
    };
    listing = subst (Listing ws') (sym desk_is) (listing_of ws' v.desk w.desk refl refl refl (subst (Listing ws') desk_was (listing_less ws ws' (desk_of vs) same (λ n j nl lj. let a = marks n j nl lj in omega arith) kept.listing)));
    excuses = quiet_excuses key vs id v w here_v quiet (ap (λ (e : Desk). e.refusals) desk_is ∙ ap (λ (e : Desk). e.refusals) (sym desk_was)) kept.excuses;
    history = quiet_history key vs id v w here_v quiet kept.history;
    knowledge = record {
      desk = subst (Noted ws') (sym desk_is) noted_is;
      each = each_set (λ u. Unit {0}) (λ u. (h : Held) → Among h u.held → IsKnown ws' h) vs id w (λ j u n e h s. known j u h e s) known_mine;
    };
    classes = record { each = each_keep (λ u. (h : Held) → Among h u.held → IsServed h h.block) vs id v w here_v served_mine kept.classes.each };
    hands = quiet_hands vs id v w here_v quiet (ap (λ (e : Desk). e.next) desk_is ∙ ap (λ (e : Desk). e.next) (sym desk_was)) kept.hands
        (each_keep IsDeskless vs id v w here_v (λ f l. absurd (true≢false (sym leads ∙ l))) kept.hands.desks)
        (each_keep IsMoving vs id v w here_v (λ f l b h s. ⊎_elim (λ (q : Among h (map (in_motion g) (select cleared 32))). let r = among_in_motion g (select cleared 32) h q in subst (λ (y : Held). y.block ≡ None) (sym r.2) refl) (f l b h) (among_append (map (in_motion g) (select cleared 32)) v.held h s)) kept.hands.moving);
  }
    where
      mine : (h : Held) → Among h w.held → IsPlace ws' h.place
      mine h s = ⊎_elim
          (λ (q : Among h (map (in_motion g) (select cleared 32))). let r = among_in_motion g (select cleared 32) h q in subst (λ (y : Held). IsPlace ws' y.place) (sym r.2) (record { group = sym (same.groups m al live); whole = al; few = among_select cleared 32 r.0 r.1 }))
          (λ (q : Among h v.held). place_same ws ws' (desk_of vs).layout same h.place (held_slot ws vs kept.slots id v h here_v q))
          (among_append (map (in_motion g) (select cleared 32)) v.held h s)

      known : (j : ℕ) (u : View) (h : Held) → get_elem? vs j ≡ some u → Among h u.held → IsKnown ws' h
      known j u h e s = known_meta key ws vs kept.slots kept.words.lawful m c x al small.0 small.1 live j u h e s (kept.knowledge.each j u e h s)

      known_mine : (h : Held) → Among h w.held → IsKnown ws' h
      known_mine h s = ⊎_elim
          (λ (q : Among h (map (in_motion g) (select cleared 32))). let r = among_in_motion g (select cleared 32) h q in subst (IsKnown ws') (sym r.2) (λ a y z. elim z [ ]))
          (λ (q : Among h v.held). known id v h here_v q)
          (among_append (map (in_motion g) (select cleared 32)) v.held h s)

      sound_mine : ((h : Held) → Among h v.held → IsSet h h.block) → (h : Held) → Among h w.held → IsSet h h.block
      sound_mine f h s = ⊎_elim
          (λ (q : Among h (map (in_motion g) (select cleared 32))). let r = among_in_motion g (select cleared 32) h q in subst (λ (y : Held). IsSet y y.block) (sym r.2) tt)
          (λ (q : Among h v.held). f h q)
          (among_append (map (in_motion g) (select cleared 32)) v.held h s)

      served_mine : ((h : Held) → Among h v.held → IsServed h h.block) → (h : Held) → Among h w.held → IsServed h h.block
      served_mine f h s = ⊎_elim
          (λ (q : Among h (map (in_motion g) (select cleared 32))). let r = among_in_motion g (select cleared 32) h q in subst (λ (y : Held). IsServed y y.block) (sym r.2) tt)
          (λ (q : Among h v.held). f h q)
          (among_append (map (in_motion g) (select cleared 32)) v.held h s)
