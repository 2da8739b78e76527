-- The lock's seat sets a bit of a mask: its slot is out of the view.
use Rattle.std.proofs.Common.{◌≡◌, ◌≢◌, ◌⊎◌, ℕ, ◌+◌, ◌/◌, ◌%◌, ◌<◌, eqb, ne_eqb, eq-eqb, ◌&&◌, true, true≢false, List, set, refl, sym, ap, ◌∙◌, subst, ⊎_elim, arith}
use mathlib.Core.Option.{some}
use lib.ListN.{get_elem?}
use Rattle.std.specs.Prelude.{Some, None}
use Rattle.std.specs.Int.{bit_at}
use Rattle.std.proofs.lemmas.Bool.{cases_eq}
use Rattle.std.proofs.lemmas.Nat.Bits.{bit_at-lt}
use Rattle.ng_view.specs.declared.view.Group.{Group}
use Rattle.ng_view.specs.declared.view.Held.{Held}
use Rattle.ng_view.specs.declared.view.Desk.{Desk}
use Rattle.ng_view.specs.declared.view.View.{View}
use Rattle.ng_view.specs.declared.view.Start.{Start}
use Rattle.ng_view.specs.Lists.{Among, count_of, is_at, find}
use Rattle.ng_view.specs.Cells.{cell, tag, avail, freed, marked, group_at}
use Rattle.ng_view.specs.Hands.{IsDeskless, IsMoving}
use Rattle.ng_view.specs.Classes.{IsServed}
use Rattle.ng_view.specs.Words.{IsLawful}
use Rattle.ng_view.specs.Views.{here, has, desk_of, lives}
use Rattle.ng_view.specs.Rule.{Rule}
use Rattle.ng_view.specs.Layouts.{InArea}
use Rattle.ng_view.specs.Knowledge.{IsFree, IsKnown, Noted, Numbers}
use Rattle.ng_view.specs.Blocks.{IsSet}
use Rattle.ng_view.specs.Slots.{IsPlain}
use Rattle.ng_view.specs.Listing.{Listing}
use Rattle.ng_view.specs.LockSteps.{put_out}
use Rattle.ng_rule.proofs.geometry.Lists.{desk_lead, total_by-without, among_without, find_among, is_at-true}
use Rattle.ng_view.specs.declared.view.Layout.{Layout}
use Rattle.ng_rule.proofs.geometry.Nesting.{IsSlot}
use Rattle.ng_rule.proofs.geometry.Lists.{each_set, index_same}
use Rattle.ng_rule.proofs.geometry.Facts.{marked_live, held_slot, nested}
use Rattle.ng_rule.proofs.geometry.Frames.{Same, same_mask, words_same, place_same, meta_below, free_meta, first_same, zero_meta}
use Rattle.ng_rule.proofs.geometry.Parts.{Quiet, quiet_excuses, quiet_hands, quiet_history, slots_by, owed_same, slots_with, marked_other, field_other, known_meta, each_keep, listing_of, listing_by, free_cells_by, numbers_of, numbers_by, keep_avail, keep_freed, keep_bit}

module _ (key : Start) (ws : List ℕ) (vs : List View) (id : ℕ) (v : View) (kept : Rule key ws vs) (here_v : get_elem? vs id ≡ some v) (leads : v.leads ≡ true)
    (m i c x : ℕ) (h : Held) (found : find m i v.held ≡ Some h) (none : h.block ≡ None) (listed : Among m v.desk.listed) (plain : IsPlain (group_at ws m))
    (kind : ((c ≡ 24) × (x / 4294967296 ≡ tag ws m)) ⊎ ((c ≡ 28) × (x < 4294967296)))
    (bits : (j : ℕ) → j < 32 → bit_at x j ≡ bit_at (cell ws (m + c)) j + count_of (eqb i j))
    (ba bf : List ℕ) (notes_a : (n : ℕ) → Among n ba → Among n v.desk.zero_avail × (c ≡ 24 → n ≢ m)) (notes_f : (n : ℕ) → Among n bf → Among n v.desk.zero_freed × (c ≡ 28 → n ≢ m)) where
  abbrev ws' : List ℕ
  ws' = set ws ((m + c) / 4) x

  abbrev w : View
  w = put_out v m i ba bf

  abbrev d : Layout
  d = (desk_of vs).layout

  there : Among h v.held × (is_at m i h.place ≡ true)
  there = find_among m i v.held h found

  at_place : (h.place.group.meta ≡ m) × (h.place.index ≡ i)
  at_place = is_at-true m i h.place there.1

  slot : IsSlot ws h.place
  slot = held_slot ws vs kept.slots id v h here_v there.0

  al : m % 4 ≡ 0
  al = subst (λ k. k % 4 ≡ 0) at_place.0 slot.0.whole

  live : 0 < tag ws m
  live = subst (λ k. 0 < tag ws k) at_place.0 (subst (λ (g : Group). 0 < g.tag) slot.0.group slot.1)

  small : (c < 40) × (c % 4 ≡ 0)
  small = ⊎_elim (λ (k : (c ≡ 24) × (x / 4294967296 ≡ tag ws m)). (let e = k.0 in omega arith, let e = k.0 in omega arith)) (λ (k : (c ≡ 28) × (x < 4294967296)). (let e = k.0 in omega arith, let e = k.0 in omega arith)) kind

  same : Same ws ws' d
  same = same_mask key ws d kept.words.lawful (nested ws vs kept.slots) m c x al live kind

  area : InArea d m
  area = (kept.words.lawful.groups m al live).in_area

  new_word : cell ws' (m + c) ≡ x
  new_word = index_same ws ((m + c) / 4) x (meta_below key ws d kept.words.lawful (nested ws vs kept.slots) m c area small.0)

  other_word : (b : ℕ) → b < 40 → b % 4 ≡ 0 → b ≢ c → cell ws' (m + b) ≡ cell ws (m + b)
  other_word b lb bl ne = field_other key ws vs kept.slots kept.words.lawful m c x m b al small.0 small.1 live al live lb bl (λ p. ne p.1)

  both : (j : ℕ) → j < 32 → bit_at (avail ws' m) j + bit_at (freed ws' m) j ≡ (bit_at (avail ws m) j + bit_at (freed ws m) j) + count_of (eqb i j)
  both j lj =
      let b = bits j lj in
      let p : ℕ = count_of (eqb i j) in let o : ℕ = bit_at x j in
      let y0 : ℕ = bit_at (avail ws' m) j in let y1 : ℕ = bit_at (freed ws' m) j in let z0 : ℕ = bit_at (avail ws m) j in let z1 : ℕ = bit_at (freed ws m) j in
      ⊎_elim
      (λ (k : (c ≡ 24) × (x / 4294967296 ≡ tag ws m)).
      let a : y0 ≡ o = ap (λ n. bit_at (cell ws' (m + n)) j) (sym k.0) ∙ ap (λ y. bit_at y j) new_word in
      let e : y1 ≡ z1 = ap (λ y. bit_at y j) (other_word 28 (omega arith) refl (λ q. let f = k.0 in omega arith)) in
      let t : o ≡ z0 + p = b ∙ ap (λ n. bit_at (cell ws (m + n)) j + p) k.0 in omega (arith, a, e, t))
      (λ (k : (c ≡ 28) × (x < 4294967296)).
      let a : y1 ≡ o = ap (λ n. bit_at (cell ws' (m + n)) j) (sym k.0) ∙ ap (λ y. bit_at y j) new_word in
      let e : y0 ≡ z0 = ap (λ y. bit_at y j) (other_word 24 (omega arith) refl (λ q. let f = k.0 in omega arith)) in
      let t : o ≡ z1 + p = b ∙ ap (λ n. bit_at (cell ws (m + n)) j + p) k.0 in omega (arith, a, e, t))
      kind

  here_is : (n j : ℕ) → here n j h.place ≡ count_of (eqb m n && eqb i j)
  here_is n j = λ t. count_of (eqb (at_place.0 t) n && eqb (at_place.1 t) j)

  marks : (n j : ℕ) → n % 4 ≡ 0 → j < 32 → marked ws' n j ≡ marked ws n j + here n j h.place
  marks n j nl lj =
      ⊎_elim
      (λ (e : n ≡ m).
      subst (λ k. marked ws' k j ≡ marked ws k j + here k j h.place) (sym e)
      (let a = marked_live (tag ws' m) (avail ws' m) (freed ws' m) j (subst (λ t. 0 < t) (sym (same.tags m al)) live) in
      let b = marked_live (tag ws m) (avail ws m) (freed ws m) j live in
      let g : here m j h.place ≡ count_of (eqb i j) = here_is m j ∙ ap (λ b. count_of (b && eqb i j)) (eq-eqb m m refl) in
      let y0 : ℕ = bit_at (avail ws' m) j in let y1 : ℕ = bit_at (freed ws' m) j in let z0 : ℕ = bit_at (avail ws m) j in let z1 : ℕ = bit_at (freed ws m) j in let p : ℕ = count_of (eqb i j) in
      let t : y0 + y1 ≡ (z0 + z1) + p = both j lj in let a' : marked ws' m j ≡ y0 + y1 = a in let b' : marked ws m j ≡ z0 + z1 = b in let g' : here m j h.place ≡ p = g in
      omega (arith, t, a', b', g')))
      (λ (ne : n ≢ m).
      let a = marked_other key ws vs kept.slots kept.words.lawful m c x n j al small.0 small.1 live nl ne (same.tags n nl) in
      let b : here n j h.place ≡ 0 = here_is n j ∙ ap (λ b. count_of (b && eqb i j)) (ne_eqb m n (λ e. ne (sym e))) in omega arith)
      (cases_eq n m)

  counts : (n j : ℕ) → has n j w + here n j h.place ≡ has n j v
  counts n j = let a = total_by-without (λ (y : Held). here n j y.place) m i v.held h found in omega arith

  page_zero : (b : ℕ) → b % 4 ≡ 0 → b < 4096 → cell ws' b ≡ cell ws b
  page_zero = zero_meta key ws (desk_of vs).layout kept.words.lawful (nested ws vs kept.slots) m c x al area small.0 small.1

  quiet : Quiet v w
  quiet = record {
    leads = refl;
    books = refl;
    excuses = refl;
    sent = refl;
    taken = refl;
    parcel = refl;
    blocks = λ b. let a = total_by-without (λ (y : Held). lives b y.block) m i v.held h found in let e : lives b h.block ≡ 0 = ap (lives b) none in omega arith;
    idle = λ f b. let r = f b in (r.0, r.1, λ l. absurd (true≢false (sym leads ∙ l)));
    whole = λ f p. absurd (true≢false (sym leads ∙ (f p).follows));
  }

  desk_was : desk_of vs ≡ v.desk
  desk_was = (desk_lead vs id v w here_v leads kept.hands.leaders leads).0

  desk_is : desk_of (set vs id w) ≡ w.desk
  desk_is = (desk_lead vs id v w here_v leads kept.hands.leaders leads).1

  layout_same : d ≡ w.desk.layout
  layout_same = ap (λ (y : Desk). y.layout) desk_was

  other : (n b : ℕ) → n % 4 ≡ 0 → 0 < tag ws n → b < 40 → b % 4 ≡ 0 → ((n ≡ m) × (b ≡ c) → ⊥) → cell ws' (n + b) ≡ cell ws (n + b)
  other n b nl l lb bl ne = field_other key ws vs kept.slots kept.words.lawful m c x n b al small.0 small.1 live nl l lb bl ne

  -- a set bit stays set
  freed_keeps : (j : ℕ) → j < 32 → bit_at (freed ws m) j ≡ 1 → bit_at (freed ws' m) j ≡ 1
  freed_keeps j lj z = ⊎_elim
      (λ (q : (c ≡ 24) × (x / 4294967296 ≡ tag ws m)). ap (λ y. bit_at y j) (other_word 28 (omega arith) refl (λ f. let h = q.0 in omega arith)) ∙ z)
      (λ (q : (c ≡ 28) × (x < 4294967296)).
      let y0 : ℕ = bit_at (freed ws' m) j in let o : ℕ = bit_at x j in let p : ℕ = count_of (eqb i j) in let z0 : ℕ = bit_at (freed ws m) j in
      let a : y0 ≡ o = ap (λ r. bit_at (cell ws' (m + r)) j) (sym q.0) ∙ ap (λ y. bit_at y j) new_word in
      let d : o ≡ z0 + p = bits j lj ∙ ap (λ r. bit_at (cell ws (m + r)) j + p) q.0 in let z' : z0 ≡ 1 = z in let t : o < 2 = bit_at-lt x j in let r : y0 ≡ 1 = omega (arith, a, d, z', t) in r)
      kind

  listing_is : (n j : ℕ) → n % 4 ≡ 0 → j < 32 → 0 < marked ws' n j → Among n (desk_of vs).listed
  listing_is n j nl lj some_bit = ⊎_elim
      (λ (e : n ≡ m). subst (λ k. Among k (desk_of vs).listed) (sym e) (subst (λ (z : Desk). Among m z.listed) (sym desk_was) listed))
      (λ (ne : n ≢ m). kept.listing.bits n j nl lj (let a = marked_other key ws vs kept.slots kept.words.lawful m c x n j al small.0 small.1 live nl ne (same.tags n nl) in omega arith))
      (cases_eq n m)

  plains : (n j : ℕ) → n % 4 ≡ 0 → j < 32 → 0 < marked ws' n j → IsPlain (group_at ws n)
  plains n j nl lj some_bit = ⊎_elim
      (λ (e : n ≡ m). subst (λ k. IsPlain (group_at ws k)) (sym e) plain)
      (λ (ne : n ≢ m). kept.slots.plain n j nl lj (let a = marked_other key ws vs kept.slots kept.words.lawful m c x n j al small.0 small.1 live nl ne (same.tags n nl) in omega arith))
      (cases_eq n m)

  noted_is : Noted ws' w.desk
  noted_is =
      let o = free_cells_by ws ws' (desk_of vs) same (λ a k. free_meta key ws d kept.words.lawful (nested ws vs kept.slots) m c x a al live small.0 small.1 k) kept.knowledge.desk.free in
      let old = (subst (Noted ws) desk_was kept.knowledge.desk).masks in
      record {
        free = λ a y t. let k = o a y (subst (λ (z : Desk). Among {A = ℕ × ℕ} (a, y) z.cells) (sym desk_was) t) in (subst (λ (z : Layout). IsFree ws' z a) layout_same k.0, k.1);
        masks = record {
          zero_avail = λ n q. let r = notes_a n q in let k = old.zero_avail n r.0 in keep_avail ws ws' d same n (λ j lj z. ap (λ y. bit_at y j) (other n 24 k.whole k.live (omega arith) refl (λ p. r.1 (sym p.1) p.0)) ∙ z) k;
          zero_freed = λ n q. let r = notes_f n q in let k = old.zero_freed n r.0 in keep_freed ws ws' d same n (λ z. other n 28 k.whole k.live (omega arith) refl (λ p. r.1 (sym p.1) p.0) ∙ z) k;
          set_freed = λ n j q. let k = old.set_freed n j q in keep_bit ws ws' d same n j (λ z. ⊎_elim
              (λ (e : n ≡ m). subst (λ y. bit_at (freed ws' y) j ≡ 1) (sym e) (freed_keeps j k.few (subst (λ y. bit_at (freed ws y) j ≡ 1) e z)))
              (λ (ne : n ≢ m). ap (λ y. bit_at y j) (other n 28 k.whole k.live (omega arith) refl (λ p. ne p.0)) ∙ z) (cases_eq n m)) k;
        };
        numbers = numbers_of ws' v.desk w.desk refl refl (subst (Numbers ws') desk_was (numbers_by ws ws' (desk_of vs) page_zero kept.knowledge.desk.numbers));
      }

  pub raises : Rule key ws' (set vs id w)
  raises = record {
    slots = slots_with key ws vs kept.slots kept.words.lawful ws' id v w here_v (slots_by ws ws' vs id v w here_v (λ n j nl lj. ((let a = marks n j nl lj in let b = counts n j in omega arith), owed_same ws ws' d same n j nl)) kept.slots) plains same refl (λ y s. place_same ws ws' d same y.place (held_slot ws vs kept.slots id v y here_v (among_without m i v.held y s)));
    words = record {
      lawful = subst (λ (z : Desk). IsLawful key ws' z.layout) (sym desk_is) (subst (IsLawful key ws') layout_same (words_same key ws ws' d kept.words.lawful same (first_same key ws ws' page_zero kept.words.lawful.first)));
      blocks = each_keep (λ u. (y : Held) → Among y u.held → IsSet y y.block) vs id v w here_v (λ f y s. f y (among_without m i v.held y s)) kept.words.blocks;
    };
    listing = subst (Listing ws') (sym desk_is) (listing_of ws' v.desk w.desk refl refl refl (subst (Listing ws') desk_was (listing_by ws ws' (desk_of vs) same listing_is kept.listing)));
    excuses = quiet_excuses key vs id v w here_v quiet (ap (λ (e : Desk). e.refusals) desk_is ∙ ap (λ (e : Desk). e.refusals) (sym desk_was)) kept.excuses;
    history = quiet_history key vs id v w here_v quiet kept.history;
    knowledge = record {
      desk = subst (Noted ws') (sym desk_is) noted_is;
      each = each_set (λ u. Unit {0}) (λ u. (y : Held) → Among y u.held → IsKnown ws' y) vs id w (λ j u n e y s. known j u y e s) (λ y s. known id v y here_v (among_without m i v.held y s));
    };
    classes = record { each = each_keep (λ u. (y : Held) → Among y u.held → IsServed y y.block) vs id v w here_v (λ f y s. f y (among_without m i v.held y s)) kept.classes.each };
    hands = quiet_hands vs id v w here_v quiet (ap (λ (e : Desk). e.next) desk_is ∙ ap (λ (e : Desk). e.next) (sym desk_was)) kept.hands
        (each_keep IsDeskless vs id v w here_v (λ f l. absurd (true≢false (sym leads ∙ l))) kept.hands.desks)
        (each_keep IsMoving vs id v w here_v (λ f l b y s. f l b y (among_without m i v.held y s)) kept.hands.moving);
  }
    where
      known : (j : ℕ) (u : View) (y : Held) → get_elem? vs j ≡ some u → Among y u.held → IsKnown ws' y
      known j u y e s = known_meta key ws vs kept.slots kept.words.lawful m c x al small.0 small.1 live j u y e s (kept.knowledge.each j u e y s)
