-- A pop keeps the rule.
use Rattle.std.proofs.Common.{◌≡◌, ◌≢◌, ◌⊎◌, ℕ, zero, suc, ◌+◌, ◌*◌, ◌/◌, ◌%◌, ◌^◌, ◌<◌, ◌≤◌, eqb, ne_eqb, ◌&&◌, Bool, true, false, List, [], ◌∷◌, length, set, refl, sym, ap, ◌∙◌, subst, ⊎_elim, inl, inr, arith}
use mathlib.Core.Option.{some}
use lib.ListN.{get_elem?}
use Rattle.std.specs.Int.{bit_at}
use Rattle.std.proofs.lemmas.Bool.{cases_eq}
use Rattle.ng_view.specs.declared.view.Held.{Held}
use Rattle.ng_view.specs.declared.view.Desk.{Desk}
use Rattle.ng_view.specs.declared.view.View.{View}
use Rattle.ng_view.specs.declared.view.Start.{Start}
use Rattle.ng_view.specs.Lists.{Among, count_of}
use Rattle.ng_view.specs.Cells.{cell, tag, avail, freed, marked, group_at}
use Rattle.ng_view.specs.Hands.{IsDeskless, IsMoving}
use Rattle.ng_view.specs.Classes.{IsServed}
use Rattle.ng_view.specs.Words.{IsLawful}
use Rattle.ng_view.specs.Views.{here, desk_of}
use Rattle.ng_view.specs.Rule.{Rule}
use Rattle.ng_view.specs.Layouts.{InArea}
use Rattle.ng_view.specs.Knowledge.{IsFree, IsKnown, Noted, Masks}
use Rattle.ng_view.specs.Blocks.{IsSet}
use Rattle.ng_view.specs.Listing.{Listing}
use Rattle.ng_view.specs.Steps.{in_motion, popped}
use Rattle.ng_rule.proofs.geometry.Lists.{each_set, desk_same, at_other, index_same}
use Rattle.ng_rule.proofs.geometry.Bits.{cleared, cleared_bit, cleared_tag}
use Rattle.ng_rule.proofs.geometry.Facts.{marked_live, held_slot, nested}
use Rattle.ng_rule.proofs.geometry.Frames.{Same, same_mask, words_same, place_same, meta_below, free_meta, first_same, zero_meta}
use Rattle.ng_rule.proofs.geometry.Parts.{Quiet, quiet_excuses, quiet_hands, quiet_history, slots_by, owed_same, slots_with, marked_other, field_other, known_meta, each_keep, listing_less, free_cells_by, numbers_by, keep_avail, keep_freed, keep_bit, plain_less}

module _ (key : Start) (ws : List ℕ) (vs : List View) (id : ℕ) (v : View) (kept : Rule key ws vs) (here_v : get_elem? vs id ≡ some v)
    (m i : ℕ) (al : m % 4 ≡ 0) (low : i < 32) (live : 0 < tag ws m) (one : bit_at (avail ws m) i ≡ 1) (fits : avail ws m < 18446744073709551616) (caller : v.books ≡ [] → ⊥) where
  abbrev x : ℕ
  x = cleared (avail ws m) i

  abbrev ws' : List ℕ
  ws' = set ws ((m + 24) / 4) x

  abbrev w : View
  w = popped v (group_at ws m) i

  same : Same ws ws' (desk_of vs).layout
  same = same_mask key ws (desk_of vs).layout kept.words.lawful (nested ws vs kept.slots) m 24 x al live (inl (refl, cleared_tag (avail ws m) i fits low))

  area : InArea (desk_of vs).layout m
  area = (kept.words.lawful.groups m al live).in_area

  new_avail : avail ws' m ≡ x
  new_avail = index_same ws ((m + 24) / 4) x (meta_below key ws (desk_of vs).layout kept.words.lawful (nested ws vs kept.slots) m 24 area (omega arith))

  same_freed : freed ws' m ≡ freed ws m
  same_freed = at_other ws (m + 24) (m + 28) x (omega arith) (omega arith) (λ e. omega arith)

  here_other : (n j : ℕ) → n ≢ m → here n j (in_motion (group_at ws m) i).place ≡ 0
  here_other n j ne = ap (λ b. count_of (b && eqb i j)) (ne_eqb m n (λ e. ne (sym e)))

  here_same : (j : ℕ) → here m j (in_motion (group_at ws m) i).place ≡ count_of (eqb i j)
  here_same j = ap (λ b. count_of (b && eqb i j)) (Rattle.std.proofs.Common.eq-eqb m m refl)

  marks : (n j : ℕ) → n % 4 ≡ 0 → j < 32 → marked ws' n j + here n j (in_motion (group_at ws m) i).place ≡ marked ws n j
  marks n j nl lj =
      ⊎_elim
      (λ (e : n ≡ m).
      subst (λ k. marked ws' k j + here k j (in_motion (group_at ws m) i).place ≡ marked ws k j) (sym e)
      (let a = marked_live (tag ws' m) (avail ws' m) (freed ws' m) j (subst (λ t. 0 < t) (sym (same.tags m al)) live) in
      let b = marked_live (tag ws m) (avail ws m) (freed ws m) j live in
      let c = ap (λ y. bit_at y j) new_avail in
      let d = ap (λ y. bit_at y j) same_freed in
      let f = cleared_bit (avail ws m) i j (omega arith) (omega arith) one in
      let g = here_same j in
      let y0 : ℕ = bit_at (freed ws m) j in let y1 : ℕ = bit_at (avail ws m) j in let y2 : ℕ = bit_at x j in let y3 : ℕ = count_of (eqb i j) in
      let c' : bit_at (avail ws' m) j ≡ y2 = c in let d' : bit_at (freed ws' m) j ≡ y0 = d in let f' : y2 + y3 ≡ y1 = f in
      omega (arith, a, b, c', d', f', g)))
      (λ (ne : n ≢ m). let a = marked_other key ws vs kept.slots kept.words.lawful m 24 x n j al (omega arith) refl live nl ne (same.tags n nl) in let b = here_other n j ne in omega arith)
      (cases_eq n m)

  page_zero : (b : ℕ) → b % 4 ≡ 0 → b < 4096 → cell ws' b ≡ cell ws b
  page_zero = zero_meta key ws (desk_of vs).layout kept.words.lawful (nested ws vs kept.slots) m 24 x al area (omega arith) refl

  quiet : Quiet v w
  quiet = record { leads = refl; books = refl; excuses = refl; sent = refl; taken = refl; parcel = refl; blocks = λ b. omega arith; idle = λ f b. absurd (caller b); whole = λ f p. absurd (caller (f p).bookless) }

  desk : desk_of (set vs id w) ≡ desk_of vs
  desk = desk_same vs id v w here_v refl refl

  pub pops : Rule key ws' (set vs id w)
  pops = record {
    slots = slots_with key ws vs kept.slots kept.words.lawful ws' id v w here_v (slots_by ws ws' vs id v w here_v (λ n j nl lj. ((let a = marks n j nl lj in omega arith), owed_same ws ws' (desk_of vs).layout same n j nl)) kept.slots) (plain_less ws ws' (λ n j nl lj. let a = marks n j nl lj in omega arith) kept.slots.plain) same refl mine;
    words = record {
      lawful = subst (λ (z : Desk). IsLawful key ws' z.layout) (sym desk) (words_same key ws ws' (desk_of vs).layout kept.words.lawful same (first_same key ws ws' page_zero kept.words.lawful.first));
      blocks = each_keep (λ u. (h : Held) → Among h u.held → IsSet h h.block) vs id v w here_v sound_mine kept.words.blocks;
    };
    listing = subst (Listing ws') (sym desk) (listing_less ws ws' (desk_of vs) same (λ n j nl lj. let a = marks n j nl lj in omega arith) kept.listing);
    excuses = quiet_excuses key vs id v w here_v quiet (ap (λ (d : Desk). d.refusals) desk) kept.excuses;
    history = quiet_history key vs id v w here_v quiet kept.history;
    knowledge = record {
      desk = subst (Noted ws') (sym desk) (record { free = free_cells_by ws ws' (desk_of vs) same free kept.knowledge.desk.free; masks = masks; numbers = numbers_by ws ws' (desk_of vs) page_zero kept.knowledge.desk.numbers });
      each = each_set (λ u. Unit {0}) (λ u. (h : Held) → Among h u.held → IsKnown ws' h) vs id w (λ j u n e h s. known j u h e s) known_mine;
    };
    classes = record { each = each_keep (λ u. (h : Held) → Among h u.held → IsServed h h.block) vs id v w here_v served_mine kept.classes.each };
    hands = quiet_hands vs id v w here_v quiet (ap (λ (d : Desk). d.next) desk) kept.hands
        (each_keep IsDeskless vs id v w here_v (λ f. f) kept.hands.desks)
        (each_keep IsMoving vs id v w here_v (λ f l b. absurd (caller b)) kept.hands.moving);
  }
    where
      mine : (h : Held) → Among h w.held → Rattle.ng_view.specs.Slots.IsPlace ws' h.place
      mine h (inl e) = subst (λ (y : Held). Rattle.ng_view.specs.Slots.IsPlace ws' y.place) (sym e) (record { group = sym (same.groups m al live); whole = al; few = low })
      mine h (inr s) = place_same ws ws' (desk_of vs).layout same h.place (held_slot ws vs kept.slots id v h here_v s)

      known : (j : ℕ) (u : View) (h : Held) → get_elem? vs j ≡ some u → Among h u.held → IsKnown ws' h
      known j u h e s = known_meta key ws vs kept.slots kept.words.lawful m 24 x al (omega arith) refl live j u h e s (kept.knowledge.each j u e h s)

      known_mine : (h : Held) → Among h w.held → IsKnown ws' h
      known_mine h (inl e) = subst (IsKnown ws') (sym e) (λ a y t. elim t [ ])
      known_mine h (inr s) = known id v h here_v s

      sound_mine : ((h : Held) → Among h v.held → IsSet h h.block) → (h : Held) → Among h w.held → IsSet h h.block
      sound_mine f h (inl e) = subst (λ (y : Held). IsSet y y.block) (sym e) tt
      sound_mine f h (inr s) = f h s

      served_mine : ((h : Held) → Among h v.held → IsServed h h.block) → (h : Held) → Among h w.held → IsServed h h.block
      served_mine f h (inl e) = subst (λ (y : Held). IsServed y y.block) (sym e) tt
      served_mine f h (inr s) = f h s

      free : (a : ℕ) → IsFree ws (desk_of vs).layout a → cell ws' a ≡ cell ws a
      free a k = free_meta key ws (desk_of vs).layout kept.words.lawful (nested ws vs kept.slots) m 24 x a al live (omega arith) refl k

      other : (n b : ℕ) → n % 4 ≡ 0 → 0 < tag ws n → b < 40 → b % 4 ≡ 0 → ((n ≡ m) × (b ≡ 24) → ⊥) → cell ws' (n + b) ≡ cell ws (n + b)
      other n b nl l lb bl ne = field_other key ws vs kept.slots kept.words.lawful m 24 x n b al (omega arith) refl live nl l lb bl ne

      masks : Masks ws' (desk_of vs)
      masks = record {
        zero_avail = λ n t.
            let k = kept.knowledge.desk.masks.zero_avail n t in
            let keep = other n 24 k.whole k.live (omega arith) refl (λ e. let z = k.zero_bits i low in let o = ap (λ (y : ℕ). bit_at (avail ws y) i) e.0 in let y0 : ℕ = bit_at (avail ws n) i in let z' : y0 ≡ 0 = z in let o' : y0 ≡ bit_at (avail ws m) i = o in omega (arith, z', o', one)) in
            keep_avail ws ws' (desk_of vs).layout same n (λ j lj z. ap (λ y. bit_at y j) keep ∙ z) k;
        zero_freed = λ n t. let k = kept.knowledge.desk.masks.zero_freed n t in keep_freed ws ws' (desk_of vs).layout same n (λ z. other n 28 k.whole k.live (omega arith) refl (λ e. let f = e.1 in omega arith) ∙ z) k;
        set_freed = λ n j t. let k = kept.knowledge.desk.masks.set_freed n j t in keep_bit ws ws' (desk_of vs).layout same n j (λ z. ap (λ y. bit_at y j) (other n 28 k.whole k.live (omega arith) refl (λ e. let f = e.1 in omega arith)) ∙ z) k;
      }
