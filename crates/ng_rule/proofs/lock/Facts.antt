-- What the rule says of a live group's masks, for the view of the lock's seat.
use Rattle.std.proofs.Common.{◌≡◌, ℕ, ◌+◌, ◌/◌, ◌%◌, ◌<◌, ◌≤◌, true, List, sym, ap, ◌∙◌, subst, ⊎_elim, arith}
use Rattle.std.proofs.lemmas.Bool.{cases_lt}
use mathlib.Core.Option.{some}
use lib.ListN.{get_elem?}
use Rattle.std.specs.Int.{bit_at, trailing_zeros, w32}
use Rattle.std.specs.Prelude.{slice_index}
use Rattle.ng_view.specs.Cells.{tag, last, avail, freed, marked, owed, group_at}
use Rattle.ng_view.specs.Knowledge.{Noted}
use Rattle.ng_view.specs.Listing.{Listing}
use Rattle.ng_view.specs.Lists.{Among, total_by}
use Rattle.ng_view.specs.May.{May}
use Rattle.ng_view.specs.Rule.{Rule}
use Rattle.ng_view.specs.Slots.{IsPlain}
use Rattle.ng_view.specs.Views.{desk_of, has}
use Rattle.ng_view.specs.Words.{IsAvailWord}
use Rattle.ng_view.specs.declared.view.Group.{Group}
use Rattle.ng_view.specs.declared.view.View.{View}
use Rattle.ng_view.specs.declared.view.Start.{Start}
use Rattle.ng_rule.proofs.geometry.Facts.{marked_live, nested, owed_live}
use Rattle.ng_rule.proofs.geometry.Nesting.{metas_apart}
use Rattle.ng_rule.proofs.hand.Moves.{lowest}
use Rattle.ng_rule.proofs.lock.LockNotes.{led}
use Rattle.ng_view.specs.Masks.{IsServing, TellsAvail, TellsFreed}

-- a step tells a fact of its word besides
pub and_tells : (key : Start) (id : ℕ) (v : View) (k : ℕ) (f : ℕ → ℕ) (told : View → ℕ → View → Type 0) (extra : View → ℕ → Type 0) → May key id v k f told
    → ((ws : List ℕ) (vs : List View) → Rule key ws vs → get_elem? vs id ≡ some v → extra v (slice_index ws k))
    → May key id v k f (λ before n after. told before n after × extra before n)
and_tells key id v k f told extra may more ws vs kept at fits =
    let p = may ws vs kept at fits in (p.0, p.1, (p.2, more ws vs kept at))

module _ (key : Start) (id : ℕ) (v : View) (leads : v.leads ≡ true) (ws : List ℕ) (vs : List View) (kept : Rule key ws vs) (at : get_elem? vs id ≡ some v) where
  pub listing : Listing ws v.desk
  listing = subst (Listing ws) (led key id v leads ws vs kept at) kept.listing

  pub noted : Noted ws v.desk
  noted = subst (Noted ws) (led key id v leads ws vs kept at) kept.knowledge.desk

  pub group_is : (g : Group) → Among g v.desk.groups → g ≡ group_at ws g.meta
  group_is g there = (listing.live g there).group

  pub meta_whole : (g : Group) → Among g v.desk.groups → g.meta % 4 ≡ 0
  meta_whole g there = (listing.live g there).whole

  pub tag_live : (g : Group) → Among g v.desk.groups → 0 < tag ws g.meta
  tag_live g there = subst (λ (y : Group). 0 < y.tag) (group_is g there) (listing.live g there).live

  -- two live groups of one meta are one
  pub same_group : (g h : Group) → Among g v.desk.groups → Among h v.desk.groups → g.meta ≡ h.meta → g ≡ h
  same_group g h there here e = group_is g there ∙ ap (group_at ws) e ∙ sym (group_is h here)

  module _ (g : Group) (there : Among g v.desk.groups) where
    abbrev m : ℕ
    m = g.meta

    serves_at : (i : ℕ) → i < 32 → 0 < marked ws m i → IsServing v g
    serves_at i lt some_bit = record {
      listed = listing.bits m i (meta_whole g there) lt some_bit;
      plain = subst IsPlain (sym (group_is g there)) (kept.slots.plain m i (meta_whole g there) lt some_bit);
    }

    within_at : (i : ℕ) → i < 32 → 0 < marked ws m i → i ≤ g.last
    within_at i lt some_bit =
        let each = kept.slots.each m i (meta_whole g there) lt in
        let seen : ℕ = marked ws m i in let due : ℕ = owed ws m i in let views : ℕ = total_by (has m i) vs in
        let each' : seen + views ≡ due = each in
        let live = owed_live (tag ws m) (last ws m) i (let d : 0 < due = omega arith in d) in
        subst (λ (y : Group). i ≤ y.last) (sym (group_is g there)) live.1

    from_avail : (i : ℕ) → bit_at (avail ws m) i ≡ 1 → 0 < marked ws m i
    from_avail i set = let o = marked_live (tag ws m) (avail ws m) (freed ws m) i (tag_live g there) in let y : ℕ = bit_at (freed ws m) i in let x : ℕ = bit_at (avail ws m) i in let o' : marked ws m i ≡ x + y = o in let s : x ≡ 1 = set in omega arith

    from_freed : (i : ℕ) → bit_at (freed ws m) i ≡ 1 → 0 < marked ws m i
    from_freed i set = let o = marked_live (tag ws m) (avail ws m) (freed ws m) i (tag_live g there) in let y : ℕ = bit_at (freed ws m) i in let x : ℕ = bit_at (avail ws m) i in let o' : marked ws m i ≡ x + y = o in let s : y ≡ 1 = set in omega arith

    pub tells_avail : TellsAvail v g (avail ws m)
    tells_avail = record {
      tag = sym (ap (λ (y : Group). y.tag) (group_is g there));
      zero = λ q. ⊎_elim
          (λ (some_bit : 0 < avail ws m % 4294967296). let l = lowest (avail ws m) some_bit in
          absurd (let x : ℕ = bit_at (avail ws m) (trailing_zeros w32 (avail ws m % 4294967296)) in let one : x ≡ 1 = l.1 in let none : x ≡ 0 = (noted.masks.zero_avail m q).zero_bits _ l.0 in omega arith))
          (λ (none : avail ws m % 4294967296 ≤ 0). let x : ℕ = avail ws m % 4294967296 in let r : x ≡ 0 = omega arith in r)
          (cases_lt 0 (avail ws m % 4294967296));
      serves = λ some_bit. let l = lowest (avail ws m) some_bit in serves_at _ l.0 (from_avail _ l.1);
      within = λ i lt set. within_at i lt (from_avail i set);
    }

    small : freed ws m < 4294967296
    small = ⊎_elim (λ (s : freed ws m < 4294967296). s)
        (λ (r : IsAvailWord (desk_of vs).layout ((m + 28) / 4)).
        let al = meta_whole g there in let nl = r.whole in let q = r.place in
        absurd (let p = (metas_apart key ws (desk_of vs).layout kept.words.lawful (nested ws vs kept.slots) m r.meta 28 24 (kept.words.lawful.groups m al (tag_live g there)).in_area r.in_area (omega arith) (omega arith) (omega arith)).1 in omega arith))
        (kept.words.lawful.upper ((m + 28) / 4))

    pub tells_freed : TellsFreed v g (freed ws m)
    tells_freed = record {
      fits = small;
      zero = λ q. (noted.masks.zero_freed m q).zero_mask;
      set = λ i q. (noted.masks.set_freed m i q).bit;
      serves = λ some_bit. let l = low some_bit in serves_at _ l.0 (from_freed _ l.1);
      within = λ i lt set. within_at i lt (from_freed i set);
    }
      where
        low : 0 < freed ws m → (trailing_zeros w32 (freed ws m % 4294967296) < 32) × (bit_at (freed ws m) (trailing_zeros w32 (freed ws m % 4294967296)) ≡ 1)
        low some_bit = lowest (freed ws m) (let x : ℕ = freed ws m in let s : x < 4294967296 = small in omega arith)
