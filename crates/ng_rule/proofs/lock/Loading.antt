-- The loads of the lock's seat, by its view alone, with what they tell.
use Rattle.std.proofs.Common.{◌≡◌, ◌⊎◌, ℕ, ◌+◌, ◌*◌, ◌<◌, ◌/◌, ◌%◌, eqb, cond, Bool, true, false, List, [], ◌∷◌, ◌++◌, map, refl, sym, ap, ◌∙◌, subst, ⊎_elim, inl, inr, arith}
use mathlib.Core.Option.{some}
use lib.ListN.{get_elem?}
use Rattle.std.specs.Int.{bit_at}
use Rattle.std.proofs.lemmas.Nat.Bits.{bit_at_cat_low}
use Rattle.ng_view.specs.Cells.{avail, cell, freed}
use Rattle.ng_view.specs.Conditions.{Builds}
use Rattle.ng_view.specs.Knowledge.{IsSetFreed, IsZeroAvail, IsZeroFreed}
use Rattle.ng_view.specs.LockSteps.{avail_read, read_bits, ring_read}
use Rattle.ng_view.specs.Lists.{Among, select}
use Rattle.ng_view.specs.May.{May}
use Rattle.ng_view.specs.Rule.{Rule}
use Rattle.ng_view.specs.Steps.{read}
use Rattle.ng_view.specs.declared.view.Group.{Group}
use Rattle.ng_view.specs.declared.view.View.{View}
use Rattle.ng_view.specs.declared.view.Start.{Start}
use Rattle.ng_rule.proofs.geometry.Lists.{among_append}
use Rattle.ng_rule.proofs.geometry.Readings.{loads_by}
use Rattle.ng_rule.proofs.lock.LockNotes.{is_number, ring_may, selected}
use Rattle.ng_rule.proofs.lock.LockSteps.{learns_may, looks_may}
use Rattle.ng_rule.proofs.lock.Ring.{notes_ring}
use Rattle.ng_view.specs.Fetches.{HasGroup}
use Rattle.ng_view.specs.Loads.{IsOther, Loads, TellsGroups, freed_read}
use Rattle.ng_view.specs.Masks.{TellsAvail, TellsFreed}
use Rattle.ng_rule.proofs.lock.Apart.{built_no_index, built_no_meta, index_no_meta, same_meta}
use Rattle.ng_rule.proofs.lock.Deciding.{decide_builds, decide_mask}
use Rattle.ng_rule.proofs.lock.Facts.{meta_whole, tag_live, tells_avail, tells_freed}

-- the lower half of a word that has none is 0 in every bit
zero_bits : (n : ℕ) → n % 4294967296 ≡ 0 → (i : ℕ) → i < 32 → bit_at n i ≡ 0
zero_bits n none i lt =
    let split : n ≡ n / 4294967296 * 4294967296 + 0 = omega arith in
    ap (λ k. bit_at k i) split ∙ bit_at_cat_low (n / 4294967296) 32 0 i lt ∙ Rattle.ng_rule.proofs.group.Publish.bit_zero i

module _ (key : Start) (id : ℕ) (v : View) (leads : v.leads ≡ true) where
  zero_avail_noted : (ws : List ℕ) (vs : List View) → Rule key ws vs → get_elem? vs id ≡ some v → (g : Group) → Among g v.desk.groups → (k : ℕ) (b : Bool) → eqb (avail ws g.meta % 4294967296) 0 ≡ b
      → Among k (cond b (g.meta ∷ v.desk.zero_avail) v.desk.zero_avail) → Among k v.desk.zero_avail ⊎ IsZeroAvail ws k
  zero_avail_noted ws vs kept at g there k true is (inl e) = inr (subst (IsZeroAvail ws) (sym e) (record { whole = meta_whole key id v leads ws vs kept at g there; live = tag_live key id v leads ws vs kept at g there; zero_bits = zero_bits (avail ws g.meta) (is_number key id v leads (avail ws g.meta % 4294967296) 0 is) }))
  zero_avail_noted ws vs kept at g there k true is (inr s) = inl s
  zero_avail_noted ws vs kept at g there k false is s = inl s

  zero_freed_noted : (ws : List ℕ) (vs : List View) → Rule key ws vs → get_elem? vs id ≡ some v → (g : Group) → Among g v.desk.groups → (k : ℕ) (b : Bool) → eqb (freed ws g.meta) 0 ≡ b
      → Among k (cond b (g.meta ∷ v.desk.zero_freed) v.desk.zero_freed) → Among k v.desk.zero_freed ⊎ IsZeroFreed ws k
  zero_freed_noted ws vs kept at g there k true is (inl e) = inr (subst (IsZeroFreed ws) (sym e) (record { whole = meta_whole key id v leads ws vs kept at g there; live = tag_live key id v leads ws vs kept at g there; zero_mask = is_number key id v leads (freed ws g.meta) 0 is }))
  zero_freed_noted ws vs kept at g there k true is (inr s) = inl s
  zero_freed_noted ws vs kept at g there k false is s = inl s

  paired : (m : ℕ) (is : List ℕ) (k i : ℕ) → Among {A = ℕ × ℕ} (k, i) (map (λ j. (m, j)) is) → (k ≡ m) × Among i is
  paired m [] k i s = elim s [ ]
  paired m (j ∷ is) k i (inl e) = (ap (λ (p : ℕ × ℕ). p.0) e, inl (ap (λ (p : ℕ × ℕ). p.1) e))
  paired m (j ∷ is) k i (inr s) = let r = paired m is k i s in (r.0, inr r.1)

  set_freed_noted : (ws : List ℕ) (vs : List View) → Rule key ws vs → get_elem? vs id ≡ some v → (g : Group) → Among g v.desk.groups → (k i : ℕ)
      → Among {A = ℕ × ℕ} (k, i) (read_bits g.meta (freed ws g.meta) ++ v.desk.set_freed) → Among {A = ℕ × ℕ} (k, i) v.desk.set_freed ⊎ IsSetFreed ws k i
  set_freed_noted ws vs kept at g there k i s = ⊎_elim
      (λ (q : Among {A = ℕ × ℕ} (k, i) (read_bits g.meta (freed ws g.meta))).
      let r = paired g.meta (select (λ j. eqb (bit_at (freed ws g.meta) j) 1) 32) k i q in
      let t = selected key id v leads (λ j. eqb (bit_at (freed ws g.meta) j) 1) 32 i r.1 in
      inr (subst (λ y. IsSetFreed ws y i) (sym r.0) (record { whole = meta_whole key id v leads ws vs kept at g there; few = t.0; live = tag_live key id v leads ws vs kept at g there; bit = is_number key id v leads (bit_at (freed ws g.meta) i) 1 t.1 })))
      (λ (q : Among {A = ℕ × ℕ} (k, i) v.desk.set_freed). inl q)
      (among_append (read_bits g.meta (freed ws g.meta)) v.desk.set_freed (k, i) s)

  avail_may : (g : Group) → Among g v.desk.groups → May key id v ((g.meta + 24) / 4) (λ n. n) (λ before n after. after ≡ read (avail_read before g.meta n) (g.meta + 24) n)
  avail_may g there = loads_by key id v (g.meta + 24) (λ n. avail_read v g.meta n) (λ ws vs kept at.
      notes_ring key ws vs id v kept at leads v.desk.listed (cond (eqb (avail ws g.meta % 4294967296) 0) (g.meta ∷ v.desk.zero_avail) v.desk.zero_avail) v.desk.zero_freed v.desk.set_freed
      (λ k j kl lj some_bit q. q) (λ k q. inl q) (λ k q. zero_avail_noted ws vs kept at g there k (eqb (avail ws g.meta % 4294967296) 0) refl q) (λ k q. inl q) (λ k i q. inl q))

  freed_may : (g : Group) → Among g v.desk.groups → May key id v ((g.meta + 28) / 4) (λ n. n) (λ before n after. after ≡ read (freed_read before g.meta n) (g.meta + 28) n)
  freed_may g there = loads_by key id v (g.meta + 28) (λ n. freed_read v g.meta n) (λ ws vs kept at.
      notes_ring key ws vs id v kept at leads v.desk.listed v.desk.zero_avail (cond (eqb (freed ws g.meta) 0) (g.meta ∷ v.desk.zero_freed) v.desk.zero_freed) (read_bits g.meta (freed ws g.meta) ++ v.desk.set_freed)
      (λ k j kl lj some_bit q. q) (λ k q. inl q) (λ k q. inl q) (λ k q. zero_freed_noted ws vs kept at g there k (eqb (freed ws g.meta) 0) refl q) (set_freed_noted ws vs kept at g there))

  -- what the word at a tells of each live group
  tells : (a : ℕ) (ws : List ℕ) (vs : List View) → Rule key ws vs → get_elem? vs id ≡ some v → Rattle.std.specs.Prelude.slice_index ws (a / 4) < 18446744073709551616 → TellsGroups v a (cell ws a)
  tells a ws vs kept at wide g there = record {
    fields = (looks_may key id v leads a ws vs kept at wide).2.1 g there;
    avail = λ e. subst (λ b. TellsAvail v g (cell ws b)) (sym e) (tells_avail key id v leads ws vs kept at g there);
    freed = λ e. subst (λ b. TellsFreed v g (cell ws b)) (sym e) (tells_freed key id v leads ws vs kept at g there);
  }

  module _ (a : ℕ) where
    abbrev Told : View → ℕ → View → Type 0
    Told before n after = Loads before a n after × TellsGroups before a n

    at_built : Builds v a → May key id v (a / 4) (λ n. n) Told
    at_built b ws vs kept at wide =
        let p = learns_may key id v leads a b ws vs kept at wide in (
          p.0,
          p.1,
          (
            record {
              page = λ c. p.2;
              avail = λ g there e. absurd (built_no_meta key id v leads ws vs kept at a 24 g b there (omega arith) e);
              freed = λ g there e. absurd (built_no_meta key id v leads ws vs kept at a 28 g b there (omega arith) e);
              field = λ f. absurd (built_no_meta key id v leads ws vs kept at a f.offset f.group b f.there f.below f.place);
              index = λ i. absurd (built_no_index key id v leads ws vs kept at a b i);
              other = λ o. absurd (o.not_built b);
            },
            tells a ws vs kept at wide,
          ),
        )

    at_avail : (Builds v a → ⊥) → (g : Group) → Among g v.desk.groups → a ≡ g.meta + 24 → May key id v (a / 4) (λ n. n) Told
    at_avail not g there e ws vs kept at wide =
        let p = subst (λ b. May key id v (b / 4) (λ n. n) (λ before n after. after ≡ read (avail_read before g.meta n) b n)) (sym e) (avail_may g there) ws vs kept at wide in
        let meta : (h : Group) → Among h v.desk.groups → (b : ℕ) → b < 40 → a ≡ h.meta + b → (g.meta ≡ h.meta) × (24 ≡ b) = λ h here b lt f. same_meta key id v leads ws vs kept at g h 24 b there here (omega arith) lt (sym e ∙ f) in (
          p.0,
          p.1,
          (
            record {
              page = λ b. absurd (not b);
              avail = λ h here f. p.2 ∙ ap (λ m. read (avail_read v m (cell ws a)) a (cell ws a)) (meta h here 24 (omega arith) f).0;
              freed = λ h here f. absurd (let q = (meta h here 28 (omega arith) f).1 in omega arith);
              field = λ f. absurd (f.no_mask.0 (sym (meta f.group f.there f.offset f.below f.place).1));
              index = λ i. absurd (index_no_meta key id v leads ws vs kept at a 24 g i there (omega arith) e);
              other = λ o. absurd (o.no_avail g there e);
            },
            tells a ws vs kept at wide,
          ),
        )

    at_freed : (Builds v a → ⊥) → (g : Group) → Among g v.desk.groups → a ≡ g.meta + 28 → May key id v (a / 4) (λ n. n) Told
    at_freed not g there e ws vs kept at wide =
        let p = subst (λ b. May key id v (b / 4) (λ n. n) (λ before n after. after ≡ read (freed_read before g.meta n) b n)) (sym e) (freed_may g there) ws vs kept at wide in
        let meta : (h : Group) → Among h v.desk.groups → (b : ℕ) → b < 40 → a ≡ h.meta + b → (g.meta ≡ h.meta) × (28 ≡ b) = λ h here b lt f. same_meta key id v leads ws vs kept at g h 28 b there here (omega arith) lt (sym e ∙ f) in (
          p.0,
          p.1,
          (
            record {
              page = λ b. absurd (not b);
              avail = λ h here f. absurd (let q = (meta h here 24 (omega arith) f).1 in omega arith);
              freed = λ h here f. p.2 ∙ ap (λ m. read (freed_read v m (cell ws a)) a (cell ws a)) (meta h here 28 (omega arith) f).0;
              field = λ f. absurd (f.no_mask.1 (sym (meta f.group f.there f.offset f.below f.place).1));
              index = λ i. absurd (index_no_meta key id v leads ws vs kept at a 28 g i there (omega arith) e);
              other = λ o. absurd (o.no_freed g there e);
            },
            tells a ws vs kept at wide,
          ),
        )

    at_other : IsOther v a → May key id v (a / 4) (λ n. n) Told
    at_other o ws vs kept at wide =
        let p = looks_may key id v leads a ws vs kept at wide in (
          p.0,
          p.1,
          (
            record {
              page = λ b. absurd (o.not_built b);
              avail = λ g there e. absurd (o.no_avail g there e);
              freed = λ g there e. absurd (o.no_freed g there e);
              field = λ f. p.2.0;
              index = λ i. p.2.0;
              other = λ q. p.2.0;
            },
            tells a ws vs kept at wide,
          ),
        )

    pub looks : May key id v (a / 4) (λ n. n) (λ before n after. Loads before a n after × TellsGroups before a n)
    looks = ⊎_elim at_built (λ (not : Builds v a → ⊥). ⊎_elim
        (λ (r : (g : Group) × Among g v.desk.groups × (a ≡ g.meta + 24)). at_avail not r.0 r.1 r.2)
        (λ (none : (g : Group) → Among g v.desk.groups → a ≡ g.meta + 24 → ⊥). ⊎_elim
        (λ (r : (g : Group) × Among g v.desk.groups × (a ≡ g.meta + 28)). at_freed not r.0 r.1 r.2)
        (λ (nor : (g : Group) → Among g v.desk.groups → a ≡ g.meta + 28 → ⊥). at_other (record { not_built = not; no_avail = none; no_freed = nor }))
        (decide_mask v a 28))
        (decide_mask v a 24))
        (decide_builds v a)

  -- a ring note
  pub notes : (meta : ℕ) (listed : Bool) → HasGroup v meta → May key id v ((meta + 28) / 4) (λ n. n)
      (λ before n after. (after ≡ read (ring_read before meta listed n) (meta + 28) n) × ((g : Group) → Among g before.desk.groups → g.meta ≡ meta → TellsFreed before g n))
  notes meta listed has ws vs kept at wide =
      let p = ring_may key id v leads meta has.group listed has.there has.of_meta ws vs kept at wide in
      (p.0, p.1, (p.2, λ g there e. subst (λ m. TellsFreed v g (freed ws m)) e (tells_freed key id v leads ws vs kept at g there)))
