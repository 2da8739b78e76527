-- The blocks that stand, as commands change them.
use Rattle.std.proofs.Common.{◌≡◌, ◌≢◌, ◌⊎◌, ℕ, ◌+◌, ◌-◌, ◌*◌, ◌/◌, ◌%◌, ◌<◌, ◌≤◌, cond, Bool, true, false, List, [], ◌∷◌, ◌++◌, length, get_or, refl, sym, ap, ◌∙◌, subst, inl, inr, ⊎_elim, arith}
use Rattle.std.proofs.lemmas.Bool.{eq-eqb, eqb-true, cases_eq}
use Rattle.std.proofs.lemmas.List.{get_or_default}
use Rattle.std.specs.Prelude.{Option, Some, None, Result, Ok, Err, All, find, filter, map, not, swap_remove, slice_set, ◌==◌, if◌then◌else◌}
use Rattle.ng_frame.specs.Inspects.{gap_of}
use Rattle.ng_frame.specs.Judging.{IsJudged}
use Rattle.ng_group.specs.Hands.{IsApart}
use Rattle.ng_header.specs.declared.reading.NominalFault.{NominalFault}
use Rattle.ng_heap.specs.At.{HasNoneAt, IsPlaceAt}
use Rattle.ng_heap.specs.Making.{IsMade}
use Rattle.ng_space.specs.Blocks.{BlockToken, HasBlock, HasFramed, OfSlot}
use Rattle.ng_space.specs.Callers.{Caller}
use Rattle.ng_space.specs.Leaving.{KeepsOthers, KeepsSlots, Learns, LeavesAll, Stays}
use Rattle.ng_space.specs.Tokens.{Token}
use Rattle.ng_drill.specs.Desks.{AreStanding, IsStanding, Stands}
use Rattle.ng_drill.specs.States.{Standing, State, fresh, standing_at, with_bytes, with_told, without_at}
use Rattle.ng_drill.specs.Steps.{Judges}
use Rattle.ng_drill.proofs.HandLemmas.{judged_standing, stands_fresh, stands_still}
use Rattle.ng_drill.proofs.IndexLemmas.{CameTo, came_apart, came_to, length-swap_remove, pushed_either}

-- ---- the blocks of a state
-- the first of a list is found at its address, and at no other
pub found_first : (block : Standing) (blocks : List Standing) → standing_at block.at (block ∷ blocks) ≡ Some block
found_first block blocks = ap (λ t. cond t (Some block) (standing_at block.at blocks)) (eq-eqb block.at block.at refl)

pub found_behind : (at : ℕ) (block : Standing) (blocks : List Standing) → block.at ≢ at → standing_at at (block ∷ blocks) ≡ standing_at at blocks
found_behind at block blocks ne = by_test (block.at == at) refl
  where
    by_test : (t : Bool) → (block.at == at) ≡ t → standing_at at (block ∷ blocks) ≡ standing_at at blocks
    by_test true same = absurd (ne (eqb-true block.at at same))
    by_test false other = ap (λ t. cond t (Some block) (standing_at at blocks)) other

-- without the blocks of another address the same is found, and of this address none
pub found_without : (at gone : ℕ) (blocks : List Standing) → gone ≢ at → standing_at at (without_at gone blocks) ≡ standing_at at blocks
found_without at gone [] ne = refl
found_without at gone (block ∷ blocks) ne = by_test (block.at == gone) refl (found_without at gone blocks ne)
  where
    by_test : (t : Bool) → (block.at == gone) ≡ t → standing_at at (without_at gone blocks) ≡ standing_at at blocks
        → standing_at at (without_at gone (block ∷ blocks)) ≡ standing_at at (block ∷ blocks)
    by_test true same ih = rw same (ih ∙ sym (found_behind at block blocks (λ here. ne (sym (eqb-true block.at gone same) ∙ here))))
    by_test false other ih = rw other (ap (λ o. cond (block.at == at) (Some block) o) ih)

pub none_without : (at : ℕ) (blocks : List Standing) → standing_at at (without_at at blocks) ≡ None
none_without at [] = refl
none_without at (block ∷ blocks) = by_test (block.at == at) refl (none_without at blocks)
  where
    by_test : (t : Bool) → (block.at == at) ≡ t → standing_at at (without_at at blocks) ≡ None → standing_at at (without_at at (block ∷ blocks)) ≡ None
    by_test true same ih = rw same ih
    by_test false other ih = rw other (rw other ih)

-- with other bytes a block is found with them, and each other as before
pub found_with : (at : ℕ) (bytes : List (ℕ × ℕ)) (blocks : List Standing) (block : Standing) → standing_at at blocks ≡ Some block → standing_at at (with_bytes at bytes blocks) ≡ Some (with_told bytes block)
found_with at bytes [] block is = absurd (cc)
found_with at bytes (first ∷ blocks) block is = by_test (first.at == at) refl is (found_with at bytes blocks block)
  where
    by_test : (t : Bool) → (first.at == at) ≡ t → cond (first.at == at) (Some first) (standing_at at blocks) ≡ Some block
        → (standing_at at blocks ≡ Some block → standing_at at (with_bytes at bytes blocks) ≡ Some (with_told bytes block))
        → standing_at at (with_bytes at bytes (first ∷ blocks)) ≡ Some (with_told bytes block)
    by_test true same e ih = let one : Some first ≡ Some block = rw same at e in rw same (rw same (ap (λ o. o) (let inner : first ≡ block = cc in ap (λ b. Some (with_told bytes b)) inner)))
    by_test false other e ih = let rest : standing_at at blocks ≡ Some block = rw other at e in rw other (rw other (ih rest))

pub found_with_other : (at here : ℕ) (bytes : List (ℕ × ℕ)) (blocks : List Standing) → here ≢ at → standing_at at (with_bytes here bytes blocks) ≡ standing_at at blocks
found_with_other at here bytes [] ne = refl
found_with_other at here bytes (first ∷ blocks) ne = by_test (first.at == here) refl (found_with_other at here bytes blocks ne)
  where
    by_test : (t : Bool) → (first.at == here) ≡ t → standing_at at (with_bytes here bytes blocks) ≡ standing_at at blocks
        → standing_at at (with_bytes here bytes (first ∷ blocks)) ≡ standing_at at (first ∷ blocks)
    by_test true same ih =
        let other : first.at ≢ at = λ e. ne (sym (eqb-true first.at here same) ∙ e) in
        rw same (found_behind at (with_told bytes first) (with_bytes here bytes blocks) other ∙ ih ∙ sym (found_behind at first blocks other))
    by_test false apart ih = rw apart (ap (λ o. cond (first.at == at) (Some first) o) ih)

pub none_with : (at here : ℕ) (bytes : List (ℕ × ℕ)) (blocks : List Standing) → standing_at at blocks ≡ None → standing_at at (with_bytes here bytes blocks) ≡ None
none_with at here bytes [] none = refl
none_with at here bytes (first ∷ blocks) none = by_test (first.at == at) refl none (none_with at here bytes blocks)
  where
    by_here : (t : Bool) → (first.at == here) ≡ t → (first.at == at) ≡ false → standing_at at (with_bytes here bytes blocks) ≡ None
        → standing_at at (with_bytes here bytes (first ∷ blocks)) ≡ None
    by_here true same other ih = rw same (rw other ih)
    by_here false apart other ih = rw apart (rw other ih)

    by_test : (t : Bool) → (first.at == at) ≡ t → cond (first.at == at) (Some first) (standing_at at blocks) ≡ None
        → (standing_at at blocks ≡ None → standing_at at (with_bytes here bytes blocks) ≡ None) → standing_at at (with_bytes here bytes (first ∷ blocks)) ≡ None
    by_test true same e ih = absurd (let one : Some first ≡ None = rw same at e in cc)
    by_test false other e ih = by_here (first.at == here) refl other (ih (rw other at e))

-- ---- the same blocks of a hand that goes on
pub standing_still : (before after : Caller) (held : List BlockToken) (blocks : List Standing) → after.number ≡ before.number → KeepsSlots before.view after.view
    → AreStanding before held blocks → AreStanding after held blocks
standing_still before after held blocks number keeps are = record {
  each = λ k d lt. let s = are.each k d lt in record {
    standing = s.standing;
    found = s.found;
    stands = stands_still before after (get_or held k d) s.standing number (keeps (get_or held k d).slot.meta (get_or held k d).slot.index) s.stands;
  };
  none = are.none;
  apart = are.apart;
}

-- ---- a block that is given
pub standing_more : (before after : Caller) (held : List BlockToken) (blocks : List Standing) (n : ℕ) (block : BlockToken) → after.number ≡ before.number
    → KeepsSlots before.view after.view → IsMade n 16 before block after → AreStanding before held blocks
    → AreStanding after (held ++ block ∷ []) (fresh block.at (gap_of block) n ∷ blocks)
standing_more before after held blocks n block number keeps made are = record {
  each = λ k d lt. ⊎_elim
      (λ (old : (k < length held) × (get_or (held ++ block ∷ []) k d ≡ get_or held k d)).
      subst (λ b. IsStanding after (fresh block.at (gap_of block) n ∷ blocks) b) (sym old.1) (old_one k d old.0))
      (λ (new : (k ≡ length held) × (get_or (held ++ block ∷ []) k d ≡ block)).
      subst (λ b. IsStanding after (fresh block.at (gap_of block) n ∷ blocks) b) (sym new.1) new_one)
      (pushed_either held block k d lt);
  none = λ at none.
      let last = none (length held) block (long) in
      let own : block.at ≢ at = subst (λ (b : BlockToken). b.at ≢ at) (last_is) last in
      found_behind at (fresh block.at (gap_of block) n) blocks own
      ∙ are.none at (λ k d lt. let here : k < length (held ++ block ∷ []) = omega (arith, longer) in
      subst (λ (b : BlockToken). b.at ≢ at) (Rattle.std.proofs.lemmas.List.get_or_append_left held (block ∷ []) d k lt) (none k d here));
  apart = λ k j d lk lj ne. ⊎_elim
      (λ (ok : (k < length held) × (get_or (held ++ block ∷ []) k d ≡ get_or held k d)). ⊎_elim
      (λ (oj : (j < length held) × (get_or (held ++ block ∷ []) j d ≡ get_or held j d)).
      subst (λ (b : BlockToken). IsApart b.slot (get_or (held ++ block ∷ []) j d).slot) (sym ok.1)
      (subst (λ (b : BlockToken). IsApart (get_or held k d).slot b.slot) (sym oj.1) (are.apart k j d ok.0 oj.0 ne)))
      (λ (nj : (j ≡ length held) × (get_or (held ++ block ∷ []) j d ≡ block)).
      subst (λ (b : BlockToken). IsApart b.slot (get_or (held ++ block ∷ []) j d).slot) (sym ok.1)
      (subst (λ (b : BlockToken). IsApart (get_or held k d).slot b.slot) (sym nj.1) (made.fresh.blocks (get_or held k d) (are.each k d ok.0).stands.has)))
      (pushed_either held block j d lj))
      (λ (nk : (k ≡ length held) × (get_or (held ++ block ∷ []) k d ≡ block)). ⊎_elim
      (λ (oj : (j < length held) × (get_or (held ++ block ∷ []) j d ≡ get_or held j d)).
      subst (λ (b : BlockToken). IsApart b.slot (get_or (held ++ block ∷ []) j d).slot) (sym nk.1)
      (subst (λ (b : BlockToken). IsApart block.slot b.slot) (sym oj.1) (turned (get_or held j d).slot block.slot (made.fresh.blocks (get_or held j d) (are.each j d oj.0).stands.has))))
      (λ (nj : (j ≡ length held) × (get_or (held ++ block ∷ []) j d ≡ block)). absurd (ne (nk.0 ∙ sym nj.0)))
      (pushed_either held block j d lj))
      (pushed_either held block k d lk);
}
  where
    longer : length (held ++ block ∷ []) ≡ length held + 1
    longer = Rattle.std.proofs.lemmas.List.length-append held (block ∷ [])

    long : length held < length (held ++ block ∷ [])
    long = omega (arith, longer)

    last_is : get_or (held ++ block ∷ []) (length held) block ≡ block
    last_is = ⊎_elim
        (λ (old : (length held < length held) × (get_or (held ++ block ∷ []) (length held) block ≡ get_or held (length held) block)). let no = old.0 in absurd (omega arith))
        (λ (new : (length held ≡ length held) × (get_or (held ++ block ∷ []) (length held) block ≡ block)). new.1)
        (pushed_either held block (length held) block long)

    turned : (a b : Token) → IsApart a b → IsApart b a
    turned a b apart = ⊎_elim (λ (m : a.meta ≢ b.meta). inl (λ e. m (sym e))) (λ (i : a.index ≢ b.index). inr (λ e. i (sym e))) apart

    old_one : (k : ℕ) (d : BlockToken) → k < length held → IsStanding after (fresh block.at (gap_of block) n ∷ blocks) (get_or held k d)
    old_one k d lt =
        let s = are.each k d lt in
        let other : block.at ≢ (get_or held k d).at = λ e. made.apart (get_or held k d) s.stands.has (sym e) in
        record {
          standing = s.standing;
          found = found_behind (get_or held k d).at (fresh block.at (gap_of block) n) blocks other ∙ s.found;
          stands = stands_still before after (get_or held k d) s.standing number (keeps (get_or held k d).slot.meta (get_or held k d).slot.index) s.stands;
        }

    new_one : IsStanding after (fresh block.at (gap_of block) n ∷ blocks) block
    new_one = record {
      standing = fresh block.at (gap_of block) n;
      found = found_first (fresh block.at (gap_of block) n) blocks;
      stands = subst (λ m. Stands after block (fresh block.at (gap_of block) m)) made.len (stands_fresh after block made.framed);
    }

-- ---- a block of which more is told
-- one block of the hand changed, and each other is as before
pub standing_told : (before after : Caller) (held : List BlockToken) (blocks : List Standing) (place : ℕ) (d : BlockToken) (bytes : List (ℕ × ℕ)) (standing : Standing)
    → after.number ≡ before.number → place < length held → ((m i : ℕ) → ((get_or held place d).slot.meta ≢ m) ⊎ ((get_or held place d).slot.index ≢ i) → Stays m i before.view after.view Learns)
    → ((k : ℕ) → k < length held → k ≢ place → (get_or held k d).at ≢ (get_or held place d).at)
    → standing_at (get_or held place d).at blocks ≡ Some standing → Stands after (get_or held place d) (with_told bytes standing)
    → AreStanding before held blocks → AreStanding after held (with_bytes (get_or held place d).at bytes blocks)
standing_told before after held blocks place d bytes standing number lt stays distinct found stands are = record {
  each = λ k e lk. subst (λ b. IsStanding after (with_bytes (get_or held place d).at bytes blocks) b) (get_or_default held k d e lk) (⊎_elim
      (λ (same : k ≡ place). subst (λ j. IsStanding after (with_bytes (get_or held place d).at bytes blocks) (get_or held j d)) (sym same) (record {
        standing = with_told bytes standing;
        found = found_with (get_or held place d).at bytes blocks standing found;
        stands = stands;
      }))
      (λ (ne : k ≢ place). let s = are.each k d lk in record {
        standing = s.standing;
        found = found_with_other (get_or held k d).at (get_or held place d).at bytes blocks (λ e. distinct k lk ne (sym e)) ∙ s.found;
        stands = stands_still before after (get_or held k d) s.standing number
            (stays (get_or held k d).slot.meta (get_or held k d).slot.index (are.apart place k d lt lk (λ e. ne (sym e)))) s.stands;
      })
      (cases_eq k place));
  none = λ at none. none_with at (get_or held place d).at bytes blocks (are.none at none);
  apart = are.apart;
}

-- ---- a block that goes
pub standing_less : (before after : Caller) (held : List BlockToken) (blocks : List Standing) (place : ℕ) (d : BlockToken)
    → after.number ≡ before.number → place < length held → ((m i : ℕ) → ((get_or held place d).slot.meta ≢ m) ⊎ ((get_or held place d).slot.index ≢ i) → Stays m i before.view after.view Learns)
    → ((k : ℕ) → k < length held → k ≢ place → (get_or held k d).at ≢ (get_or held place d).at)
    → AreStanding before held blocks → AreStanding after (swap_remove held place d) (without_at (get_or held place d).at blocks)
standing_less before after held blocks place d number lt stays distinct are = record {
  each = λ k e lk.
      let c = came_to held place k d e lt (less k lk) in
      let b : BlockToken = get_or held c.from d in
      let same : get_or held c.from e ≡ b = get_or_default held c.from e d c.within in
      let s = are.each c.from d c.within in
      subst (λ t. IsStanding after (without_at (get_or held place d).at blocks) t) (sym (c.item ∙ same)) (record {
        standing = s.standing;
        found = found_without b.at (get_or held place d).at blocks (λ e. distinct c.from c.within c.other (sym e)) ∙ s.found;
        stands = stands_still before after b s.standing number (stays b.slot.meta b.slot.index (are.apart place c.from d lt c.within (λ e. c.other (sym e)))) s.stands;
      });
  none = λ at none. ⊎_elim
      (λ (same : (get_or held place d).at ≡ at). subst (λ a. standing_at a (without_at (get_or held place d).at blocks) ≡ None) same (none_without (get_or held place d).at blocks))
      (λ (ne : (get_or held place d).at ≢ at). found_without at (get_or held place d).at blocks ne ∙ are.none at (rest at none ne))
      (cases_eq (get_or held place d).at at);
  apart = λ k j e lk lj ne.
      let c = came_to held place k d e lt (less k lk) in
      let b = came_to held place j d e lt (less j lj) in
      subst (λ (t : BlockToken). IsApart t.slot (get_or (swap_remove held place d) j e).slot) (sym c.item)
      (subst (λ (t : BlockToken). IsApart (get_or held c.from e).slot t.slot) (sym b.item) (are.apart c.from b.from e c.within b.within (came_apart held place k j d e ne c b)));
}
  where
    less : (k : ℕ) → k < length (swap_remove held place d) → k < length held - 1
    less k lk = omega (arith, length-swap_remove held place d)

    -- none of the list has an address that none of what is left has, but for the one that goes
    rest : (at : ℕ) → HasNoneAt (swap_remove held place d) at → (get_or held place d).at ≢ at → HasNoneAt held at
    rest at none ne k e lk = ⊎_elim
        (λ (same : k ≡ place). subst (λ j. (get_or held j e).at ≢ at) (sym same) (subst (λ (t : BlockToken). t.at ≢ at) (get_or_default held place d e lt) ne))
        (λ (other : k ≢ place). by_end other)
        (cases_eq k place)
      where
        by_end : k ≢ place → (get_or held k e).at ≢ at
        by_end other = ⊎_elim
            (λ (last : k + 1 ≡ length held).
            let room : place < length held - 1 = omega arith in
            let c = came_to held place place d e lt room in
            let from : c.from ≡ k = ⊎_elim
            (λ (moved : (place ≡ place) × (c.from + 1 ≡ length held)). let n = moved.1 in omega arith)
            (λ (same : (place ≢ place) × (c.from ≡ place) × (place + 1 < length held)). absurd (same.0 refl))
            c.where_from in
            subst (λ j. (get_or held j e).at ≢ at) from (subst (λ (t : BlockToken). t.at ≢ at) c.item (none place e (omega (arith, length-swap_remove held place d)))))
            (λ (more : k + 1 ≢ length held).
            let room : k < length held - 1 = omega arith in
            let c = came_to held place k d e lt room in
            let from : c.from ≡ k = ⊎_elim
            (λ (moved : (k ≡ place) × (c.from + 1 ≡ length held)). absurd (other moved.0))
            (λ (same : (k ≢ place) × (c.from ≡ k) × (k + 1 < length held)). same.1)
            c.where_from in
            subst (λ j. (get_or held j e).at ≢ at) from (subst (λ (t : BlockToken). t.at ≢ at) c.item (none k e (omega (arith, length-swap_remove held place d)))))
            (cases_eq (k + 1) (length held))
