-- The blocks that a test holds, where one comes or goes and where their slots stay.
use Rattle.std.proofs.Common.{◌≡◌, ◌≢◌, ◌⊎◌, ℕ, ◌-◌, ◌<◌, List, [], ◌∷◌, ◌++◌, length, slice_index_or, swap_remove, refl, sym, ap, ◌∙◌, subst, ⊎_elim, inl, inr, arith}
use Rattle.std.proofs.lemmas.Bool.{cases_eq}
use Rattle.std.proofs.lemmas.Grind.{common_steps}
use Rattle.ng_space.specs.Blocks.{BlockToken, HasBlock}
use Rattle.ng_space.specs.Callers.{Caller}
use Rattle.ng_space.specs.Leaving.{KeepsOthers, LeavesAll}
use Rattle.ng_frame.proofs.Tokens.{block_kept, block_stays}
use Rattle.ng_group.proofs.TestLemmas.{apart_flips}
use Rattle.ng_group.specs.Hands.{IsApart}
use Rattle.ng_heap.specs.At.{TakesAt}
use Rattle.ng_heap.specs.Keeps.{IsFresh}
use Rattle.ng_heap_tests.specs.Tests.{AreOwn}

-- ---- the list without one, the last in its place
module _ {X : Type 0} (xs : List X) (p : ℕ) (x : X) (lt : p < length xs) where
  shorter : length (swap_remove xs p x) ≡ length xs - 1
  shorter = grind (arith, common_steps, lt)

  at_hole : (d : X) → p < length xs - 1 → slice_index_or (swap_remove xs p x) p d ≡ slice_index_or xs (length xs - 1) d
  at_hole d within = grind (arith, common_steps, lt, within)

  at_other : (i : ℕ) (d : X) → i < length xs - 1 → i ≢ p → slice_index_or (swap_remove xs p x) i d ≡ slice_index_or xs i d
  at_other i d within ne = grind (arith, common_steps, lt, within, ne)

  -- where an element was before
  record Was (i : ℕ) : Type 0 where
    place : ℕ
    within : place < length xs
    other : place ≢ p
    same : (d : X) → slice_index_or (swap_remove xs p x) i d ≡ slice_index_or xs place d
    which : ((i ≡ p) × (place ≡ length xs - 1)) ⊎ ((i ≢ p) × (place ≡ i))

  was : (i : ℕ) → i < length (swap_remove xs p x) → Was i
  was i below =
      let short = shorter in
      let within : i < length xs - 1 = omega (arith, below, short) in
      ⊎_elim
      (λ (hole : i ≡ p). record {
        place = length xs - 1;
        within = omega (arith, lt);
        other = λ e. omega (arith, within, hole, e);
        same = λ d. ap (λ k. slice_index_or (swap_remove xs p x) k d) hole ∙ at_hole d (omega (arith, within, hole));
        which = inl (hole, refl);
      })
      (λ (ne : i ≢ p). record {
        place = i;
        within = omega (arith, within);
        other = ne;
        same = λ d. at_other i d within ne;
        which = inr (ne, refl);
      })
      (cases_eq i p)

  differs : (i j : ℕ) (a : Was i) (b : Was j) → i < length xs - 1 → j < length xs - 1 → i ≢ j → a.place ≢ b.place
  differs i j a b within below ne same = by_cases a.which b.which
    where
      by_cases : ((i ≡ p) × (a.place ≡ length xs - 1)) ⊎ ((i ≢ p) × (a.place ≡ i)) → ((j ≡ p) × (b.place ≡ length xs - 1)) ⊎ ((j ≢ p) × (b.place ≡ j)) → ⊥
      by_cases (inl one) (inl two) = ne (one.0 ∙ sym two.0)
      by_cases (inl one) (inr two) = let last = one.1 in let here = two.1 in omega (arith, last, here, same, below)
      by_cases (inr one) (inl two) = let here = one.1 in let last = two.1 in omega (arith, last, here, same, within)
      by_cases (inr one) (inr two) = ne (sym one.1 ∙ same ∙ two.1)

-- ---- what a test holds
pub own_none : (hand : Caller) (held : List BlockToken) → held ≡ [] → AreOwn hand held
own_none hand held none = record {
  each = λ k d within. absurd (let short : length held ≡ 0 = ap length none in omega (arith, within, short));
  apart = λ i j d within below ne. absurd (let short : length held ≡ 0 = ap length none in omega (arith, within, short));
}

pub own_stays : (old new : Caller) (held : List BlockToken) → new.number ≡ old.number → LeavesAll old.view new.view → AreOwn old held → AreOwn new held
own_stays old new held number leaves own = record {
  each = λ k d within.
      let block : BlockToken = slice_index_or held k d in
      block_stays old new number block (leaves.all.slots block.slot.meta block.slot.index) (own.each k d within);
  apart = own.apart;
}

-- a block was written in
pub own_written : (old new : Caller) (held : List BlockToken) (place : ℕ) (block : BlockToken) → place < length held
    → ((d : BlockToken) → slice_index_or held place d ≡ block)
    → new.number ≡ old.number → KeepsOthers block.slot old.view new.view → HasBlock new block → AreOwn old held → AreOwn new held
own_written old new held place block within there number others has own = record {
  each = λ k d below.
      let other : BlockToken = slice_index_or held k d in
      ⊎_elim
      (λ (same : k ≡ place). subst (HasBlock new) (sym (ap (λ i. slice_index_or held i d) same ∙ there d)) has)
      (λ (ne : k ≢ place).
      let apart : IsApart other.slot block.slot = subst (λ (b : BlockToken). IsApart other.slot b.slot) (there d) (own.apart k place d below within ne) in
      block_kept old new block.slot number others other apart (own.each k d below))
      (cases_eq k place);
  apart = own.apart;
}

-- a block was made
pub own_came : (old new : Caller) (held : List BlockToken) (block : BlockToken) → ((other : BlockToken) → HasBlock old other → HasBlock new other)
    → IsFresh old block.slot → HasBlock new block → AreOwn old held → AreOwn new (held ++ block ∷ [])
own_came old new held block others fresh has own = record {
  each = λ k d below. ⊎_elim
      (λ (last : k ≡ length held). subst (HasBlock new) (sym (at_end k d last)) has)
      (λ (ne : k ≢ length held).
      let within = before k below ne in
      subst (HasBlock new) (sym (at_start k d within)) (others (slice_index_or held k d) (own.each k d within)))
      (cases_eq k (length held));
  apart = λ i j d within below ne. by_ends i j d within below ne (cases_eq i (length held)) (cases_eq j (length held));
}
  where
    longer : List BlockToken
    longer = held ++ block ∷ []

    before : (k : ℕ) → k < length longer → k ≢ length held → k < length held
    before k below ne = grind (arith, common_steps, below, ne)

    at_end : (k : ℕ) (d : BlockToken) → k ≡ length held → slice_index_or longer k d ≡ block
    at_end k d last = grind (arith, common_steps, last)

    at_start : (k : ℕ) (d : BlockToken) → k < length held → slice_index_or longer k d ≡ slice_index_or held k d
    at_start k d within = grind (arith, common_steps, within)

    to_last : (i j : ℕ) (d : BlockToken) → i < length held → j ≡ length held → IsApart (slice_index_or longer i d).slot (slice_index_or longer j d).slot
    to_last i j d within last =
        let apart = fresh.blocks (slice_index_or held i d) (own.each i d within) in
        subst (λ (b : BlockToken). IsApart (slice_index_or longer i d).slot b.slot) (sym (at_end j d last))
        (subst (λ (b : BlockToken). IsApart b.slot block.slot) (sym (at_start i d within)) apart)

    by_ends : (i j : ℕ) (d : BlockToken) → i < length longer → j < length longer → i ≢ j → (i ≡ length held) ⊎ (i ≢ length held) → (j ≡ length held) ⊎ (j ≢ length held)
        → IsApart (slice_index_or longer i d).slot (slice_index_or longer j d).slot
    by_ends i j d within below ne (inl one) (inl two) = absurd (ne (one ∙ sym two))
    by_ends i j d within below ne (inl one) (inr two) = apart_flips (slice_index_or longer j d).slot (slice_index_or longer i d).slot (to_last j i d (before j below two) one)
    by_ends i j d within below ne (inr one) (inl two) = to_last i j d (before i within one) two
    by_ends i j d within below ne (inr one) (inr two) =
        let low = before i within one in let high = before j below two in
        subst (λ (b : BlockToken). IsApart (slice_index_or longer i d).slot b.slot) (sym (at_start j d high))
        (subst (λ (b : BlockToken). IsApart b.slot (slice_index_or held j d).slot) (sym (at_start i d low)) (own.apart i j d low high ne))

-- a block was freed
pub own_went : (old new : Caller) (held rest : List BlockToken) (addr : ℕ) (block : BlockToken) → TakesAt held addr block rest
    → new.number ≡ old.number → KeepsOthers block.slot old.view new.view → AreOwn old held → AreOwn new rest
own_went old new held rest addr block takes number others own = subst (AreOwn new) (sym takes.others) (record {
  each = λ k d below.
      let w = was held takes.place block takes.within k below in
      subst (HasBlock new) (sym (w.same d)) (kept w.place d w.within w.other);
  apart = λ i j d within below ne.
      let short = shorter held takes.place block takes.within in
      let a = was held takes.place block takes.within i within in
      let b = was held takes.place block takes.within j below in
      let differ = differs held takes.place block takes.within i j a b (omega (arith, short, within)) (omega (arith, short, below)) ne in
      subst (λ (c : BlockToken). IsApart (slice_index_or (swap_remove held takes.place block) i d).slot c.slot) (sym (b.same d))
      (subst (λ (c : BlockToken). IsApart c.slot (slice_index_or held b.place d).slot) (sym (a.same d)) (own.apart a.place b.place d a.within b.within differ));
})
  where
    kept : (k : ℕ) (d : BlockToken) → k < length held → k ≢ takes.place → HasBlock new (slice_index_or held k d)
    kept k d within ne =
        let other : BlockToken = slice_index_or held k d in
        let same : slice_index_or held takes.place d ≡ block = grind (common_steps, arith, takes.within, takes.there) in
        let apart : IsApart other.slot block.slot = subst (λ (b : BlockToken). IsApart other.slot b.slot) same (own.apart k takes.place d within takes.within ne) in
        block_kept old new block.slot number others other apart (own.each k d within)
