-- What the lock's seat knows after its fetches.
use Rattle.std.proofs.Common.{◌≡◌, ℕ, ◌+◌, ◌%◌, ◌^◌, ◌<◌, ◌≤◌, eqb, eq-eqb, ne_eqb, cond, List, [], ◌∷◌, ◌++◌, map, refl, sym, ap, ◌∙◌, subst, ⊎_elim, inl, inr, arith}
use Rattle.std.specs.Prelude.{bit_and}
use Rattle.std.specs.Int.{bit_at}
use Rattle.std.proofs.lemmas.Bool.{cases_lt}
use Rattle.std.proofs.lemmas.Nat.{and_mask, pow_below}
use Rattle.std.proofs.lemmas.Nat.Bits.{bit_at-zero}
use Rattle.ng_class.specs.Mask.{IsLowestBit, all_bits_of}
use Rattle.ng_view.specs.Lists.{Among}
use Rattle.ng_view.specs.LockSteps.{AreOut, avail_emptied, bits_of, bits_stocked, fetched, let_go, others}
use Rattle.ng_view.specs.Steps.{in_motion, popped, read}
use Rattle.ng_view.specs.declared.view.Group.{Group}
use Rattle.ng_view.specs.declared.view.Held.{Held}
use Rattle.ng_view.specs.declared.view.View.{View}
use Rattle.ng_view.specs.Fetches.{ClearsFreed, EmptiesAvail, HasGroup, MayPutBack, StocksAvail}
use Rattle.ng_mask.specs.Fetches.{Captures, FindsNone, LeavesOthers, MayStock, OfGroup, Stocks, Takes, TakesLast, TakesLowest, bare_noted, slots_of}
use Rattle.ng_mask.proofs.Bits.{alone, bit_at_low, bits_of_both, bits_of_low, none_left, not_alone, rest_of, rest_splits}
use Rattle.ng_mask.proofs.Motion.{SplitsInto, bits_of-pow, others_are_left, part_is_out}

-- ---- what is noted
others_absent : (m : ℕ) (ns : List ℕ) → (Among m ns → ⊥) → others m ns ≡ ns
others_absent m [] absent = refl
others_absent m (n ∷ ns) absent = ap (λ b. cond b (others m ns) (n ∷ others m ns)) (ne_eqb n m (λ e. absent (inl (sym e)))) ∙ ap (λ (x : List ℕ). n ∷ x) (others_absent m ns (λ s. absent (inr s)))

others_again : (m : ℕ) (ns : List ℕ) → (Among m ns → ⊥) → others m (m ∷ ns) ≡ ns
others_again m ns absent = ap (λ b. cond b (others m ns) (m ∷ others m ns)) (eq-eqb m m refl) ∙ others_absent m ns absent

still_lives : (v w : View) (meta : ℕ) → w.desk.groups ≡ v.desk.groups → HasGroup v meta → HasGroup w meta
still_lives v w meta same has = record { group = has.group; there = subst (Among has.group) (sym same) has.there; of_meta = has.of_meta }

-- ---- after avail is emptied
module _ (v u : View) (meta word : ℕ) (has : HasGroup v meta) (told : EmptiesAvail v meta word u) where
  -- the view, where the bits of the word are these
  emptied_to : (is : List ℕ) → bits_of word ≡ is → (g : Group) → Among g v.desk.groups → g.meta ≡ meta → u ≡ read (fetched (bare_noted v meta) g is (meta ∷ v.desk.zero_avail) v.desk.zero_freed v.desk.set_freed) (meta + 24) word
  emptied_to is bits g there e =
      told.view g there e
      ∙ ap (λ (l : List ℕ). read (fetched v g l (g.meta ∷ v.desk.zero_avail) v.desk.zero_freed v.desk.set_freed) (meta + 24) word) bits
      ∙ ap (λ m. read (fetched v g is (m ∷ v.desk.zero_avail) v.desk.zero_freed v.desk.set_freed) (meta + 24) word) e

  abbrev h : Group
  h = has.group

  at_group : u ≡ read (avail_emptied v h word) (meta + 24) word
  at_group = told.view h has.there has.of_meta

  emptied_groups : u.desk.groups ≡ v.desk.groups
  emptied_groups = ap (λ (x : View). x.desk.groups) at_group

  pub emptied_lives : HasGroup u meta
  emptied_lives = still_lives v u meta emptied_groups has

  emptied_bare : Among meta u.desk.zero_avail
  emptied_bare = subst (λ (x : View). Among meta x.desk.zero_avail) (sym at_group) (inl (sym has.of_meta))

  finds_none : word % 2 ^ 32 ≡ 0 → FindsNone v meta u
  finds_none none = record {
    word = word;
    mask = none;
    view = emptied_to [] (bits_of_low word ∙ ap bits_of none) h has.there has.of_meta;
    tells = told.tells;
  }

  module _ (index : ℕ) (low : IsLowestBit (word % 2 ^ 32) index) where
    abbrev rest : ℕ
    rest = rest_of (word % 2 ^ 32) index

    fits : word % 2 ^ 32 < 2 ^ 32
    fits = omega arith

    splits : SplitsInto word rest (2 ^ index)
    splits i lt = bit_at_low word i lt ∙ rest_splits (word % 2 ^ 32) index low i lt

    some_bit : 0 < word % 2 ^ 32
    some_bit = ⊎_elim (λ (some : 0 < word % 2 ^ 32). some) (λ (none : word % 2 ^ 32 ≤ 0). absurd (let z : word % 2 ^ 32 ≡ 0 = omega arith in let b : bit_at (word % 2 ^ 32) index ≡ 0 = ap (λ n. bit_at n index) z ∙ bit_at-zero index in let s = low.set in omega arith)) (cases_lt 0 (word % 2 ^ 32))

    rest_back : MayPutBack (read (avail_emptied v h word) (meta + 24) word) meta rest
    rest_back =
        let serving = (told.tells h has.there has.of_meta).serves some_bit in record {
          group = h;
          there = has.there;
          of_meta = has.of_meta;
          plain = serving.plain;
          listed = subst (λ m. Among m v.desk.listed) has.of_meta serving.listed;
          held = subst (λ m. AreOut m (bits_of rest) (slots_of h word ++ v.held)) has.of_meta (part_is_out h v.held word rest (2 ^ index) splits);
        }

    -- the others may be set again
    may_stock_rest : MayStock u meta rest
    may_stock_rest = record {
      live = emptied_lives;
      slots = λ more. subst (λ (x : View). MayPutBack x meta rest) (sym at_group) rest_back;
      zero = λ more. emptied_bare;
    }

    absent : (g : Group) → Among g v.desk.groups → g.meta ≡ meta → Among g.meta v.desk.zero_avail → ⊥
    absent g there e noted = let none = (told.tells g there e).zero noted in let some = some_bit in omega arith

    takes_last : rest ≡ 0 → TakesLast v meta index word u
    takes_last none =
        let single = alone (word % 2 ^ 32) index fits low none in
        record { alone = single; view = emptied_to (index ∷ []) (bits_of_low word ∙ ap bits_of single ∙ bits_of-pow index low.known) }

    module _ (w : View) (again : ℕ) (stocks : StocksAvail u meta rest again w) where
      held_left : (g : Group) → let_go g.meta (bits_of rest) (slots_of g word ++ v.held) ≡ in_motion g index ∷ v.held
      held_left g = others_are_left g v.held word rest (2 ^ index) splits ∙ ap (λ (l : List ℕ). map (in_motion g) l ++ v.held) (bits_of-pow index low.known)

      -- the view, where the slots and the notes are these
      abbrev with_rest : Group → List Held → List ℕ → View
      with_rest g hs ns = record (read v (meta + 24) word) { held = hs; desk = record v.desk { zero_avail = ns } }

      stocked_view : (g : Group) → Among g v.desk.groups → g.meta ≡ meta → w ≡ read (read (popped v g index) (meta + 24) word) (meta + 24) again
      stocked_view g there e =
          stocks.view
          ∙ ap (λ (x : View). read (bits_stocked x meta rest) (meta + 24) again) (told.view g there e)
          ∙ ap (λ m. read (with_rest g (let_go m (bits_of rest) (slots_of g word ++ v.held)) (others m (g.meta ∷ v.desk.zero_avail))) (meta + 24) again) (sym e)
          ∙ ap (λ (hs : List Held). read (with_rest g hs (others g.meta (g.meta ∷ v.desk.zero_avail))) (meta + 24) again) (held_left g)
          ∙ ap (λ (ns : List ℕ). read (with_rest g (in_motion g index ∷ v.held) ns) (meta + 24) again) (others_again g.meta v.desk.zero_avail (absent g there e))

      leaves_others : 0 < rest → LeavesOthers v meta index word w
      leaves_others more = record { others = not_alone (word % 2 ^ 32) index fits low more; again = again; bare = stocks.was_zero; view = stocked_view }

    takes_lowest : (w : View) → (rest ≡ 0 → w ≡ u) → (0 < rest → Stocks u meta rest w) → TakesLowest v meta index w
    takes_lowest w none more = ⊎_elim
        (λ (some : 0 < rest).
        let s = more some in let views = leaves_others w s.word s.stocks some in
        record { word = word; lowest = low; slot = λ g there e. ap (λ (x : View). x.held) (views.view g there e); views = inr views; tells = told.tells })
        (λ (zero_rest : rest ≤ 0).
        let z : rest ≡ 0 = omega arith in let views = subst (TakesLast v meta index word) (sym (none z)) (takes_last z) in
        record { word = word; lowest = low; slot = λ g there e. ap (λ (x : View). x.held) (views.view g there e); views = inl views; tells = told.tells })
        (cases_lt 0 rest)

  emptied_slots : OfGroup v meta (λ g. u.held ≡ slots_of g (word % 2 ^ 32) ++ v.held)
  emptied_slots g there e = ap (λ (x : View). x.held) (emptied_to (bits_of (word % 2 ^ 32)) (bits_of_low word) g there e)

  -- ---- and freed after it
  pub captures : (w : View) (freed : ℕ) → Takes u meta 31 freed w → Captures v meta (word % 2 ^ 32) freed w
  captures w freed takes =
      let there : Among h u.desk.groups = subst (Among h) (sym emptied_groups) has.there in
      let small = (takes.clears.tells h there has.of_meta).fits in
      record {
        word = word;
        between = u;
        mask = refl;
        slots = λ g here e. takes.slots g (subst (Among g) (sym emptied_groups) here) e ∙ ap (λ (hs : List Held). slots_of g freed ++ hs) (emptied_slots g here e);
        bare_avail = subst (λ (x : View). Among meta x.desk.zero_avail) (sym (takes.clears.view h there has.of_meta)) emptied_bare;
        bare_freed = takes.bare (let low : freed ≡ takes.freed % 4294967296 = takes.bits in omega arith);
        empties = told;
        takes = takes;
      }

-- ---- by the mask that the fetch answers
pub none_found : (v u : View) (meta mask word : ℕ) → HasGroup v meta → mask ≡ word % 2 ^ 32 → EmptiesAvail v meta word u → mask ≡ 0 → FindsNone v meta u
none_found v u meta mask word has is told none = finds_none v u meta word has told (sym is ∙ none)

pub may_stock_others : (v u : View) (meta mask word index : ℕ) → HasGroup v meta → mask ≡ word % 2 ^ 32 → EmptiesAvail v meta word u → IsLowestBit mask index → MayStock u meta (rest_of mask index)
may_stock_others v u meta mask word index has is told low = subst (λ n. MayStock u meta (rest_of n index)) (sym is) (may_stock_rest v u meta word has told index (subst (λ n. IsLowestBit n index) is low))

pub lowest_taken : (v u w : View) (meta mask word index : ℕ) → HasGroup v meta → mask ≡ word % 2 ^ 32 → EmptiesAvail v meta word u → IsLowestBit mask index
    → (rest_of mask index ≡ 0 → w ≡ u) → (0 < rest_of mask index → Stocks u meta (rest_of mask index) w) → TakesLowest v meta index w
lowest_taken v u w meta mask word index has is told low none more = takes_lowest v u meta word has told index (subst (λ n. IsLowestBit n index) is low) w
    (subst (λ n. rest_of n index ≡ 0 → w ≡ u) is none)
    (subst (λ n. 0 < rest_of n index → Stocks u meta (rest_of n index) w) is more)

-- ---- after freed bits are cleared
pub takes_bits : (v w : View) (meta upto freed taken bits : ℕ) → HasGroup v meta → upto < 32 → taken ≡ bit_and freed bits → bits ≡ all_bits_of upto → ClearsFreed v meta bits freed w → Takes v meta upto taken w
takes_bits v w meta upto freed taken bits has lt is all told =
    let h = has.group in
    let told' = subst (λ n. ClearsFreed v meta n freed w) all told in
    let is' : taken ≡ bit_and freed (all_bits_of upto) = is ∙ ap (bit_and freed) all in
    let fits = (told.tells h has.there has.of_meta).fits in
    let narrow : all_bits_of upto < 2 ^ 64 = ones_small upto lt in
    record {
      freed = freed;
      bits = is' ∙ and_mask freed (upto + 1);
      slots = λ g there e. ap (λ (x : View). x.held) (told'.view g there e) ∙ ap (λ (l : List ℕ). map (in_motion g) l ++ v.held) (bits_of_both freed (all_bits_of upto) ∙ ap bits_of (sym is'));
      bare = λ whole. subst (λ (x : View). Among meta x.desk.zero_freed) (sym (told'.view h has.there has.of_meta))
          (subst (λ n. Among meta (cond (eqb n 0) (h.meta ∷ v.desk.zero_freed) v.desk.zero_freed)) (sym (none_left freed (all_bits_of upto) (omega arith) narrow (sym is' ∙ whole))) (inl (sym has.of_meta)));
      clears = told';
    }
  where
    ones_small : (upto : ℕ) → upto < 32 → all_bits_of upto < 2 ^ 64
    ones_small upto lt = let p = pow_below (upto + 1) 64 (omega arith) in omega arith
