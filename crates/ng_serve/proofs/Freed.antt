-- Freed slots that were taken: one stays in the seat, or none.
use Rattle.std.proofs.Common.{◌≡◌, ℕ, ◌+◌, ◌/◌, ◌%◌, ◌^◌, ◌<◌, ◌≤◌, List, ◌++◌, map, refl, sym, ap, ◌∙◌, subst, ⊎_elim, arith}
use Rattle.std.specs.Prelude.{Option, Some, None, IsNone, IsSome, IfSome}
use Rattle.std.specs.Int.{bit_at}
use Rattle.std.proofs.Math.Nat.{mod-le, mod-lt}
use Rattle.std.proofs.lemmas.Bool.{cases_lt}
use Rattle.std.proofs.lemmas.Nat.{pow_pos, shr_split}
use Rattle.std.proofs.lemmas.Nat.Bits.{bit_at-zero, bit_at_above, bit_at_cat_low}
use Rattle.ng_class.specs.Mask.{IsLowestBit}
use Rattle.ng_view.specs.Lists.{Among}
use Rattle.ng_view.specs.LockSteps.{AreOut, bits_of, let_go}
use Rattle.ng_view.specs.Steps.{in_motion}
use Rattle.ng_view.specs.declared.view.Group.{Group}
use Rattle.ng_view.specs.declared.view.View.{View}
use Rattle.ng_view.specs.Fetches.{HasGroup}
use Rattle.ng_view.specs.Masks.{IsServing, TellsFreed}
use Rattle.ng_mask.specs.Fetches.{MayStock, OfGroup, Stocks, Takes, slots_of}
use Rattle.ng_mask.proofs.Bits.{rest_of, rest_splits}
use Rattle.ng_mask.proofs.Motion.{SplitsInto, bits_of-pow, others_are_left, part_is_out}
use Rattle.ng_serve.specs.Reads.{Reads}
use Rattle.ng_serve.specs.Groups.{Describes, ReadsFields, ReadsIndex}
use Rattle.ng_serve.specs.Takes.{ChangesMasks, HasFreed, StocksFreed, TakesFreed}
use Rattle.ng_serve.specs.declared.group.LiveGroup.{LiveGroup}
use Rattle.ng_serve.proofs.Fields.{lives_then}
use Rattle.ng_serve.proofs.Readings.{reads_then}
use Rattle.ng_serve.proofs.Changes.{all_of, changes_groups, changes_listed, changes_reads, changes_stocked, changes_taken, changes_then, stocked_held}

-- ---- the low bits of a mask
bit_at_mod : (n k i : ℕ) → i < k → bit_at n i ≡ bit_at (n % 2 ^ k) i
bit_at_mod n k i lt = sym (ap (λ x. bit_at x i) (shr_split n k)) ∙ bit_at_cat_low (n / 2 ^ k) k (n % 2 ^ k) i lt

low_bit : (n k i : ℕ) → bit_at (n % 2 ^ k) i ≡ 1 → i < k
low_bit n k i set = ⊎_elim
    (λ (lt : i < k). lt)
    (λ (le : k ≤ i). absurd (let none = bit_at_above (n % 2 ^ k) k i (mod-lt n (pow_pos k)) le in omega arith))
    (cases_lt i k)

some_bit : (n i : ℕ) → bit_at n i ≡ 1 → 0 < n
some_bit n i set = ⊎_elim
    (λ (some : 0 < n). some)
    (λ (none : n ≤ 0). absurd (let zero : n ≡ 0 = omega arith in let clear : bit_at n i ≡ 0 = ap (λ x. bit_at x i) zero ∙ bit_at-zero i in omega arith))
    (cases_lt 0 n)

-- ---- after the bits up to an index were taken
module _ (v u : View) (meta upto taken : ℕ) (has : HasGroup v meta) (takes : Takes v meta upto taken u) where
  changes : ChangesMasks v meta u
  changes = changes_taken v u meta upto taken has takes

  serving : 0 < taken → (g : Group) → Among g v.desk.groups → g.meta ≡ meta → IsServing v g
  serving some g there e =
      let less : takes.freed % 2 ^ (upto + 1) ≤ takes.freed = mod-le takes.freed (2 ^ (upto + 1)) in
      let is : taken ≡ takes.freed % 2 ^ (upto + 1) = takes.bits in
      (takes.clears.tells g there e).serves (omega arith)

  there : Among has.group u.desk.groups
  there = subst (Among has.group) (sym (changes_groups v u meta changes)) has.there

  lives : HasGroup u meta
  lives = record { group = has.group; there = there; of_meta = has.of_meta }

  noted : Among meta v.desk.zero_avail → Among meta u.desk.zero_avail
  noted bare = subst (λ (x : View). Among meta x.desk.zero_avail) (sym (takes.clears.view has.group has.there has.of_meta)) bare

  -- a part of them may be stocked
  may_stock : (part left : ℕ) → (0 < part → 0 < taken) → SplitsInto taken part left → Among meta v.desk.zero_avail → MayStock u meta part
  may_stock part left less splits bare = record {
    live = lives;
    slots = λ more. let serve = serving (less more) has.group has.there has.of_meta in record {
      group = has.group;
      there = there;
      of_meta = has.of_meta;
      plain = serve.plain;
      listed = subst (Among meta) (sym (changes_listed v u meta changes)) (subst (λ m. Among m v.desk.listed) has.of_meta serve.listed);
      held = subst (AreOut meta (bits_of part)) (sym (takes.slots has.group has.there has.of_meta))
          (subst (λ m. AreOut m (bits_of part) (slots_of has.group taken ++ v.held)) has.of_meta (part_is_out has.group v.held taken part left splits));
    };
    zero = λ more. noted bare;
  }

  module _ (w : View) (part left : ℕ) (splits : SplitsInto taken part left) (none : part ≡ 0 → w ≡ u) (some : 0 < part → Stocks u meta part w) where
    pub then_changes : ChangesMasks v meta w
    then_changes = changes_then v u w meta changes (changes_stocked u w meta part none some)

    -- the others are left
    then_held : (g : Group) → Among g v.desk.groups → g.meta ≡ meta → w.held ≡ slots_of g left ++ v.held
    then_held g here e =
        stocked_held u w meta part none some
        ∙ ap (let_go meta (bits_of part)) (takes.slots g here e)
        ∙ ap (λ m. let_go m (bits_of part) (slots_of g taken ++ v.held)) (sym e)
        ∙ others_are_left g v.held taken part left splits

  -- ---- one stays in the seat
  module _ (freed : HasFreed v meta upto) where
    set_bit : bit_at taken freed.index ≡ 1
    set_bit =
        let h = has.group in
        let told : TellsFreed v h takes.freed = takes.clears.tells h has.there has.of_meta in
        let below : freed.index < upto + 1 = (let le = freed.below in omega arith) in
        let set : bit_at takes.freed freed.index ≡ 1 = told.set freed.index (subst (λ m. Among {A = ℕ × ℕ} (m, freed.index) v.desk.set_freed) (sym has.of_meta) freed.noted) in
        ap (λ n. bit_at n freed.index) takes.bits ∙ sym (bit_at_mod takes.freed (upto + 1) freed.index below) ∙ set

    pub some_taken : 0 < taken
    some_taken = some_bit taken freed.index set_bit

    module _ (index : ℕ) (low : IsLowestBit taken index) where
      pub may_stock_others : Among meta v.desk.zero_avail → MayStock u meta (rest_of taken index)
      may_stock_others bare = may_stock (rest_of taken index) (2 ^ index) (λ more. some_taken) (rest_splits taken index low) bare

      in_freed : bit_at takes.freed index ≡ 1
      in_freed =
          let here : bit_at (takes.freed % 2 ^ (upto + 1)) index ≡ 1 = ap (λ n. bit_at n index) (sym takes.bits) ∙ low.set in
          bit_at_mod takes.freed (upto + 1) index (low_bit takes.freed (upto + 1) index here) ∙ here

      pub takes_freed : (w : View) → (rest_of taken index ≡ 0 → w ≡ u) → (0 < rest_of taken index → Stocks u meta (rest_of taken index) w) → TakesFreed v meta index w
      takes_freed w none some =
          let splits : SplitsInto taken (rest_of taken index) (2 ^ index) = rest_splits taken index low in record {
            changes = then_changes w (rest_of taken index) (2 ^ index) splits none some;
            held = λ g there e. then_held w (rest_of taken index) (2 ^ index) splits none some g there e ∙ ap (λ (is : List ℕ). map (in_motion g) is ++ v.held) (bits_of-pow index low.known);
            plain = λ g there e. (serving some_taken g there e).plain;
            within = λ g there e. (takes.clears.tells g there e).within index low.known in_freed;
          }

  -- ---- none does
  pub may_stock_all : Among meta v.desk.zero_avail → MayStock u meta taken
  may_stock_all bare = may_stock taken 0 (λ more. more) (all_of taken) bare

  module _ (w : View) (none : taken ≡ 0 → w ≡ u) (some : 0 < taken → Stocks u meta taken w) where
    pub all_changes : ChangesMasks v meta w
    all_changes = then_changes w taken 0 (all_of taken) none some

    pub all_held : w.held ≡ v.held
    all_held = then_held w taken 0 (all_of taken) none some has.group has.there has.of_meta

-- ---- the lowest bit of a mask that isn't 0
pub some_lowest : (answer : Option ℕ) (mask : ℕ) → 0 < mask → (IsNone answer → mask ≡ 0) → IsSome answer
some_lowest None mask some none = absurd (let zero : mask ≡ 0 = none refl in omega arith)
some_lowest (Some index) mask some none = refl

pub lowest_of : (answer : Option ℕ) (mask index : ℕ) → answer ≡ Some index → IfSome answer (IsLowestBit mask) → IsLowestBit mask index
lowest_of answer mask index is low = subst (λ (o : Option ℕ). IfSome o (IsLowestBit mask)) is low

-- ---- freed slots in use are stocked, after two readings
pub stocks_then : (v r s u w : View) (meta upto taken : ℕ) (found : LiveGroup) → HasGroup v meta → OfGroup v meta (Describes found) → ReadsFields v meta r → Reads v r
    → ReadsIndex r found.base upto s → Reads r s → Takes s meta upto taken u → (taken ≡ 0 → w ≡ u) → (0 < taken → Stocks u meta taken w) → StocksFreed v meta w
stocks_then v r s u w meta upto taken found has of names first looks second takes none some =
    let reads = reads_then v r s first second in
    let lives = lives_then v s meta reads has in
    record {
      steps = record {
        upto = upto;
        taken = taken;
        named = r;
        looked = s;
        between = u;
        names = names;
        looks = λ g there of_meta. subst (λ b. ReadsIndex r b upto s) (sym (of g there of_meta).base) looks;
        takes = takes;
        stocks = (none, some);
      };
      changes = changes_then v s w meta (changes_reads v s meta reads) (all_changes s u meta upto taken lives takes w none some);
      held = all_held s u meta upto taken lives takes w none some ∙ ap (λ (x : View). x.held) reads.view;
    }
