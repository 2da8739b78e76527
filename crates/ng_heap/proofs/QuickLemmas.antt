-- A slot that is won without the lock, at the meta of an active word.
use Rattle.std.proofs.Common.{◌≡◌, ◌≢◌, ◌⊎◌, ℕ, ◌+◌, ◌*◌, ◌^◌, ◌<◌, ◌≤◌, [], Ok, true≢false, refl, sym, ap, ◌∙◌, subst, ⊎_elim, inl, inr, max, arith}
use Rattle.std.proofs.lemmas.Bool.{cases_lt}
use Rattle.std.specs.Prelude.{◌↔◌, IsNone, Option, Some, is_some}
use Rattle.ng_class.specs.Class.{IsAllowedClass}
use Rattle.ng_class.proofs.Classes.{allowed_least}
use Rattle.ng_terms.specs.Heap.{IsTooLarge, large}
use Rattle.ng_view.specs.declared.view.View.{View}
use Rattle.ng_space.specs.Blocks.{BlockToken, OfSlot, Serves}
use Rattle.ng_space.specs.Callers.{Caller}
use Rattle.ng_space.specs.FirstPage.{ReadsCounter}
use Rattle.ng_space.specs.Leaving.{KeepsBook, LeavesAll, LiesStill, Stays}
use Rattle.ng_space.specs.Placed.{AreOnce}
use Rattle.ng_space.specs.Tokens.{HasSlot, Token}
use Rattle.ng_space.proofs.LeavingFrames.{leaves_all_then}
use Rattle.ng_frame.proofs.Tokens.{slot_stays}
use Rattle.ng_mask.specs.Pops.{HasPopCause, Wins}
use Rattle.ng_mask.specs.declared.outcome.Pop.{Pop}
use Rattle.ng_mask.specs.declared.outcome.Pop.TheVariants as pop
use Rattle.ng_group.specs.Hands.{GainsSlot, IsSlotFor}
use Rattle.ng_group.proofs.HandKeepLemmas.{apart_of, gained_keeps}
use Rattle.ng_group.proofs.HandSlotLemmas.{tried_pop, won_slot}
use Rattle.ng_group.proofs.HandSlotLemmas as hands
use Rattle.ng_heap.specs.Causes.{HasClass, threshold}
use Rattle.ng_heap.specs.Keeps.{IsFresh}
use Rattle.ng_heap.specs.Making.{IsGivenNow, IsPutBy}
use Rattle.ng_frame.specs.Puts.{put_at}
use Rattle.ng_heap.specs.Trying.{GivesActive, HasQuickCause, LeavesQuickly, LoadsActive, OnlyReads, PopsActive}
use Rattle.ng_heap.specs.declared.quick.Quick.{Quick}
use Rattle.ng_heap.specs.declared.quick.Quick.TheVariants.{Given, TooLarge, Large, Idle, Bare, Other, Lost}
use Rattle.ng_heap.proofs.PutLemmas.{lies_then, put_class, still_serves}
use Rattle.ng_heap.proofs.ReadLemmas.{book_then, gains_after, gains_then, leaves_mid, reads_one, reads_then}
use Rattle.ng_heap.proofs.SlotLemmas.{answered_fresh, answered_serves, of_class}

-- a class was found for n bytes
pub class_small : (answer : Option ℕ) (class n : ℕ) → answer ≡ Some class → (IsNone answer ↔ (threshold ≤ n)) → n < threshold
class_small answer class n is none = ⊎_elim (λ less. less) (λ many. by_answer (none.1 many)) (cases_lt n threshold)
  where
    by_answer : IsNone answer → n < threshold
    by_answer none_is = absurd (true≢false (sym (ap is_some is) ∙ none_is))

-- ---- a slot was won, and then the counter's word was loaded
pub record WinsActive (n : ℕ) (old looked won came : Caller) (meta class counter : ℕ) (slot : Token) : Type 0 where
  pub loads : LoadsActive n class meta old.view looked.view
  pub some : meta ≢ 0
  pub looks : KeepsBook old looked
  pub wins : Wins meta class slot.index looked.view won.view
  pub of_meta : slot.meta ≡ meta
  pub has : HasSlot won slot
  pub once : AreOnce won.view
  pub book : KeepsBook looked won
  pub counts : ReadsCounter won.view counter came.view
  pub still : KeepsBook won came

module _ (n : ℕ) (old looked won came : Caller) (meta class counter : ℕ) (slot : Token)
    (is : WinsActive n old looked won came meta class counter slot) where
  read_first : OnlyReads old looked
  read_first = reads_one old looked (4 * (class + 1)) meta is.loads.view is.looks

  read_last : OnlyReads won came
  read_last = reads_one won came 196 is.counts.word is.counts.view is.still

  book_won : KeepsBook old won
  book_won = book_then old looked won is.looks is.book

  pub book_came : KeepsBook old came
  book_came = book_then old won came book_won is.still

  gains_won : GainsSlot slot.meta slot.index old.view won.view
  gains_won =
      gains_after slot.meta slot.index old.view looked.view won.view read_first.learns
      (hands.won meta class looked.view won slot is.wins is.of_meta)

  pub gains_came : GainsSlot slot.meta slot.index old.view came.view
  gains_came = gains_then slot.meta slot.index old.view won.view came.view gains_won read_last.learns

  pub for_request : IsSlotFor class n won slot
  for_request = won_slot meta class looked.view won slot is.wins is.of_meta n is.has is.loads.least.known is.loads.least.holds

  pub is_fresh : IsFresh old slot
  is_fresh =
      answered_fresh old won class n (Ok slot) for_request (apart_of old won slot gains_won is.once) book_won
      (gained_keeps slot.meta slot.index old.view won.view gains_won is.once)

  leaves_came : LeavesAll won.view came.view
  leaves_came = leaves_mid won came read_last

  pub has_came : HasSlot came slot
  has_came = slot_stays won came is.still.number slot (leaves_came.all.slots slot.meta slot.index) is.has

  allowed : IsAllowedClass n class
  allowed = allowed_least n class class is.loads.small is.loads.least (omega arith) is.loads.least.known

  pub serves_came : OfSlot came slot (Serves n 16)
  serves_came = still_serves won came slot n is.has leaves_came (answered_serves won class n (Ok slot) for_request allowed)

  -- and a block was put into it
  module _ (found after : Caller) (o : ℕ) (block : BlockToken) (block_is : block ≡ put_at slot n 16 o)
      (leaves : LeavesAll came.view found.view) (still : Stays slot.meta slot.index found.view after.view LiesStill) where
    class_after : HasClass after slot class
    class_after =
        let kept : LeavesAll won.view found.view = leaves_all_then won.view came.view found.view leaves_came leaves in
        let stays : Stays slot.meta slot.index won.view after.view LiesStill =
        lies_then slot.meta slot.index won.view found.view after.view (kept.all.slots slot.meta slot.index) still in
        put_class class won after slot is.has stays (of_class won class n slot for_request)

    pub gives_active : IsPutBy came.view block counter after → GivesActive n old block after
    gives_active puts = record {
      won = won.view;
      pops = record {
        class = class;
        meta = meta;
        looked = looked.view;
        loads = is.loads;
        some = is.some;
        pops = subst (λ (b : BlockToken). Wins meta class b.slot.index looked.view won.view) (sym block_is) is.wins;
      };
      of_meta = ap (λ (b : BlockToken). b.slot.meta) block_is ∙ is.of_meta;
      of_class = subst (λ (b : BlockToken). HasClass after b.slot class) (sym block_is) class_after;
      counter = counter;
      counted = came.view;
      counts = is.counts;
      puts = puts;
    }

-- ---- no slot was won
pub reads_missed : {X : Type 0} (n : ℕ) (old looked after : Caller) (meta class : ℕ) (answer : Pop X)
    → (answer ≡ pop.Bare) ⊎ ((tag : ℕ) × (answer ≡ pop.Other tag)) ⊎ (answer ≡ pop.Lost)
    → LoadsActive n class meta old.view looked.view → KeepsBook old looked
    → HasPopCause looked.view meta class answer after.view → KeepsBook looked after → OnlyReads old after
reads_missed n old looked after meta class answer none loads looks cause book =
    let tried = tried_pop meta class looked after after answer none cause book refl in
    reads_then old looked after (reads_one old looked (4 * (class + 1)) meta loads.view looks)
    (record { book = tried.book; learns = tried.learns })

-- ---- what a caller makes of the answer
-- the block was given by the counter
pub active_given : (n : ℕ) (old : Caller) (block : BlockToken) (after : Caller) → GivesActive n old block after
    → (counter : ℕ) × IsGivenNow old.view block counter after
active_given n old block after gives = (
  gives.counter,
  record {
    came = gives.counted;
    gains = gains_then block.slot.meta block.slot.index old.view gives.won gives.counted
        (gains_after block.slot.meta block.slot.index old.view p.looked gives.won looks.learns
        (hands.won p.meta p.class p.looked (at gives.won) block.slot p.pops gives.of_meta)) counts.learns;
    puts = gives.puts;
  },
)
  where
    p : PopsActive {X = Unit {0}} n (pop.Won block.slot) old.view gives.won
    p = gives.pops

    at : View → Caller
    at v = record { view = v; number = 0; spare = 0; entries = [] }

    looks : OnlyReads (at old.view) (at p.looked)
    looks = reads_one (at old.view) (at p.looked) (4 * (p.class + 1)) p.meta p.loads.view (record { number = refl; spare = refl; entries = refl })

    counts : OnlyReads (at gives.won) (at gives.counted)
    counts = reads_one (at gives.won) (at gives.counted) 196 gives.counts.word gives.counts.view (record { number = refl; spare = refl; entries = refl })

-- a class serves n bytes
pub served_small : (n : ℕ) → n < threshold → IsTooLarge 1 n 16 → ⊥
served_small n small is = ⊎_elim (λ (align : 2 ^ 35 ≤ 16). absurd (omega arith)) (λ (size : large + 16 ≤ 1 * n + max 16 16). absurd (omega arith)) is

-- so it is of each request below that size
pub below_large : (n : ℕ) → n < large → IsTooLarge 1 n 16 → ⊥
below_large n small is = ⊎_elim (λ (align : 2 ^ 35 ≤ 16). absurd (omega arith)) (λ (size : large + 16 ≤ 1 * n + max 16 16). absurd (omega arith)) is

-- neither a block came nor was the request too large: it is for the core
abbrev pub IsPassed : {X : Type 0} → Quick X → Type 0
IsPassed (Given block) = ⊥
IsPassed TooLarge = ⊥
IsPassed Large = Unit {0}
IsPassed Idle = Unit {0}
IsPassed Bare = Unit {0}
IsPassed (Other tag) = Unit {0}
IsPassed Lost = Unit {0}

pub passed : {X : Type 0} (answer : Quick X)
    → (answer ≡ Large) ⊎ (answer ≡ Idle) ⊎ (answer ≡ Bare) ⊎ ((tag : ℕ) × (answer ≡ Other tag)) ⊎ (answer ≡ Lost) → IsPassed answer
passed answer (inl far) = subst IsPassed (sym far) tt
passed answer (inr (inl idle)) = subst IsPassed (sym idle) tt
passed answer (inr (inr (inl bare))) = subst IsPassed (sym bare) tt
passed answer (inr (inr (inr (inl other)))) = subst IsPassed (sym other.1) tt
passed answer (inr (inr (inr (inr lost)))) = subst IsPassed (sym lost) tt

-- words alone were read for it
pub passed_reads : {X : Type 0} (n : ℕ) (old : Caller) (answer : Quick X) (after : Caller) → IsPassed answer → LeavesQuickly n old answer after → OnlyReads old after
passed_reads n old (Given block) after is leaves = absurd is
passed_reads n old TooLarge after is leaves = absurd is
passed_reads n old Large after is leaves = leaves
passed_reads n old Idle after is leaves = leaves
passed_reads n old Bare after is leaves = leaves
passed_reads n old (Other tag) after is leaves = leaves
passed_reads n old Lost after is leaves = leaves

-- and it isn't too large
pub passed_small : {X : Type 0} (n : ℕ) (old : Caller) (answer : Quick X) (after : Caller) → IsPassed answer → HasQuickCause n old answer after → IsTooLarge 1 n 16 → ⊥
passed_small n old (Given block) after is cause far = absurd is
passed_small n old TooLarge after is cause far = absurd is
passed_small n old Large after is cause far = below_large n cause.0 far
passed_small n old Idle after is cause far = served_small n cause.loads.small far
passed_small n old Bare after is cause far = served_small n cause.loads.small far
passed_small n old (Other tag) after is cause far = served_small n cause.loads.small far
passed_small n old Lost after is cause far = served_small n cause.loads.small far
