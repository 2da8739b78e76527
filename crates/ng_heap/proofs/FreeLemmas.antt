-- What a free does, by the answer of its push.
use Rattle.std.proofs.Common.{◌≡◌, Bool, List, [], sym, ap, ◌∙◌, subst}
use Rattle.std.proofs.lemmas.List.{append-nil}
use Rattle.ng_mask.specs.Pushes.{Answers, Pushed}
use Rattle.ng_mask.specs.declared.outcome.Needs.{Needs}
use Rattle.ng_view.specs.Steps.{pushed}
use Rattle.ng_view.specs.declared.view.View.{View}
use Rattle.ng_space.specs.Callers.{Caller}
use Rattle.ng_space.specs.Blocks.{BlockToken}
use Rattle.ng_space.specs.Tokens.{Token}
use Rattle.ng_group.specs.Returning.{ReturnsOfHand}
use Rattle.ng_group.specs.States.{State}
use Rattle.ng_group.specs.Steps.{GoesOn}
use Rattle.ng_mapper.specs.Runs as mapper
use Rattle.ng_policy.specs.declared.ask.Spare.{Spare}
use Rattle.ng_heap.specs.Freeing.{Frees, FreesIn, FreesUnlocked, GoesBack, OnLeft, Settles, pushed_as}
use Rattle.ng_heap.specs.declared.freeing.Unlocked.{Unlocked}
use Rattle.ng_heap.specs.declared.freeing.Unlocked.TheVariants as unlocked

-- ---- the answer of a free
-- the slot that was left
pub left_is : {X : Type 0} (answer : Unlocked X) (slot : Token) (why : Needs) (P : Token → Type 0)
    → answer ≡ unlocked.Left slot why → OnLeft answer P → P slot
left_is {X} answer slot why P is left = subst (λ (a : Unlocked X). OnLeft a P) is left

-- the answer whatever the heap's name is
abbrev unnamed : {X : Type 0} → Unlocked X → Unlocked (Unit {0})
unnamed unlocked.Done = unlocked.Done
unnamed (unlocked.Left slot why) = unlocked.Left slot why

left_unnamed : {X : Type 0} (answer : Unlocked X) (P : Token → Type 0) → OnLeft answer P → OnLeft (unnamed answer) P
left_unnamed unlocked.Done P left = left
left_unnamed (unlocked.Left slot why) P left = left

answers_unnamed : {X : Type 0} (s : Pushed) (answer : Unlocked X) (v w : View) → Answers s (pushed_as answer) v w
    → Answers s (pushed_as (unnamed answer)) v w
answers_unnamed s unlocked.Done v w is = is
answers_unnamed s (unlocked.Left slot why) v w is = is

frees_unnamed : {X : Type 0} (before : Caller) (block : BlockToken) (answer : Unlocked X) (after : View)
    → FreesUnlocked before block answer after → FreesUnlocked before block (unnamed answer) after
frees_unnamed before block answer after frees = record {
  taken = frees.taken;
  takes = frees.takes;
  pushes = record {
    flags = frees.pushes.flags;
    last = frees.pushes.last;
    of_group = frees.pushes.of_group;
    answers = answers_unnamed _ answer _ after frees.pushes.answers;
  };
}

-- ---- a free, whose slot went back
module _ {X : Type 0} (before : Caller) (block : BlockToken) (answer : Unlocked X) (left after : View)
    (frees : FreesUnlocked before block answer left) (of_block : OnLeft answer (λ slot. slot ≡ block.slot)) where
  abbrev went_back : GoesBack (unnamed answer) left after → Frees before block after
  went_back back = record {
    freed = unnamed answer;
    left = left;
    frees = frees_unnamed before block answer left frees;
    of_block = left_unnamed answer (λ slot. slot ≡ block.slot) of_block;
    back = back;
  }

  -- the push put it back
  done_went : answer ≡ unlocked.Done → after ≡ left → GoesBack (unnamed answer) left after
  done_went is view = subst (λ (a : Unlocked X). GoesBack (unnamed a) left after) (sym is) view

  pub done_back : answer ≡ unlocked.Done → after ≡ left → Frees before block after
  done_back is view = went_back (done_went is view)

  -- it left the slot, which went out of the hand then
  left_went : (slot : Token) (why : Needs) → answer ≡ unlocked.Left slot why → after ≡ pushed left slot.meta slot.index
      → GoesBack (unnamed answer) left after
  left_went slot why is view = subst (λ (a : Unlocked X). GoesBack (unnamed a) left after) (sym is) view

  pub left_back : (slot : Token) (why : Needs) → answer ≡ unlocked.Left slot why → after ≡ pushed left slot.meta slot.index
      → Frees before block after
  left_back slot why is view = went_back (left_went slot why is view)

  -- ---- under the lock
  module _ {M P : Type 0} (keeps : Spare → Bool → Type 0) (runs : M → List mapper.Run) (core core_after : State M P) where
    settled : GoesBack (unnamed answer) left after → Settles keeps runs core core_after (unnamed answer)
        → FreesIn keeps runs before block core core_after after
    settled back settles = record { hand = went_back back; settles = settles }

    pub done_frees : answer ≡ unlocked.Done → core_after ≡ core → after ≡ left → FreesIn keeps runs before block core core_after after
    done_frees is same view =
        settled (done_went is view) (subst (λ (a : Unlocked X). Settles keeps runs core core_after (unnamed a)) (sym is) same)

    -- which was returned to the core
    pub left_frees : (slot : Token) (why : Needs) → answer ≡ unlocked.Left slot why
        → ReturnsOfHand keeps runs core core_after slot.meta slot.index → after ≡ pushed left slot.meta slot.index
        → FreesIn keeps runs before block core core_after after
    left_frees slot why is returns view =
        settled (left_went slot why is view) (subst (λ (a : Unlocked X). Settles keeps runs core core_after (unnamed a)) (sym is) returns)

-- the core did nothing
pub stayed_on : (v w : View) → w ≡ v → GoesOn v w
stayed_on v w same = record {
  came = record { words = []; readings = ap (λ (u : View). u.readings) same ∙ sym (append-nil v.readings) };
  next = ap (λ (u : View). u.desk.next) same;
}
