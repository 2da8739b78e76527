-- Blocks that are freed by their address: what a probe tells of a block of the hand.
use Rattle.std.proofs.Common.{◌≡◌, ◌⊎◌, ℕ, ◌<◌, All, Contains, List, length, slice_index_or, sym, ap, ◌∙◌, subst, inl, inr}
use Rattle.std.specs.Prelude.{Option, Some, None, Result, Ok, Err}
use Rattle.ng_header.specs.declared.reading.NominalFault.{NominalFault}
use Rattle.ng_header.specs.declared.reading.NominalFault.TheVariants as nominal
use Rattle.ng_check.specs.Answers.{Follows, Judges}
use Rattle.ng_check.specs.declared.fault.BadPointer.{BadPointer}
use Rattle.ng_check.specs.declared.fault.Found.{Found}
use Rattle.ng_check.specs.declared.fault.PointerFault.TheVariants as fault
use Rattle.ng_frame.specs.Inspects.{damage_of, gap_of}
use Rattle.ng_frame.specs.Judging.{IsJudged, IsKnownDamage}
use Rattle.ng_frame.specs.declared.damage.Damage.{Damage}
use Rattle.ng_space.specs.Blocks.{BlockToken, HasBlock, OfSlot}
use Rattle.ng_space.specs.Callers.{Caller}
use Rattle.ng_view.specs.declared.view.Start.{Start}
use Rattle.ng_view.specs.declared.view.View.{View}
use Rattle.ng_heap.specs.At.{HasAtCause, HasNoneAt, IsPlaceAt}
use Rattle.ng_heap.specs.declared.freeing_at.AtRefusal.{AtRefusal}
use Rattle.ng_heap.specs.declared.freeing_at.AtRefusal.TheVariants.{Bad, NotHeld}

ok_err : {A B : Type 0} (x : A) (y : B) → ◌≡◌ {A = Result A B} (Ok x) (Err y) → ⊥
ok_err x y e = absurd (cc)

err_is : {A B : Type 0} (x y : B) → ◌≡◌ {A = Result A B} (Err x) (Err y) → x ≡ y
err_is x y e = cc

none_some : {A : Type 0} (x : A) → ◌≡◌ {A = Option A} (Some x) None → ⊥
none_some x e = absurd (cc)

-- ---- a block of the hand
-- a probe refuses it for its frame alone
pub own_bad : (block : BlockToken) (bad : BadPointer) (after : Caller) → Judges block (Err bad) after
    → (bad.fault ≡ fault.BadReserved) ⊎ (bad.fault ≡ fault.Overrun)
own_bad block bad after judges = by_verdict judges.verdict judges.follows
  where
    by_verdict : (verdict : Result ℕ NominalFault) → Follows block verdict (Err bad) → (bad.fault ≡ fault.BadReserved) ⊎ (bad.fault ≡ fault.Overrun)
    by_verdict (Ok len) follows = absurd (ok_err _ _ (sym follows))
    by_verdict (Err nominal.BadReserved) follows = inl (ap (λ (b : BadPointer). b.fault) (err_is bad _ follows.1))
    by_verdict (Err nominal.Overrun) follows = inr (ap (λ (b : BadPointer). b.fault) (err_is bad _ follows.1))
    by_verdict (Err nominal.EndByte) follows = absurd follows

-- where the probe passed, no damage of it is found
pub own_found : {A B : Type 0} (block : BlockToken) (found : Found) (after : Caller) (result : Result A (B × Damage)) (left : B × Damage)
    → Judges block (Ok found) after → IsKnownDamage after block (damage_of result) → result ≡ Err left → ⊥
own_found block found after result left judges known is = by_verdict judges.verdict judges.judged judges.follows
  where
    by_verdict : (verdict : Result ℕ NominalFault) → OfSlot after block.slot (λ h. IsJudged h block.at (gap_of block) verdict)
        → Follows block verdict (Ok found) → ⊥
    by_verdict (Ok len) judged follows = none_some left.1 (sym (ap damage_of is) ∙ known (Ok len) judged)
    by_verdict (Err nominal.BadReserved) judged follows = ok_err found _ follows.1
    by_verdict (Err nominal.Overrun) judged follows = ok_err found _ follows.1
    by_verdict (Err nominal.EndByte) judged follows = follows

-- ---- the list
-- no block of it has the address where none has
pub none_there : (held : List BlockToken) (addr : ℕ) (block : BlockToken) → HasNoneAt held addr → Contains held block → block.at ≡ addr → ⊥
none_there held addr block none there at = none there.0 block there.1 (ap (λ (b : BlockToken). b.at) there.2 ∙ at)

-- the block at a place of it is the hand's
pub held_at : (hand : Caller) (held : List BlockToken) (place : ℕ) (block : BlockToken) → All (HasBlock hand) held → place < length held
    → block ≡ slice_index_or held place block → HasBlock hand block
held_at hand held place block all within value = subst (HasBlock hand) (sym value) (all place block within)

-- the block that is taken out, at a place that was given
pub record IsTaken (hand : Caller) (held : List BlockToken) (addr place : ℕ) (block : BlockToken) : Type 0 where
  pub within : place < length held
  pub has : HasBlock hand block
  pub at : block.at ≡ addr

pub taken_at : (hand : Caller) (held : List BlockToken) (addr place : ℕ) (block : BlockToken) (given : Option ℕ) → All (HasBlock hand) held
    → IsPlaceAt held addr given → given ≡ Some place → block ≡ slice_index_or held place block → IsTaken hand held addr place block
taken_at hand held addr place block given all stands is value =
    let here : IsPlaceAt held addr (Some place) = subst (IsPlaceAt held addr) is stands in record {
      within = here.0;
      has = held_at hand held place block all here.0 value;
      at = ap (λ (b : BlockToken). b.at) value ∙ here.1 block;
    }

-- ---- a free that is told by less
pub cause_by : {A : Type 0} (start : Start) (more less : Caller → BlockToken → Type 0) → ((probed : Caller) (block : BlockToken) → more probed block → less probed block)
    → (before : Caller) (addr : ℕ) (held : List BlockToken) (result : Result A AtRefusal) (rest : List BlockToken) (after : View)
    → HasAtCause start more before addr held result rest after → HasAtCause start less before addr held result rest after
cause_by start more less weaker before addr held (Ok done) rest after cause = record {
  found = cause.found;
  probed = cause.probed;
  probes = cause.probes;
  block = cause.block;
  takes = cause.takes;
  freed = weaker cause.probed cause.block cause.freed;
  leaves = cause.leaves;
}
cause_by start more less weaker before addr held (Err (Bad bad)) rest after cause = cause
cause_by start more less weaker before addr held (Err NotHeld) rest after cause = cause
