use Rattle.std.proofs.Common.{◌≡◌, ◌∙◌, sym, ap, subst}
use Rattle.ng_frame.specs.Inspects.{free_entry}
use Rattle.ng_terms.specs.declared.entry.Entry.{Entry}
use Rattle.ng_terms.specs.declared.entry.Entry.TheVariants.{Take}
use Rattle.ng_space.specs.Callers.{Caller}
use Rattle.ng_space.specs.Leaving.{Entered, Leaves}
use Rattle.ng_space.proofs.LeavingFrames.{entered_then, leaves_then}
use Rattle.ng_space.specs.Tokens.{Token}
use Rattle.ng_view.specs.declared.view.View.{View}
use Rattle.ng_heap.proofs.FreeLemmas.{done_back, left_back, left_is}
use Rattle.ng_heap.proofs.shared.SharedHeap.free.Goals as goal
use Rattle.ng_heap.proofs.shared.SharedHeap.free.Goals.{Joined-branch-2, in-Done, in-Left}

pub returns-clause-leaves : goal.returns-clause-leaves
returns-clause-leaves g c =
    let slot : Token = c.args.block.slot in
    let old : View = c.args.hand.now.view in
    let mid : View = c.free_unlocked.new.hand.view in
    let freed : Leaves slot old mid = c.free_unlocked.ensures.leaves in
    elim c.match-branch-2.branch [
      | in-Done w ↦ subst (λ (hand : Caller). Leaves slot old hand.view) (sym w.hand-is) freed
      | in-Left w ↦
          let new : View = w.settle.new.hand.view in
          let freed_as = c.in_ok-free_unlocked in
          let is = left_is freed_as.field-0 w.in-Left.slot w.in-Left.field-1 (λ left. left ≡ slot) w.in-Left.is freed_as.ensures.left in
          let own : Leaves slot mid new = subst (λ (s : Token). Leaves s mid new) is w.settle.ensures.leaves in
          subst (λ (hand : Caller). Leaves slot old hand.view) (sym w.hand-is) (leaves_then slot old mid new freed own)
    ]

pub returns-clause-entered : goal.returns-clause-entered
returns-clause-entered g c =
    let old : Caller = c.args.hand.now in
    let entry : Entry = Take c.args.block.at in
    let freed : Entered old c.free_unlocked.new.hand entry = subst (λ r. Entered old c.free_unlocked.new.hand (free_entry c.args.block.at r)) c.in_ok-free_unlocked.was c.free_unlocked.ensures.entered in
    elim c.match-branch-2.branch [
      | in-Done w ↦ subst (λ (hand : Caller). Entered old hand entry) (sym w.hand-is) freed
      | in-Left w ↦ subst (λ (hand : Caller). Entered old hand entry) (sym w.hand-is) (entered_then freed w.settle.ensures.book)
    ]

pub returns-clause-frees : goal.returns-clause-frees
returns-clause-frees g c =
    let old : Caller = c.args.hand.now in
    let mid : View = c.free_unlocked.new.hand.view in
    let freed = c.in_ok-free_unlocked in
    let answer = freed.field-0 in
    let frees = freed.ensures.frees in
    let end : View = c.match-branch-2.hand.view in
    elim c.match-branch-2.branch [
      | in-Done w ↦
          done_back old c.args.block answer mid end frees freed.ensures.left w.in-Done.is (ap (λ (hand : Caller). hand.view) w.hand-is)
      | in-Left w ↦
          left_back old c.args.block answer mid end frees freed.ensures.left w.in-Left.slot w.in-Left.field-1 w.in-Left.is
          (ap (λ (hand : Caller). hand.view) w.hand-is ∙ w.settle.ensures.view)
    ]
