-- What a test's hand still is after a malloc without the lock.
use Rattle.std.proofs.Common.{◌≡◌, ℕ, sym, ◌∙◌}
use Rattle.ng_space.specs.Callers.{Caller}
use Rattle.ng_space.specs.Leaving.{KeepsRest}
use Rattle.ng_view.specs.declared.view.View.{View}
use Rattle.ng_heap_tests.specs.Tests.{MayClose}
use Rattle.ng_heap.specs.Trying.{LeavesQuickly, OnlyReads}
use Rattle.ng_heap.specs.declared.quick.Quick.{Quick}
use Rattle.ng_heap.specs.declared.quick.Quick.TheVariants.{Given, TooLarge, Large, Idle, Bare, Other, Lost}
use Rattle.ng_heap.proofs.ReadLemmas.{learns_leaves}

-- a heap that might be closed still may
pub may_still : (old new : Caller) (seat : View) → new.number ≡ old.number → KeepsRest old.view new.view → MayClose seat old → MayClose seat new
may_still old new seat number rest may =
    record { next = may.next; number = number ∙ may.number; even = rest.sent ∙ may.even ∙ sym rest.taken }

reads_may : (old new : Caller) → OnlyReads old new → (seat : View) → MayClose seat old → MayClose seat new
reads_may old new reads seat = may_still old new seat reads.book.number (learns_leaves old.view new.view reads.learns).rest

pub quick_may : {X : Type 0} (n : ℕ) (old : Caller) (answer : Quick X) (new : Caller) → LeavesQuickly n old answer new
    → (seat : View) → MayClose seat old → MayClose seat new
quick_may n old (Given block) new leaves seat = may_still old new seat leaves.0.number leaves.1.rest
quick_may n old TooLarge new leaves seat = may_still old new seat leaves.0.number leaves.1.rest
quick_may n old Large new leaves seat = reads_may old new leaves seat
quick_may n old Idle new leaves seat = reads_may old new leaves seat
quick_may n old Bare new leaves seat = reads_may old new leaves seat
quick_may n old (Other tag) new leaves seat = reads_may old new leaves seat
quick_may n old Lost new leaves seat = reads_may old new leaves seat
