-- What a resize under the lock tells a caller that has no core.
use Rattle.std.proofs.Common.{◌≡◌, ℕ, Bool, List, Ok, Err, ⊎_elim, inl, inr, min}
use Rattle.std.specs.Prelude.{Result}
use Rattle.ng_group.specs.States.{State}
use Rattle.ng_heap.specs.Freeing.{FreesIn}
use Rattle.ng_mapper.specs.Runs as mapper
use Rattle.ng_policy.specs.declared.ask.Ask.{Ask}
use Rattle.ng_policy.specs.declared.ask.Spare.{Spare}
use Rattle.ng_space.specs.Blocks.{BlockToken}
use Rattle.ng_space.specs.Callers.{Caller}
use Rattle.ng_view.specs.declared.view.View.{View}
use Rattle.ng_resize.specs.Moving.{MakesIn, Moves, frees_alone, makes_alone}
use Rattle.ng_resize.specs.Resizing.{HasResizeCause, ResizesByMove, ResizesHere, with_len}
use Rattle.ng_resize.specs.declared.refusal.ResizeRefusal.{ResizeRefusal}

module _ {M P : Type 0} (counts : Ask → ℕ → Type 0) (keeps : Spare → Bool → Type 0) (runs : M → List mapper.Run) (core core_after : State M P)
    (before : Caller) (block : BlockToken) (n : ℕ) (after : Caller) where
  -- the new block comes from the core, and the old one's slot goes back to it
  abbrev in_core : Caller → BlockToken → Caller → State M P → Type 0
  in_core = MakesIn counts core n

  abbrev to_core : State M P → Caller → View → Type 0
  to_core mid copied = FreesIn keeps runs copied block mid core_after

  moves_alone : (looked : Caller) (count : ℕ) (new : BlockToken) → Moves in_core to_core looked block count new after
      → Moves (makes_alone n) (frees_alone block) looked block count new after
  moves_alone looked count new moves = record {
    made = moves.made;
    core = tt;
    makes = record { made = moves.makes.made; given = (moves.core.counter, moves.makes.given) };
    copied = moves.copied;
    copies = moves.copies;
    frees = moves.frees.hand;
    kept = moves.kept;
  }

  pub cause_alone : (result : Result BlockToken (BlockToken × ResizeRefusal)) → HasResizeCause in_core to_core before block n result after
      → HasResizeCause (makes_alone n) (frees_alone block) before block n result after
  cause_alone (Ok new) cause = ⊎_elim
      (λ (here : (new ≡ with_len n block) × ResizesHere before block n after). inl here)
      (λ (moved : (¬ (new.at ≡ block.at)) × ResizesByMove in_core to_core before block n new after). inr (
        moved.0,
        record {
          len = moved.1.len;
          looked = moved.1.looked;
          looks = moved.1.looks;
          goes = moved.1.goes;
          moves = moves_alone moved.1.looked (min moved.1.len n) new moved.1.moves;
        },
      ))
      cause
  cause_alone (Err left) cause = cause
