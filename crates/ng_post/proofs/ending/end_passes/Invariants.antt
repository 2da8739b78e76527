use Rattle.std.proofs.Common.{◌≡◌, ◌<◌, ◌≤◌, ℕ, get_or, length}
use Rattle.std.specs.Prelude.{vec_len}
use Rattle.crossbeam_queue.specs.Passes.{IsPassOf, view}
use Rattle.ng_post.specs.Ending.{with_reader, with_sender}
use Rattle.ng_post.proofs.ending.end_passes.Given as goal

-- the reader was taken in, and the senders of the boxes from the back
abbrev pub invariant-loop-key : goal.invariant-loop-key
invariant-loop-key g l = record {
  count : length l.leads.items ≡ vec_len l.boxes.boxes;
  few : length l.to.items ≤ vec_len l.boxes.boxes;
  rest : (b : ℕ) (t u : _) → b < length l.to.items → get_or l.to.items b t ≡ get_or l.fn.to.items b u;
  passes : (b : ℕ) (q : _) (p : _) → b < vec_len l.boxes.boxes → IsPassOf (get_or l.boxes.boxes.items b q) (get_or l.leads.items b p);
  done : (b : ℕ) (p way was : _) → length l.to.items ≤ b → b < vec_len l.boxes.boxes
      → view (get_or l.leads.items b p)
      ≡ with_sender (view (get_or l.fn.to.items b way)) (with_reader l.log (view l.fn.own) b (view (get_or l.fn.leads.items b was)));
  left : (b : ℕ) (p was : _) → b < length l.to.items
      → view (get_or l.leads.items b p) ≡ with_reader l.log (view l.fn.own) b (view (get_or l.fn.leads.items b was));
}

abbrev pub decreases-loop-key : goal.decreases-loop-key
decreases-loop-key g l = goal.left-loop-key g l
