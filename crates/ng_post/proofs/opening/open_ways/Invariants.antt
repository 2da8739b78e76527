use Rattle.std.proofs.Common.{◌≡◌, ◌+◌, ◌<◌, ◌≤◌, [], ℕ, get_or, length}
use Rattle.std.specs.Prelude.{nat_le, vec_capacity, vec_len}
use Rattle.crossbeam_queue.specs.Passes.{IsPassOf, view}
use Rattle.ng_post.specs.Box.{leader, sender}
use Rattle.ng_post.proofs.opening.open_ways.Given as goal

-- so many boxes have made the log's sender
abbrev pub invariant-loop-b : goal.invariant-loop-b
invariant-loop-b g l = record {
  count : length l.leads.items ≡ vec_len l.boxes.boxes;
  long : length l.ways.items ≡ l.b;
  room : vec_len l.boxes.boxes ≤ vec_capacity l.ways;
  passes : (b : ℕ) (q : _) (p : _) → b < vec_len l.boxes.boxes → IsPassOf (get_or l.boxes.boxes.items b q) (get_or l.leads.items b p);
  done : (b : ℕ) (p : _) → b < l.b → view (get_or l.leads.items b p) ≡ leader (l.log + 1) (nat_le (l.log + 1) b) [] [];
  left : (b : ℕ) (p : _) → l.b ≤ b → b < vec_len l.boxes.boxes → view (get_or l.leads.items b p) ≡ leader l.log (nat_le (l.log + 1) b) [] [];
  ways : (b : ℕ) (q : _) (p : _) → b < l.b → IsPassOf (get_or l.boxes.boxes.items b q) (get_or l.ways.items b p);
  senders : (b : ℕ) (p : _) → b < l.b → view (get_or l.ways.items b p) ≡ sender l.log [];
}
