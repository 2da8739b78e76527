use Rattle.std.proofs.Common.{◌≡◌, ◌<◌, ◌≤◌, [], ℕ, get_or, length, true}
use Rattle.std.specs.Prelude.{max, vec_capacity}
use Rattle.crossbeam_queue.specs.Passes.{IsPassOf, ruled_capacity, view}
use Rattle.ng_post.specs.Box.{leader}
use Rattle.ng_post.specs.Opened.{received_by}
use Rattle.ng_post.proofs.opening.open_boxes.Given as goal

-- so many boxes were made
abbrev pub invariant-loop-log : goal.invariant-loop-log
invariant-loop-log g l = record {
  receivers : l.receivers ≡ l.initial.receivers;
  boxes : length l.boxes.items ≡ l.log;
  leads : length l.leads.items ≡ l.log;
  room : l.count ≤ vec_capacity l.boxes;
  room_to_lead : l.count ≤ vec_capacity l.leads;
  passes : (b : ℕ) (q : _) (p : _) → b < l.log → IsPassOf (get_or l.boxes.items b q) (get_or l.leads.items b p);
  knows : (b : ℕ) (p : _) → b < l.log → view (get_or l.leads.items b p) ≡ leader 0 true [] [];
  sizes : (b : ℕ) (q : _) → b < l.log → ruled_capacity (get_or l.boxes.items b q) ≡ max (received_by l.receivers.items b) 1;
}
