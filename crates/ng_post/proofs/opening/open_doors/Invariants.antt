use Rattle.std.proofs.Common.{◌≡◌, ◌<◌, ◌≤◌, [], ℕ, get_or, length}
use Rattle.std.specs.Prelude.{vec_capacity}
use Rattle.ng_post.specs.Opened.{IsFresh, received_by}
use Rattle.ng_post.specs.Opening.{AreLeadsAfter, IsNewDoor}
use Rattle.ng_post.proofs.opening.open_doors.Given as goal

-- so many doors were made
abbrev pub invariant-loop-log : goal.invariant-loop-log
invariant-loop-log g l = record {
  long : length l.doors.items ≡ l.log;
  room : length l.plan.logs ≤ vec_capacity l.doors;
  leads : AreLeadsAfter l.boxes l.log l.log l.leads.items;
  each : (k : ℕ) (d : _) → k < l.log → IsNewDoor l.boxes k (get_or l.doors.items k d);
  fresh : (k : ℕ) (d : _) → k < l.log
      → IsFresh (get_or l.doors.items k d) (length (get_or l.plan.logs k [])) (received_by l.boxes.receivers.items k);
}
