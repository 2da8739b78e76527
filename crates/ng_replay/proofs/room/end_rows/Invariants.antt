use Rattle.std.proofs.Common.{◌≡◌, [], All}
use Rattle.ng_replay.proofs.room.end_rows.Given as goal

abbrev pub invariant-loop-row : goal.invariant-loop-row
invariant-loop-row g l = All (λ row. row.items ≡ []) l.rows.items

abbrev pub decreases-loop-row : goal.decreases-loop-row
decreases-loop-row g l = goal.left-loop-row g l
