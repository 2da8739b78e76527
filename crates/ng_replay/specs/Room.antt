-- The memory of a run.
use Rattle.std.specs.Prelude.{◌≡◌, ℕ, ◌<◌, ◌≤◌, List, [], All, None, length, slice_index_or, replicate, vec_capacity}
use Rattle.std.specs.Global.{Vec}
use Rattle.ng_terms.specs.declared.plan.Op.{Op}
use Rattle.ng_terms.specs.declared.plan.Plan.{Plan}
use Rattle.ng_replay.specs.declared.room.Room.{Room}

-- each row has room for one element for each op of its log
abbrev pub HaveRoom : {X : Type 0} → List (List Op) → List (Vec X) → Type 0
HaveRoom {X} logs rows = (log : ℕ) (d : Vec X) → log < length rows → length (slice_index_or logs log []) ≤ vec_capacity (slice_index_or rows log d)

-- no reply and no block yet, and room for all of the plan's
pub record HasRoom {N : Type 0} (room : Room N) (plan : Plan) : Type 0 where
  pub logs : length room.rows.items ≡ length plan.logs
  pub empty : All (λ row. row.items ≡ []) room.rows.items
  pub rows : HaveRoom plan.logs room.rows.items
  pub blocks : length room.blocks.items ≡ length plan.logs
  pub no_blocks : All (λ row. row.items ≡ []) room.blocks.items
  pub rows_of_blocks : HaveRoom plan.logs room.blocks.items
  pub none : room.replies.items ≡ []
  pub replies : length plan.logs ≤ vec_capacity room.replies
  pub parcels : room.parcels.items ≡ replicate (length plan.receivers) None
