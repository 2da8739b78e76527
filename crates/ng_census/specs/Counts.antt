-- What counts of ops say.
use Rattle.std.specs.Prelude.{◌≡◌, ℕ, ◌+◌, ◌≤◌, Bool, List}
use Rattle.ng_terms.specs.declared.plan.Op.{Op}
use Rattle.ng_census.specs.Census.{makes, ends, moves, skips, ops_with}
use Rattle.ng_census.specs.declared.counts.Counts.{Counts}

-- no count is above the number of ops
pub record IsWithin (counts : Counts) : Type 0 where
  pub makes : counts.makes ≤ counts.ops
  pub ends : counts.ends ≤ counts.ops
  pub moves : counts.moves ≤ counts.ops
  pub skips : counts.skips ≤ counts.ops

-- each count rises by how many of the ops pass its test
pub record Raises (old new : Counts) (passing : (Op → Bool) → ℕ) : Type 0 where
  pub made : new.makes ≡ old.makes + passing makes
  pub ended : new.ends ≡ old.ends + passing ends
  pub moved : new.moves ≡ old.moves + passing moves
  pub skipped : new.skips ≡ old.skips + passing skips

-- each count is how many ops of all logs pass its test
pub record IsCount (counts : Counts) (logs : List (List Op)) : Type 0 where
  pub made : counts.makes ≡ ops_with makes logs
  pub ended : counts.ends ≡ ops_with ends logs
  pub moved : counts.moves ≡ ops_with moves logs
  pub skipped : counts.skips ≡ ops_with skips logs
