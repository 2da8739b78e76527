use Rattle.std.proofs.Common.{◌≡◌, ℕ, ◌<◌, ◌≤◌, get_or, length}
use Rattle.ng_terms.specs.declared.entry.Extent.{Extent}
use Rattle.ng_history.proofs.LiveLemmas.{with_length}
use Rattle.ng_history.proofs.live.set_length.Given as goal

abbrev pub invariant-loop-block : goal.invariant-loop-block
invariant-loop-block l = record {
  count : length l.live ≡ length l.initial.live;
  before : (k : ℕ) (d : Extent) → k < l.block-index → get_or l.live k d ≡ with_length l.at l.len (get_or l.initial.live k d);
  behind : (k : ℕ) (d : Extent) → l.block-index ≤ k → get_or l.live k d ≡ get_or l.initial.live k d;
}
