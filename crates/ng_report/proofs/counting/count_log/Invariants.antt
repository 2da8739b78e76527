use Rattle.std.proofs.Common.{◌≡◌, ◌+◌, take, count_by}
use Rattle.ng_report.specs.Counts.{Raises, IsWithin}
use Rattle.ng_report.proofs.counting.count_log.Given as goal

abbrev pub invariant-loop-reply : goal.invariant-loop-reply
invariant-loop-reply l = record {
  raised : Raises l.initial.counts l.counts (λ test. count_by test (take l.reply-index l.replies));
  replies : l.counts.replies ≡ l.initial.counts.replies + l.reply-index;
  within : IsWithin l.counts;
}
