use Rattle.std.proofs.Common.{◌≡◌, take}
use Rattle.ng_terms.specs.Reports.{replies_with}
use Rattle.ng_report.specs.Counts.{Raises, IsWithin}
use Rattle.ng_report.specs.Room.{reply_count}
use Rattle.ng_report.proofs.counting.count_replies.Given as goal

abbrev pub invariant-loop-log : goal.invariant-loop-log
invariant-loop-log l = record {
  raised : Raises l.initial.counts l.counts (λ test. replies_with test (take l.log-index l.replies));
  replies : l.counts.replies ≡ reply_count (take l.log-index l.replies);
  within : IsWithin l.counts;
}
