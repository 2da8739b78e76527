use Rattle.ng_report.proofs.KindLemmas.{count-raised}
use Rattle.ng_report.proofs.counts.Counts.add_by_kinds.Goals as goal

pub returns-clause-raised : goal.returns-clause-raised
returns-clause-raised c = record {
  calls = count-raised _ _ _ _ c.from.ensures c.is_call.ensures;
  given = count-raised _ _ _ _ c.from-2.ensures c.gives.ensures;
  taken = count-raised _ _ _ _ c.from-3.ensures c.takes.ensures;
  resized = count-raised _ _ _ _ c.from-4.ensures c.resizes.ensures;
  no_memory = count-raised _ _ _ _ c.from-5.ensures c.lacks_memory.ensures;
  too_large = count-raised _ _ _ _ c.from-6.ensures c.is_oversized.ensures;
  bad_align = count-raised _ _ _ _ c.from-7.ensures c.has_bad_align.ensures;
  skipped = count-raised _ _ _ _ c.from-8.ensures c.is_skipped.ensures;
  absent = count-raised _ _ _ _ c.from-9.ensures c.is_absent.ensures;
}
