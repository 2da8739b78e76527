-- The twelve lines that counts give.
use Rattle.std.specs.Prelude.{ℕ, ◌-◌, List, ◌++◌, codes}
use Rattle.ng_terms.specs.Reports.{count_line}
use Rattle.ng_report.specs.declared.counts.Counts.{Counts}

-- the twelve lines; the blocks left are those given and not taken
abbrev pub summary_of : ℕ → Counts → ℕ → List ℕ
summary_of logs counts pages =
    count_line (codes "logs") logs
    ++ count_line (codes "calls") counts.calls
    ++ count_line (codes "given") counts.given
    ++ count_line (codes "taken") counts.taken
    ++ count_line (codes "resized") counts.resized
    ++ count_line (codes "nomemory") counts.no_memory
    ++ count_line (codes "toolarge") counts.too_large
    ++ count_line (codes "badalign") counts.bad_align
    ++ count_line (codes "skipped") counts.skipped
    ++ count_line (codes "absent") counts.absent
    ++ count_line (codes "left") (counts.given - counts.taken)
    ++ count_line (codes "pages") pages
