use Rattle.std.proofs.Common.{◌∙◌, ap, sym, inl, inr, ◌%◌, arith}
use Rattle.ng_check.specs.Checks as checks
use Rattle.ng_check.specs.declared.fault.PointerFault.TheVariants.{Misaligned, Outside}
use Rattle.ng_check.proofs.Failing.{fails, passes, from_2, from_3}
use Rattle.ng_check.proofs.Tests.{aligned_is, misaligned_is, outside_is, placed_is}
use Rattle.ng_check.proofs.header.misplaced.Goals.{then-addr-lt-PAGE-via-then-addr-lt-PAGE, then-addr-lt-PAGE-via-else-addr-lt-PAGE+then-addr-from}
use Rattle.ng_check.proofs.header.misplaced.Goals as goal

pub returns-then-addr-ne0-clause-some : goal.returns-then-addr-ne0-clause-some
returns-then-addr-ne0-clause-some g c =
    let q = c.args.reader.now in
    fails Misaligned checks.misaligned from_2 q (misaligned_is q (λ e. c.if-addr-ne0.true (ap (λ a. a % 16) c.addr-addr.ensures ∙ e)))

pub returns-then-addr-lt-PAGE-clause-some : goal.returns-then-addr-lt-PAGE-clause-some
returns-then-addr-lt-PAGE-clause-some g c =
    let q = c.args.reader.now in
    let at = c.addr-addr.ensures in
    passes Misaligned checks.misaligned from_2 q (aligned_is q (ap (λ a. a % 16) (sym at) ∙ c.if-addr-ne0.false))
    ∙ fails Outside checks.outside from_3 q (outside_is q (elim c.then-addr-lt-PAGE.branch [
      | then-addr-lt-PAGE-via-then-addr-lt-PAGE w ↦ inl (let low = w.if-addr-lt-PAGE.true in omega (arith, at, low))
      | then-addr-lt-PAGE-via-else-addr-lt-PAGE+then-addr-from w ↦ inr (let high = w.if-addr-from.true in let pages = w.pages.ensures.pages in let from = w.from.ensures in omega (arith, at, high, pages, from))
    ]))

pub returns-clause-none : goal.returns-clause-none
returns-clause-none g c = λ e.
    let q = c.args.reader.now in
    let at = c.addr-addr.ensures in let low = c.if-addr-lt-PAGE.false in let high = c.if-addr-from.false in
    let pages = c.pages.ensures.pages in let from = c.from.ensures in
    placed_is q (ap (λ a. a % 16) (sym at) ∙ c.if-addr-ne0.false) (omega (arith, at, low)) (omega (arith, at, high, pages, from))
