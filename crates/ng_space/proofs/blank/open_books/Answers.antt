use Rattle.std.proofs.Common.{arith, ◌∙◌, ap, ◌+◌, ℕ, length}
use Rattle.std.proofs.lemmas.List.{take_all}
use Rattle.ng_space.specs.Blanks.{fresh_books}
use Rattle.ng_space.proofs.Books.{opens_next}
use Rattle.ng_space.proofs.blank.open_books.Goals as goal

pub loop-i-init : goal.loop-i-init
loop-i-init c = let made = c.in_ok-books.ensures in (made.empty, c.in_ok-books.books.ok.0 ∙ ap length made.empty, made.room)

pub loop-i-preserved : goal.loop-i-preserved
loop-i-preserved c =
    let pushed = c.push_reserved.ensures in let kept = c.loop-i.invariant in let book = c.in_ok-open.ensures in (
      pushed.items ∙ opens_next c.args.rooms.now c.loop-i.i _ _ c.loop-i-test.true kept.0 book.number book.spare book.entries,
      pushed.len ∙ ap (λ (n : ℕ). n + 1) kept.1,
      (let same = pushed.capacity in let room = kept.2 in omega arith),
    )

pub returns : goal.returns
returns c = let done = c.loop-i-test.false in c.loop-i.invariant.0 ∙ ap (fresh_books 1) (take_all _ _ done)
