-- The answer of a call, by the loads that it made.
use Rattle.std.proofs.Common.{◌≡◌, ℕ, List, [], sym, ap, ◌∙◌, subst, refl, arith}
use Rattle.std.specs.Prelude.{Result}
use Rattle.ng_view.specs.declared.view.Start.{Start}
use Rattle.ng_space.specs.Callers.{Caller}
use Rattle.ng_space.specs.Leaving.{KeepsBook, LeavesAll}
use Rattle.ng_check.specs.Answers.{Checks, IsAnswer}
use Rattle.ng_check.specs.Queries.{Query}
use Rattle.ng_check.specs.Readings.{Goes, Reads}
use Rattle.ng_check.specs.declared.fault.BadPointer.{BadPointer}
use Rattle.ng_check.specs.declared.fault.Found.{Found}
use Rattle.ng_check.proofs.Loading.{leaves_loads}

-- a query that a call begins with
abbrev pub asked : ℕ → ℕ → ℕ → List (ℕ × ℕ) → Query
asked pages secret addr cells = record { pages = pages; secret = secret; addr = addr; cells = cells }

module _ (key : Start) (pages secret addr n : ℕ) (first last : Query) (hand after : Caller) (is : first ≡ asked pages secret addr []) (goes : Goes key n first hand last after) where
  fresh : Reads key hand (asked pages secret addr []) hand
  fresh = record {
    view = refl;
    once = λ a. omega arith;
    told = λ a x there. absurd there;
    book = record { number = refl; spare = refl; entries = refl };
  }

  pub reads : Reads key hand last after
  reads = goes.reads hand (subst (λ q. Reads key hand q hand) (sym is) fresh)

  pub is_asked : last ≡ asked pages secret addr last.cells
  is_asked = goes.grows.same ∙ ap (λ (q : Query). record q { cells = last.cells }) is

  pub checks_of : (result : Result Found BadPointer) → IsAnswer last result → Checks pages secret addr hand.view result after.view
  checks_of result answer = record {
    cells = last.cells;
    view = reads.view;
    once = reads.once;
    answer = subst (λ q. IsAnswer q result) is_asked answer;
  }

  pub leaves_of : LeavesAll hand.view after.view
  leaves_of = subst (λ w. LeavesAll hand.view w) (sym reads.view) (leaves_loads hand.view last.cells)

  pub book_of : KeepsBook hand after
  book_of = reads.book
