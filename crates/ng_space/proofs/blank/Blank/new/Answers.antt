use Rattle.std.proofs.Common.{subst, sym, ◌∙◌, ap, List, ℕ, ◌∷◌, [], length, ◌≤◌, ◌*◌}
use Rattle.std.proofs.lemmas.List.{length-replicate}
use Rattle.ng_view.specs.Rule.{Rule}
use Rattle.ng_view.specs.Steps.{opener}
use Rattle.ng_rule.proofs.hand.Open.{opens}
use Rattle.ng_space.specs.Blanks.{fresh_books, rooms_of}
use Rattle.ng_space.proofs.Books.{rooms_of-fresh, length-fresh}
use Rattle.ng_space.proofs.blank.Blank.new.Goals as goal

pub of_words-requires : goal.of_words-requires
of_words-requires c = subst (λ (l : List ℕ). Rule c.args.start l (opener c.args.start ∷ [])) (sym (c.as_slice.ensures.value ∙ c.in_ok-words.ensures)) (opens c.args.start c.requires.start)

pub invariant_of-result : goal.invariant_of-result
invariant_of-result c =
    let made = c.in-Ok.ensures in let books = c.in_ok-books.ensures in let shelf = c.in_ok-shelf.ensures in record {
      words = made.0 ∙ ap length (c.as_slice.ensures.value ∙ c.in_ok-words.ensures) ∙ length-replicate {A = ℕ} (1024 * c.args.start.pages) 0;
      slots = made.1;
      key = made.5;
      range = c.requires.start;
      fits = made.2;
      first = made.4;
      fresh = books ∙ ap (fresh_books 1) (sym (ap rooms_of books ∙ rooms_of-fresh 1 c.args.rooms.now));
      few = subst (λ (n : ℕ). n ≤ 16) (sym (ap length books ∙ length-fresh 1 c.args.rooms.now)) c.requires.few;
      cleared = shelf.empty;
      shelf_room = shelf.room;
    }

pub returns-in-Ok-clause-rooms : goal.returns-in-Ok-clause-rooms
returns-in-Ok-clause-rooms c = ap rooms_of c.in_ok-books.ensures ∙ rooms_of-fresh 1 c.args.rooms.now
