use Rattle.std.proofs.Common.{◌≡◌, ◌∷◌, [], ℕ, suc, List, length, refl, sym, ap, subst, ◌∙◌, arith}
use Rattle.std.specs.Vec.Iter.{into_iter_items}
use Rattle.ng_history.specs.Book.{Shown}
use Rattle.ng_space.specs.Blanks.{rooms_of, fresh_books}
use Rattle.ng_space.specs.Callers.{Caller, fresh_callers, opened}
use Rattle.ng_view.specs.Lists.{Among}
use Rattle.ng_view.specs.Steps.{opener}
use Rattle.ng_view.specs.declared.view.Start.{Start}
use Rattle.ng_view.specs.declared.view.View.{View}
use Rattle.ng_space.proofs.Opening.{Opening, next_book, opens_first, opens_next_hand, opens_last, length-snoc}
use Rattle.ng_space.proofs.space.Space.open.Goals as goal

nothing_left : {X : Type 0} (l : List X) → length l ≡ 0 → l ≡ []
nothing_left [] h = refl
nothing_left (x ∷ xs) h = absurd (omega arith)

rooms : (books rest : List Shown) (rs : List ℕ) → rest ≡ books → rooms_of books ≡ rs → rooms_of rest ≡ rs
rooms books rest rs e f = ap rooms_of e ∙ f

-- the lock's seat has the number of all hands
the_lock : (key : Start) (count : ℕ) (all made : List ℕ) (v : View) (hands : List Caller) (rest : List Shown) → Opening key all v hands rest → rest ≡ [] → all ≡ made → length made ≡ count → v ≡ opened key count
the_lock key count all made v hands rest o none same many = (opens_last key all v hands rest o none).0 ∙ ap (λ rs. opened key (length rs)) same ∙ ap (opened key) many

length-rooms : (books : List Shown) → length (rooms_of books) ≡ length books
length-rooms [] = refl
length-rooms (b ∷ books) = ap suc (length-rooms books)

pub loop-book-init : goal.loop-book-init
loop-book-init g c =
    let blank = c.blank in
    let books = c.into_iter-book-iterator.ensures.into_iter_gives in
    let rest : List Shown = into_iter_items c.into_iter-book-iterator.result in
    let start = ap (λ b. b.start) blank.view_is ∙ c.requires.start in
    let len : length rest ≡ length blank.inside.books.items = ap length books.0 in (
      opens_first g.N.Name.facts.start blank.inside.seat.me.0 c.in-Ok.hands.items rest (ap (λ me. me.0) blank.invariant.first ∙ ap opener start) c.in-Ok.ensures.items
          (subst (λ (bs : List Shown). bs ≡ fresh_books 1 (rooms_of bs)) (sym books.0) blank.invariant.fresh)
          (let few = blank.invariant.few in omega arith),
      blank.invariant.fits ∙ ap (λ b. b.table) blank.view_is ∙ c.requires.table,
      ap (λ me. me.1) blank.invariant.first,
      books.1 ∙ blank.inside.books.ok.0 ∙ sym len,
      (let none : length c.in-Ok.hands.items ≡ 0 = ap length c.in-Ok.ensures.items in let room = c.in-Ok.ensures.capacity in let count = c.len.ensures in let ok = blank.inside.books.ok.0 in omega arith),
    )

pub next_hand-requires-clause-fits : goal.next_hand-requires-clause-fits
next_hand-requires-clause-fits g c = c.loop-book.invariant.1

pub next_hand-requires-clause-leads : goal.next_hand-requires-clause-leads
next_hand-requires-clause-leads g c = ap (λ (v : View). v.leads) c.loop-book.invariant.0.lock

pub next_hand-requires-clause-next : goal.next_hand-requires-clause-next
next_hand-requires-clause-next g c =
    let o = subst (Opening _ _ _ _) c.in-Some.ensures.steps.0 c.loop-book.invariant.0 in
    ap (λ (v : View). v.desk.next) o.lock ∙ sym (next_book _ _ _ o.fresh).0

pub next_hand-requires-clause-fresh : goal.next_hand-requires-clause-fresh
next_hand-requires-clause-fresh g c =
    let o = subst (Opening _ _ _ _) c.in-Some.ensures.steps.0 c.loop-book.invariant.0 in
    (next_book _ _ _ o.fresh).1

pub loop-book-preserved : goal.loop-book-preserved
loop-book-preserved g c =
    let at = c.loop-book in
    let steps = c.in-Some.ensures.steps in
    let o = subst (Opening _ _ _ _) steps.0 at.invariant.0 in
    let lock = c.next_hand.ensures.lock in
    let pushed = c.push_reserved.ensures in
    let hand = c.next_hand.ensures.hand in (
      opens_next_hand _ _ _ _ _ _ _ _ _ o (ap (λ me. me.0) lock) hand pushed.items,
      c.next_hand.ensures.table ∙ at.invariant.1,
      ap (λ me. me.1) lock ∙ at.invariant.2,
      (let was = at.invariant.3 in let gone = steps.1 in let short = ap length steps.0 in omega arith),
      (let more = ap length pushed.items in let one = length-snoc at.hands.items c.next_hand.result in let short = ap length steps.0 in let room = at.invariant.4 in let same = pushed.capacity in omega arith),
    )

pub invariant_of-lock : goal.invariant_of-lock
invariant_of-lock g c =
    let at = c.loop-book in let blank = c.blank.invariant in
    let lock = the_lock g.N.Name.facts.start _ _ _ at.seat.me.0 _ _ at.invariant.0 (nothing_left _ (sym at.invariant.3 ∙ c.in-None.ensures.steps.0))
    (rooms c.blank.inside.books.items _ _ c.into_iter-book-iterator.ensures.into_iter_gives.0 (ap (λ b. b.rooms) c.blank.view_is)) c.requires.hands in record {
      fits = at.invariant.1;
      no_slots = at.invariant.2;
      leads = ap (λ (v : View). v.leads) lock;
      whole = ap (λ (v : View). v.parcel) lock;
      bookless = ap (λ (v : View). v.books) lock;
      none_sent = ap (λ (v : View). v.sent) lock;
      none_taken = ap (λ (v : View). v.taken) lock;
      moving = λ h there. elim (subst (λ (v : View). Among h v.held) lock there) [ ];
      placed = λ h there. elim (subst (λ (v : View). Among h v.desk.groups) lock there) [ ];
      standing = λ h there. elim (subst (λ (v : View). Among h v.held) lock there) [ ];
      carrying = λ n there. elim (subst (λ (v : View). Among n v.desk.layout.nests) lock there) [ ];
      next = ap (λ (v : View). v.desk.next) lock;
      few = (let few = blank.few in let all = c.requires.hands in let rooms = ap (λ b. length b.rooms) c.blank.view_is in let same = length-rooms c.blank.inside.books.items in omega arith);
      cleared = blank.cleared;
      roomy = blank.shelf_room;
    }

pub returns-clause-lock : goal.returns-clause-lock
returns-clause-lock g c =
    let at = c.loop-book in
    the_lock g.N.Name.facts.start _ _ _ at.seat.me.0 _ _ at.invariant.0 (nothing_left _ (sym at.invariant.3 ∙ c.in-None.ensures.steps.0))
    (rooms c.blank.inside.books.items _ _ c.into_iter-book-iterator.ensures.into_iter_gives.0 (ap (λ b. b.rooms) c.blank.view_is)) c.requires.hands

pub returns-clause-hands : goal.returns-clause-hands
returns-clause-hands g c =
    let at = c.loop-book in
    let none = nothing_left _ (sym at.invariant.3 ∙ c.in-None.ensures.steps.0) in
    (opens_last _ _ _ _ _ at.invariant.0 none).1 ∙ ap (fresh_callers 1) (rooms c.blank.inside.books.items _ _ c.into_iter-book-iterator.ensures.into_iter_gives.0 (ap (λ b. b.rooms) c.blank.view_is))
