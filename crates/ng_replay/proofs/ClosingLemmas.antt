-- What the close of a heap tells of its views, as the account of a run.
use Rattle.std.proofs.Common.{◌≡◌, ℕ, zero, suc, ◌+◌, ◌*◌, ◌<◌, ◌≤◌, eqb, eq-eqb, cond, Bool, true, false, List, [], ◌∷◌, length, map, refl, sym, ap, ◌∙◌, subst, inl, inr, ⊎_elim, arith}
use Rattle.std.specs.Prelude.{All, filter, slice_index_or}
use mathlib.Core.Option.{some}
use lib.ListN.{get_elem?}
use Rattle.std.proofs.lemmas.Bool.{cases_lt}
use Rattle.std.proofs.lemmas.List.{get_or-map, length-map}
use Rattle.std.proofs.lemmas.List.Elements.{All-cons, All-nil}
use Rattle.ng_terms.specs.declared.entry.Entry.{Entry}
use Rattle.ng_terms.specs.declared.entry.Entry.TheVariants.{Give, Take, Resize, NoMemory, TooLarge, BadAlign, Refused}
use Rattle.ng_terms.specs.declared.plan.Plan.{Plan}
use Rattle.ng_terms.specs.declared.reply.Mode.{Mode}
use Rattle.ng_terms.specs.declared.reply.Reply.{Reply}
use Rattle.ng_terms.specs.Accounts.{Account, Counts, IsExcused, IsMostBound, IsOneHistory}
use Rattle.ng_terms.specs.Calls.{Fits}
use Rattle.ng_terms.specs.Heap.{IsLegalStep, Space, State, after, empty, space_of}
use Rattle.ng_terms.specs.Histories.{Event, IsLegalFrom, book_of}
use Rattle.ng_view.specs.Excuses.{Excuses, stands}
use Rattle.ng_view.specs.History.{History, space_between}
use Rattle.ng_view.specs.Layouts.{InRange}
use Rattle.ng_view.specs.Lists.{Among, count_of, excused, total_by}
use Rattle.ng_view.specs.Views.{booked, desk_of, excuse_of, numbered}
use Rattle.ng_view.specs.declared.view.Book.{Book}
use Rattle.ng_view.specs.declared.view.Start.{Start}
use Rattle.ng_view.specs.declared.view.View.{View}
use Rattle.ng_rule.proofs.geometry.Lists.{counted, total_by-among, total_by-one, total_by-some}
use Rattle.ng_space.specs.Callers.{Caller, fresh_caller}
use Rattle.ng_space.specs.Closings.{views_of}
use Rattle.ng_space.proofs.Gathering.{views}
use Rattle.ng_replay.specs.Books.{AreBooks, hand_at}

-- the entries of the hands' books
abbrev pub books_of_hands : List Caller → List (List Entry)
books_of_hands hands = map (λ (hand : Caller). hand.entries) hands

-- ---- what is legal in a space is legal in one around it
module _ (inner outer : Space) (starts : outer.lower ≤ inner.lower) (ends : inner.upper ≤ outer.upper) where
  IsLegalStep-around : (state : State) (entry : Entry) → IsLegalStep inner state entry → IsLegalStep outer state entry
  IsLegalStep-around state (Give n align at) may = record {
    alignment = may.alignment;
    aligned = may.aligned;
    above = omega (arith, may.above);
    below = omega (arith, may.below);
    apart = may.apart;
  }
  IsLegalStep-around state (Take at) lives = lives
  IsLegalStep-around state (Resize at n) may = record { there = may.there; below = omega (arith, may.below); apart = may.apart }
  IsLegalStep-around state (NoMemory n excuse) may = may
  IsLegalStep-around state (TooLarge count size align) is = is
  IsLegalStep-around state (BadAlign align) is = is
  IsLegalStep-around state (Refused at name) is = is

  IsLegalFrom-around : (state : State) (history : List Event) → IsLegalFrom inner state history → IsLegalFrom outer state history
  IsLegalFrom-around state [] legal = tt
  IsLegalFrom-around state (event ∷ later) (step, rest) = (IsLegalStep-around state event.1 step, IsLegalFrom-around (after state event.1) later rest)

-- ---- lists of hands and of events
-- one of the logs of the hands has the property
abbrev IsOfLog : List Caller → (ℕ → Type 0) → Type 0
IsOfLog hands P = (log : ℕ) × (log < length hands) × P log

-- what all elements have
All-among : {X : Type 0} (P : X → Type 0) (xs : List X) → ((x : X) → Among x xs → P x) → All P xs
All-among P [] each = All-nil P
All-among P (x ∷ xs) each = All-cons P x xs (each x (inl refl)) (All-among P xs (λ y there. each y (inr there)))

-- the view of a log's hand
view_at : (hands : List Caller) (log : ℕ) → log < length hands → get_elem? (views hands) log ≡ some (hand_at hands log).view
view_at [] log below = absurd (omega arith)
view_at (hand ∷ hands) zero below = refl
view_at (hand ∷ hands) (suc log) below = view_at hands log (omega arith)

-- a hand's view is that of a log's hand
log_of_view : (hands : List Caller) (u : View) → Among u (views hands) → IsOfLog hands (λ log. u ≡ (hand_at hands log).view)
log_of_view [] u there = elim there [ ]
log_of_view (hand ∷ hands) u (inl same) = (0, omega arith, same)
log_of_view (hand ∷ hands) u (inr there) =
    let rest : IsOfLog hands (λ log. u ≡ (hand_at hands log).view) = log_of_view hands u there in
    (suc rest.0, omega (arith, rest.1), rest.2)

-- the book of a number once the first event is tested for it
abbrev book_behind : ℕ → Event → List Event → Bool → List Entry
book_behind number first later is =
    let rest : List Event = filter (λ (event : Event). eqb event.0 number) later in
    map (λ (event : Event). event.1) (cond is (first ∷ rest) rest)

-- an event's entry is in the book of its number
in_book : (history : List Event) (event : Event) → Among event history → Among event.1 (book_of event.0 history)
in_book [] event there = elim there [ ]
in_book (first ∷ later) event (inl same) =
    let here : Among first.1 (book_of first.0 (first ∷ later)) =
    subst (λ (t : Bool). Among first.1 (book_behind first.0 first later t)) (sym (eq-eqb first.0 first.0 refl)) (inl refl) in
    subst (λ (e : Event). Among e.1 (book_of e.0 (first ∷ later))) (sym same) here
in_book (first ∷ later) event (inr there) =
    let rest : Among event.1 (book_of event.0 later) = in_book later event there in
    elim (eqb first.0 event.0) as (λ (t : Bool). Among event.1 (book_behind event.0 first later t)) [
      | true ↦ inr rest
      | false ↦ rest
    ]

-- over plain numbers: what one entry, its book, its view and all views count
at_least_one : (one own all spare whole : ℕ) → one ≡ 1 → one ≤ own → all ≡ own + 0 → spare + all ≤ whole → 0 < whole
at_least_one one own all spare whole is least same within = omega arith

counts_no_book : (count none : ℕ) → 0 < count → count ≡ none → none ≡ 0 → ⊥
counts_no_book count none some_book same nothing = absurd (omega arith)

-- ---- the one history of the hands' books
module _ (start : Start) (lock : View) (hands : List Caller) (legal : History start (views_of lock hands)) (bookless : lock.books ≡ [])
    (singles : All (λ (hand : Caller). hand.view.books ≡ record { number = hand.number; entries = hand.entries } ∷ []) hands)
    (numbers : (log : ℕ) → log < length hands → (hand_at hands log).number ≡ log + 1) where
  -- the book of a log's hand, which its view has alone
  abbrev own_book : ℕ → Book
  own_book log = record { number = (hand_at hands log).number; entries = (hand_at hands log).entries }

  own_alone : (log : ℕ) → log < length hands → (hand_at hands log).view.books ≡ own_book log ∷ []
  own_alone log below = singles log (fresh_caller 0 0) below

  -- its entries are the events of its number
  book_at : (log : ℕ) → log < length hands → book_of (log + 1) legal.calls ≡ (hand_at hands log).entries
  book_at log below =
      let there : Among (own_book log) (hand_at hands log).view.books = subst (Among (own_book log)) (sym (own_alone log below)) (inl refl) in
      ap (λ (k : ℕ). book_of k legal.calls) (sym (numbers log below))
      ∙ legal.books (suc log) (hand_at hands log).view (view_at hands log below) (own_book log) there

  -- a number of which some view has a book is that of a log's hand
  log_of_number : (k : ℕ) → 0 < total_by (numbered k) (views_of lock hands) → IsOfLog hands (λ log. log + 1 ≡ k)
  log_of_number k some_book =
      let found : (u : View) × Among u (views_of lock hands) × (0 < numbered k u) = total_by-some (numbered k) (views_of lock hands) some_book in
      ⊎_elim (λ (is : found.0 ≡ lock). absurd (of_lock found.0 found.2 is)) (of_hand found.0 found.2) found.1
    where
      of_lock : (u : View) → 0 < numbered k u → u ≡ lock → ⊥
      of_lock u counts is =
          counts_no_book (numbered k u) (numbered k lock) counts (ap (numbered k) is) (ap (total_by (λ (b : Book). count_of (eqb b.number k))) bookless)

      of_hand : (u : View) → 0 < numbered k u → Among u (views hands) → IsOfLog hands (λ log. log + 1 ≡ k)
      of_hand u counts there =
          let at : IsOfLog hands (λ log. u ≡ (hand_at hands log).view) = log_of_view hands u there in
          let one : numbered k u ≡ count_of (eqb (hand_at hands at.0).number k) + 0 =
          ap (numbered k) at.2 ∙ ap (total_by (λ (b : Book). count_of (eqb b.number k))) (own_alone at.0 at.1) in
          let is : (hand_at hands at.0).number ≡ k = counted (hand_at hands at.0).number k (omega (arith, counts, one)) in
          (at.0, at.1, sym (numbers at.0 at.1) ∙ is)

  -- an event's number is that of a log's hand, since the history has no books of others
  log_of_event : (event : Event) → Among event legal.calls → IsOfLog hands (λ log. log + 1 ≡ event.0)
  log_of_event event there = ⊎_elim (log_of_number event.0) none (cases_lt 0 (total_by (numbered event.0) (views_of lock hands)))
    where
      none : total_by (numbered event.0) (views_of lock hands) ≤ 0 → IsOfLog hands (λ log. log + 1 ≡ event.0)
      none low =
          let empty_book : book_of event.0 legal.calls ≡ [] = legal.others event.0 (omega (arith, low)) in
          elim (subst (Among event.1) empty_book (in_book legal.calls event there)) [ ]

  -- and its entry is one of that hand
  in_hand : (event : Event) (log : ℕ) → log < length hands → log + 1 ≡ event.0 → Among event legal.calls
      → Among event.1 (hand_at hands log).entries
  in_hand event log below is there =
      subst (Among event.1) (ap (λ (k : ℕ). book_of k legal.calls) (sym is) ∙ book_at log below) (in_book legal.calls event there)

  pub one_history : InRange start → IsOneHistory (space_of (4096 * start.pages)) (books_of_hands hands) legal.calls
  one_history range = record {
    legal = IsLegalFrom-around (space_between start) (space_of (4096 * start.pages)) range.above range.below empty legal.calls legal.legal;
    each = each;
    numbers = All-among (λ (event : Event). (1 ≤ event.0) × (event.0 ≤ length (books_of_hands hands))) legal.calls numbered_within;
  }
    where
      count : length (books_of_hands hands) ≡ length hands
      count = length-map hands (λ (hand : Caller). hand.entries)

      each : (log : ℕ) → log < length (books_of_hands hands) → book_of (log + 1) legal.calls ≡ slice_index_or (books_of_hands hands) log []
      each log below =
          let within : log < length hands = omega (arith, below, count) in
          book_at log within ∙ sym (get_or-map (λ (hand : Caller). hand.entries) hands log (fresh_caller 0 0) [] within)

      numbered_within : (event : Event) → Among event legal.calls → (1 ≤ event.0) × (event.0 ≤ length (books_of_hands hands))
      numbered_within event there =
          let at : IsOfLog hands (λ log. log + 1 ≡ event.0) = log_of_event event there in
          (omega (arith, at.2), omega (arith, at.1, at.2, count))

  -- ---- its excuses
  module _ (excuses : Excuses start (views_of lock hands)) (leads : lock.leads ≡ true) where
    -- an excuse in a hand's entries stands in the views
    stands_in_hand : (log n excuse : ℕ) → log < length hands → Among (NoMemory n excuse) (hand_at hands log).entries
        → 0 < total_by (stands excuse) (views_of lock hands)
    stands_in_hand log n excuse below there =
        let own : View = (hand_at hands log).view in
        at_least_one
        (excuse_of excuse (NoMemory n excuse))
        (total_by (excuse_of excuse) (hand_at hands log).entries)
        (booked excuse own)
        (excused excuse own.excuses)
        (total_by (stands excuse) (views_of lock hands))
        (ap count_of (eq-eqb excuse excuse refl))
        (total_by-among (excuse_of excuse) (hand_at hands log).entries (NoMemory n excuse) there)
        (ap (total_by (λ (b : Book). total_by (excuse_of excuse) b.entries)) (own_alone log below))
        (total_by-one (stands excuse) (views_of lock hands) (suc log) own (view_at hands log below))

    -- so it lies between the start's refusals and the last number noted
    answered_in_lock : (excuse : ℕ) → 0 < total_by (stands excuse) (views_of lock hands) → (start.refusals < excuse) × (excuse ≤ lock.desk.refusals)
    answered_in_lock excuse stands_somewhere =
        subst
        (λ (t : Bool). (start.refusals < excuse) × (excuse ≤ (cond t lock.desk (desk_of (views hands))).refusals))
        leads
        (excuses.answered excuse stands_somewhere)

    module _ (before now : ℕ) (first : start.refusals ≡ before) (last : lock.desk.refusals ≤ now) where
      is_excused : (event : Event) → Among event legal.calls → IsExcused before now event.1
      is_excused (number, NoMemory n excuse) there =
          let at : IsOfLog hands (λ log. log + 1 ≡ number) = log_of_event (number, NoMemory n excuse) there in
          let told : (start.refusals < excuse) × (excuse ≤ lock.desk.refusals) =
          answered_in_lock excuse (stands_in_hand at.0 n excuse at.1 (in_hand (number, NoMemory n excuse) at.0 at.1 at.2 there)) in
          (omega (arith, told.0, first), omega (arith, told.1, last))
      is_excused (number, Give n align at) there = tt
      is_excused (number, Take at) there = tt
      is_excused (number, Resize at n) there = tt
      is_excused (number, TooLarge count size align) there = tt
      is_excused (number, BadAlign align) there = tt
      is_excused (number, Refused at name) there = tt

      pub all_excused : All (λ (event : Event). IsExcused before now event.1) legal.calls
      all_excused = All-among (λ (event : Event). IsExcused before now event.1) legal.calls is_excused

-- ---- the account, whose history is that of the close
module _ (plan : Plan) (mode : Mode) (replies : List (List Reply)) (start : Start) (lock : View) (hands : List Caller) (before now : Counts) where
  abbrev pub account_closed : Fits plan mode replies → AreBooks plan mode replies hands → InRange start
      → (legal : History start (views_of lock hands)) → Excuses start (views_of lock hands)
      → lock.leads ≡ true → lock.books ≡ [] → All (λ (hand : Caller). hand.view.books ≡ record { number = hand.number; entries = hand.entries } ∷ []) hands
      → start.refusals ≡ before.refusals → lock.desk.refusals ≤ now.refusals → IsMostBound plan mode before.most now.most
      → Account plan mode replies (books_of_hands hands) start.pages before now
  account_closed fits books range legal excuses leads bookless singles first last most =
      let numbers : (log : ℕ) → log < length hands → (hand_at hands log).number ≡ log + 1 =
      λ log below. books.numbers log (omega (arith, below, books.count)) in record {
        fits = fits;
        logs = length-map hands (λ (hand : Caller). hand.entries) ∙ books.count;
        calls = λ log below.
            get_or-map (λ (hand : Caller). hand.entries) hands log (fresh_caller 0 0) [] (omega (arith, below, books.count)) ∙ books.each log below;
        history = legal.calls;
        one = one_history start lock hands legal bookless singles numbers range;
        excuses = all_excused start lock hands legal bookless singles numbers excuses leads before.refusals now.refusals first last;
        most = most;
      }
