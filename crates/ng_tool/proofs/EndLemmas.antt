-- How a run ends: what the close of its heap and the replies tell together.
use Rattle.std.proofs.Common.{◌≡◌, ℕ, zero, suc, ◌<◌, ◌≤◌, max, Bool, false, List, [], ◌∷◌, ◌++◌, length, refl, sym, ap, ◌∙◌, subst, inl, inr, ⊎_elim, arith}
use Rattle.std.specs.Prelude.{All, Option, sum_by}
use Rattle.std.proofs.lemmas.Bool.{cases_lt}
use Rattle.std.proofs.lemmas.List.Elements.{All-head, All-tail}
use Rattle.ng_space.specs.Leaving.{AreFramed}
use Rattle.ng_group.specs.Opening.{Empty, IsFreshMapper, IsHandedBack}
use Rattle.ng_history.specs.Book as book
use Rattle.ng_mapper.specs.Mapping.{Span}
use Rattle.ng_mapper.specs.Runs as mapper
use Rattle.ng_mapper.specs.declared.refusals.Refusals.{Refusals}
use Rattle.ng_replay.specs.Books.{AreAllFramed, AreBooks, hand_at}
use Rattle.ng_replay.specs.Serving.{IsCapOf, counts_of}
use Rattle.ng_replay.proofs.ClosingLemmas.{account_closed, books_of_hands}
use Rattle.ng_space.specs.Blanks.{BlankHeap}
use Rattle.ng_space.specs.Callers.{Caller}
use Rattle.ng_space.specs.Closings.{HasOwnBook, IsClosed, books_of, views_of}
use Rattle.ng_space.specs.Names.{Facts}
use Rattle.ng_space.proofs.Gathering.{views}
use Rattle.ng_terms.specs.Accounts.{Account, Counts, IsAsked, IsMostBound, pages_for}
use Rattle.ng_terms.specs.Calls.{Fits}
use Rattle.ng_terms.specs.Reports.{report}
use Rattle.ng_terms.specs.declared.entry.Entry.{Entry}
use Rattle.ng_terms.specs.declared.plan.Plan.{Plan}
use Rattle.ng_terms.specs.declared.reply.Mode.{Mode}
use Rattle.ng_terms.specs.declared.reply.Reply.{Reply}
use Rattle.ng_view.specs.Lists.{Among}
use Rattle.ng_view.specs.declared.view.Book.{Book}
use Rattle.ng_view.specs.declared.view.View.{View}
use Rattle.ng_tool.specs.Closed.{IsImageOf, IsLawfulOf, entries_of, number_at, program_secret}
use Rattle.ng_tool.specs.Opened.{IsFreshOver, IsNamed, counts_at, span_at}
use Rattle.ng_tool.specs.Tool.{Runs, Writes}
use Rattle.ng_tool.specs.declared.closed.Closed.{Closed}
use Rattle.ng_tool.proofs.UnrefusedLemmas.{replies_unrefused}
use Rattle.ng_words.specs.declared.status.Status.{Status}

-- the entries of the hands' books are those of the hands
entries-books : (hands : List Caller) → entries_of (books_of hands) ≡ books_of_hands hands
entries-books [] = refl
entries-books (hand ∷ hands) = ap (λ (books : List (List Entry)). hand.entries ∷ books) (entries-books hands)

-- what holds of all is so of each
pub each_view : (P : View → Type 0) (vs : List View) → All P vs → (u : View) → Among u vs → P u
each_view P [] all u there = absurd there
each_view P (v ∷ vs) all u (inl same) = subst P (sym same) (All-head P v vs all)
each_view P (v ∷ vs) all u (inr there) = each_view P vs (All-tail P v vs all) u there

-- a view of one of the hands is framed
framed_view : (hands : List Caller) (u : View) → AreAllFramed hands → Among u (views hands) → AreFramed u
framed_view [] u framed there = elim there [ ]
framed_view (hand ∷ hands) u framed (inl same) =
    subst AreFramed (sym same) (All-head (λ (h : Caller). AreFramed h.view) hand hands framed)
framed_view (hand ∷ hands) u framed (inr there) =
    framed_view hands u (All-tail (λ (h : Caller). AreFramed h.view) hand hands framed) there

-- and it has one book
pub booked_view : (hands : List Caller) (u : View) → All HasOwnBook hands → Among u (views hands) → (b : Book) × (u.books ≡ b ∷ [])
booked_view [] u own there = elim there [ ]
booked_view (hand ∷ hands) u own (inl same) =
    (record { number = hand.number; entries = hand.entries }, subst (λ (v : View). v.books ≡ record { number = hand.number; entries = hand.entries } ∷ []) (sym same) (All-head HasOwnBook hand hands own))
booked_view (hand ∷ hands) u own (inr there) = booked_view hands u (All-tail HasOwnBook hand hands own) there

-- ---- the most refused pages are bounded as an account wants it
most_of_cap : (plan : Plan) (mode : Mode) (cap before now : ℕ) → IsCapOf cap plan mode → now ≤ max before (max 512 (pages_for cap)) → IsMostBound plan mode before now
most_of_cap plan mode cap before now is most = ⊎_elim
    (λ (none : cap ≡ 0). inl (omega (arith, none)))
    (λ (asked : IsAsked plan mode cap). ⊎_elim
    (λ (more : max before 512 < now). inr (cap, asked, omega arith))
    (λ (few : now ≤ max before 512). inl few)
    (cases_lt (max before 512) now))
    is.asked

-- ---- the books handed back are numbered by the logs
numbers-books : (hands : List Caller) (log : ℕ) → log < length hands → number_at (books_of hands) log ≡ (hand_at hands log).number
numbers-books [] log below = absurd (omega arith)
numbers-books (hand ∷ hands) zero below = refl
numbers-books (hand ∷ hands) (suc log) below = numbers-books hands log (omega arith)

-- ---- the words that a heap left are an image that goes with the history of its views
module _ (facts : Facts) (lock : View) (hands : List Caller) (span : Span) (live : List mapper.Run) (refused : Refusals) (words : List ℕ) where
  abbrev pub lawful_closed : facts.start.secret ≡ program_secret → (closed : IsClosed facts.start words lock hands)
      → IsHandedBack facts lock span live refused → IsLawfulOf program_secret (span_at facts.start) words live closed.history.calls
  lawful_closed secret closed left = record {
    start = facts.start;
    secret_is = secret;
    pages_are = refl;
    lower_is = refl;
    upper_is = refl;
    lock = lock;
    hands = views hands;
    leads = left.leads;
    slots = closed.slots;
    lawful = closed.words;
    known = closed.knowledge;
    classes = closed.classes;
    used = closed.runs;
    blank = closed.free;
    mapped = left.mapped;
    still = left.still;
    whole = each_view (λ (view : View). view.parcel ≡ false) (views_of lock hands) closed.whole;
    booked = λ u there. booked_view hands u closed.own there;
    blocks_are = closed.history.live;
  }

  abbrev image_closed : facts.start.secret ≡ program_secret → (closed : IsClosed facts.start words lock hands) → AreAllFramed hands
      → IsHandedBack facts lock span live refused → IsImageOf program_secret (span_at facts.start) words live closed.history.calls
  image_closed secret closed framed left = record {
    lawful = lawful_closed secret closed left;
    framed = λ u there. framed_view hands u framed there;
  }

-- ---- a run whose heap was closed
module _ {X : Type 0} (span : X → Span) (runs : X → List mapper.Run) (refused : X → Refusals) (plan : Plan) (mode : Mode) (calls_shown : Bool) (facts : Facts)
    (lock : View) (hands : List Caller) (ended back : X) (heap : Closed) where
  -- the account of the replies and books, and the image over its history
  abbrev IsTold : List (List Reply) → List (List Entry) → Type 0
  IsTold replies books = (account : Account plan mode replies books facts.start.pages (counts_at facts) (counts_of (refused back)))
      × IsImageOf program_secret (span_at facts.start) heap.image.words (runs back) account.history

  pub runs_closed : (replies : List (List Reply)) → facts.start.secret ≡ program_secret → IsCapOf facts.start.cap plan mode
      → back ≡ ended → heap.image.pages ≡ facts.start.pages
      → Fits plan mode replies → AreBooks plan mode replies hands → AreAllFramed hands
      → IsClosed facts.start heap.image.words lock hands → IsHandedBack facts lock (span ended) (runs ended) (refused ended)
      → heap.books ≡ books_of hands → heap.replies ≡ replies
      → (closed_before closed : List Closed) → closed_before ≡ [] → closed ≡ closed_before ++ heap ∷ []
      → (text_before text : List ℕ) (shown : List (List Reply)) (pages : ℕ) → text_before ≡ [] → text ≡ text_before ++ report plan mode calls_shown shown pages
      → shown ≡ replies → pages ≡ sum_by (λ run. run.1) (runs back)
      → Runs plan mode calls_shown (span_at facts.start) (counts_at facts) (counts_of (refused back)) (runs back) closed text
  runs_closed replies secret cap same image_pages fits books framed ends left books_are replies_are
      closed_before closed none closed_is text_before text shown pages no_text text_is shown_is pages_are =
      let left_back : IsHandedBack facts lock (span back) (runs back) (refused back) =
      subst (λ (m : X). IsHandedBack facts lock (span m) (runs m) (refused m)) (sym same) left in
      let told : IsTold replies (books_of_hands hands) = (
        account_closed plan mode replies facts.start lock hands (counts_at facts) (counts_of (refused back)) fits books ends.words.lawful.range
            ends.history ends.excuses left_back.leads left_back.bookless ends.own refl left_back.counted
            (most_of_cap plan mode facts.start.cap facts.most (refused back).most cap left_back.most),
        image_closed facts lock hands (span back) (runs back) (refused back) heap.image.words secret ends framed left_back,
      ) in
      let entries_are : entries_of heap.books ≡ books_of_hands hands = ap entries_of books_are ∙ entries-books hands in
      let told_heap : IsTold heap.replies (entries_of heap.books) =
      subst (λ (rs : List (List Reply)). IsTold rs (entries_of heap.books)) (sym replies_are)
      (subst (λ (es : List (List Entry)). IsTold replies es) (sym entries_are) told) in
      let reported : text ≡ report plan mode calls_shown heap.replies (sum_by (λ (run : mapper.Run). run.1) (runs back)) =
      text_is ∙ ap (λ (t : List ℕ). t ++ report plan mode calls_shown shown pages) no_text
      ∙ ap (λ (rs : List (List Reply)). report plan mode calls_shown rs pages) (shown_is ∙ sym replies_are)
      ∙ ap (λ (n : ℕ). report plan mode calls_shown heap.replies n) pages_are in record {
        heap = heap;
        one = closed_is ∙ ap (λ (before : List Closed). before ++ heap ∷ []) none;
        pages = image_pages;
        numbers = λ log below. ap (λ (bs : List book.Shown). number_at bs log) books_are
            ∙ numbers-books hands log (omega (arith, books.count)) ∙ books.numbers log below;
        account = told_heap.0;
        image = told_heap.1;
        reported = reported;
        unrefused = λ same. replies_unrefused plan mode heap.replies (entries_of heap.books) facts.start.pages (counts_at facts) (counts_of (refused back)) told_heap.0 same;
      }

-- ---- the mapper that a heap was opened over, and the one that it hands back
-- the heap's memory gets its name, over a mapper that has no run yet
pub named : (span : Span) (live : List mapper.Run) (refused : Refusals) (blank : BlankHeap) (tables : Empty) (hands : ℕ) → live ≡ []
    → IsFreshOver span refused blank tables → IsNamed (record { table = blank.table; start = blank.start; hands = hands; most = refused.most }) span live refused blank tables
named span live refused blank tables hands none fresh = record {
  table = refl;
  start = refl;
  secret = fresh.start.secret;
  empty = fresh.empty;
  mapper = record {
    lower = ap (λ (s : Span). s.lower) (sym fresh.start.span_is);
    upper = ap (λ (s : Span). s.upper) (sym fresh.start.span_is);
    size = ap (λ (s : Span). s.size) (sym fresh.start.span_is);
    none = none;
    count = sym fresh.start.refusals;
  };
  most = refl;
}

pub span_left : (facts : Facts) (lock : View) (span : Span) (live : List mapper.Run) (refused : Refusals) → IsHandedBack facts lock span live refused → span ≡ span_at facts.start
span_left facts lock span live refused left =
    let lower = left.lower in let upper = left.upper in let size = left.size in λ i. record { lower = lower i; upper = upper i; size = size i }

pub span_opened : (facts : Facts) (span : Span) (live : List mapper.Run) (refused : Refusals) → IsFreshMapper facts.start span live refused → span ≡ span_at facts.start
span_opened facts span live refused fresh =
    let lower = fresh.lower in let upper = fresh.upper in let size = fresh.size in λ i. record { lower = lower i; upper = upper i; size = size i }

pub counts_opened : (facts : Facts) (span : Span) (live : List mapper.Run) (refused : Refusals) → IsFreshMapper facts.start span live refused → refused.most ≡ facts.most → counts_of refused ≡ counts_at facts
counts_opened facts span live refused fresh most =
    let count = fresh.count in λ i. record { refusals = count i; most = most i }

-- how a run ends, told by the mapper that its heap was opened over
pub ends_opened : (plan : Plan) (mode : Mode) (calls_shown : Bool) (facts : Facts) (span : Span) (before live : List mapper.Run) (refused : Refusals) (now : Counts)
    (closed : List Closed) (written written' : Option (List ℕ)) (status : Status) → IsFreshMapper facts.start span before refused → refused.most ≡ facts.most
    → Writes (Runs plan mode calls_shown (span_at facts.start) (counts_at facts) now live closed) written written' status
    → Writes (Runs plan mode calls_shown span (counts_of refused) now live closed) written written' status
ends_opened plan mode calls_shown facts span before live refused now closed written written' status fresh most ends =
    subst (λ (s : Span). Writes (Runs plan mode calls_shown s (counts_of refused) now live closed) written written' status) (sym (span_opened facts span before refused fresh))
    (subst (λ (c : Counts). Writes (Runs plan mode calls_shown (span_at facts.start) c now live closed) written written' status)
    (sym (counts_opened facts span before refused fresh most)) ends)
