-- The lock's seat takes in the hands one by one.
use Rattle.std.proofs.Common.{◌≡◌, ℕ, ◌+◌, ◌<◌, ◌≤◌, true, false, List, [], ◌∷◌, ◌++◌, map, refl, sym, ap, ◌∙◌, subst, inl, inr, append_assoc, append-nil, arith}
use Rattle.std.specs.Prelude.{All}
use Rattle.std.proofs.lemmas.List.Elements.{All-cons, All-nil}
use Rattle.ng_history.specs.Book.{Shown}
use Rattle.ng_view.specs.Lists.{Among, total_by}
use Rattle.ng_view.specs.Steps.{hosting}
use Rattle.ng_view.specs.Views.{no_desk, numbered}
use Rattle.ng_view.specs.declared.view.View.{View}
use Rattle.ng_rule.proofs.geometry.Lists.{total_by-among}
use Rattle.ng_space.specs.Callers.{Caller}
use Rattle.ng_space.specs.Closings.{AreAll, HasOwnBook, IsEven, books_of, views_of}
use Rattle.ng_space.proofs.Entering.{one_number}
use Rattle.ng_space.proofs.Hosting.{hosted, AreDeskless, hosted-snoc, deskless-snoc, hosted-leads, hosted-total, sent-adds, taken-adds}

abbrev pub views : List Caller → List View
views hands = map (λ (hand : Caller). hand.view) hands

-- a hand has its own book alone, and isn't a parcel
pub record IsOwn (hand : Caller) : Type 0 where
  pub book : HasOwnBook hand
  pub whole : hand.view.parcel ≡ false

abbrev pub AreOwn : List Caller → Type 0
AreOwn [] = Unit {0}
AreOwn (h ∷ hs) = IsOwn h × AreOwn hs

-- some hands were taken in, and the rest are to come
pub record Gathering (lock : View) (hands taken rest : List Caller) (v : View) (shelf : List Shown) : Type 0 where
  pub view : v ≡ hosted lock (views taken)
  pub deskless : AreDeskless (views taken)
  pub own : AreOwn taken
  pub all : taken ++ rest ≡ hands
  pub books : shelf ≡ books_of taken

views-snoc : (hs : List Caller) (h : Caller) → views (hs ++ h ∷ []) ≡ views hs ++ h.view ∷ []
views-snoc [] h = refl
views-snoc (x ∷ hs) h = ap (λ vs. x.view ∷ vs) (views-snoc hs h)

books-snoc : (hs : List Caller) (h : Caller) → books_of (hs ++ h ∷ []) ≡ books_of hs ++ record { number = h.number; spare = h.spare; entries = h.entries } ∷ []
books-snoc [] h = refl
books-snoc (x ∷ hs) h = ap (λ bs. record { number = x.number; spare = x.spare; entries = x.entries } ∷ bs) (books-snoc hs h)

own-snoc : (hs : List Caller) (h : Caller) → AreOwn hs → IsOwn h → AreOwn (hs ++ h ∷ [])
own-snoc [] h own one = (one, tt)
own-snoc (x ∷ hs) h own one = (own.0, own-snoc hs h own.1 one)

pub gathers_none : (lock : View) (hands : List Caller) (books : List Shown) → books ≡ [] → Gathering lock hands [] hands lock books
gathers_none lock hands books none = record { view = refl; deskless = tt; own = tt; all = refl; books = none }

pub gathers_one : (lock : View) (hands taken all_rest rest : List Caller) (v w : View) (books more : List Shown) (h : Caller) (b : Shown)
    → Gathering lock hands taken all_rest v books → all_rest ≡ h ∷ rest → w ≡ hosting v h.view → h.view.desk ≡ no_desk → IsOwn h
    → b ≡ record { number = h.number; spare = h.spare; entries = h.entries } → more ≡ books ++ b ∷ [] → Gathering lock hands (taken ++ h ∷ []) rest w more
gathers_one lock hands taken all_rest rest v w books more h b o next is deskless own book pushed = record {
  view = is ∙ ap (λ x. hosting x h.view) o.view ∙ sym (hosted-snoc lock (views taken) h.view) ∙ ap (hosted lock) (sym (views-snoc taken h));
  deskless = subst AreDeskless (sym (views-snoc taken h)) (deskless-snoc (views taken) h.view o.deskless deskless);
  own = own-snoc taken h o.own own;
  all = append_assoc taken (h ∷ []) rest ∙ ap (λ hs. taken ++ hs) (sym next) ∙ o.all;
  books = pushed ∙ ap (λ bs. bs ++ b ∷ []) o.books ∙ ap (λ x. books_of taken ++ x ∷ []) book ∙ sym (books-snoc taken h);
}

-- ---- when all are in
pub record Gathered (lock : View) (hands : List Caller) (v : View) (shelf : List Shown) : Type 0 where
  pub view : v ≡ hosted lock (views hands)
  pub deskless : AreDeskless (views hands)
  pub own : AreOwn hands
  pub books : shelf ≡ books_of hands

pub gathers_all : (lock lock' : View) (hands hands' taken rest : List Caller) (v : View) (books : List Shown) → Gathering lock hands taken rest v books → rest ≡ [] → lock ≡ lock' → hands ≡ hands' → Gathered lock' hands' v books
gathers_all lock lock' hands hands' taken rest v books o none e f =
    let all : taken ≡ hands' = sym (append-nil taken) ∙ ap (λ hs. taken ++ hs) (sym none) ∙ o.all ∙ f in
    subst (λ hs. Gathered lock' hs v books) all (subst (λ l. Gathered l taken v books) e (record { view = o.view; deskless = o.deskless; own = o.own; books = o.books }))

pub still_leads : (lock : View) (hands taken rest : List Caller) (v : View) (books : List Shown) → Gathering lock hands taken rest v books → lock.leads ≡ true → v.leads ≡ true
still_leads lock hands taken rest v books o leads = ap (λ (x : View). x.leads) o.view ∙ hosted-leads lock (views taken) ∙ leads

-- so each has its book
pub own_books : (hs : List Caller) → AreOwn hs → All HasOwnBook hs
own_books [] own = All-nil HasOwnBook
own_books (h ∷ hs) own = All-cons HasOwnBook h hs own.0.book (own_books hs own.1)

-- and no view is a parcel's
whole_hands : (hs : List Caller) → AreOwn hs → All (λ view. view.parcel ≡ false) (views hs)
whole_hands [] own = All-nil (λ view. view.parcel ≡ false)
whole_hands (h ∷ hs) own = All-cons (λ view. view.parcel ≡ false) h.view (views hs) own.0.whole (whole_hands hs own.1)

pub whole_views : (lock : View) (hs : List Caller) → lock.parcel ≡ false → AreOwn hs → All (λ view. view.parcel ≡ false) (views_of lock hs)
whole_views lock hs whole own = All-cons (λ view. view.parcel ≡ false) lock (views hs) whole (whole_hands hs own)

own_number : (hs : List Caller) (h : Caller) → AreOwn hs → Among h hs → numbered h.number h.view ≡ 1
own_number [] h own s = elim s [ ]
own_number (x ∷ hs) h own (inl e) = one_number h.view h.number h.entries (subst HasOwnBook (sym e) own.0.book)
own_number (x ∷ hs) h own (inr s) = own_number hs h own.1 s

among_views : (hs : List Caller) (h : Caller) → Among h hs → Among h.view (views hs)
among_views [] h s = elim s [ ]
among_views (x ∷ hs) h (inl e) = inl (ap (λ (y : Caller). y.view) e)
among_views (x ∷ hs) h (inr s) = inr (among_views hs h s)

total_views : (f : View → ℕ) (hs : List Caller) → total_by f (views hs) ≡ total_by (λ (h : Caller). f h.view) hs
total_views f [] = refl
total_views f (h ∷ hs) = ap (λ (n : ℕ). f h.view + n) (total_views f hs)

-- each number of a hand is there
pub all_numbers : (lock : View) (count : ℕ) (hands : List Caller) → lock.desk.next ≡ 1 + count → AreAll count hands → AreOwn hands → (k : ℕ) → 0 < k → k < lock.desk.next → 1 ≤ total_by (numbered k) (lock ∷ views hands)
all_numbers lock count hands next all own k some_hand below =
    let h = all.each k some_hand (omega arith) in
    let one : numbered k h.0.view ≡ 1 = subst (λ n. numbered n h.0.view ≡ 1) h.2 (own_number hands h.0 own h.1) in
    let there = total_by-among (numbered k) (views hands) h.0.view (among_views hands h.0 h.1) in omega arith

-- and no parcel is out
pub all_even : (lock : View) (hands : List Caller) → IsEven hands → AreDeskless (views hands) → lock.sent ≡ 0 → lock.taken ≡ 0 → (hosted lock (views hands)).sent ≡ (hosted lock (views hands)).taken
all_even lock hands even deskless none_sent none_taken =
    let a = hosted-total (λ v. v.sent) sent-adds lock (views hands) deskless in
    let b = hosted-total (λ v. v.taken) taken-adds lock (views hands) deskless in
    let c = total_views (λ v. v.sent) hands in let d = total_views (λ v. v.taken) hands in omega arith
