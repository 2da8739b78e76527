-- Hands are split off the lock's seat one by one.
use Rattle.std.proofs.Common.{◌≡◌, ℕ, suc, ◌+◌, ◌≤◌, List, [], ◌∷◌, ◌++◌, length, refl, sym, ap, ◌∙◌, subst, append_assoc, append-nil, arith}
use Rattle.ng_history.specs.Book.{Shown}
use Rattle.ng_view.specs.declared.view.View.{View}
use Rattle.ng_view.specs.declared.view.Start.{Start}
use Rattle.ng_view.specs.Steps.{opener, fresh_hand, next_hand}
use Rattle.ng_space.specs.Blanks.{rooms_of, fresh_books}
use Rattle.ng_space.specs.Callers.{Caller, fresh_caller, fresh_callers, opened}

-- the hands are split off, and the rest of the books is to come
pub record Opening (key : Start) (rooms : List ℕ) (v : View) (hands : List Caller) (rest : List Shown) : Type 0 where
  pub lock : v ≡ opened key (length hands)
  pub fresh : rest ≡ fresh_books (1 + length hands) (rooms_of rest)
  pub all : hands ++ fresh_callers (1 + length hands) (rooms_of rest) ≡ fresh_callers 1 rooms
  pub few : length hands + length rest ≤ 16

pub length-snoc : {A : Type 0} (xs : List A) (x : A) → length (xs ++ x ∷ []) ≡ length xs + 1
length-snoc [] x = refl
length-snoc (y ∷ xs) x = ap suc (length-snoc xs x) ∙ (let e : suc (length xs + 1) ≡ suc (length xs) + 1 = omega arith in e)

-- the first view, with another number for the next hand
abbrev at_next : Start → ℕ → View
at_next key k = let first : View = opener key in record first { desk = record first.desk { next = k } }

-- before the first hand
pub opens_first : (key : Start) (v : View) (hands : List Caller) (rest : List Shown) → v ≡ opener key → hands ≡ [] → rest ≡ fresh_books 1 (rooms_of rest) → length rest ≤ 16 → Opening key (rooms_of rest) v hands rest
opens_first key v hands rest first none fresh few = subst (λ hs. Opening key (rooms_of rest) v hs rest) (sym none) (record { lock = first; fresh = fresh; all = refl; few = (let f : 0 + length rest ≤ 16 = omega arith in f) })

-- behind the last
pub opens_last : (key : Start) (rooms : List ℕ) (v : View) (hands : List Caller) (rest : List Shown) → Opening key rooms v hands rest → rest ≡ [] → (v ≡ opened key (length rooms)) × (hands ≡ fresh_callers 1 rooms)
opens_last key rooms v hands rest o none =
    let last : Opening key rooms v hands [] = subst (Opening key rooms v hands) none o in
    let all : hands ≡ fresh_callers 1 rooms = sym (append-nil hands) ∙ last.all in
    (last.lock ∙ ap (opened key) (ap length all ∙ length-callers 1 rooms), all)
  where
    length-callers : (n : ℕ) (rooms : List ℕ) → length (fresh_callers n rooms) ≡ length rooms
    length-callers n [] = refl
    length-callers n (r ∷ rooms) = ap suc (length-callers (n + 1) rooms)

-- the next book's number, and that it is fresh
pub next_book : (n : ℕ) (b : Shown) (rest : List Shown) → b ∷ rest ≡ fresh_books n (rooms_of (b ∷ rest)) → (b.number ≡ n) × (b.entries ≡ []) × (rest ≡ fresh_books (n + 1) (rooms_of rest))
next_book n b rest e = (ap (λ bs. head_number n bs) e, ap head_entries e, ap tail_of e)
  where
    head_number : ℕ → List Shown → ℕ
    head_number n [] = n
    head_number n (b ∷ bs) = b.number

    head_entries : List Shown → List Rattle.ng_terms.specs.declared.entry.Entry.Entry
    head_entries [] = []
    head_entries (b ∷ bs) = b.entries

    tail_of : List Shown → List Shown
    tail_of [] = []
    tail_of (b ∷ bs) = bs

one_more : (key : Start) (rooms : List ℕ) (v w : View) (hands : List Caller) (b : Shown) (rest : List Shown) (hand : Caller)
    → Opening key rooms v hands (b ∷ rest) → w ≡ next_hand v → hand ≡ record { view = fresh_hand b.number; number = b.number; spare = b.spare; entries = [] }
    → Opening key rooms w (hands ++ hand ∷ []) rest
one_more key rooms v w hands b rest hand o is made =
    let next = next_book (1 + length hands) b rest o.fresh in
    let more : length (hands ++ hand ∷ []) ≡ length hands + 1 = length-snoc hands hand in
    let count : 1 + length hands + 1 ≡ 1 + length (hands ++ hand ∷ []) = omega arith in
    let caller : hand ≡ fresh_caller (1 + length hands) b.spare = made ∙ ap (λ n. fresh_caller n b.spare) next.0 in record {
      lock = is ∙ ap next_hand o.lock ∙ ap (at_next key) count;
      fresh = next.2 ∙ ap (λ n. fresh_books n (rooms_of rest)) count;
      all = append_assoc hands (hand ∷ []) _
          ∙ ap (λ h. hands ++ h ∷ fresh_callers (1 + length (hands ++ hand ∷ [])) (rooms_of rest)) caller
          ∙ ap (λ n. hands ++ fresh_caller (1 + length hands) b.spare ∷ fresh_callers n (rooms_of rest)) (sym count)
          ∙ o.all;
      few = (let f = o.few in omega arith);
    }

-- a hand is split off for the next book
pub opens_next_hand : (key : Start) (rooms : List ℕ) (v w : View) (hands more : List Caller) (b : Shown) (rest : List Shown) (hand : Caller)
    → Opening key rooms v hands (b ∷ rest) → w ≡ next_hand v → hand ≡ record { view = fresh_hand b.number; number = b.number; spare = b.spare; entries = [] } → more ≡ hands ++ hand ∷ []
    → Opening key rooms w more rest
opens_next_hand key rooms v w hands more b rest hand o is made pushed = subst (λ hs. Opening key rooms w hs rest) (sym pushed) (one_more key rooms v w hands b rest hand o is made)
