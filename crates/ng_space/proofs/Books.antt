-- Books that were just opened.
use Rattle.std.proofs.Common.{◌≡◌, ℕ, suc, ◌+◌, List, [], ◌∷◌, ◌++◌, length, ◌<◌, refl, ap, ◌∙◌, sym, arith, add-one}
use Rattle.std.proofs.Math.ListN.{take}
use Rattle.std.proofs.Math.Seq.{take-suc}
use Rattle.std.proofs.lemmas.List.{length-take-le}
use lib.ListN.{get_or}
use Rattle.ng_history.specs.Book.{Shown}
use Rattle.ng_space.specs.Blanks.{fresh_books, rooms_of}

-- one more book comes behind them
pub fresh_books-snoc : (n : ℕ) (rooms : List ℕ) (room : ℕ) → fresh_books n (rooms ++ room ∷ []) ≡ fresh_books n rooms ++ record { number = n + length rooms; spare = room; entries = [] } ∷ []
fresh_books-snoc n [] room = ap (λ k. record { number = k; spare = room; entries = [] } ∷ []) (let e : n ≡ n + 0 = omega arith in e)
fresh_books-snoc n (r ∷ rooms) room = ap (λ books. record { number = n; spare = r; entries = [] } ∷ books) (fresh_books-snoc (n + 1) rooms room ∙ ap (λ k. fresh_books (n + 1) rooms ++ record { number = k; spare = room; entries = [] } ∷ []) (let e : n + 1 + length rooms ≡ n + suc (length rooms) = omega arith in e))

-- and their rooms are the rooms
pub rooms_of-fresh : (n : ℕ) (rooms : List ℕ) → rooms_of (fresh_books n rooms) ≡ rooms
rooms_of-fresh n [] = refl
rooms_of-fresh n (r ∷ rooms) = ap (λ rs. r ∷ rs) (rooms_of-fresh (n + 1) rooms)

pub length-fresh : (n : ℕ) (rooms : List ℕ) → length (fresh_books n rooms) ≡ length rooms
length-fresh n [] = refl
length-fresh n (r ∷ rooms) = ap suc (length-fresh (n + 1) rooms)

-- the loop that opens books opens the next one
pub opens_next : (rooms : List ℕ) (i : ℕ) (books : List Shown) (b : Shown) → i < length rooms → books ≡ fresh_books 1 (take i rooms) → b.number ≡ i + 1 → b.spare ≡ get_or rooms i 0 → b.entries ≡ [] → books ++ b ∷ [] ≡ fresh_books 1 (take (i + 1) rooms)
opens_next rooms i books b more so_far number spare entries =
    let count : length (take i rooms) ≡ i = length-take-le i rooms (omega arith) in
    let is : b ≡ record { number = 1 + length (take i rooms); spare = get_or rooms i 0; entries = [] } = same_book b (1 + length (take i rooms)) (get_or rooms i 0) (let n : b.number ≡ i + 1 = number in omega arith) spare entries in
    let next : take (i + 1) rooms ≡ take i rooms ++ get_or rooms i 0 ∷ [] = rw add-one (take-suc rooms i 0 more) in
    ap (λ bs. bs ++ b ∷ []) so_far ∙ ap (λ x. fresh_books 1 (take i rooms) ++ x ∷ []) is ∙ sym (fresh_books-snoc 1 (take i rooms) (get_or rooms i 0)) ∙ ap (fresh_books 1) (sym next)
  where
    same_book : (b : Shown) (n room : ℕ) → b.number ≡ n → b.spare ≡ room → b.entries ≡ [] → b ≡ record { number = n; spare = room; entries = [] }
    same_book b n room e f g = λ k. record { number = e k; spare = f k; entries = g k }
