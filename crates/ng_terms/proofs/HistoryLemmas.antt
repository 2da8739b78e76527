-- Histories, one event on.
use Rattle.std.proofs.Common.{◌≡◌, ℕ, ◌+◌, Bool, true, false, cond, eqb, eq-eqb, List, [], ◌∷◌, ◌++◌, map, arith, refl, ap, sym, rules, ◌∙◌}
use Rattle.std.specs.Prelude.{filter, fold}
use Rattle.std.proofs.lemmas.List.{map-append}
use Rattle.std.proofs.lemmas.List.Elements.{filter-append}
use Rattle.std.proofs.lemmas.List.Sums.{fold-append}
use Rattle.ng_terms.specs.declared.entry.Entry.{Entry}
use Rattle.ng_terms.specs.Heap.{Space, State, after, empty, IsLegalStep}
use Rattle.ng_terms.specs.Histories.{Event, IsLegal, IsLegalFrom, book_of, state_after}

-- the state after one event more
pub state_after-push : (state : State) (history : List Event) (event : Event) → state_after state (history ++ event ∷ []) ≡ after (state_after state history) event.1
state_after-push state history event = fold-append (λ (s : State) (e : Event). after s e.1) state history (event ∷ [])

-- a legal history and a legal step behind it
pub IsLegalFrom-push : (space : Space) (state : State) (history : List Event) (event : Event) → IsLegalFrom space state history → IsLegalStep space (state_after state history) event.1 → IsLegalFrom space state (history ++ event ∷ [])
IsLegalFrom-push space state [] event legal step = (step, tt)
IsLegalFrom-push space state (first ∷ later) event (legal, rest) step = (legal, IsLegalFrom-push space (after state first.1) later event rest step)

pub IsLegal-push : (space : Space) (history : List Event) (event : Event) → IsLegal space history → IsLegalStep space (state_after empty history) event.1 → IsLegal space (history ++ event ∷ [])
IsLegal-push space history event legal step = IsLegalFrom-push space empty history event legal step

-- the book of a number behind more events
pub book_of-append : (number : ℕ) (history more : List Event) → book_of number (history ++ more) ≡ book_of number history ++ book_of number more
book_of-append number history more =
    ap (map (λ (e : Event). e.1)) (filter-append (λ (e : Event). eqb e.0 number) history more)
    ∙ map-append (λ (e : Event). e.1) (filter (λ (e : Event). eqb e.0 number) history) (filter (λ (e : Event). eqb e.0 number) more)

-- these entries beside one number are the number's book
pub book_of-one : (number : ℕ) (entries : List Entry) → book_of number (map (λ (e : Entry). (number, e)) entries) ≡ entries
book_of-one number [] = refl
book_of-one number (e ∷ es) = rw (eq-eqb number number refl) (ap (λ (l : List Entry). e ∷ l) (book_of-one number es))
