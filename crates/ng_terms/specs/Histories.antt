-- Histories: entries beside the numbers of their callers, in one order.
use Rattle.std.specs.Prelude.{◌≡◌, ℕ, ◌==◌, List, ◌∷◌, [], filter, map, fold}
use Rattle.ng_terms.specs.declared.entry.Entry.{Entry}
use Rattle.ng_terms.specs.declared.entry.Entry.TheVariants as entry
use Rattle.ng_terms.specs.declared.entry.Extent.{Extent}
use Rattle.ng_terms.specs.declared.refusal.AllocRefusal.{AllocRefusal}
use Rattle.ng_terms.specs.declared.refusal.AllocRefusal.TheVariants.{NoMemory, TooLarge}
use Rattle.ng_terms.specs.Heap.{Space, State, empty, after, IsLegalStep}

-- a caller's number and what it entered
abbrev pub Event : Type 0
Event = ℕ × Entry

-- the state after a history
abbrev pub state_after : State → List Event → State
state_after state history = fold (λ before event. after before event.1) state history

-- the blocks that live after a history
abbrev pub live_after : List Event → List Extent
live_after history = (state_after empty history).live

-- each entry is a legal step from the state that the earlier ones left
abbrev pub IsLegalFrom : Space → State → List Event → Type 0
IsLegalFrom space state [] = Unit {0}
IsLegalFrom space state (event ∷ later) = IsLegalStep space state event.1 × IsLegalFrom space (after state event.1) later

-- a legal history: from no live block and no used excuse
abbrev pub IsLegal : Space → List Event → Type 0
IsLegal space history = IsLegalFrom space empty history

-- the entries of one caller, in order
abbrev pub book_of : ℕ → List Event → List Entry
book_of number history = map (λ event. event.1) (filter (λ event. event.0 == number) history)

-- what a refused request of n bytes enters
abbrev pub refusal_entry : ℕ → AllocRefusal → Entry
refusal_entry n (NoMemory excuse) = entry.NoMemory n excuse
refusal_entry n TooLarge = entry.TooLarge 1 n 16
