-- What a run owes: replies that fit, books that are their calls, and one legal history of all books.
use Rattle.std.specs.Prelude.{◌≡◌, ◌⊎◌, ℕ, ◌+◌, ◌-◌, ◌*◌, ◌/◌, ◌<◌, ◌≤◌, max, List, ◌∷◌, [], All, Contains, length, slice_index_or}
use Rattle.ng_terms.specs.declared.entry.Entry.{Entry}
use Rattle.ng_terms.specs.declared.entry.Entry.TheVariants.{Give, Take, Resize, NoMemory, TooLarge, BadAlign, Refused}
use Rattle.ng_terms.specs.declared.plan.Op.{Op}
use Rattle.ng_terms.specs.declared.plan.Op.TheVariants.{Make, Free, Move}
use Rattle.ng_terms.specs.declared.plan.Plan.{Plan}
use Rattle.ng_terms.specs.declared.reply.Mode.{Mode}
use Rattle.ng_terms.specs.declared.reply.Reply.{Reply}
use Rattle.ng_terms.specs.Heap.{Space, space_of, large}
use Rattle.ng_terms.specs.Histories.{Event, IsLegal, book_of}
use Rattle.ng_terms.specs.Calls.{Fits, calls_of_log, align_of}

-- one legal order of the entries of all books: the book of log k, from 0, has the number k + 1
pub record IsOneHistory (space : Space) (books : List (List Entry)) (history : List Event) : Type 0 where
  pub legal : IsLegal space history
  pub each : (log : ℕ) → log < length books → book_of (log + 1) history ≡ slice_index_or books log []
  pub numbers : All (λ event. (1 ≤ event.0) × (event.0 ≤ length books)) history

-- an entry's excuse is a refusal between two counts
abbrev pub IsExcused : ℕ → ℕ → Entry → Type 0
IsExcused before now (NoMemory n excuse) = (before < excuse) × (excuse ≤ now)
IsExcused before now (Give n align at) = Unit {0}
IsExcused before now (Take at) = Unit {0}
IsExcused before now (Resize at n) = Unit {0}
IsExcused before now (TooLarge count size align) = Unit {0}
IsExcused before now (BadAlign align) = Unit {0}
IsExcused before now (Refused at name) = Unit {0}

-- the bytes that an op asks of the heap: its size, and with an alignment the room to align in
abbrev pub Asks : Mode → Op → ℕ → Type 0
Asks mode (Make name size to) bytes = (bytes ≡ size) ⊎ (bytes ≡ size + max (align_of mode) 16 - 16)
Asks mode (Free name origin) bytes = ⊥
Asks mode (Move old name origin size to) bytes = (bytes ≡ size) ⊎ (bytes ≡ size + max (align_of mode) 16 - 16)

-- so many bytes, which aren't too many, are asked by an op of the plan
pub record IsAsked (plan : Plan) (mode : Mode) (bytes : ℕ) : Type 0 where
  pub log : ℕ
  pub op : Op
  pub there : Contains (slice_index_or plan.logs log []) op
  pub asks : Asks mode op bytes
  pub small : bytes < large

-- the pages of a block that is mapped by itself
abbrev pub pages_for : ℕ → ℕ
pages_for bytes = (bytes + 20 + 4095) / 4096

-- the most refused pages rose for no more than a group, or a block that was asked, can need
abbrev pub IsMostBound : Plan → Mode → ℕ → ℕ → Type 0
IsMostBound plan mode before now = (now ≤ max before 512) ⊎ ((bytes : ℕ) × IsAsked plan mode bytes × (now ≤ pages_for bytes))

-- what the mapper counts: its refusals and its most refused pages, when the heap was opened and at the end
pub record Counts : Type 0 where
  pub refusals : ℕ
  pub most : ℕ

-- the account of a plan's run in a space of so many pages
pub record Account (plan : Plan) (mode : Mode) (replies : List (List Reply)) (books : List (List Entry)) (pages : ℕ)
    (before now : Counts) : Type 0 where
  pub fits : Fits plan mode replies
  pub logs : length books ≡ length plan.logs
  pub calls : (log : ℕ) → log < length plan.logs
      → slice_index_or books log [] ≡ calls_of_log mode (slice_index_or plan.logs log []) (slice_index_or replies log [])
  pub history : List Event
  pub one : IsOneHistory (space_of (4096 * pages)) books history
  pub excuses : All (λ event. IsExcused before.refusals now.refusals event.1) history
  pub most : IsMostBound plan mode before.most now.most
