-- What a call leaves of a hand.
use Rattle.std.specs.Prelude.{◌≡◌, ◌≢◌, ◌⊎◌, ℕ, ◌+◌, ◌≤◌, ◌++◌, All, List, [], ◌∷◌, length, Some}
use Rattle.ng_terms.specs.declared.entry.Entry.{Entry}
use Rattle.ng_terms.specs.declared.entry.Extent.{Extent}
use Rattle.ng_view.specs.Blocks.{Knows}
use Rattle.ng_view.specs.Frame.{IsFramed}
use Rattle.ng_view.specs.Lists.{Among, find}
use Rattle.ng_view.specs.declared.view.Held.{Held}
use Rattle.ng_view.specs.declared.view.Store.{Store}
use Rattle.ng_view.specs.declared.view.View.{View}
use Rattle.ng_space.specs.Callers.{Caller}
use Rattle.ng_space.specs.Tokens.{Token}

-- ---- slots
-- the slot lies where it did, with its block, and the cells of P are known as before
pub record KeepsCells (P : ℕ → Type 0) (h k : Held) : Type 0 where
  pub place : k.place ≡ h.place
  pub block : k.block ≡ h.block
  pub cells : (a x : ℕ) → P a → Knows a x h → Knows a x k

-- no cell is forgotten
abbrev pub Learns : Held → Held → Type 0
Learns h k = KeepsCells (λ a. Unit {0}) h k

-- the slot lies where it did
abbrev pub LiesStill : Held → Held → Type 0
LiesStill h k = k.place ≡ h.place

-- the view has the slot before and after, and R holds of the two
abbrev pub Stays : ℕ → ℕ → View → View → (Held → Held → Type 0) → Type 0
Stays m i v w R = (h : Held) → find m i v.held ≡ Some h → (k : Held) × (find m i w.held ≡ Some k) × R h k

-- a slot of the view after was there before, and R holds of the two
abbrev pub CameFrom : ℕ → ℕ → View → View → (Held → Held → Type 0) → Type 0
CameFrom m i v w R = (k : Held) → find m i w.held ≡ Some k → (h : Held) × (find m i v.held ≡ Some h) × R h k

-- the slot i of the meta m isn't that of the token
abbrev pub IsOther : Token → ℕ → ℕ → Type 0
IsOther slot m i = (m ≢ slot.meta) ⊎ (i ≢ slot.index)

-- cells may have been stored since then: the stores have more at their end, each of which came behind all words that
-- were read till then
pub record StoredSince (v w : View) : Type 0 where
  pub more : List Store
  pub stores : w.stores ≡ v.stores ++ more
  pub after : All (λ store. length v.readings ≤ store.behind) more

-- what isn't a slot, an entry, a reading or a store is as before, the readings have more at their end, and so have the
-- stores
pub record KeepsRest (v w : View) : Type 0 where
  pub excuses : w.excuses ≡ v.excuses
  pub sent : w.sent ≡ v.sent
  pub taken : w.taken ≡ v.taken
  pub more : List (ℕ × ℕ)
  pub readings : w.readings ≡ v.readings ++ more
  pub stored : StoredSince v w

-- each slot is there, with the same place and block, and at least the same known cells
abbrev pub KeepsSlots : View → View → Type 0
KeepsSlots v w = (m i : ℕ) → Stays m i v w Learns

-- each slot but that of the token is there so, and no other has come
pub record KeepsOthers (slot : Token) (v w : View) : Type 0 where
  pub slots : (m i : ℕ) → IsOther slot m i → Stays m i v w Learns
  pub back : (m i : ℕ) → IsOther slot m i → CameFrom m i v w Learns

-- each slot is there so, and none has come
pub record KeepsAll (v w : View) : Type 0 where
  pub slots : KeepsSlots v w
  pub back : (m i : ℕ) → CameFrom m i v w Learns

-- ---- frames
-- the block of a slot is framed, if there is one
abbrev pub HasFrame : Held → Type 0
HasFrame h = (b : Extent) → h.block ≡ Some b → IsFramed h b.at b.len

-- each block of the view is framed
abbrev pub AreFramed : View → Type 0
AreFramed v = (h : Held) → Among h v.held → HasFrame h

-- ---- a call
-- it changed one slot at most: each other is there, no other has come, and each block is framed
-- where each was
pub record Leaves (slot : Token) (v w : View) : Type 0 where
  pub others : KeepsOthers slot v w
  pub rest : KeepsRest v w
  pub each : AreFramed v → AreFramed w

-- it changed none
pub record LeavesAll (v w : View) : Type 0 where
  pub all : KeepsAll v w
  pub rest : KeepsRest v w
  pub each : AreFramed v → AreFramed w

-- the hand's number and its book are as before
pub record KeepsBook (before after : Caller) : Type 0 where
  pub number : after.number ≡ before.number
  pub spare : after.spare ≡ before.spare
  pub entries : after.entries ≡ before.entries

-- the book has one entry more, which took one of its places
pub record Entered (before after : Caller) (entry : Entry) : Type 0 where
  pub number : after.number ≡ before.number
  pub spare : after.spare + 1 ≡ before.spare
  pub entries : after.entries ≡ before.entries ++ entry ∷ []
