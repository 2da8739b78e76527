-- A group of a ring whose freed slots are to be taken.
use Rattle.std.specs.Prelude.{◌≡◌, ℕ, ◌+◌, ◌%◌, ◌^◌, ◌<◌, ◌≤◌, List, [], ◌∷◌, Contains}
use Rattle.std.specs.Int.{bit_at}
use Rattle.ng_view.specs.Lists.{Among}
use Rattle.ng_view.specs.declared.view.View.{View}
use Rattle.ng_mask.specs.Fetches.{OfGroup}
use Rattle.ng_serve.specs.Reads.{AllBare, IsBareIn, NotesBy}
use Rattle.ng_serve.specs.declared.choosing.Choice.{Choice}

-- the avail mask of each meta of the ring is noted as 0
abbrev pub RingEmpty : View → List ℕ → Type 0
RingEmpty v ring = (meta : ℕ) → Contains ring meta → Among meta v.desk.zero_avail

-- the slot is noted to be freed, and is one of its group
pub record IsChoice (v : View) (choice : Choice) : Type 0 where
  pub noted : Among {A = ℕ × ℕ} (choice.meta, choice.lowest) v.desk.set_freed
  pub small : choice.lowest < 32
  pub within : OfGroup v choice.meta (λ g. choice.lowest ≤ g.last)

-- the avail mask of a meta was read to be 0, and then its freed mask, whose bits are noted and are
-- of the group's slots; those that were noted before are set
pub record ReadsMasks (v : View) (meta freed : ℕ) (w : View) : Type 0 where
  pub word : ℕ
  pub no_avail : word % 2 ^ 32 ≡ 0
  pub noted : NotesBy v ((meta + 24, word) ∷ (meta + 28, freed) ∷ []) w
  pub bits : (i : ℕ) → i < 32 → bit_at freed i ≡ 1 → Among {A = ℕ × ℕ} (meta, i) w.desk.set_freed
  pub within : (i : ℕ) → i < 32 → bit_at freed i ≡ 1 → OfGroup v meta (λ g. i ≤ g.last)
  pub set : (i : ℕ) → Among {A = ℕ × ℕ} (meta, i) v.desk.set_freed → bit_at freed i ≡ 1

-- words were read, among them both masks of a meta, which were 0, as each word was; and no slot of it was noted to be freed
pub record FindsBare (v : View) (meta : ℕ) (w : View) : Type 0 where
  pub words : List (ℕ × ℕ)
  pub noted : NotesBy v words w
  pub bare : IsBareIn words meta
  pub all : AllBare words
  pub unmarked : (i : ℕ) → ¬ Among {A = ℕ × ℕ} (meta, i) v.desk.set_freed

-- and those of each meta of a ring
pub record FindsAllBare (v : View) (ring : List ℕ) (w : View) : Type 0 where
  pub words : List (ℕ × ℕ)
  pub noted : NotesBy v words w
  pub bare : (meta : ℕ) → Contains ring meta → IsBareIn words meta
  pub all : AllBare words
  pub unmarked : (meta i : ℕ) → Contains ring meta → ¬ Among {A = ℕ × ℕ} (meta, i) v.desk.set_freed
