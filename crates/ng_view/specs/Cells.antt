-- The words of a space as cells, masks and groups.
use Rattle.std.specs.Prelude.{ℕ, zero, suc, ◌+◌, ◌/◌, ◌%◌, leb, List, slice_index}
use Rattle.std.specs.Int.{bit_at}
use Rattle.ng_view.specs.Lists.{count_of}
use Rattle.ng_view.specs.declared.view.Group.{Group}

-- the word of the cell at an address
abbrev pub cell : List ℕ → ℕ → ℕ
cell ws a = slice_index ws (a / 4)

abbrev pub avail : List ℕ → ℕ → ℕ
avail ws m = cell ws (m + 24)

abbrev pub freed : List ℕ → ℕ → ℕ
freed ws m = cell ws (m + 28)

abbrev pub tag : List ℕ → ℕ → ℕ
tag ws m = avail ws m / 4294967296

abbrev pub last : List ℕ → ℕ → ℕ
last ws m = cell ws (m + 32) % 32

-- the group of the meta m, where it has one
abbrev pub group_at : List ℕ → ℕ → Group
group_at ws m = record {
  meta = m;
  base = cell ws (m + 16);
  tag = tag ws m;
  last = last ws m;
  maplen = cell ws (m + 32) / 4096;
}

-- 1 for each slot of a live group
abbrev pub owed_of : ℕ → ℕ → ℕ → ℕ
owed_of zero l i = 0
owed_of (suc t) l i = count_of (leb i l)

-- the bits of a live group in its two masks
abbrev pub marked_of : ℕ → ℕ → ℕ → ℕ → ℕ
marked_of zero a f i = 0
marked_of (suc t) a f i = bit_at a i + bit_at f i

abbrev pub owed : List ℕ → ℕ → ℕ → ℕ
owed ws m i = owed_of (tag ws m) (last ws m) i

abbrev pub marked : List ℕ → ℕ → ℕ → ℕ
marked ws m i = marked_of (tag ws m) (avail ws m) (freed ws m) i
