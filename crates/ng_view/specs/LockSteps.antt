-- The views after each kind of step of the lock's seat.
use Rattle.std.specs.Prelude.{◌≡◌, ℕ, zero, suc, ◌+◌, ◌*◌, ◌%◌, ◌&&◌, eqb, leb, cond, Bool, true, false, List, [], ◌∷◌, ◌++◌, map, set, bit_and, Option, Some, None}
use Rattle.ng_view.specs.declared.view.Group.{Group}
use Rattle.ng_view.specs.declared.view.Held.{Held}
use Rattle.ng_view.specs.declared.view.Excuse.{Excuse}
use Rattle.ng_view.specs.declared.view.View.{View}
use Rattle.ng_view.specs.declared.view.Nest.{Nest}
use Rattle.ng_view.specs.declared.view.Run.{Run}
use Rattle.std.specs.Int.{bit_at, bit_not, w64}
use Rattle.ng_view.specs.Lists.{find, without, select}
use Rattle.ng_view.specs.Steps.{in_motion, forget}

-- publish: the slots of the bits that are in neither mask are in motion, the meta is listed, and what
-- was known of its cells goes
abbrev pub published : View → Group → List ℕ → List (ℕ × ℕ) → List ℕ → View
published v g is cs ba = record v {
  held = map (in_motion g) is ++ v.held;
  desk = record v.desk {
    groups = g ∷ v.desk.groups;
    cells = cs;
    listed = g.meta ∷ v.desk.listed;
    zero_avail = ba;
  };
}

-- without the slots of a meta
abbrev pub outside : ℕ → List Held → List Held
outside m [] = []
outside m (h ∷ hs) = cond (eqb h.place.group.meta m) (outside m hs) (h ∷ outside m hs)

-- without a number
abbrev pub others : ℕ → List ℕ → List ℕ
others m [] = []
others m (n ∷ ns) = cond (eqb n m) (others m ns) (n ∷ others m ns)

-- without the groups of a meta
abbrev pub groups_but : ℕ → List Group → List Group
groups_but m [] = []
groups_but m (g ∷ gs) = cond (eqb g.meta m) (groups_but m gs) (g ∷ groups_but m gs)

-- without the bits of a meta
abbrev pub bits_but : ℕ → List (ℕ × ℕ) → List (ℕ × ℕ)
bits_but m [] = []
bits_but m (b ∷ bs) = cond (eqb b.0 m) (bits_but m bs) (b ∷ bits_but m bs)

-- retire: the group's slots are no more, nor is anything noted of its masks; its avail word is known to be 0; the slot
-- that carried it, in `back`, is in motion again, and `ns` carry still
abbrev pub retired : View → ℕ → List Held → List Nest → View
retired v m back ns = record v {
  held = back ++ outside m v.held;
  desk = record v.desk {
    layout = record { runs = v.desk.layout.runs; nests = ns };
    groups = groups_but m v.desk.groups;
    cells = (m + 24, 0) ∷ v.desk.cells;
    zero_avail = others m v.desk.zero_avail;
    zero_freed = others m v.desk.zero_freed;
    set_freed = bits_but m v.desk.set_freed;
  };
}

-- take, capture, nested pop: the slots of the bits that a fetch cleared are in motion
abbrev pub fetched : View → Group → List ℕ → List ℕ → List ℕ → List (ℕ × ℕ) → View
fetched v g is ba bf sf = record v {
  held = map (in_motion g) is ++ v.held;
  desk = record v.desk { zero_avail = ba; zero_freed = bf; set_freed = sf };
}

-- stock, parent push: the slots of these bits are out of the view
abbrev pub let_go : ℕ → List ℕ → List Held → List Held
let_go m [] hs = hs
let_go m (i ∷ is) hs = let_go m is (without m i hs)

-- publish in a slot: the slot i' of the meta m' carries the group
abbrev pub nested_in : View → Group → List ℕ → List (ℕ × ℕ) → List ℕ → Held → View
nested_in v g is cs ba h = record v {
  held = map (in_motion g) is ++ without h.place.group.meta h.place.index v.held;
  desk = record v.desk {
    layout = record {
      runs = v.desk.layout.runs;
      nests = record { place = h.place; child = g.meta } ∷ v.desk.layout.nests;
    };
    groups = g ∷ v.desk.groups;
    cells = cs;
    listed = g.meta ∷ v.desk.listed;
    zero_avail = ba;
  };
}

-- the slot in which a child lies
abbrev pub nest_of : ℕ → List Nest → Option Nest
nest_of m [] = None
nest_of m (n ∷ ns) = cond (eqb n.child m) (Some n) (nest_of m ns)

abbrev pub without_nest : ℕ → List Nest → List Nest
without_nest m [] = []
without_nest m (n ∷ ns) = cond (eqb n.child m) ns (n ∷ without_nest m ns)

-- a run is noted: its cells are known to be 0
abbrev pub noted : View → Run → List (ℕ × ℕ) → View
noted v r cs = record v {
  desk = record v.desk {
    layout = record { runs = r ∷ v.desk.layout.runs; nests = v.desk.layout.nests };
    cells = cs;
  };
}

-- a run goes, and what is known of its cells
abbrev pub runs_but : ℕ → List Run → List Run
runs_but a [] = []
runs_but a (r ∷ rs) = cond (eqb r.addr a) (runs_but a rs) (r ∷ runs_but a rs)

abbrev pub run_gone : View → ℕ → List (ℕ × ℕ) → View
run_gone v a cs = record v {
  desk = record v.desk {
    layout = record { runs = runs_but a v.desk.layout.runs; nests = v.desk.layout.nests };
    cells = cs;
  };
}

-- a run becomes an area, and only its metas' cells are free
abbrev pub area_noted : View → Run → List (ℕ × ℕ) → View
area_noted v r cs = record v {
  desk = record v.desk {
    layout = record {
      runs = record r { area = true } ∷ runs_but r.addr v.desk.layout.runs;
      nests = v.desk.layout.nests;
    };
    cells = cs;
  };
}

-- a load of a free cell: it is known
abbrev pub learnt_free : View → ℕ → ℕ → View
learnt_free v a x = record v { desk = record v.desk { cells = (a, x) ∷ v.desk.cells } }

-- page 0: the active word of a class, and the counter
abbrev pub active_set : View → ℕ → ℕ → View
active_set v c m = record v { desk = record v.desk { active = set v.desk.active c m } }

abbrev pub counter_set : View → ℕ → View
counter_set v x = record v { desk = record v.desk { counter = x } }

-- the lock's seat stores in a free cell
abbrev pub built : View → ℕ → ℕ → View
built v a x = record v { desk = record v.desk { cells = (a, x) ∷ forget a v.desk.cells } }

-- stock and parent push, one bit: the slot is out of the view, and the mask isn't noted as 0
abbrev pub put_out : View → ℕ → ℕ → List ℕ → List ℕ → View
put_out v m i ba bf = record v {
  held = without m i v.held;
  desk = record v.desk { zero_avail = ba; zero_freed = bf };
}

-- a ring note: what is listed, and which masks are 0
abbrev pub ring_noted : View → List ℕ → List ℕ → List ℕ → List (ℕ × ℕ) → View
ring_noted v ls ba bf sf = record v {
  desk = record v.desk { listed = ls; zero_avail = ba; zero_freed = bf; set_freed = sf };
}

-- a refusal note: the excuse comes, and its number is the last
abbrev pub refused : View → Excuse → View
refused v e = record v { excuses = e ∷ v.excuses; desk = record v.desk { refusals = e.number } }

-- n cells from a on, each known to be 0
abbrev pub blank_cells : ℕ → ℕ → List (ℕ × ℕ)
blank_cells a zero = []
blank_cells a (suc n) = (a + 4 * n, 0) ∷ blank_cells a n

-- a run comes, and its cells are known to be 0
abbrev pub run_noted : View → ℕ → ℕ → View
run_noted v a pages = noted v
    (record { addr = a; pages = pages; area = false })
    (blank_cells a (1024 * pages) ++ v.desk.cells)

-- what is known of cells outside a range
abbrev pub cells_off : ℕ → ℕ → List (ℕ × ℕ) → List (ℕ × ℕ)
cells_off a b [] = []
cells_off a b (c ∷ cs) = cond (leb a c.0 && leb (c.0 + 1) b) (cells_off a b cs) (c ∷ cells_off a b cs)

-- a run goes
abbrev pub run_left : View → Run → View
run_left v r = run_gone v r.addr (cells_off r.addr (r.addr + 4096 * r.pages) v.desk.cells)

abbrev pub has_number : ℕ → List ℕ → Bool
has_number m [] = false
has_number m (n ∷ ns) = cond (eqb n m) true (has_number m ns)

-- the bits of a mask that was read
abbrev pub read_bits : ℕ → ℕ → List (ℕ × ℕ)
read_bits m n = map (λ i. (m, i)) (select (λ i. eqb (bit_at n i) 1) 32)

-- a ring note by the freed mask n of the meta m
abbrev pub ring_read : View → ℕ → Bool → ℕ → View
ring_read v m listed n = ring_noted v
    (cond listed (m ∷ v.desk.listed) (cond (eqb n 0 && has_number m v.desk.zero_avail) (others m v.desk.listed) v.desk.listed))
    v.desk.zero_avail
    (cond (eqb n 0) (m ∷ v.desk.zero_freed) v.desk.zero_freed)
    (read_bits m n ++ v.desk.set_freed)

-- a load of the avail word n of the meta m: a mask that reads 0 is noted
abbrev pub avail_read : View → ℕ → ℕ → View
avail_read v m n = ring_noted v v.desk.listed
    (cond (eqb (n % 4294967296) 0) (m ∷ v.desk.zero_avail) v.desk.zero_avail)
    v.desk.zero_freed
    v.desk.set_freed

-- the avail mask n is emptied
abbrev pub avail_emptied : View → Group → ℕ → View
avail_emptied v g n = fetched v g (select (λ i. eqb (bit_at n i) 1) 32) (g.meta ∷ v.desk.zero_avail) v.desk.zero_freed v.desk.set_freed

-- publish of a mapped group on a run, by its masks
abbrev pub moving : Group → ℕ → ℕ → ℕ → Bool
moving g mask f i = leb i g.last && eqb (bit_at mask i + bit_at f i) 0

abbrev pub run_published : View → Group → Run → ℕ → ℕ → View
run_published v g r mask f = published v g (select (moving g mask f) 32) (cells_off g.meta (g.meta + 40) (cells_off r.addr (r.addr + 4096 * r.pages) v.desk.cells)) (cond (eqb mask 0) (g.meta ∷ v.desk.zero_avail) v.desk.zero_avail)

-- what is noted of set bits, but for those of a meta that bits has
abbrev pub seen_but : ℕ → ℕ → List (ℕ × ℕ) → List (ℕ × ℕ)
seen_but m bits [] = []
seen_but m bits (b ∷ bs) = cond (eqb b.0 m && eqb (bit_at bits b.1) 1) (seen_but m bits bs) (b ∷ seen_but m bits bs)

-- freed bits are taken: those of n that bits has
abbrev pub freed_taken : View → Group → ℕ → ℕ → View
freed_taken v g bits n = fetched v g (select (λ i. eqb (bit_at n i) 1 && eqb (bit_at bits i) 1) 32) v.desk.zero_avail (cond (eqb (bit_and n (bit_not w64 bits)) 0) (g.meta ∷ v.desk.zero_freed) v.desk.zero_freed) (seen_but g.meta bits v.desk.set_freed)

-- each of these slots of the meta m is there, without a block, also when those before it are out
abbrev pub AreOut : ℕ → List ℕ → List Held → Type 0
AreOut m [] hs = Unit {0}
AreOut m (i ∷ is) hs = ((h : Held) × (find m i hs ≡ Some h) × (h.block ≡ None))
    × AreOut m is (without m i hs)

-- the bits of a mask
abbrev pub bits_of : ℕ → List ℕ
bits_of bits = select (λ i. eqb (bit_at bits i) 1) 32

-- stock: the slots of these bits are out, and avail isn't noted as 0
abbrev pub bits_stocked : View → ℕ → ℕ → View
bits_stocked v m bits = record v {
  held = let_go m (bits_of bits) v.held;
  desk = record v.desk { zero_avail = others m v.desk.zero_avail };
}

-- parent push: the same for freed
abbrev pub bits_pushed : View → ℕ → ℕ → View
bits_pushed v m bits = record v {
  held = let_go m (bits_of bits) v.held;
  desk = record v.desk { zero_freed = others m v.desk.zero_freed };
}

-- a run becomes an area: what is known of its head and tail goes
abbrev pub area_made : View → Run → View
area_made v r = area_noted v r (cells_off r.addr (r.addr + 24) (cells_off (r.addr + 4064) (r.addr + 4096) v.desk.cells))

-- the slot that carried a group, in motion again
abbrev pub carrier : Option Nest → List Held
carrier None = []
carrier (Some n) = record { place = n.place; block = None; cells = [] } ∷ []

-- retire of a group that a slot carries
abbrev pub retired_nested : View → ℕ → View
retired_nested v m = retired v m (carrier (nest_of m v.desk.layout.nests)) (without_nest m v.desk.layout.nests)
