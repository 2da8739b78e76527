-- The views after each kind of a caller's step, and after splits and joins.
use Rattle.std.specs.Prelude.{ℕ, ◌+◌, ◌-◌, eqb, cond, true, false, List, [], ◌∷◌, ◌++◌, length, map, Option, Some, None}
use Rattle.ng_view.specs.declared.view.Group.{Group}
use Rattle.ng_terms.specs.declared.entry.Extent.{Extent}
use Rattle.ng_view.specs.declared.view.Held.{Held}
use Rattle.ng_view.specs.declared.view.Book.{Book}
use Rattle.ng_terms.specs.declared.entry.Entry.{Entry}
use Rattle.ng_view.specs.declared.view.Excuse.{Excuse}
use Rattle.ng_view.specs.declared.view.View.{View}
use Rattle.ng_view.specs.Lists.{edit, without}
use Rattle.ng_view.specs.Places.{owns_at}
use Rattle.ng_terms.specs.Heap.{extent}
use Rattle.ng_view.specs.Views.{no_desk}
use Rattle.ng_view.specs.declared.view.Start.{Start}
use Rattle.ng_terms.specs.declared.entry.Entry.TheVariants.{Give, Take, Resize}

abbrev pub in_motion : Group → ℕ → Held
in_motion g i = record { place = record { group = g; index = i }; block = None; cells = [] }

-- the reading of a step is the last
abbrev pub read : View → ℕ → ℕ → View
read v a x = record v { readings = v.readings ++ (a, x) ∷ [] }

-- pop: a slot comes
abbrev pub popped : View → Group → ℕ → View
popped v g i = record v { held = in_motion g i ∷ v.held }

-- push: a slot goes
abbrev pub pushed : View → ℕ → ℕ → View
pushed v m i = record v { held = without m i v.held }

-- without what is known of a cell
abbrev pub forget : ℕ → List (ℕ × ℕ) → List (ℕ × ℕ)
forget a [] = []
forget a (c ∷ cs) = cond (eqb c.0 a) (forget a cs) (c ∷ forget a cs)

abbrev pub wrote : ℕ → ℕ → Held → Held
wrote a x h = record h { cells = (a, x) ∷ forget a h.cells }

-- a cell of the slot i of the meta m gets a value
abbrev pub edited : View → ℕ → ℕ → ℕ → ℕ → View
edited v m i a x = record v { held = edit m i (wrote a x) v.held }

-- a store in the slot i of the meta m, which comes behind so many readings
abbrev pub stored : View → ℕ → ℕ → ℕ → ℕ → View
stored v m i a x = record (edited v m i a x) { stores = v.stores ++ record { at = a; value = x; behind = length v.readings } ∷ [] }

abbrev pub learnt : ℕ → ℕ → Held → Held
learnt a x h = record h { cells = cond (owns_at h.place a) ((a, x) ∷ h.cells) h.cells }

-- a load: a reading, and a known cell of an own slot
abbrev pub loaded : View → ℕ → ℕ → View
loaded v a x = record v { held = map (learnt a x) v.held; readings = v.readings ++ (a, x) ∷ [] }

-- one entry more in the book with the number k
abbrev pub write : ℕ → Entry → List Book → List Book
write k e [] = []
write k e (b ∷ bs) = cond (eqb b.number k)
    (record b { entries = b.entries ++ e ∷ [] } ∷ bs)
    (b ∷ write k e bs)

abbrev pub entered : View → ℕ → Entry → View
entered v k e = record v { books = write k e v.books }

-- the block of a slot
abbrev pub with_block : Option Extent → Held → Held
with_block b h = record h { block = b }

-- give and kill: the slot's block, and the entry
abbrev pub booked_block : View → ℕ → ℕ → Option Extent → ℕ → Entry → View
booked_block v m i b k e = record v { held = edit m i (with_block b) v.held; books = write k e v.books }

abbrev pub spent : View
spent = record {
  leads = false;
  desk = no_desk;
  held = [];
  books = [];
  excuses = [];
  sent = 0;
  taken = 0;
  parcel = false;
  readings = [];
  stores = [];
}

-- a block goes into a parcel, and comes out of it
abbrev pub split_off : View → ℕ → ℕ → View
split_off v m i = record v { held = without m i v.held; sent = v.sent + 1 }

abbrev pub parcel_of : Held → View
parcel_of h = record {
  leads = false;
  desk = no_desk;
  held = h ∷ [];
  books = [];
  excuses = [];
  sent = 0;
  taken = 0;
  parcel = true;
  readings = [];
  stores = [];
}

abbrev pub taken_in : View → View → View
taken_in v w = record v { held = w.held ++ v.held; taken = v.taken + 1 }

-- the lock's seat with a whole hand in it
abbrev pub hosting : View → View → View
hosting v w = record v {
  held = w.held ++ v.held;
  books = w.books ++ v.books;
  excuses = w.excuses ++ v.excuses;
  sent = v.sent + w.sent;
  taken = v.taken + w.taken;
}

abbrev pub with_held : View → Held → View
with_held v h = record v { held = h ∷ v.held }

-- the first view, which leads
abbrev pub opener : Start → View
opener key = record spent { leads = true; desk = record no_desk { refusals = key.refusals; next = 1 } }

-- a hand comes out of it
abbrev pub fresh_hand : ℕ → View
fresh_hand k = record spent { books = record { number = k; entries = [] } ∷ [] }

abbrev pub next_hand : View → View
next_hand v = record v { desk = record v.desk { next = v.desk.next + 1 } }

-- give: the header cell, and then the block with its entry
abbrev pub given : View → ℕ → ℕ → ℕ → ℕ → ℕ → ℕ → ℕ → View
given v m i p n a k x = booked_block (stored v m i (p - 4) x) m i (Some (extent p n a)) k (Give n a p)

-- without one excuse of a number
abbrev pub without_one : ℕ → List Excuse → List Excuse
without_one e [] = []
without_one e (x ∷ xs) = cond (eqb x.number e) xs (x ∷ without_one e xs)

-- an entry, for which an excuse may go
abbrev pub answered : View → ℕ → Entry → List Excuse → View
answered v k e xs = record v { books = write k e v.books; excuses = xs }

-- regive: the header cell, and then the block's length with its entry
abbrev pub regiven : View → ℕ → ℕ → ℕ → ℕ → ℕ → ℕ → View
regiven v m i p n k x = booked_block (stored v m i (p - 4) x) m i (Some (extent p n 16)) k (Resize p n)

-- kill: the block goes with its entry, and then the header cell is stored
abbrev pub killed : View → ℕ → ℕ → ℕ → ℕ → ℕ → View
killed v m i p k x = stored (booked_block v m i None k (Take p)) m i (p - 4) x

-- the excuse of a number
abbrev pub excuse_at : ℕ → List Excuse → Option Excuse
excuse_at e [] = None
excuse_at e (x ∷ xs) = cond (eqb x.number e) (Some x) (excuse_at e xs)

-- an excuse goes out of a view, and comes into one
abbrev pub unexcused : View → ℕ → View
unexcused v e = record v { excuses = without_one e v.excuses }

abbrev pub with_excuse : View → Option Excuse → View
with_excuse w None = w
with_excuse w (Some x) = record w { excuses = x ∷ w.excuses }
