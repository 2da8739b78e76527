-- What stands in the views, counted.
use Rattle.std.specs.Prelude.{ℕ, ◌+◌, ◌&&◌, eqb, cond, Bool, List, [], ◌∷◌, Option, Some, None, replicate}
use Rattle.ng_terms.specs.declared.entry.Entry.{Entry}
use Rattle.ng_terms.specs.declared.entry.Entry.TheVariants.{Give, Take, Resize, NoMemory, TooLarge, BadAlign, Refused}
use Rattle.ng_terms.specs.declared.entry.Extent.{Extent}
use Rattle.ng_view.specs.Lists.{total_by, count_of, is_at}
use Rattle.ng_view.specs.declared.view.Place.{Place}
use Rattle.ng_view.specs.declared.view.Book.{Book}
use Rattle.ng_view.specs.declared.view.Desk.{Desk}
use Rattle.ng_view.specs.declared.view.View.{View}

-- 1 where the place is that of the slot i of the meta m
abbrev pub here : ℕ → ℕ → Place → ℕ
here m i p = count_of (is_at m i p)

-- how often the slot i of the meta m stands in a view, in motion or carrying a group
abbrev pub has : ℕ → ℕ → View → ℕ
has m i v = total_by (λ h. here m i h.place) v.held + total_by (λ n. here m i n.place) v.desk.layout.nests

-- the desk of a seat that isn't the lock's
abbrev pub no_desk : Desk
no_desk = record {
  layout = record { runs = []; nests = [] };
  groups = [];
  cells = [];
  listed = [];
  zero_avail = [];
  zero_freed = [];
  set_freed = [];
  active = replicate 48 0;
  counter = 0;
  refusals = 0;
  next = 0;
}

-- the desk of the seat that leads
abbrev pub desk_of : List View → Desk
desk_of [] = no_desk
desk_of (v ∷ vs) = cond v.leads v.desk (desk_of vs)

-- how often a book of the number k stands in a view
abbrev pub numbered : ℕ → View → ℕ
numbered k v = total_by (λ (b : Book). count_of (eqb b.number k)) v.books

abbrev pub same_extent : Extent → Extent → Bool
same_extent b c = eqb b.at c.at && (eqb b.len c.len && eqb b.align c.align)

abbrev pub lives : Extent → Option Extent → ℕ
lives b None = 0
lives b (Some c) = count_of (same_extent c b)

-- how often b is a live block of a view
abbrev pub blocks : Extent → View → ℕ
blocks b v = total_by (λ h. lives b h.block) v.held

-- 1 where the entry uses the excuse e
abbrev pub excuse_of : ℕ → Entry → ℕ
excuse_of e (Give n a p) = 0
excuse_of e (Take p) = 0
excuse_of e (Resize p n) = 0
excuse_of e (NoMemory n x) = count_of (eqb x e)
excuse_of e (TooLarge c s a) = 0
excuse_of e (BadAlign a) = 0
excuse_of e (Refused p k) = 0

-- how often the excuse e was used in the books of a view
abbrev pub booked : ℕ → View → ℕ
booked e v = total_by (λ b. total_by (excuse_of e) b.entries) v.books
