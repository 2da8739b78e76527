-- The rule of a box: what was taken out, and then what it holds, is of each sender what that one has put in, in its order.
use Rattle.std.specs.Prelude.{◌≡◌, ℕ, ◌<◌, ◌≤◌, ◌==◌, Bool, true, false, List, [], ◌++◌, filter, length, map, slice_index_or}
use mathlib.Core.Option.{some}
use lib.ListN.{get_elem?}
use Rattle.ng_post.specs.declared.mail.Letter.{Letter}
use Rattle.ng_post.specs.declared.view.View.{View}
use Rattle.ng_post.specs.Letters.{Note, Pair, note_of}

-- the pairs of one sender
abbrev pub pairs_of : ℕ → List Note → List Pair
pairs_of p notes = map (λ (n : Note). n.1) (filter (λ (n : Note). n.0 == p) notes)

-- the notes are, of each sender, these pairs in their order
abbrev pub AreAllOf : List (List Pair) → List Note → Type 0
AreAllOf puts notes = (p : ℕ) → pairs_of p notes ≡ slice_index_or puts p []

-- the view of the pass that leads, which may take letters out too, and knows the senders that have ended
abbrev pub leader : ℕ → Bool → List Note → List (List Pair) → View
leader made gets got known = record { sends = false; from = 0; put = []; gets = gets; got = got; leads = true; made = made; known = known }

-- the view of a sender
abbrev pub sender : ℕ → List Pair → View
sender from put = record { sends = true; from = from; put = put; gets = false; got = []; leads = false; made = 0; known = [] }

-- the view of a reader
abbrev pub reader : List Note → View
reader got = record { sends = false; from = 0; put = []; gets = true; got = got; leads = false; made = 0; known = [] }

-- the view of a pass that may do nothing more
abbrev pub spent : View
spent = record { sends = false; from = 0; put = []; gets = false; got = []; leads = false; made = 0; known = [] }

-- a sender is one of those that haven't ended, has one pass, and knows what it has put in. One pass reads, and knows what it
-- got. One pass leads, and knows how many senders there are and what those that have ended had put in
pub record FitsIn (head seat_of_reader low high : ℕ) (seat : ℕ → ℕ) (sent : ℕ → List Pair) (got : List Note) (pass : ℕ) (v : View) : Type 0 where
  pub sends : v.sends ≡ true → (low ≤ v.from) × (v.from < high) × (seat v.from ≡ pass) × (v.put ≡ sent v.from)
  pub gets : v.gets ≡ true → (pass ≡ seat_of_reader) × (v.got ≡ got)
  pub leads : v.leads ≡ true → (pass ≡ head) × (length v.known ≡ low) × (v.made ≡ high)
      × ((k : ℕ) → k < low → slice_index_or v.known k [] ≡ sent k)

pub record Delivers {N : Type 0} (items : List (Letter N)) (views : List View) : Type 0 where
  pub head : ℕ
  pub reads : ℕ
  pub low : ℕ
  pub high : ℕ
  pub seat : ℕ → ℕ
  pub sent : ℕ → List Pair
  pub got : List Note
  pub order : low ≤ high
  pub whole : (p : ℕ) → pairs_of p (got ++ map note_of items) ≡ sent p
  pub unsent : (p : ℕ) → high ≤ p → sent p ≡ []
  pub each : (pass : ℕ) (v : View) → get_elem? views pass ≡ some v → FitsIn head reads low high seat sent got pass v
