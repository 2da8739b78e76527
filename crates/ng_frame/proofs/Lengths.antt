-- What the words of a known frame tell, and the damage that words show.
use Rattle.std.proofs.Common.{◌≡◌, ℕ, ◌-◌, ◌*◌, ◌/◌, ◌%◌, ◌<◌, ◌≤◌, sym, ap, ◌∙◌, subst, inl, inr, arith}
use Rattle.std.specs.Prelude.{min, Result, Ok, Err}
use Rattle.std.proofs.lemmas.Grind.{common_steps}
use Rattle.ng_rule.proofs.geometry.Lists.{find_among}
use Rattle.ng_header.specs.Bytes.{byte_of}
use Rattle.ng_header.specs.Reading.{reserved_by}
use Rattle.ng_view.specs.Blocks.{Knows}
use Rattle.ng_view.specs.Frame.{IsTrailer, KnowsByte}
use Rattle.ng_view.specs.Places.{slot_end}
use Rattle.ng_view.specs.Steps.{loaded}
use Rattle.ng_view.specs.Tells.{Tells}
use Rattle.ng_view.specs.declared.view.Held.{Held}
use Rattle.ng_view.specs.declared.view.Start.{Start}
use Rattle.ng_space.specs.Blocks.{BlockToken, HasBlock, HasFramed}
use Rattle.ng_space.specs.Callers.{Caller}
use Rattle.ng_space.specs.Placed.{ArePlaced}
use Rattle.ng_space.proofs.Keeping.{loaded_framed}
use Rattle.ng_frame.specs.Inspects.{IsBad, TellLength, field_in, mark_at, number_in, tail_of}
use Rattle.ng_frame.specs.Puts.{IsWhole}
use Rattle.ng_frame.specs.declared.words.Words.{Words}
use Rattle.ng_frame.proofs.Slots.{stride-most, whole_at}

-- the slot of a block
pub block_whole : (key : Start) (hand : Caller) (block : BlockToken) → HasBlock hand block → ArePlaced key hand.view → IsWhole block.slot
block_whole key hand block has placed =
    whole_at key has.held block.slot (placed has.held (find_among block.slot.meta block.slot.index hand.view.held has.held has.found).0) has.place

-- ---- trailers
first_zero : (h : Held) (r : ℕ) → IsTrailer h r → 0 < r → KnowsByte (slot_end h.place - r) 0 h
first_zero h r (inl none) some_bytes = absurd (omega (arith, none, some_bytes))
first_zero h r (inr (inl few)) some_bytes = few.2
first_zero h r (inr (inr many)) some_bytes = many.1

number_and_fifth : (h : Held) (r : ℕ) → IsTrailer h r → 5 ≤ r → Knows (slot_end h.place - 4) r h × KnowsByte (slot_end h.place - 5) 0 h
number_and_fifth h r (inl none) long = absurd (omega (arith, none, long))
number_and_fifth h r (inr (inl few)) long = absurd (let low = few.1 in omega (arith, low, long))
number_and_fifth h r (inr (inr many)) long = (many.2, many.3)

-- ---- a load of a hand that knows the block's frame
module _ (key : Start) (hand : Caller) (block : BlockToken) (f : HasFramed hand block) where
  abbrev h : Held
  h = f.has.held

  known : (a x y : ℕ) → Tells key hand.view a x → Knows a y h → x ≡ y
  known a x y told k = (told.slots h (find_among block.slot.meta block.slot.index hand.view.held h f.has.found).0).known y k

  known_byte : (a x y b : ℕ) → a ≡ 4 * (y / 4) → Tells key hand.view a x → KnowsByte y b h → byte_of x (y % 4) ≡ b
  known_byte a x y b at told k = ap (λ z. byte_of z (y % 4)) (known a x k.0 told (subst (λ c. Knows c k.0 h) (sym at) k.1)) ∙ k.2

  trailer : IsTrailer h (tail_of block)
  trailer = subst (λ e. IsTrailer h ((e - block.at) - block.len)) (sym f.has.place.end) f.framed.4.trailer

  pub header_tells : (x : ℕ) → Tells key hand.view (block.at - 4) x → x / 8192 % 8 ≡ min (tail_of block) 5
  header_tells x told =
      let k = f.framed in
      let front = k.2 in
      let cell : k.0 ≡ block.at - 4 = omega (arith, front) in
      ap (λ z. z / 8192 % 8) (known (block.at - 4) x k.1 told (subst (λ c. Knows c k.1 h) cell k.3)) ∙ k.4.field ∙ ap (λ e. min ((e - block.at) - block.len) 5) (sym f.has.place.end)

  pub last_tells : (x : ℕ) → Tells key hand.view (block.slot.end - 4) x → 5 ≤ tail_of block → x ≡ tail_of block
  last_tells x told long = known (block.slot.end - 4) x (tail_of block) told (subst (λ e. Knows (e - 4) (tail_of block) h) (sym f.has.place.end) (number_and_fifth h (tail_of block) trailer long).0)

  pub fifth_tells : (x : ℕ) → block.slot.end % 16 ≡ 12 → Tells key hand.view (block.slot.end - 8) x → 5 ≤ tail_of block → byte_of x 3 ≡ 0
  fifth_tells x whole told long =
      let e : ℕ = block.slot.end in
      let place : (e - 5) % 4 ≡ 3 = omega (arith, whole) in
      let cell : e - 8 ≡ 4 * ((e - 5) / 4) = omega (arith, whole) in
      ap (byte_of x) (sym place) ∙ known_byte (e - 8) x (e - 5) 0 cell told (subst (λ t. KnowsByte (t - 5) 0 h) (sym f.has.place.end) (number_and_fifth h (tail_of block) trailer long).1)

  pub first_tells : (a x : ℕ) → a ≡ 4 * ((block.slot.end - tail_of block) / 4) → Tells key hand.view a x → 0 < tail_of block → byte_of x ((block.slot.end - tail_of block) % 4) ≡ 0
  first_tells a x at told some_bytes = known_byte a x (block.slot.end - tail_of block) 0 at told (subst (λ t. KnowsByte (t - tail_of block) 0 h) (sym f.has.place.end) (first_zero h (tail_of block) trailer some_bytes))

  pub tail-small : ArePlaced key hand.view → tail_of block < 4294967296
  tail-small placed =
      let l = placed h (find_among block.slot.meta block.slot.index hand.view.held h f.has.found).0 in
      let most = stride-most key h.place l in
      let end = f.has.place.end in let from = f.framed.4.from in
      omega (arith, most, end, from)

-- the words of a frame, loaded one after the other
pub length_told : (key : Start) (one two three : Caller) (block : BlockToken) (w : Words) → HasBlock one block → ArePlaced key one.view → two.view ≡ loaded one.view (block.at - 4) w.header → two.number ≡ one.number → three.view ≡ loaded two.view (block.slot.end - 4) w.last → three.number ≡ two.number
    → Tells key one.view (block.at - 4) w.header → Tells key two.view (block.slot.end - 4) w.last → Tells key three.view (block.slot.end - 8) w.fifth → HasFramed one block → TellLength block w
length_told key one two three block w has placed v2 n2 v3 n3 header last fifth f =
    let f2 = loaded_framed one two (block.at - 4) w.header block v2 n2 f in
    let f3 = loaded_framed two three (block.slot.end - 4) w.last block v3 n3 f2 in
    let small = tail-small key one block f placed in
    let is = block_whole key one block has placed in record {
      field = header_tells key one block f w.header header;
      number = λ long. let n = last_tells key two block f2 w.last last long in omega (arith, n, small);
      fifth = λ long. fifth_tells key three block f3 w.fifth is.end fifth long;
      within = omega arith;
    }

-- ---- what such words show
reserved_is : (field number r : ℕ) → field ≡ min r 5 → (5 ≤ r → number ≡ r) → reserved_by field number ≡ r
reserved_is field number r is long = grind (arith, common_steps, is, long)

pub reserved-tail : (block : BlockToken) (w : Words) → TellLength block w → reserved_by (field_in w) (number_in w) ≡ tail_of block
reserved-tail block w t = reserved_is (field_in w) (number_in w) (tail_of block) t.field t.number

pub sound : (block : BlockToken) (w : Words) → TellLength block w → ¬ IsBad block w
sound block w t (inl high) = let field = t.field in omega (arith, field, high)
sound block w t (inr (inl (five, inl low))) =
    let field = t.field in
    let long : 5 ≤ tail_of block = omega (arith, field, five) in
    let number = t.number long in omega (arith, number, low, long)
sound block w t (inr (inl (five, inr some_byte))) =
    let field = t.field in
    let long : 5 ≤ tail_of block = omega (arith, field, five) in
    let fifth = t.fifth long in omega (arith, fifth, some_byte)
sound block w t (inr (inr above)) = let is = reserved-tail block w t in let within = t.within in omega (arith, is, within, above)

-- the first reserved byte of a known frame is 0
pub first_clean : (key : Start) (hand : Caller) (block : BlockToken) (w : Words) (a mark : ℕ) → HasFramed hand block → TellLength block w → a ≡ 4 * (mark_at block w / 4) → Tells key hand.view a mark → 0 < reserved_by (field_in w) (number_in w) → byte_of mark (mark_at block w % 4) ≡ 0
first_clean key hand block w a mark f t at told some_bytes =
    let is = reserved-tail block w t in
    let zero = first_tells key hand block f a mark (at ∙ ap (λ r. 4 * ((block.slot.end - r) / 4)) is) told (omega (arith, is, some_bytes)) in
    ap (λ r. byte_of mark ((block.slot.end - r) % 4)) is ∙ zero

pub err_ok : {A B : Type 0} (x : B) (y : A) → ◌≡◌ {A = Result A B} (Err x) (Ok y) → ⊥
err_ok x y e = absurd (cc)
