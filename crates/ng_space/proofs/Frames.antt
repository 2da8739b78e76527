-- The header cell that a block gets, and the frame that is known with it.
use Rattle.std.proofs.Common.{◌≡◌, ℕ, ◌+◌, ◌-◌, ◌*◌, ◌/◌, ◌%◌, ◌<◌, ◌≤◌, leb, cond, Bool, true, false, refl, sym, ap, ◌∙◌, subst, ⊎_elim, inl, inr, arith}
use Rattle.std.specs.Prelude.{min, Option}
use Rattle.std.proofs.lemmas.Bool.{cases_eq, leb-true}
use Rattle.std.proofs.lemmas.Bool.Decides.{nat_tests}
use Rattle.ng_header.specs.Header.{cell_with}
use Rattle.ng_rule.proofs.hand.Load.{carries_more, still_knows}
use Rattle.ng_terms.specs.declared.entry.Extent.{Extent}
use Rattle.ng_view.specs.Blocks.{Carries, Knows}
use Rattle.ng_view.specs.Conditions.{Gives}
use Rattle.ng_view.specs.Frame.{Frames, IsFramed, IsShift, IsTrailer, KnowsByte}
use Rattle.ng_view.specs.Places.{slot_end, slot_start}
use Rattle.ng_view.specs.Steps.{with_block, wrote}
use Rattle.ng_view.specs.declared.view.Held.{Held}
use Rattle.ng_space.specs.Blocks.{IsReady, Serves, header_at, offset_in}
use Rattle.ng_space.specs.Tokens.{LiesAt, Token}

-- ---- the fields of a header cell
record HasFields (c i r o x : ℕ) : Type 0 where
  check : x % 256 ≡ c
  index : x / 256 % 32 ≡ i
  reserved : x / 8192 % 8 ≡ r
  offset : x / 65536 ≡ o
  fits : x < 4294967296

fields_of : (c i r o x : ℕ) → x ≡ (c + 256 * (i + 32 * r)) + 65536 * o → c < 256 → i < 32 → r < 8 → o < 65536 → HasFields c i r o x
fields_of c i r o x e lc li lr lo = record { check = omega arith; index = omega arith; reserved = omega arith; offset = omega arith; fits = omega arith }

narrow : (o : ℕ) → leb 65536 o ≡ false → o < 65536
narrow o e = grind (arith, nat_tests)

-- ---- what a hand knows is the frame, with that header cell
module _ (h : Held) (slot : Token) (p n : ℕ) (place : LiesAt h.place slot) (index : h.place.index ≡ slot.index) (few : slot.index < 32) (whole : slot.storage % 16 ≡ 0) (first : slot.storage ≤ slot.start) (r : IsReady slot p n h) where
  abbrev o : ℕ
  o = offset_in slot p

  abbrev spare : ℕ
  spare = (slot.end - p) - n

  with_check : Bool → ℕ
  with_check b = cell_with (record { check = cond b 1 0; index = slot.index; reserved = min spare 5; offset = cond b 0 o })

  place_is : p ≡ (h.place.group.base + 16) + 16 * o
  place_is = let s = place.storage in let w = r.whole in let f = r.from in omega arith

  stored : (b : Bool) → leb 65536 o ≡ b → (Carries h p (with_check b) × (with_check b / 8192 % 8 ≡ min spare 5)) × (with_check b < 4294967296)
  unfolding with_check
  stored true e =
      let x : ℕ = (1 + 256 * (slot.index + 32 * min spare 5)) + 65536 * 0 in
      let f = fields_of 1 slot.index (min spare 5) 0 x refl (omega arith) few (omega arith) (omega arith) in
      let large = leb-true 65536 o e in
      let wide = r.wide large in
      let start = place.start in let behind = wide.0 in let al = r.whole in
      ((record { index = f.index ∙ sym index; offset = inr (record { check = f.check; field = f.offset; behind = omega arith; cell = p - 8; offset = o; front = omega arith; known = wide.1; large = large; place = place_is }) }, f.reserved), f.fits)
  stored false e =
      let x : ℕ = (0 + 256 * (slot.index + 32 * min spare 5)) + 65536 * o in
      let small = narrow o e in
      let f = fields_of 0 slot.index (min spare 5) o x refl (omega arith) few (omega arith) small in
      ((record { index = f.index ∙ sym index; offset = inl (record { check = f.check; offset = place_is ∙ ap (λ k. (h.place.group.base + 16) + 16 * k) (sym f.offset) }) }, f.reserved), f.fits)

  stored_is : (Carries h p (header_at slot p n) × (header_at slot p n / 8192 % 8 ≡ min spare 5)) × (header_at slot p n < 4294967296)
  unfolding with_check
  stored_is = stored (leb 65536 o) refl

  pub frames : Frames h p n (header_at slot p n)
  frames =
      let start = place.start in let end = place.end in let room = place.room in
      let from = r.from in let roomy = r.roomy in let within = r.within in
      record {
        whole = r.whole;
        from = omega arith;
        roomy = omega arith;
        within = omega arith;
        carries = stored_is.0.0;
        field = stored_is.0.1 ∙ ap (λ e. min ((e - p) - n) 5) end;
        trailer = subst (λ e. IsTrailer h ((e - p) - n)) end r.trailer;
        shift = r.shift;
      }

  pub gives : (a : ℕ) → Serves n a h → Gives h p n a (header_at slot p n)
  gives a serves = record { framed = frames; allowed = serves; fits = stored_is.1 }

-- ---- the frame stays known once the header cell is stored
module _ (h : Held) (p n x : ℕ) (b : Option Extent) (f : Frames h p n x) (some_cells : 4 ≤ p) where
  abbrev y : Held
  y = with_block b (wrote (p - 4) x h)

  behind : (a z : ℕ) → p ≤ a → Knows a z h → Knows a z y
  behind a z le k = still_knows (p - 4) x a z h (λ e. omega arith) k

  byte : (a z : ℕ) → p ≤ a → KnowsByte a z h → KnowsByte a z y
  byte a z le k = (k.0, behind (4 * (a / 4)) k.0 (let w = f.whole in omega arith) k.1, k.2)

  trailer : IsTrailer y ((slot_end h.place - p) - n)
  trailer =
      let within = f.within in let e : ℕ = slot_end h.place in
      ⊎_elim
      (λ none. inl none)
      (λ some_bytes. ⊎_elim
      (λ few. inr (inl (few.0, few.1, byte (e - ((e - p) - n)) 0 (omega arith) few.2)))
      (λ (many : (4 < (e - p) - n) × KnowsByte (e - ((e - p) - n)) 0 h × Knows (e - 4) ((e - p) - n) h × KnowsByte (e - 5) 0 h).
      let l = many.0 in inr (inr (l, byte (e - ((e - p) - n)) 0 (omega arith) many.1, behind (e - 4) ((e - p) - n) (omega arith) many.2, byte (e - 5) 0 (omega arith) many.3)))
      some_bytes)
      f.trailer

  shift : IsShift y p
  shift = ⊎_elim
      (λ (s : p ≡ slot_start h.place). inl s)
      (λ (ne : p ≡ slot_start h.place → ⊥). ⊎_elim
      (λ (s : p ≡ slot_start h.place). absurd (ne s))
      (λ s. inr (s.0, s.1, s.2, still_knows (p - 4) x s.0 s.1 h (λ e. ne (let q = s.2 in omega arith)) s.3, s.4, s.5, s.6))
      f.shift)
      (cases_eq p (slot_start h.place))

  pub framed : IsFramed y p n
  framed = (
    p - 4,
    x,
    (let q : (p - 4) + 4 ≡ p = omega arith in q),
    inl refl,
    record {
      whole = f.whole;
      from = f.from;
      roomy = f.roomy;
      within = f.within;
      carries = carries_more h y p x refl (λ a z q k. still_knows (p - 4) x a z h (λ e. omega arith) k) f.carries;
      field = f.field;
      trailer = trailer;
      shift = shift;
    },
  )
