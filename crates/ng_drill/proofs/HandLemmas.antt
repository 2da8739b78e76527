-- Blocks that stand, as a hand goes on.
use Rattle.std.proofs.Common.{◌≡◌, ◌≢◌, ◌⊎◌, ℕ, zero, suc, ◌+◌, ◌-◌, ◌*◌, ◌/◌, ◌%◌, ◌^◌, ◌<◌, ◌≤◌, min, List, [], ◌∷◌, refl, sym, ap, ◌∙◌, subst, inl, inr, ⊎_elim, arith}
use Rattle.std.proofs.lemmas.Bool.Decides.{nat_tests}
use Rattle.std.specs.Prelude.{Option, Some, None, Result, if◌then◌else◌, nat_lt, ◌==◌}
use Rattle.ng_frame.specs.Inspects.{gap_of}
use Rattle.ng_frame.specs.Judging.{IsJudged}
use Rattle.ng_group.specs.Hands.{IsApart}
use Rattle.ng_header.specs.Bytes.{byte_of}
use Rattle.ng_header.specs.declared.reading.NominalFault.{NominalFault}
use Rattle.ng_space.specs.Blocks.{BlockToken, HasBlock, HasFramed, OfSlot}
use Rattle.ng_space.specs.Callers.{Caller}
use Rattle.ng_space.specs.Leaving.{KeepsOthers, KeepsSlots, Learns, Stays}
use Rattle.ng_space.specs.Tokens.{LiesAt, Token}
use Rattle.ng_view.specs.Blocks.{Knows}
use Rattle.ng_view.specs.Frame.{Frames, IsTrailer, KnowsByte}
use Rattle.ng_view.specs.Lists.{find}
use Rattle.ng_view.specs.Places.{slot_end}
use Rattle.ng_view.specs.declared.view.Held.{Held}
use Rattle.ng_view.specs.declared.view.Place.{Place}
use Rattle.ng_drill.specs.Desks.{AreTold, KnowsField, Stands}
use Rattle.ng_drill.specs.States.{Standing, byte_in, fresh, number_told, trailer_told, with_told}
use Rattle.ng_drill.specs.Steps.{Judges}
use Rattle.ng_drill.proofs.TellingLemmas.{judged, told_more}

-- ---- a slot of a hand
pub of_one : (hand : Caller) (slot : Token) (k : Held) (P : Held → Type 0) → find slot.meta slot.index hand.view.held ≡ Some k → P k → OfSlot hand slot P
of_one hand slot k P found p h is = let same : k ≡ h = let e : Some k ≡ Some h = sym found ∙ is in cc in subst P same p

pub learnt_byte : (h k : Held) (y b : ℕ) → Learns h k → KnowsByte y b h → KnowsByte y b k
learnt_byte h k y b learns knows = (knows.0, learns.cells (4 * (y / 4)) knows.0 tt knows.1, knows.2)

pub learnt_field : (h k : Held) (at field : ℕ) → Learns h k → KnowsField at field h → KnowsField at field k
learnt_field h k at field learns knows = (knows.0, learnt_byte h k (at - 3) knows.0 learns knows.1, knows.2)

pub learnt_told : (h k : Held) (at : ℕ) (bytes : List (ℕ × ℕ)) → Learns h k → AreTold at bytes h → AreTold at bytes k
learnt_told h k at bytes learns told j byte is = learnt_byte h k (at + j) byte learns (told j byte is)

-- ---- a block that stands
pub has_stayed : (before after : Caller) (block : BlockToken) → after.number ≡ before.number → Stays block.slot.meta block.slot.index before.view after.view Learns
    → HasBlock before block → HasBlock after block
has_stayed before after block number stays has =
    let k = stays has.held has.found in record {
      own = has.own ∙ sym number;
      held = k.0;
      found = k.1;
      live = k.2.block ∙ has.live;
      place = subst (λ (p : Place). LiesAt p block.slot) (sym k.2.place) has.place;
    }

pub stands_still : (before after : Caller) (block : BlockToken) (standing : Standing) → after.number ≡ before.number → Stays block.slot.meta block.slot.index before.view after.view Learns
    → Stands before block standing → Stands after block standing
stands_still before after block standing number stays s =
    let k = stays s.has.held s.has.found in record {
      has = has_stayed before after block number stays s.has;
      at = s.at;
      gap = s.gap;
      above = s.above;
      whole = s.whole;
      roomy = s.roomy;
      field = of_one after block.slot k.0 (KnowsField block.at standing.field) k.1 (learnt_field s.has.held k.0 block.at standing.field k.2 (s.field s.has.held s.has.found));
      bytes = λ cell. of_one after block.slot k.0 (AreTold block.at standing.bytes) k.1 (learnt_told s.has.held k.0 block.at standing.bytes k.2 (s.bytes cell s.has.held s.has.found));
    }

-- ---- a block that was given just now
-- the bytes of a known cell
cell_byte : (h : Held) (at gap k i word : ℕ) → (at + gap) % 4 ≡ 0 → k + 4 ≡ gap → i < 4 → Knows (at + gap - 4) word h → KnowsByte (at + (k + i)) (byte_of word i) h
cell_byte h at gap k i word whole here lt knows =
    let front : 4 * ((at + (k + i)) / 4) ≡ at + gap - 4 = omega arith in
    let place : (at + (k + i)) % 4 ≡ i = omega arith in
    (word, subst (λ a. Knows a word h) (sym front) knows, ap (λ p. word / 2 ^ (8 * p) % 256) place)

-- a trailer is told
trailer_is_told : (h : Held) (at gap rest : ℕ) → at + gap ≡ slot_end h.place → rest ≤ gap → (at + gap) % 4 ≡ 0 → IsTrailer h rest → AreTold at (trailer_told gap rest) h
trailer_is_told h at gap rest end le whole trailer = ⊎_elim
    (λ (none : rest ≡ 0). subst (λ bytes. AreTold at bytes h) (sym (no_bytes none)) nothing)
    (λ rest_trailer. ⊎_elim
    (λ (few : (0 < rest) × (rest < 5) × KnowsByte (slot_end h.place - rest) 0 h).
    subst (λ bytes. AreTold at bytes h) (sym (one_byte few.0 few.1)) (first few.2 [] nothing))
    (λ (many : (4 < rest) × KnowsByte (slot_end h.place - rest) 0 h × Knows (slot_end h.place - 4) rest h × KnowsByte (slot_end h.place - 5) 0 h).
    let lt = many.0 in
    let k : ℕ = gap - 4 in
    let here : k + 4 ≡ gap = omega arith in
    let cell : Knows (at + gap - 4) rest h = subst (λ e. Knows (e - 4) rest h) (sym end) many.2 in
    let same : k + 0 ≡ k = omega arith in
    let d3 = told_more h at (k + 3) (byte_of rest 3) [] (cell_byte h at gap k 3 rest whole here (omega arith) cell) nothing in
    let d2 = told_more h at (k + 2) (byte_of rest 2) ((k + 3, byte_of rest 3) ∷ []) (cell_byte h at gap k 2 rest whole here (omega arith) cell) d3 in
    let d1 = told_more h at (k + 1) (byte_of rest 1) ((k + 2, byte_of rest 2) ∷ (k + 3, byte_of rest 3) ∷ []) (cell_byte h at gap k 1 rest whole here (omega arith) cell) d2 in
    let d0 = told_more h at k (byte_of rest 0) ((k + 1, byte_of rest 1) ∷ (k + 2, byte_of rest 2) ∷ (k + 3, byte_of rest 3) ∷ [])
    (subst (λ j. KnowsByte (at + j) (byte_of rest 0) h) same (cell_byte h at gap k 0 rest whole here (omega arith) cell)) d1 in
    let place : slot_end h.place - 5 ≡ at + (gap - 5) = omega arith in
    let fifth = told_more h at (gap - 5) 0 (number_told k rest) (subst (λ y. KnowsByte y 0 h) place many.3) d0 in
    subst (λ bytes. AreTold at bytes h) (sym (all_bytes lt)) (first many.1 ((gap - 5, 0) ∷ number_told k rest) fifth))
    rest_trailer)
    trailer
  where
    nothing : AreTold at [] h
    nothing k byte is = absurd (cc)

    first : KnowsByte (slot_end h.place - rest) 0 h → (bytes : List (ℕ × ℕ)) → AreTold at bytes h → AreTold at ((gap - rest, 0) ∷ bytes) h
    first knows bytes told =
        let place : slot_end h.place - rest ≡ at + (gap - rest) = omega arith in
        told_more h at (gap - rest) 0 bytes (subst (λ y. KnowsByte y 0 h) place knows) told

    no_bytes : rest ≡ 0 → trailer_told gap rest ≡ []
    no_bytes none = grind (arith, nat_tests)

    one_byte : 0 < rest → rest < 5 → trailer_told gap rest ≡ (gap - rest, 0) ∷ []
    one_byte some few = grind (arith, nat_tests)

    all_bytes : 4 < rest → trailer_told gap rest ≡ (gap - rest, 0) ∷ (gap - 5, 0) ∷ number_told (gap - 4) rest
    all_bytes many = grind (arith, nat_tests)

-- a framed block stands as a fresh one
pub stands_fresh : (hand : Caller) (block : BlockToken) → HasFramed hand block → Stands hand block (fresh block.at (gap_of block) block.len)
stands_fresh hand block framed =
    let has = framed.has in
    let h : Held = has.held in
    let front = framed.framed.2 in
    let f : Frames h block.at block.len framed.framed.1 = framed.framed.4 in
    let x : ℕ = framed.framed.1 in
    let end : block.slot.end ≡ slot_end h.place = has.place.end in
    let within = f.within in
    let whole = f.whole in
    let above : 4 ≤ block.at = omega arith in
    let gap : ℕ = gap_of block in
    let all : block.at + gap ≡ slot_end h.place = omega arith in
    let rest : slot_end h.place - block.at - block.len ≡ gap - block.len = omega arith in
    record {
      has = has;
      at = refl;
      gap = refl;
      above = above;
      whole = whole;
      roomy = λ five. omega arith;
      field = of_one hand block.slot h (KnowsField block.at (min (gap - block.len) 5)) has.found
          (let cell : 4 * ((block.at - 3) / 4) ≡ framed.framed.0 = omega arith in
          let place : (block.at - 3) % 4 ≡ 1 = omega arith in
          let field = f.field in
          (x / 256 % 256, (x, subst (λ a. Knows a x h) (sym cell) framed.framed.3, ap (λ p. x / 2 ^ (8 * p) % 256) place), omega (arith, field, rest)));
      bytes = λ cell. of_one hand block.slot h (AreTold block.at (trailer_told gap (gap - block.len))) has.found
          (trailer_is_told h block.at gap (gap - block.len) all (omega arith) cell (subst (λ r. IsTrailer h r) rest f.trailer));
    }

-- ---- the verdict on a block that stands
-- what was judged of the block's slot tells more of its bytes, by which it has the verdict
pub judged_standing : (before probed : Caller) (block : BlockToken) (standing : Standing) (verdict : Result ℕ NominalFault) → Stands before block standing
    → probed.number ≡ before.number → Stays block.slot.meta block.slot.index before.view probed.view Learns
    → OfSlot probed block.slot (λ h. IsJudged h block.at (gap_of block) verdict)
    → (bytes : List (ℕ × ℕ)) × Judges standing bytes verdict × Stands probed block (with_told bytes standing)
judged_standing before probed block standing verdict s number stays judge =
    let k = stays s.has.held s.has.found in
    let j : IsJudged k.0 block.at (gap_of block) verdict = judge k.0 k.1 in
    let same : IsJudged k.0 standing.at standing.gap verdict = subst (λ a. IsJudged k.0 a standing.gap verdict) (sym s.at) (subst (λ g. IsJudged k.0 block.at g verdict) (sym s.gap) j) in
    let still = stands_still before probed block standing number stays s in
    let above = s.above in let at = s.at in let whole = s.whole in
    let cell : (block.at + gap_of block) % 4 ≡ 0 = j.whole in
    let v = judged k.0 standing verdict (omega arith) (omega arith) s.roomy
    (subst (λ a. KnowsField a standing.field k.0) (sym at) (still.field k.0 k.1))
    (subst (λ a. AreTold a standing.bytes k.0) (sym at) (still.bytes cell k.0 k.1)) same in (
      v.0,
      v.1,
      record {
        has = still.has;
        at = s.at;
        gap = s.gap;
        above = s.above;
        whole = s.whole;
        roomy = s.roomy;
        field = still.field;
        bytes = λ c. of_one probed block.slot k.0 (AreTold block.at v.0) k.1 (subst (λ a. AreTold a v.0 k.0) at v.2);
      },
    )
