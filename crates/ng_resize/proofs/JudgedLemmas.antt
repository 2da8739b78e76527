-- A frame that was judged is judged so still where its slot's cells are known.
use Rattle.std.proofs.Common.{◌≡◌, ◌≢◌, ℕ, ◌+◌, ◌-◌, ◌*◌, ◌/◌, ◌%◌, ◌^◌, sym, ap, ◌∙◌, subst, ⊎_elim, arith}
use Rattle.std.proofs.lemmas.Bool.{cases_eq}
use Rattle.std.proofs.lemmas.Bool.Decides.{nat_tests}
use Rattle.std.proofs.lemmas.Grind.{common_steps}
use Rattle.std.specs.Prelude.{Result, Ok, Err, Option, Some, None}
use Rattle.ng_header.specs.Reading.{reserved_in}
use Rattle.ng_header.specs.declared.reading.NominalFault.{NominalFault}
use Rattle.ng_view.specs.Blocks.{Knows}
use Rattle.ng_view.specs.declared.view.Held.{Held}
use Rattle.ng_space.specs.Blocks.{BlockToken, HasBlock, OfSlot}
use Rattle.ng_space.specs.Callers.{Caller}
use Rattle.ng_space.specs.Leaving.{Learns, Stays}
use Rattle.ng_space.proofs.Leaving.{keeps_then, learns_itself}
use Rattle.ng_frame.specs.Inspects.{damage_of, gap_of}
use Rattle.ng_frame.specs.Judging.{IsJudged, IsKnownDamage, IsSure, IsSureByte}
use Rattle.ng_frame.specs.declared.damage.Damage.{Damage}
use Rattle.ng_resize.specs.Steps.{WasWhole}

-- for another field than 5 the number and the byte don't count
field_alone : (f w x n y gap : ℕ) → f ≢ 5 → reserved_in f w x gap ≡ reserved_in f n y gap
field_alone f w x n y gap ne = grind (arith, common_steps, nat_tests, ne)

pub learns_twice : (f h k : Held) → Learns f h → Learns h k → Learns f k
learns_twice f h k one two = keeps_then (λ a. Unit {0}) (λ a. Unit {0}) (λ a. Unit {0}) f h k (λ a t. (t, t)) one two

-- ---- a cell that is known, and of which there is one value later, has one now
module _ (h k : Held) (l : Learns h k) where
  sure_back : (a x z : ℕ) → Knows a x h → IsSure a z k → IsSure a x h
  sure_back a x z known sure = record {
    known = known;
    only = λ y knows. sure.only y (l.cells a y tt knows) ∙ sym (sure.only x (l.cells a x tt known));
  }

  sure_same : (a x z : ℕ) → Knows a x h → IsSure a z k → x ≡ z
  sure_same a x z known sure = sure.only x (l.cells a x tt known)

-- ---- a frame that was judged, while some more cells came to be known, and is judged later
module _ (f h k : Held) (at gap : ℕ) (v w : Result ℕ NominalFault) (first : Learns f h) (then : Learns h k)
    (was : IsJudged f at gap v) (now : IsJudged k at gap w) where
  known : (a x : ℕ) → Knows a x f → Knows a x h
  known a x knows = first.cells a x tt knows

  header : was.header ≡ now.header
  header = sure_same h k then (at - 4) was.header now.header (known (at - 4) was.header was.front.known) now.front

  field : was.header / 8192 % 8 ≡ now.header / 8192 % 8
  field = ap (λ x. x / 8192 % 8) header

  byte_back : (y b c : ℕ) → IsSureByte y b f → IsSureByte y c k → IsSureByte y b h
  byte_back y b c sure later = (sure.0, sure_back h k then (4 * (y / 4)) sure.0 later.0 (known (4 * (y / 4)) sure.0 sure.1.known) later.1, sure.2)

  byte_same : (y b c : ℕ) → IsSureByte y b f → IsSureByte y c k → b ≡ c
  byte_same y b c sure later =
      let cell : sure.0 ≡ later.0 = sure_same h k then (4 * (y / 4)) sure.0 later.0 (known (4 * (y / 4)) sure.0 sure.1.known) later.1 in
      sym sure.2 ∙ ap (λ x. x / 2 ^ (8 * (y % 4)) % 256) cell ∙ later.2

  reserved : reserved_in (was.header / 8192 % 8) (was.word % 4294967296) was.fifth gap
      ≡ reserved_in (now.header / 8192 % 8) (now.word % 4294967296) now.fifth gap
  reserved = ⊎_elim
      (λ (five : was.header / 8192 % 8 ≡ 5).
      let o = was.number five in
      let n = now.number (sym field ∙ five) in
      let word : was.word ≡ now.word = sure_same h k then (at + gap - 4) was.word now.word (known (at + gap - 4) was.word o.0.known) n.0 in
      let fifth : was.fifth ≡ now.fifth = byte_same (at + gap - 5) was.fifth now.fifth o.1 n.1 in
      (λ i. reserved_in (field i) (word i % 4294967296) (fifth i) gap))
      (λ (ne : was.header / 8192 % 8 ≢ 5).
      field_alone (was.header / 8192 % 8) (was.word % 4294967296) was.fifth (now.word % 4294967296) now.fifth gap ne
      ∙ ap (λ x. reserved_in x (now.word % 4294967296) now.fifth gap) field)
      (cases_eq (was.header / 8192 % 8) 5)

  -- is judged so in between
  pub judged_between : IsJudged h at gap v
  judged_between = record {
    header = was.header;
    word = was.word;
    fifth = was.fifth;
    mark = was.mark;
    whole = was.whole;
    front = sure_back h k then (at - 4) was.header now.header (known (at - 4) was.header was.front.known) now.front;
    number = λ five.
        let o = was.number five in
        let n = now.number (sym field ∙ five) in
        (sure_back h k then (at + gap - 4) was.word now.word (known (at + gap - 4) was.word o.0.known) n.0, byte_back (at + gap - 5) was.fifth now.fifth o.1 n.1);
    first = λ r is some_bytes. byte_back (at + gap - r) was.mark now.mark (was.first r is some_bytes) (now.first r (sym reserved ∙ is) some_bytes);
    told = was.told;
  }

-- ---- so a free of a block that was found whole isn't refused
none_some : {A : Type 0} (x : A) → ◌≡◌ {A = Option A} (Some x) None → ⊥
none_some x e = absurd (cc)

pub whole_free : {A B : Type 0} (before after : Caller) (block : BlockToken) (len : ℕ) (verdict : Result ℕ NominalFault)
    (result : Result A (B × Damage)) (left : B × Damage) → HasBlock before block → OfSlot before block.slot (WasWhole block len)
    → Stays block.slot.meta block.slot.index before.view after.view Learns
    → OfSlot after block.slot (λ h. IsJudged h block.at (gap_of block) verdict)
    → IsKnownDamage before block (damage_of result) → result ≡ Err left → ⊥
whole_free before after block len verdict result left has whole stays judged known is =
    none_some left.1 (sym (ap damage_of is) ∙ known (Ok len) between)
  where
    between : OfSlot before block.slot (λ h. IsJudged h block.at (gap_of block) (Ok len))
    between h found =
        let was = whole h found in
        let later = stays h found in
        judged_between was.0 h later.0 block.at (gap_of block) (Ok len) verdict was.1 later.2 was.2 (judged later.0 later.1)

-- ---- a frame that was found whole was so while more came to be known
pub whole_since : (before after : Caller) (block : BlockToken) (len : ℕ) → HasBlock before block
    → Stays block.slot.meta block.slot.index before.view after.view Learns
    → OfSlot before block.slot (WasWhole block len) → OfSlot after block.slot (WasWhole block len)
whole_since before after block len has stays whole k found =
    let later = stays has.held has.found in
    let same : later.0 ≡ k = cc in
    let was = whole has.held has.found in
    subst (WasWhole block len) same (was.0, learns_twice was.0 has.held later.0 was.1 later.2, was.2)

pub whole_now : (hand : Caller) (block : BlockToken) (len : ℕ) → OfSlot hand block.slot (λ h. IsJudged h block.at (gap_of block) (Ok len))
    → OfSlot hand block.slot (WasWhole block len)
whole_now hand block len judged h found = (h, learns_itself h, judged h found)
