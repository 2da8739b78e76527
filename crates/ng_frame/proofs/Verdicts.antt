-- The frame of a block has one verdict: what is known of its cells is what is loaded of them.
use Rattle.std.proofs.Common.{◌≡◌, ◌≢◌, ℕ, zero, suc, ◌+◌, ◌-◌, ◌*◌, ◌/◌, ◌%◌, ◌<◌, ◌≤◌, refl, sym, ap, ◌∙◌, subst, ⊎_elim, arith}
use Rattle.std.proofs.lemmas.Bool.{cases_eq}
use Rattle.std.proofs.lemmas.Bool.Decides.{nat_tests}
use Rattle.std.proofs.lemmas.Grind.{common_steps}
use Rattle.std.specs.Prelude.{Result, Ok, Err, Some}
use Rattle.std.specs.Result.{result_err}
use Rattle.ng_header.specs.Bytes.{byte_of}
use Rattle.ng_header.specs.Reading.{nominal_in, reserved_in}
use Rattle.ng_header.specs.declared.reading.NominalFault.{NominalFault}
use Rattle.ng_rule.proofs.geometry.Lists.{find_among}
use Rattle.ng_view.specs.Blocks.{Knows}
use Rattle.ng_view.specs.Frame.{KnowsByte}
use Rattle.ng_view.specs.Lists.{find}
use Rattle.ng_view.specs.Tells.{Tells}
use Rattle.ng_view.specs.declared.view.Held.{Held}
use Rattle.ng_view.specs.declared.view.Start.{Start}
use Rattle.ng_view.specs.declared.view.View.{View}
use Rattle.ng_space.specs.Blocks.{BlockToken}
use Rattle.ng_space.specs.Leaving.{LeavesAll}
use Rattle.ng_frame.specs.Inspects.{AreKnown, field_in, fifth_in, number_in}
use Rattle.ng_frame.specs.Judging.{IsJudged, IsSureByte, damage_by, verdict_by, verdict_of}
use Rattle.ng_frame.specs.declared.damage.Damage.{Damage}
use Rattle.ng_frame.specs.declared.damage.Damage.TheVariants.{BadReserved, Overrun}
use Rattle.ng_frame.specs.declared.words.Words.{Words}

-- ---- what a verdict is by
-- for another field than 5 the number and the byte don't count
field_alone : (f w x n y gap : ℕ) → f ≢ 5 → reserved_in f w x gap ≡ reserved_in f n y gap
field_alone f w x n y gap ne = grind (arith, common_steps, nat_tests, ne)

-- the first reserved byte counts where there is one
mark_alone : (gap m n : ℕ) (r : Result ℕ NominalFault) → ((reserved : ℕ) → r ≡ Ok reserved → 0 < reserved → m ≡ n)
    → verdict_by gap m r ≡ verdict_by gap n r
mark_alone gap m n (Ok zero) same = refl
mark_alone gap m n (Ok (suc r)) same = ap (λ b. nominal_in gap (suc r) b 0) (same (suc r) refl (omega arith))
mark_alone gap m n (Err fault) same = refl

-- ---- what was known
-- the word of a load is what was known of its cell
pub loaded_known : (key : Start) (v : View) (m i a x : ℕ) (h : Held) → find m i v.held ≡ Some h → Tells key v a x
    → (y : ℕ) → Knows a y h → x ≡ y
loaded_known key v m i a x h found told = (told.slots h (find_among m i v.held h found).0).known

-- also of one that was known before other loads
pub known_since : (key : Start) (v w : View) (m i a x : ℕ) (h : Held) → LeavesAll v w → find m i v.held ≡ Some h → Tells key w a x
    → (y : ℕ) → Knows a y h → x ≡ y
known_since key v w m i a x h leaves found told y knows =
    let k = leaves.all.slots m i h found in loaded_known key w m i a x k.0 k.1 told y (k.2.cells a y tt knows)

-- a byte of which a hand is sure is known
knows_byte : (y b : ℕ) (h : Held) → IsSureByte y b h → KnowsByte y b h
knows_byte y b h sure = (sure.0, sure.1.known, sure.2)

-- the verdict that was known of a frame is that of the words that were loaded of it
pub judged_words : (block : BlockToken) (w : Words) (h : Held) (gap mark : ℕ) (verdict : Result ℕ NominalFault)
    → block.at + gap ≡ block.slot.end → block.slot.end % 16 ≡ 12 → 16 ≤ block.slot.end → AreKnown block w h
    → ((r : ℕ) (b : ℕ) → reserved_in (field_in w) (number_in w) (fifth_in w) gap ≡ Ok r → 0 < r → KnowsByte (block.slot.end - r) b h → b ≡ mark)
    → IsJudged h block.at gap verdict → verdict ≡ verdict_by gap mark (reserved_in (field_in w) (number_in w) (fifth_in w) gap)
judged_words block w h gap mark verdict end whole some_end known marked was = was.told ∙ same
  where
    e : ℕ
    e = block.slot.end

    front : was.header ≡ w.header
    front = sym (known.header was.header was.front.known)

    field : was.header / 8192 % 8 ≡ field_in w
    field = ap (λ x. x / 8192 % 8) front

    reserved : reserved_in (was.header / 8192 % 8) (was.word % 4294967296) was.fifth gap
        ≡ reserved_in (field_in w) (number_in w) (fifth_in w) gap
    reserved = ⊎_elim
        (λ (five : was.header / 8192 % 8 ≡ 5).
        let o = was.number five in
        let word : w.last ≡ was.word = known.last was.word (subst (λ a. Knows (a - 4) was.word h) end o.0.known) in
        let byte = subst (λ a. KnowsByte (a - 5) was.fifth h) end (knows_byte (block.at + gap - 5) was.fifth h o.1) in
        let there : 4 * ((e - 5) / 4) ≡ e - 8 = omega (arith, whole, some_end) in
        let third : (e - 5) % 4 ≡ 3 = omega (arith, whole, some_end) in
        let cell : w.fifth ≡ byte.0 = known.fifth byte.0 (subst (λ a. Knows a byte.0 h) there byte.1) in
        let fifth : fifth_in w ≡ was.fifth = ap (λ x. byte_of x 3) cell ∙ ap (byte_of byte.0) (sym third) ∙ byte.2 in
        (λ i. reserved_in (field i) (sym word i % 4294967296) (sym fifth i) gap))
        (λ (ne : was.header / 8192 % 8 ≢ 5).
        field_alone (was.header / 8192 % 8) (was.word % 4294967296) was.fifth (number_in w) (fifth_in w) gap ne
        ∙ ap (λ f. reserved_in f (number_in w) (fifth_in w) gap) field)
        (cases_eq (was.header / 8192 % 8) 5)

    same : verdict_by gap was.mark (reserved_in (was.header / 8192 % 8) (was.word % 4294967296) was.fifth gap)
        ≡ verdict_by gap mark (reserved_in (field_in w) (number_in w) (fifth_in w) gap)
    same =
        mark_alone gap was.mark mark (reserved_in (was.header / 8192 % 8) (was.word % 4294967296) was.fifth gap)
        (λ r is some_bytes. marked r was.mark (sym reserved ∙ is) some_bytes
        (subst (λ a. KnowsByte (a - r) was.mark h) end (knows_byte (block.at + gap - r) was.mark h (was.first r is some_bytes))))
        ∙ ap (verdict_by gap mark) reserved

-- ---- a damage
-- the damage that was found is that of the verdict
pub damage_is : (r : Result ℕ Damage) → result_err r ≡ damage_by (verdict_of r)
damage_is (Ok len) = refl
damage_is (Err BadReserved) = refl
damage_is (Err Overrun) = refl

-- and so is the byte of a cell that was loaded since
pub mark_known : (key : Start) (v w : View) (m i y z x mark : ℕ) (h : Held) → LeavesAll v w → find m i v.held ≡ Some h → y ≡ z
    → Tells key w (4 * (y / 4)) x → mark ≡ byte_of x (y % 4) → (b : ℕ) → KnowsByte z b h → b ≡ mark
mark_known key v w m i y z x mark h leaves found there told value b knows =
    let same : x ≡ knows.0 =
    known_since key v w m i (4 * (y / 4)) x h leaves found told knows.0 (subst (λ a. Knows (4 * (a / 4)) knows.0 h) (sym there) knows.1) in
    sym knows.2 ∙ ap (λ c. byte_of c (z % 4)) (sym same) ∙ ap (λ a. byte_of x (a % 4)) (sym there) ∙ sym value
