use Rattle.std.proofs.Common.{◌≡◌, ℕ, Bool, true, false, cond, ◌&&◌, ◌+◌, ◌-◌, ◌*◌, ◌/◌, ◌%◌, ◌<◌, ◌≤◌, ap, sym, ◌∙◌, subst, arith}
use Rattle.std.specs.Prelude.{nat_lt, Result, Ok, Err}
use Rattle.ng_header.specs.Reading.{nominal_in, reserved_in}
use Rattle.ng_header.specs.declared.reading.NominalFault.{NominalFault}
use Rattle.ng_header.specs.declared.reading.NominalFault.TheVariants.{BadReserved, Overrun}
use Rattle.ng_view.specs.Lists.{find}
use Rattle.ng_view.specs.Blocks.{Knows}
use Rattle.ng_view.specs.Steps.{learnt}
use Rattle.ng_view.specs.declared.view.Held.{Held}
use Rattle.ng_view.specs.declared.view.Place.{Place}
use Rattle.ng_space.specs.Tokens.{LiesAt}
use Rattle.ng_view.specs.declared.view.View.{View}
use Rattle.ng_space.proofs.Holding.{find-loaded}
use Rattle.ng_space.specs.Blocks.{OfSlot}
use Rattle.ng_frame.specs.Inspects.{field_in, fifth_in, gap_of, number_in}
use Rattle.ng_frame.specs.Judging.{AreSure, IsJudged, IsKnownVerdict, IsSureByte, verdict_by}
use Rattle.ng_frame.proofs.Judged.{judged_by, owns_mark, some_is, sure_keeps, sure_new}
use Rattle.ng_header.specs.Bytes.{byte_of}
use Rattle.ng_header.proofs.TailLemmas.{nominal_in-trailer}
use Rattle.ng_frame.specs.Inspects.{mark_at}
use Rattle.ng_space.specs.Leaving.{LeavesAll}
use Rattle.ng_space.proofs.LeavingFrames.{leaves_all_then, leaves_loaded}
use Rattle.ng_frame.proofs.Lengths.{err_ok, first_clean}
use Rattle.ng_frame.proofs.Tokens.{framed_stays}
use Rattle.ng_frame.proofs.Verdicts.{judged_words, loaded_known, mark_known}
use Rattle.ng_frame.proofs.damage.nominal_size.Given.{Over}
use Rattle.ng_frame.proofs.damage.nominal_size.Goals as goal
use Rattle.ng_frame.proofs.damage.nominal_size.Goals.{After-nominal}

pub returns-in-Err-clause-framed : goal.returns-in-Err-clause-framed
returns-in-Err-clause-framed g c = λ f.
    let block = c.args.block.now in
    let w = c.read_words-words.result in
    let end : c.at-at.result + c.gap-gap.result ≡ block.slot.end = ap (λ a. a + c.gap-gap.result) c.at-at.ensures.at ∙ c.gap-gap.ensures.gap in
    let first : (c.at-at.result + c.gap-gap.result) - c.in-Ok.reserved ≡ mark_at block w = (λ k. end k - c.in-Ok.ensures.ok k) in
    let zero : 0 < c.in-Ok.reserved → c.byte-mark.result ≡ 0 = (λ more.
    c.byte-mark.ensures.value ∙ ap (λ p. byte_of c.load.result (p % 4)) first
    ∙ first_clean g.N.Name.facts.start c.read_words-words.new.hand block w _ c.load.result (framed_stays c.args.hand.now c.read_words-words.new.hand c.read_words-words.ensures.book.number block (c.read_words-words.ensures.leaves.all.slots block.slot.meta block.slot.index) f) (c.read_words-words.ensures.tells f) (ap (λ p. 4 * (p / 4)) first) c.load.ensures.told (subst (λ r. 0 < r) c.in-Ok.ensures.ok more)) in
    absurd (err_ok _ _ (c.in-Err.ensures.value ∙ nominal_in-trailer c.gap-gap.result c.in-Ok.reserved c.byte-mark.result zero))

-- what the hand has once the cell of the first reserved byte was loaded
leaves : (g : Over) (c : After-nominal g) → LeavesAll c.args.hand.now.view c.load.new.hand.view
leaves g c =
    let words = c.read_words-words in
    leaves_all_then c.args.hand.now.view words.new.hand.view c.load.new.hand.view words.ensures.leaves
    (leaves_loaded words.new.hand.view c.load.new.hand.view _ c.load.result c.load.ensures.view)

pub returns-in-Ok-nominal-clause-leaves : goal.returns-in-Ok-nominal-clause-leaves
returns-in-Ok-nominal-clause-leaves g c = leaves g c.before

pub returns-in-Err-clause-leaves : goal.returns-in-Err-clause-leaves
returns-in-Err-clause-leaves g c = leaves g c.before

-- ---- the verdict
-- the number of reserved bytes, where there is one
ok_is : {A B : Type 0} (x y : A) → ◌≡◌ {A = Result A B} (Ok x) (Ok y) → x ≡ y
ok_is x y e = cc

-- where the byte at the end is 0, an overrun is the only fault
only_overrun : (gap r x : ℕ) (f : NominalFault) → nominal_in gap r x 0 ≡ Err f → f ≡ Overrun
only_overrun gap r x f e = by_test (nat_lt 0 r && nat_lt 0 x) e
  where
    by_test : (b : Bool) → cond b (Err Overrun) (Ok (gap - r)) ≡ Err f → f ≡ Overrun
    by_test true is = cc
    by_test false is = absurd (cc)

pub returns-in_default-clause-judged : goal.returns-in_default-clause-judged
returns-in_default-clause-judged g c = λ h found.
    let block = c.args.block.now in
    let words = c.read_words-words in
    let w = words.result in
    let is = words.ensures.lies in
    let at = c.at-at.ensures.at in let gap = c.gap-gap.ensures.gap in
    let from : block.slot.start ≤ block.at = (let low = c.at-at.ensures.from in omega (arith, at, low)) in
    let within : block.at ≤ block.slot.end = omega (arith, gap) in
    let bad : c.reserved_of.result ≡ Err BadReserved = c.in_default.is ∙ ap (λ (f : NominalFault). Err f) (c.in_default.ensures.only) in
    let value : c.reserved_of.result ≡ reserved_in (field_in w) (number_in w) c.byte.result c.gap-gap.result = c.reserved_of.ensures.value in
    let told : reserved_in (field_in w) (number_in w) (fifth_in w) c.gap-gap.result ≡ Err BadReserved =
    ap (λ b. reserved_in (field_in w) (number_in w) b c.gap-gap.result) (sym c.byte.ensures.value) ∙ sym value ∙ bad in
    judged_by block w is from within h 0 c.gap-gap.result (Err BadReserved) gap (words.ensures.sure h found)
    (λ r ok some_r. absurd (err_ok _ _ (sym told ∙ ok)))
    (sym (ap (verdict_by c.gap-gap.result 0) told))

-- the cell of the first reserved byte was loaded too
judged : (g : Over) (c : After-nominal g) (verdict : Result ℕ NominalFault) → c.nominal.result ≡ verdict → OfSlot c.load.new.hand c.args.block.now.slot (λ h. IsJudged h c.args.block.now.at (gap_of c.args.block.now) verdict)
judged g c verdict told h found =
    let block = c.args.block.now in
    let m = block.slot.meta in let i = block.slot.index in
    let words = c.read_words-words in
    let w = words.result in
    let has = c.requires.block in
    let is = words.ensures.lies in
    let at = c.at-at.ensures.at in let gap = c.gap-gap.ensures.gap in
    let from : block.slot.start ≤ block.at = (let low = c.at-at.ensures.from in omega (arith, at, low)) in
    let within : block.at ≤ block.slot.end = omega (arith, gap) in
    let reserved : ℕ = c.in-Ok.reserved in
    let few : reserved ≤ c.gap-gap.result = c.in-Ok.ensures.within in
    let y : ℕ = (c.at-at.result + c.gap-gap.result) - reserved in
    let y_is : y ≡ block.slot.end - reserved = omega (arith, at, gap) in
    let a : ℕ = 4 * (y / 4) in
    let x : ℕ = c.load.result in
    let past = words.ensures.leaves.all.slots m i has.held has.found in
    let lies : LiesAt past.0.place block.slot = subst (λ (p : Place). LiesAt p block.slot) (sym past.2.place) has.place in
    let sure : AreSure block w past.0 = words.ensures.sure past.0 past.1 in
    let finds : (z : ℕ) → Knows a z past.0 → x ≡ z = loaded_known g.N.Name.facts.start words.new.hand.view m i a x past.0 past.1 c.load.ensures.told in
    let last : Held = learnt a x past.0 in
    let same : last ≡ h = some_is last h (sym (find-loaded words.new.hand.view a x m i past.0 past.1)
    ∙ ap (λ (v : View). find m i v.held) (sym c.load.ensures.view) ∙ found) in
    let value : Ok reserved ≡ reserved_in (field_in w) (number_in w) c.byte.result c.gap-gap.result = c.in-Ok.ensures.value in
    let is_reserved : reserved_in (field_in w) (number_in w) (fifth_in w) c.gap-gap.result ≡ Ok reserved =
    ap (λ b. reserved_in (field_in w) (number_in w) b c.gap-gap.result) (sym c.byte.ensures.value) ∙ sym value in
    let first : (r : ℕ) → reserved_in (field_in w) (number_in w) (fifth_in w) c.gap-gap.result ≡ Ok r → 0 < r → IsSureByte (block.slot.end - r) c.byte-mark.result last = λ r ok some_r.
    let r_is : reserved ≡ r = ok_is reserved r (sym is_reserved ∙ ok) in
    let low : block.at ≤ y = omega (arith, at, gap, few, y_is) in
    let below : y < block.slot.end = omega (arith, gap, few, some_r, r_is, y_is) in
    subst (λ n. IsSureByte (block.slot.end - n) c.byte-mark.result last) r_is
    (subst (λ z. IsSureByte z c.byte-mark.result last) y_is
    (x, sure_new a x past.0 (owns_mark block w is from within past.0.place y lies low below) finds, sym c.byte-mark.ensures.value)) in
    subst (λ k. IsJudged k block.at (gap_of block) verdict) same
    (judged_by block w is from within last c.byte-mark.result c.gap-gap.result verdict gap
    (record {
      header = sure_keeps a x (block.at - 4) w.header past.0 finds sure.header;
      last = sure_keeps a x (block.slot.end - 4) w.last past.0 finds sure.last;
      fifth = sure_keeps a x (block.slot.end - 8) w.fifth past.0 finds sure.fifth;
    })
    first
    (sym told ∙ c.nominal.ensures.value ∙ sym (ap (verdict_by c.gap-gap.result c.byte-mark.result) is_reserved)))

pub returns-in-Ok-nominal-clause-judged : goal.returns-in-Ok-nominal-clause-judged
returns-in-Ok-nominal-clause-judged g c = judged g c.before _ c.in-Ok-nominal.is

pub returns-in-Err-clause-judged : goal.returns-in-Err-clause-judged
returns-in-Err-clause-judged g c = judged g c.before (Err Overrun) (c.in-Err.is ∙ ap (λ (f : NominalFault). Err f) (only_overrun c.gap-gap.result c.in-Ok.reserved c.byte-mark.result c.in-Err.field-0 (sym c.nominal.ensures.value ∙ c.in-Err.is)))

-- ---- a verdict that was known
pub returns-in_default-clause-known : goal.returns-in_default-clause-known
returns-in_default-clause-known g c = λ known was.
    let block = c.args.block.now in
    let words = c.read_words-words in
    let w = words.result in
    let has = c.requires.block in
    let is = words.ensures.lies in
    let at = c.at-at.ensures.at in let gap = c.gap-gap.ensures.gap in
    let from : block.slot.start ≤ block.at = (let low = c.at-at.ensures.from in omega (arith, at, low)) in
    let same : gap_of block ≡ c.gap-gap.result = omega (arith, gap) in
    let front = is.front in
    let value : c.reserved_of.result ≡ reserved_in (field_in w) (number_in w) c.byte.result c.gap-gap.result = c.reserved_of.ensures.value in
    let told : reserved_in (field_in w) (number_in w) (fifth_in w) c.gap-gap.result ≡ Err BadReserved =
    ap (λ b. reserved_in (field_in w) (number_in w) b c.gap-gap.result) (sym c.byte.ensures.value) ∙ sym value ∙ c.in_default.is
    ∙ ap (λ (f : NominalFault). Err f) (c.in_default.ensures.only) in
    judged_words block w has.held c.gap-gap.result 0 known gap is.end (omega (arith, front, from, gap)) (words.ensures.known has.held has.found)
    (λ r b ok some_r knows. absurd (err_ok _ _ (sym told ∙ ok)))
    (subst (λ n. IsJudged has.held block.at n known) same (was has.held has.found))
    ∙ ap (verdict_by c.gap-gap.result 0) told

known_is : (g : Over) (c : After-nominal g) (verdict : Result ℕ NominalFault) → c.nominal.result ≡ verdict
    → IsKnownVerdict c.args.hand.now c.args.block.now verdict
known_is g c verdict told known was =
    let block = c.args.block.now in
    let words = c.read_words-words in
    let w = words.result in
    let has = c.requires.block in
    let is = words.ensures.lies in
    let at = c.at-at.ensures.at in let gap = c.gap-gap.ensures.gap in
    let from : block.slot.start ≤ block.at = (let low = c.at-at.ensures.from in omega (arith, at, low)) in
    let same : gap_of block ≡ c.gap-gap.result = omega (arith, gap) in
    let front = is.front in
    let reserved : ℕ = c.in-Ok.reserved in
    let y : ℕ = (c.at-at.result + c.gap-gap.result) - reserved in
    let y_is : y ≡ block.slot.end - reserved = omega (arith, at, gap) in
    let value : Ok reserved ≡ reserved_in (field_in w) (number_in w) c.byte.result c.gap-gap.result = c.in-Ok.ensures.value in
    let is_reserved : reserved_in (field_in w) (number_in w) (fifth_in w) c.gap-gap.result ≡ Ok reserved =
    ap (λ b. reserved_in (field_in w) (number_in w) b c.gap-gap.result) (sym c.byte.ensures.value) ∙ sym value in
    judged_words block w has.held c.gap-gap.result c.byte-mark.result known gap is.end (omega (arith, front, from, gap)) (words.ensures.known has.held has.found)
    (λ r b ok some_r knows.
    let r_is : reserved ≡ r = ok_is reserved r (sym is_reserved ∙ ok) in
    mark_known g.N.Name.facts.start c.args.hand.now.view words.new.hand.view block.slot.meta block.slot.index y (block.slot.end - r) c.load.result c.byte-mark.result has.held
    words.ensures.leaves has.found (y_is ∙ ap (λ n. block.slot.end - n) r_is) c.load.ensures.told c.byte-mark.ensures.value b knows)
    (subst (λ n. IsJudged has.held block.at n known) same (was has.held has.found))
    ∙ ap (verdict_by c.gap-gap.result c.byte-mark.result) is_reserved ∙ sym c.nominal.ensures.value ∙ told

pub returns-in-Ok-nominal-clause-known : goal.returns-in-Ok-nominal-clause-known
returns-in-Ok-nominal-clause-known g c = known_is g c.before _ c.in-Ok-nominal.is

pub returns-in-Err-clause-known : goal.returns-in-Err-clause-known
returns-in-Err-clause-known g c = known_is g c.before (Err Overrun) (c.in-Err.is ∙ ap (λ (f : NominalFault). Err f) (only_overrun c.gap-gap.result c.in-Ok.reserved c.byte-mark.result c.in-Err.field-0 (sym c.nominal.ensures.value ∙ c.in-Err.is)))
