-- Each command leads from a state that hand and desk are at to another.
use Rattle.std.proofs.Common.{◌≡◌, ◌≢◌, ◌⊎◌, ℕ, ◌+◌, ◌-◌, ◌*◌, ◌/◌, ◌%◌, ◌<◌, ◌≤◌, List, [], ◌∷◌, ◌++◌, length, get_or, refl, sym, ap, ◌∙◌, subst, inl, inr, ⊎_elim, arith}
use Rattle.std.proofs.Math.ListN.{set}
use Rattle.std.proofs.lemmas.Bool.{cases_eq, cases_lt}
use Rattle.std.specs.Prelude.{Option, Some, None, Result, Ok, Err, max}
use Rattle.ng_frame.specs.Inspects.{gap_of}
use Rattle.ng_frame.specs.Judging.{IsJudged, verdict_of}
use Rattle.ng_frame.specs.declared.damage.Damage.{Damage}
use Rattle.ng_frame.specs.declared.damage.Damage.TheVariants as damage
use Rattle.ng_heap.specs.At.{HasNoneAt, IsPlaceAt}
use Rattle.ng_heap.specs.Making.{IsMade}
use Rattle.ng_script.specs.declared.command.Command.TheVariants as command
use Rattle.ng_space.specs.Blocks.{BlockToken, HasBlock, OfSlot}
use Rattle.ng_space.specs.Callers.{Caller}
use Rattle.ng_space.specs.Leaving.{KeepsOthers, KeepsSlots, Learns, LeavesAll, Stays}
use Rattle.ng_space.specs.Tokens.{Token}
use Rattle.ng_terms.specs.Heap.{IsTooLarge, large}
use Rattle.ng_terms.specs.declared.refusal.AllocRefusal.{AllocRefusal}
use Rattle.ng_terms.specs.declared.refusal.AllocRefusal.TheVariants as refusal
use Rattle.ng_view.specs.Frame.{KnowsByte}
use Rattle.ng_view.specs.declared.view.Held.{Held}
use Rattle.ng_drill.specs.Desks.{AreStanding, AreTold, IsAt, IsIndexed, IsPlaceOf, IsStanding, KnowsField, Stands, Steps}
use Rattle.ng_drill.specs.States.{Standing, State, byte_in, fresh, standing_at, with_bytes, with_told}
use Rattle.ng_drill.specs.Steps.{FreesAt, IsGiven, Judges, Mallocs, MeasuredAs, MeasuresAt, WritesTo, standing_of, with_name}
use Rattle.ng_drill.specs.declared.answer.Answer.TheVariants as answer
use Rattle.ng_drill.specs.declared.answer.Malloced.TheVariants.{Given, NoMemory, TooLarge}
use Rattle.ng_drill.specs.declared.answer.Measured.{Measured}
use Rattle.ng_drill.specs.declared.answer.Measured.TheVariants as measured
use Rattle.ng_drill.specs.declared.answer.Written.TheVariants as written
use Rattle.ng_drill.specs.declared.desk.Desk.{Desk}
use Rattle.ng_drill.proofs.HandLemmas.{judged_standing, of_one}
use Rattle.ng_drill.proofs.IndexLemmas.{one_place}
use Rattle.ng_drill.proofs.StateLemmas.{standing_more, standing_still, standing_told}
use Rattle.ng_drill.proofs.TellingLemmas.{told_either}

-- ---- m
-- no block that is held has the address of one that was made
pub none_made : (before after : Caller) (held : List BlockToken) (blocks : List Standing) (n : ℕ) (block : BlockToken) → AreStanding before held blocks → IsMade n 16 before block after → HasNoneAt held block.at
none_made before after held blocks n block are made k d lt = made.apart (get_or held k d) (are.each k d lt).stands.has

-- a request that isn't told to be too large isn't
pub small_unless : {A : Type 0} (n : ℕ) (result : Result A AllocRefusal) → (IsTooLarge 1 n 16 → result ≡ Err refusal.TooLarge) → (result ≡ Err refusal.TooLarge → ⊥) → n < large
small_unless n result told not_so = ⊎_elim (λ (lt : n < large). lt) (λ (le : large ≤ n). absurd (not_so (told (inr (omega arith))))) (cases_lt n large)

malloc_given_at : {N : Type 0} (pages name n : ℕ) (before after : Caller) (desk left : Desk N) (block : BlockToken) → block.at ≤ block.slot.end → block.slot.end + 4 ≤ 4096 * pages → after.number ≡ before.number → KeepsSlots before.view after.view
    → IsMade n 16 before block after → n < large → left.names.items ≡ set desk.names.items name (Some block.at) → left.held.items ≡ desk.held.items ++ block ∷ []
    → Steps pages (command.Malloc name n) (answer.Malloc (Given block.at)) before desk after left
malloc_given_at {N} pages name n before after desk left block ends inside number keeps made small names held state s =
    let within = made.framed.framed.4.within in
    let end = made.framed.has.place.end in
    let len = made.len in (
      record { names = set state.names name (Some block.at); blocks = fresh block.at (gap_of block) n ∷ state.blocks },
      record {
        small = small;
        vacant = s.blocks.none block.at (none_made before after desk.held.items state.blocks n block s.blocks made);
        gap = gap_of block;
        roomy = omega (arith, within, end, len);
        inside = omega (arith, ends, inside);
        state = refl;
      },
      record {
        names = ap (λ (xs : List (Option ℕ)). set xs name (Some block.at)) s.names ∙ sym names;
        blocks = subst (λ (xs : List BlockToken). AreStanding after xs (fresh block.at (gap_of block) n ∷ state.blocks)) (sym held)
            (standing_more before after desk.held.items state.blocks n block number keeps made s.blocks);
      },
    )

pub malloc_given : {N : Type 0} (pages name n at : ℕ) (before after : Caller) (desk left : Desk N) (block : BlockToken) → at ≡ block.at → block.at ≤ block.slot.end → block.slot.end + 4 ≤ 4096 * pages → after.number ≡ before.number → KeepsSlots before.view after.view
    → IsMade n 16 before block after → n < large → left.names.items ≡ set desk.names.items name (Some at) → left.held.items ≡ desk.held.items ++ block ∷ []
    → Steps pages (command.Malloc name n) (answer.Malloc (Given at)) before desk after left
malloc_given {N} pages name n at before after desk left block same ends inside number keeps made small names held =
    subst (λ a. Steps pages (command.Malloc name n) (answer.Malloc (Given a)) before desk after left) (sym same)
    (malloc_given_at pages name n before after desk left block ends inside number keeps made small (names ∙ ap (λ a. set desk.names.items name (Some a)) same) held)

-- a request that is too large is
pub large_of : (n : ℕ) → IsTooLarge 1 n 16 → large ≤ n
large_of n too_large = ⊎_elim (λ align. absurd (omega arith)) (λ bytes. omega arith) too_large

-- a refused request takes the name's address
pub malloc_refused : {N : Type 0} (name : ℕ) (before after : Caller) (desk left : Desk N) (state : State) → after.number ≡ before.number → KeepsSlots before.view after.view
    → left.names.items ≡ set desk.names.items name None → left.held.items ≡ desk.held.items → IsAt before desk state → IsAt after left (with_name name None state)
malloc_refused {N} name before after desk left state number keeps names held s = record {
  names = ap (λ (xs : List (Option ℕ)). set xs name None) s.names ∙ sym names;
  blocks = subst (λ (xs : List BlockToken). AreStanding after xs state.blocks) (sym held) (standing_still before after desk.held.items state.blocks number keeps s.blocks);
}

-- ---- a block in its place
-- each other has another address
pub distinct : (held : List BlockToken) (places : List (Option ℕ)) (place : ℕ) (d : BlockToken) → IsIndexed held places → place < length held
    → (k : ℕ) → k < length held → k ≢ place → (get_or held k d).at ≢ (get_or held place d).at
distinct held places place d index lt k lk ne same = ne (one_place held places k place d d index lk lt (ap (λ a. a / 16) same))

-- what stands of a name, by the place of its block
pub standing_is : {N : Type 0} (name place : ℕ) (before : Caller) (desk : Desk N) (state : State) (d : BlockToken) → IsPlaceOf desk.names.items desk.held.items name (Some place)
    → (s : IsAt before desk state) → (lt : place < length desk.held.items) → standing_of name state ≡ Some (s.blocks.each place d lt).standing
standing_is {N} name place before desk state d here s lt =
    let is : get_or state.names name None ≡ Some (get_or desk.held.items place d).at = ap (λ (xs : List (Option ℕ)). get_or xs name None) s.names ∙ here.1 d in
    rw is (s.blocks.each place d lt).found

pub none_stands : {N : Type 0} (name : ℕ) (before : Caller) (desk : Desk N) (state : State) → IsPlaceOf desk.names.items desk.held.items name None → IsAt before desk state → standing_of name state ≡ None
none_stands {N} name before desk state none s = by_name (get_or state.names name None) refl
  where
    by_name : (o : Option ℕ) → get_or state.names name None ≡ o → standing_of name state ≡ None
    by_name None is = rw is refl
    by_name (Some at) is = rw is (s.blocks.none at (none at (ap (λ (xs : List (Option ℕ)). get_or xs name None) (sym s.names) ∙ is)))

-- the turned form of another slot
pub stays_beside : (before after : Caller) (slot : Token) → KeepsOthers slot before.view after.view → (m i : ℕ) → (slot.meta ≢ m) ⊎ (slot.index ≢ i) → Stays m i before.view after.view Learns
stays_beside before after slot others m i apart =
    others.slots m i (⊎_elim (λ (ne : slot.meta ≢ m). inl (λ e. ne (sym e))) (λ (ne : slot.index ≢ i). inr (λ e. ne (sym e))) apart)

-- ---- w
pub write_absent : {N : Type 0} (pages name offset byte : ℕ) (hand : Caller) (desk : Desk N) → IsPlaceOf desk.names.items desk.held.items name None
    → Steps pages (command.Write name offset byte) (answer.Write written.Absent) hand desk hand desk
write_absent {N} pages name offset byte hand desk none state s =
    (state, subst (λ o. WritesTo state offset byte o written.Absent state) (sym (none_stands name hand desk state none s)) (refl, refl), s)

pub write_range : {N : Type 0} (pages name offset byte place : ℕ) (d : BlockToken) (hand : Caller) (desk : Desk N) → IsPlaceOf desk.names.items desk.held.items name (Some place)
    → gap_of (get_or desk.held.items place d) ≤ offset → Steps pages (command.Write name offset byte) (answer.Write written.Range) hand desk hand desk
write_range {N} pages name offset byte place d hand desk here le state s =
    let st = s.blocks.each place d here.0 in
    let gap = st.stands.gap in
    (state, subst (λ o. WritesTo state offset byte o written.Range state) (sym (standing_is name place hand desk state d here s here.0)) (omega (arith, gap), refl), s)

-- a byte more is told of a block that stands
stands_written : (before after : Caller) (block : BlockToken) (standing : Standing) (offset byte : ℕ) → HasBlock after block → OfSlot after block.slot (KnowsByte (block.at + offset) byte)
    → ((y b : ℕ) → y ≢ block.at + offset → OfSlot before block.slot (KnowsByte y b) → OfSlot after block.slot (KnowsByte y b))
    → Stands before block standing → Stands after block (with_told ((offset, byte) ∷ standing.bytes) standing)
stands_written before after block standing offset byte has stored bytes s = record {
  has = has;
  at = s.at;
  gap = s.gap;
  above = s.above;
  whole = s.whole;
  roomy = s.roomy;
  field = λ h found.
      let old = s.field s.has.held s.has.found in
      let front : block.at - 3 ≢ block.at + offset = let above = s.above in omega arith in
      (old.0, bytes (block.at - 3) old.0 front (of_one before block.slot s.has.held (KnowsByte (block.at - 3) old.0) s.has.found old.1) h found, old.2);
  bytes = λ cell h found k b is. ⊎_elim
      (λ (here : (k ≡ offset) × (byte_in k ((offset, byte) ∷ standing.bytes) ≡ Some byte)).
      let same : byte ≡ b = let e : Some byte ≡ Some b = sym here.1 ∙ is in cc in
      subst (λ j. KnowsByte (block.at + j) b h) (sym here.0) (subst (λ x. KnowsByte (block.at + offset) x h) same (stored h found)))
      (λ (other : (k ≢ offset) × (byte_in k ((offset, byte) ∷ standing.bytes) ≡ byte_in k standing.bytes)).
      let ne = other.0 in
      let apart : block.at + k ≢ block.at + offset = omega arith in
      bytes (block.at + k) b apart (of_one before block.slot s.has.held (KnowsByte (block.at + k) b) s.has.found (s.bytes cell s.has.held s.has.found k b (sym other.1 ∙ is))) h found)
      (told_either k offset byte standing.bytes);
}

pub write_done : {N : Type 0} (pages name offset byte place : ℕ) (d : BlockToken) (before after : Caller) (desk : Desk N) → IsPlaceOf desk.names.items desk.held.items name (Some place)
    → IsIndexed desk.held.items desk.places.items → after.number ≡ before.number → offset < gap_of (get_or desk.held.items place d)
    → HasBlock after (get_or desk.held.items place d) → OfSlot after (get_or desk.held.items place d).slot (KnowsByte ((get_or desk.held.items place d).at + offset) byte)
    → ((y b : ℕ) → y ≢ (get_or desk.held.items place d).at + offset → OfSlot before (get_or desk.held.items place d).slot (KnowsByte y b) → OfSlot after (get_or desk.held.items place d).slot (KnowsByte y b))
    → KeepsOthers (get_or desk.held.items place d).slot before.view after.view
    → Steps pages (command.Write name offset byte) (answer.Write written.Done) before desk after desk
write_done {N} pages name offset byte place d before after desk here index number lt has stored bytes others state s =
    let b : BlockToken = get_or desk.held.items place d in
    let st = s.blocks.each place d here.0 in
    let gap = st.stands.gap in
    let told : List (ℕ × ℕ) = (offset, byte) ∷ st.standing.bytes in
    let next : State = record state { blocks = with_bytes st.standing.at told state.blocks } in
    let at = st.stands.at in (
      next,
      subst (λ o. WritesTo state offset byte o written.Done next) (sym (standing_is name place before desk state d here s here.0)) (omega (arith, gap, lt), refl),
      record {
        names = s.names;
        blocks = subst (λ a. AreStanding after desk.held.items (with_bytes a told state.blocks)) (sym at)
            (standing_told before after desk.held.items state.blocks place d told st.standing number here.0 (stays_beside before after b.slot others) (distinct desk.held.items desk.places.items place d index here.0)
            st.found (stands_written before after b st.standing offset byte has stored bytes st.stands) s.blocks);
      },
    )

pub write_block : {N : Type 0} (pages name offset byte place : ℕ) (block : BlockToken) (before after : Caller) (desk : Desk N) → IsPlaceOf desk.names.items desk.held.items name (Some place)
    → IsIndexed desk.held.items desk.places.items → block ≡ get_or desk.held.items place block → after.number ≡ before.number → offset < gap_of block
    → HasBlock after block → OfSlot after block.slot (KnowsByte (block.at + offset) byte)
    → ((y b : ℕ) → y ≢ block.at + offset → OfSlot before block.slot (KnowsByte y b) → OfSlot after block.slot (KnowsByte y b)) → KeepsOthers block.slot before.view after.view
    → Steps pages (command.Write name offset byte) (answer.Write written.Done) before desk after desk
write_block {N} pages name offset byte place block before after desk here index same number lt has stored bytes others =
    write_done pages name offset byte place block before after desk here index number
    (subst (λ (b : BlockToken). offset < gap_of b) same lt)
    (subst (λ (b : BlockToken). HasBlock after b) same has)
    (subst (λ (b : BlockToken). OfSlot after b.slot (KnowsByte (b.at + offset) byte)) same stored)
    (subst (λ (t : BlockToken). (y b : ℕ) → y ≢ t.at + offset → OfSlot before t.slot (KnowsByte y b) → OfSlot after t.slot (KnowsByte y b)) same bytes)
    (subst (λ (b : BlockToken). KeepsOthers b.slot before.view after.view) same others)

-- ---- u
-- a damage is measured as it is
pub measured_damage : (found : Damage) → MeasuredAs (verdict_of (Err found)) (measured.Damaged found)
measured_damage damage.BadReserved = refl
measured_damage damage.Overrun = refl

pub measure_absent : {N : Type 0} (pages name : ℕ) (hand : Caller) (desk : Desk N) → IsPlaceOf desk.names.items desk.held.items name None
    → Steps pages (command.Usable name) (answer.Usable measured.Absent) hand desk hand desk
measure_absent {N} pages name hand desk none state s =
    (state, subst (λ o. MeasuresAt state o measured.Absent state) (sym (none_stands name hand desk state none s)) (refl, refl), s)

pub measure_done : {N : Type 0} (pages name place : ℕ) (d : BlockToken) (before after : Caller) (desk : Desk N) (result : Result ℕ Damage) (size : Measured)
    → IsPlaceOf desk.names.items desk.held.items name (Some place)
    → IsIndexed desk.held.items desk.places.items → after.number ≡ before.number → LeavesAll before.view after.view
    → OfSlot after (get_or desk.held.items place d).slot (λ h. IsJudged h (get_or desk.held.items place d).at (gap_of (get_or desk.held.items place d)) (verdict_of result))
    → MeasuredAs (verdict_of result) size
    → Steps pages (command.Usable name) (answer.Usable size) before desk after desk
measure_done {N} pages name place d before after desk result size here index number leaves judged measured_as state s =
    let b : BlockToken = get_or desk.held.items place d in
    let st = s.blocks.each place d here.0 in
    let j = judged_standing before after b st.standing (verdict_of result) st.stands number (leaves.all.slots b.slot.meta b.slot.index) judged in
    let next : State = record state { blocks = with_bytes st.standing.at j.0 state.blocks } in
    let at = st.stands.at in (
      next,
      subst (λ o. MeasuresAt state o size next) (sym (standing_is name place before desk state d here s here.0)) (j.0, verdict_of result, j.1, measured_as, refl),
      record {
        names = s.names;
        blocks = subst (λ a. AreStanding after desk.held.items (with_bytes a j.0 state.blocks)) (sym at)
            (standing_told before after desk.held.items state.blocks place d j.0 st.standing number here.0 (λ m i apart. leaves.all.slots m i) (distinct desk.held.items desk.places.items place d index here.0)
            st.found j.2 s.blocks);
      },
    )

pub measure_block : {N : Type 0} (pages name place : ℕ) (block : BlockToken) (before after : Caller) (desk : Desk N) (result : Result ℕ Damage) (size : Measured)
    → IsPlaceOf desk.names.items desk.held.items name (Some place)
    → IsIndexed desk.held.items desk.places.items → block ≡ get_or desk.held.items place block → after.number ≡ before.number → LeavesAll before.view after.view
    → OfSlot after block.slot (λ h. IsJudged h block.at (gap_of block) (verdict_of result)) → MeasuredAs (verdict_of result) size
    → Steps pages (command.Usable name) (answer.Usable size) before desk after desk
measure_block {N} pages name place block before after desk result size here index same number leaves judged measured_as =
    measure_done pages name place block before after desk result size here index number leaves
    (subst (λ (b : BlockToken). OfSlot after b.slot (λ h. IsJudged h b.at (gap_of b) (verdict_of result))) same judged) measured_as
