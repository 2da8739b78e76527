use Rattle.std.proofs.Common.{◌≡◌, ◌≢◌, ◌∙◌, ℕ, ◌-◌, ◌/◌, ◌%◌, ◌≤◌, ap, sym, subst, arith}
use Rattle.std.specs.Prelude.{Some, Result, Ok, Err, IfOk, is_err}
use Rattle.ng_header.specs.Reading.{reserved_in}
use Rattle.ng_header.specs.declared.reading.NominalFault.{NominalFault}
use Rattle.ng_meta.specs.declared.flags.Fields.{Fields}
use Rattle.ng_check.specs.Checks as checks
use Rattle.ng_check.specs.Queries as query
use Rattle.ng_check.specs.Queries.{Query, byte, cell}
use Rattle.ng_check.specs.Readings.{Fails, Goes, HasEnd, HasReserved, HasSlot}
use Rattle.ng_check.specs.declared.fault.PointerFault.TheVariants.{BadReserved}
use Rattle.ng_check.specs.declared.group.Group.{Group}
use Rattle.ng_check.specs.declared.header.Header.{Header}
use Rattle.ng_check.proofs.Failing.{after_slot, fails, from_13}
use Rattle.ng_check.proofs.Growing.{end_later, grows_then, same_addr, slot_later}
use Rattle.ng_check.proofs.Loading.{goes_itself, goes_then}
use Rattle.ng_check.proofs.Trailing.{field_of, fifth_of, reserved_plain, reserved_read, reserved_test, slot_end_of, word_of}
use Rattle.ng_check.proofs.ending.read_reserved.Goals.{then-field-eq5, else-field-eq5}
use Rattle.ng_check.proofs.ending.read_reserved.Goals as goal

-- the reserved number of a query whose slot and end are known
module _ (x : Query) (h : Header) (k : Group) (f : Fields) (e a : ℕ) (n : Result ℕ NominalFault) (slot : HasSlot x h k f) (end : HasEnd x e) (at : a ≡ x.addr) where
  -- where the field isn't 5
  plain : (h.cell / 8192 % 8 ≢ 5) → n ≡ reserved_in (h.cell / 8192 % 8) 0 0 (e - a) → query.reserved x ≡ Some n
  plain ne value =
      reserved_plain x (h.cell / 8192 % 8) e (field_of x h.cell slot.listed.has.has.header) end.end ne
      ∙ ap (λ d. Some (reserved_in (h.cell / 8192 % 8) 0 0 (e - d))) (sym at) ∙ ap (λ m. Some m) (sym value)

  -- where it is 5, by the last number and the byte before it
  by_word : (w b : ℕ) → cell x (e - 4) ≡ Some w → byte x (e - 5) ≡ Some b → h.cell / 8192 % 8 ≡ 5 → n ≡ reserved_in (h.cell / 8192 % 8) w b (e - a)
      → query.reserved x ≡ Some n
  by_word w b word fifth five value =
      reserved_read x (h.cell / 8192 % 8) e w b (field_of x h.cell slot.listed.has.has.header) end.end five (word_of x e w end.end word) (fifth_of x e b end.end fifth)
      ∙ ap (λ d. Some (reserved_in (h.cell / 8192 % 8) w b (e - d))) (sym at) ∙ ap (λ m. Some m) (sym value)

  test : query.reserved x ≡ Some n → checks.bad_reserved x ≡ Some (is_err n)
  test is = reserved_test x e n (slot_end_of x e end.end) end.below end.from is

  reserves : (r : ℕ) → query.reserved x ≡ Some n → n ≡ Ok r → IfOk n (λ r. r ≤ e - a) → HasReserved x e r
  reserves r is ok within = record {
    bad_reserved = test is ∙ ap (λ m. Some (is_err m)) ok;
    reserved = is ∙ ap (λ m. Some m) ok;
    within = (let le : r ≤ e - a = subst (λ m. IfOk m (λ r. r ≤ e - a)) ok within in subst (λ d. r ≤ e - d) at le);
  }

  refuses : (z : NominalFault) → query.reserved x ≡ Some n → n ≡ Err z → Fails x BadReserved
  refuses z is err = after_slot x h k f slot ∙ fails BadReserved checks.bad_reserved from_13 x (test is ∙ ap (λ m. Some (is_err m)) err)

pub returns-in-Ok-clause-ok : goal.returns-in-Ok-clause-ok
returns-in-Ok-clause-ok g c =
    let q = c.args.reader.now in
    let h = c.args.header in
    let k = c.args.group in
    let f = c.args.fields in
    let e = c.args.end in
    let a = c.addr.result in
    let r = c.in-Ok.reserved in
    elim c.if-field-eq5.branch [
      | then-field-eq5 w ↦
          let mid = w.load-word.new.self in
          let x = w.load_byte-fifth.new.self in
          let n = w.reserved_of-reserved.result in
          let two = w.load_byte-fifth.ensures.goes.grows in
          let grows = grows_then q mid x w.load-word.ensures.goes.grows two in
          let slot = slot_later q x h k f grows c.requires.slot in
          let end = end_later q x e grows c.requires.end in
          let at = c.addr.ensures ∙ sym (same_addr q x grows) in
          let is = by_word x h k f e a n slot end at w.load-word.result w.load_byte-fifth.result (two.cells (e - 4) w.load-word.result w.load-word.ensures.cell)
          w.load_byte-fifth.ensures.byte w.if-field-eq5.true w.reserved_of-reserved.ensures.value in
          subst (λ y. HasReserved y e r) (sym w.reader-is) (reserves x h k f e a n slot end at r is (sym w.reserved-is ∙ c.in-Ok.is) w.reserved_of-reserved.ensures.within)
      | else-field-eq5 w ↦
          let n = w.reserved_of-reserved-else-field-eq5.result in
          let is = plain q h k f e a n c.requires.slot c.requires.end c.addr.ensures w.if-field-eq5.false w.reserved_of-reserved-else-field-eq5.ensures.value in
          subst (λ y. HasReserved y e r) (sym w.reader-is)
          (reserves q h k f e a n c.requires.slot c.requires.end c.addr.ensures r is (sym w.reserved-is ∙ c.in-Ok.is) w.reserved_of-reserved-else-field-eq5.ensures.within)
    ]

pub returns-in-Err-clause-goes : goal.returns-in-Err-clause-goes
returns-in-Err-clause-goes g c =
    let key = g.N.Name.facts.start in
    let q = c.args.reader.now in
    let hand = c.args.hand.now in
    elim c.if-field-eq5.branch [
      | then-field-eq5 w ↦
          let mid = w.load-word.new in
          let last = w.load_byte-fifth.new in
          subst (λ y. Goes key 2 q hand y c.if-field-eq5.hand) (sym w.reader-is) (subst (λ z. Goes key 2 q hand last.self z) (sym w.hand-is)
          (goes_then key 1 1 2 q mid.self last.self hand mid.hand last.hand (omega arith) w.load-word.ensures.goes w.load_byte-fifth.ensures.goes))
      | else-field-eq5 w ↦
          subst (λ y. Goes key 2 q hand y c.if-field-eq5.hand) (sym w.reader-is) (subst (λ z. Goes key 2 q hand q z) (sym w.hand-is) (goes_itself key 2 q hand))
    ]

pub returns-in-Err-clause-err : goal.returns-in-Err-clause-err
returns-in-Err-clause-err g c =
    let q = c.args.reader.now in
    let h = c.args.header in
    let k = c.args.group in
    let f = c.args.fields in
    let e = c.args.end in
    let a = c.addr.result in
    let z = c.in-Err.field-0 in
    elim c.if-field-eq5.branch [
      | then-field-eq5 w ↦
          let mid = w.load-word.new.self in
          let x = w.load_byte-fifth.new.self in
          let n = w.reserved_of-reserved.result in
          let two = w.load_byte-fifth.ensures.goes.grows in
          let grows = grows_then q mid x w.load-word.ensures.goes.grows two in
          let slot = slot_later q x h k f grows c.requires.slot in
          let end = end_later q x e grows c.requires.end in
          let at = c.addr.ensures ∙ sym (same_addr q x grows) in
          let is = by_word x h k f e a n slot end at w.load-word.result w.load_byte-fifth.result (two.cells (e - 4) w.load-word.result w.load-word.ensures.cell)
          w.load_byte-fifth.ensures.byte w.if-field-eq5.true w.reserved_of-reserved.ensures.value in
          subst (λ y. Fails y BadReserved) (sym w.reader-is) (refuses x h k f e a n slot end at z is (sym w.reserved-is ∙ c.in-Err.is))
      | else-field-eq5 w ↦
          let n = w.reserved_of-reserved-else-field-eq5.result in
          let is = plain q h k f e a n c.requires.slot c.requires.end c.addr.ensures w.if-field-eq5.false w.reserved_of-reserved-else-field-eq5.ensures.value in
          subst (λ y. Fails y BadReserved) (sym w.reader-is) (refuses q h k f e a n c.requires.slot c.requires.end c.addr.ensures z is (sym w.reserved-is ∙ c.in-Err.is))
    ]
