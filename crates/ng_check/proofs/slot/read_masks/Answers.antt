use Rattle.std.proofs.Common.{◌≡◌, ℕ, ◌+◌, ◌∙◌, ◌<◌, ◌≤◌, true, false, ap, sym, arith}
use Rattle.std.specs.Prelude.{Some}
use Rattle.ng_meta.specs.Cells.{joined}
use Rattle.ng_meta.specs.Flags.{fields_in}
use Rattle.ng_meta.specs.declared.flags.Fields.{Fields}
use Rattle.ng_check.specs.Checks as checks
use Rattle.ng_check.specs.Queries as query
use Rattle.ng_check.specs.Queries.{Query, cell, number}
use Rattle.ng_check.specs.Readings.{Grows, HasGroup}
use Rattle.ng_check.specs.declared.fault.PointerFault.TheVariants.{Available, BadIndex, Freed}
use Rattle.ng_check.specs.declared.group.Group.{Group}
use Rattle.ng_check.specs.declared.header.Header.{Header}
use Rattle.ng_check.proofs.Failing.{after_group, fails, from_6, from_7, from_8, passes}
use Rattle.ng_check.proofs.Growing.{group_later, grows_then}
use Rattle.ng_check.proofs.Loading.{goes_then}
use Rattle.ng_check.proofs.Options.{both_is}
use Rattle.ng_check.proofs.Tests.{above_test, avail_test, below_test, fields_are, freed_test, index_of, index_test}
use Rattle.ng_check.proofs.slot.read_masks.Goals as goal

number_at : (q : Query) (a low high : ℕ) → cell q a ≡ Some low → cell q (a + 4) ≡ Some high → number q a ≡ Some (joined low high)
unfolding number
number_at q a low high e f = both_is joined (cell q a) (cell q (a + 4)) low high e f

-- what follows at a query from the flags
module _ (q x : Query) (h : Header) (k : Group) (low high : ℕ) (f : Fields) (was : HasGroup q h k) (grows : Grows q x)
    (first : cell x (k.meta + 32) ≡ Some low) (second : cell x (k.meta + 32 + 4) ≡ Some high) (are : f ≡ fields_in (joined low high)) where
  has : HasGroup x h k
  has = group_later q x h k grows was

  fields_at : query.fields x ≡ Some f
  fields_at = fields_are x k.meta (joined low high) has.meta (number_at x (k.meta + 32) low high first second) ∙ ap (λ n. Some n) (sym are)

  index_at : query.index x ≡ Some k.index
  index_at = index_of x h.cell has.has.header ∙ ap (λ n. Some n) (sym has.index)

  bad_index : f.last < k.index → checks.bad_index x ≡ Some true
  bad_index lt = index_test x k.index f index_at fields_at ∙ ap (λ b. Some b) (below_test f.last k.index lt)

  good_index : k.index ≤ f.last → checks.bad_index x ≡ Some false
  good_index le = index_test x k.index f index_at fields_at ∙ ap (λ b. Some b) (above_test f.last k.index le)

pub returns-then-index-fields-clause-err : goal.returns-then-index-fields-clause-err
returns-then-index-fields-clause-err g c =
    let q = c.args.reader.now in
    let x = c.load-high.new.self in
    let one = c.load-low.ensures.goes.grows in
    let two = c.load-high.ensures.goes.grows in
    let grows = grows_then q c.load-low.new.self x one two in
    let first = two.cells (c.args.group.meta + 32) c.load-low.result c.load-low.ensures.cell in
    after_group x c.args.header c.args.group (group_later q x c.args.header c.args.group grows c.requires.group)
    ∙ fails BadIndex checks.bad_index from_6 x (bad_index q x c.args.header c.args.group c.load-low.result c.load-high.result c.fields_of-fields.result c.requires.group grows first c.load-high.ensures.cell c.fields_of-fields.ensures.fields c.if-index-fields.true)

pub returns-then-has_bit-clause-err : goal.returns-then-has_bit-clause-err
returns-then-has_bit-clause-err g c =
    let q = c.args.reader.now in
    let r = c.load-high.new.self in
    let x = c.load.new.self in
    let h = c.args.header in
    let k = c.args.group in
    let two = c.load-high.ensures.goes.grows in
    let three = c.load.ensures.goes.grows in
    let grows = grows_then q r x (grows_then q c.load-low.new.self r c.load-low.ensures.goes.grows two) three in
    let first = three.cells (k.meta + 32) c.load-low.result (two.cells (k.meta + 32) c.load-low.result c.load-low.ensures.cell) in
    let second = three.cells (k.meta + 32 + 4) c.load-high.result c.load-high.ensures.cell in
    let has = group_later q x h k grows c.requires.group in
    let f = c.fields_of-fields.result in
    let are = c.fields_of-fields.ensures.fields in
    after_group x h k has
    ∙ passes BadIndex checks.bad_index from_6 x (good_index q x h k c.load-low.result c.load-high.result f c.requires.group grows first second are c.if-index-fields.false)
    ∙ fails Available checks.available from_7 x
    (avail_test x k.index k.meta c.load.result (index_at q x h k c.load-low.result c.load-high.result f c.requires.group grows first second are) has.meta c.load.ensures.cell
    ∙ ap (λ b. Some b) (sym c.has_bit.ensures ∙ c.if-has_bit.true))

pub returns-then-has_bit-2-clause-goes : goal.returns-then-has_bit-2-clause-goes
returns-then-has_bit-2-clause-goes g c =
    let key = g.N.Name.facts.start in
    let p = c.args.reader.now in let one = c.load-low.new in let two = c.load-high.new in let three = c.load.new in let four = c.load-2.new in
    goes_then key 2 2 4 p two.self four.self c.args.hand.now two.hand four.hand (omega arith)
    (goes_then key 1 1 2 p one.self two.self c.args.hand.now one.hand two.hand (omega arith) c.load-low.ensures.goes c.load-high.ensures.goes)
    (goes_then key 1 1 2 two.self three.self four.self two.hand three.hand four.hand (omega arith) c.load.ensures.goes c.load-2.ensures.goes)

pub returns-clause-goes : goal.returns-clause-goes
returns-clause-goes g c =
    let key = g.N.Name.facts.start in
    let p = c.args.reader.now in let one = c.load-low.new in let two = c.load-high.new in let three = c.load.new in let four = c.load-2.new in
    goes_then key 2 2 4 p two.self four.self c.args.hand.now two.hand four.hand (omega arith)
    (goes_then key 1 1 2 p one.self two.self c.args.hand.now one.hand two.hand (omega arith) c.load-low.ensures.goes c.load-high.ensures.goes)
    (goes_then key 1 1 2 two.self three.self four.self two.hand three.hand four.hand (omega arith) c.load.ensures.goes c.load-2.ensures.goes)

pub returns-then-has_bit-2-clause-err : goal.returns-then-has_bit-2-clause-err
returns-then-has_bit-2-clause-err g c =
    let q = c.args.reader.now in
    let r = c.load-high.new.self in
    let t = c.load.new.self in
    let x = c.load-2.new.self in
    let h = c.args.header in
    let k = c.args.group in
    let two = c.load-high.ensures.goes.grows in
    let three = c.load.ensures.goes.grows in
    let four = c.load-2.ensures.goes.grows in
    let grows = grows_then q t x (grows_then q r t (grows_then q c.load-low.new.self r c.load-low.ensures.goes.grows two) three) four in
    let first = four.cells (k.meta + 32) c.load-low.result (three.cells (k.meta + 32) c.load-low.result (two.cells (k.meta + 32) c.load-low.result c.load-low.ensures.cell)) in
    let second = four.cells (k.meta + 32 + 4) c.load-high.result (three.cells (k.meta + 32 + 4) c.load-high.result c.load-high.ensures.cell) in
    let has = group_later q x h k grows c.requires.group in
    let f = c.fields_of-fields.result in
    let are = c.fields_of-fields.ensures.fields in
    let index = index_at q x h k c.load-low.result c.load-high.result f c.requires.group grows first second are in
    after_group x h k has
    ∙ passes BadIndex checks.bad_index from_6 x (good_index q x h k c.load-low.result c.load-high.result f c.requires.group grows first second are c.if-index-fields.false)
    ∙ passes Available checks.available from_7 x (avail_test x k.index k.meta c.load.result index has.meta (four.cells (k.meta + 24) c.load.result c.load.ensures.cell) ∙ ap (λ b. Some b) (sym c.has_bit.ensures ∙ c.if-has_bit.false))
    ∙ fails Freed checks.is_freed from_8 x (freed_test x k.index k.meta c.load-2.result index has.meta c.load-2.ensures.cell ∙ ap (λ b. Some b) (sym c.has_bit-2.ensures ∙ c.if-has_bit-2.true))

pub returns-clause-ok : goal.returns-clause-ok
returns-clause-ok g c =
    let q = c.args.reader.now in
    let r = c.load-high.new.self in
    let t = c.load.new.self in
    let x = c.load-2.new.self in
    let h = c.args.header in
    let k = c.args.group in
    let two = c.load-high.ensures.goes.grows in
    let three = c.load.ensures.goes.grows in
    let four = c.load-2.ensures.goes.grows in
    let grows = grows_then q t x (grows_then q r t (grows_then q c.load-low.new.self r c.load-low.ensures.goes.grows two) three) four in
    let first = four.cells (k.meta + 32) c.load-low.result (three.cells (k.meta + 32) c.load-low.result (two.cells (k.meta + 32) c.load-low.result c.load-low.ensures.cell)) in
    let second = four.cells (k.meta + 32 + 4) c.load-high.result (three.cells (k.meta + 32 + 4) c.load-high.result c.load-high.ensures.cell) in
    let has = group_later q x h k grows c.requires.group in
    let f = c.fields_of-fields.result in
    let are = c.fields_of-fields.ensures.fields in
    let index = index_at q x h k c.load-low.result c.load-high.result f c.requires.group grows first second are in record {
      has = has;
      fields = fields_at q x h k c.load-low.result c.load-high.result f c.requires.group grows first second are;
      bad_index = good_index q x h k c.load-low.result c.load-high.result f c.requires.group grows first second are c.if-index-fields.false;
      available = avail_test x k.index k.meta c.load.result index has.meta (four.cells (k.meta + 24) c.load.result c.load.ensures.cell) ∙ ap (λ b. Some b) (sym c.has_bit.ensures ∙ c.if-has_bit.false);
      freed = freed_test x k.index k.meta c.load-2.result index has.meta c.load-2.ensures.cell ∙ ap (λ b. Some b) (sym c.has_bit-2.ensures ∙ c.if-has_bit-2.false);
    }
