use Rattle.std.proofs.Common.{◌≡◌, ◌≢◌, ◌⊎◌, ◌∙◌, refl, ap, sym, subst, inl, inr, ℕ, ◌-◌, ◌/◌, ◌≤◌, arith}
use Rattle.std.specs.Prelude.{Some}
use Rattle.ng_check.specs.Checks as checks
use Rattle.ng_check.specs.Queries as query
use Rattle.ng_check.specs.Queries.{Query, cell}
use Rattle.ng_check.specs.Readings.{Grows}
use Rattle.ng_check.specs.declared.fault.PointerFault.TheVariants.{BadWide}
use Rattle.ng_check.proofs.Failing.{after_placed, fails, from_4}
use Rattle.ng_check.proofs.Growing.{fails_later, grows_then, placed_later, same_addr}
use Rattle.ng_check.proofs.Tests.{header_of, narrow_offset, narrow_passes, wide_bad, wide_good, wide_of, wide_offset, wide_test}
use Rattle.ng_check.proofs.header.read_header.Goals.{then-field-ne0-via-then-field-ne0, then-field-ne0-via-else-field-ne0+then-wide-le65535}
use Rattle.ng_check.proofs.header.read_header.Goals as goal

pub load-requires-clause-inside : goal.load-requires-clause-inside
load-requires-clause-inside g c = let some_page = c.requires.some in omega (arith, some_page)

pub returns-in-Some-clause-err : goal.returns-in-Some-clause-err
returns-in-Some-clause-err g c = fails_later c.args.reader.now c.load.new.self c.in-Some.fault c.load.ensures.goes.grows c.in-Some.ensures.some

pub returns-in-Some-clause-cell : goal.returns-in-Some-clause-cell
returns-in-Some-clause-cell g c = record { at = 0; value = c.load.result; is = c.load.ensures.cell }

pub returns-then-cell-eq0-clause-cell : goal.returns-then-cell-eq0-clause-cell
returns-then-cell-eq0-clause-cell g c = record { at = _; value = c.load-cell.result; is = c.load-cell.ensures.cell }

pub returns-then-field-ne0-clause-cell : goal.returns-then-field-ne0-clause-cell
returns-then-field-ne0-clause-cell g c = record { at = _; value = c.load-2.result; is = c.load-2.ensures.cell }

pub returns-clause-cell : goal.returns-clause-cell
returns-clause-cell g c = record { at = _; value = c.load-2.result; is = c.load-2.ensures.cell }

-- the header of a query whose cell there was loaded
header_at : (q r : Query) (a x : ℕ) → Grows q r → a ≡ q.addr → cell r (a - 4) ≡ Some x → query.header r ≡ Some x
header_at q r a x g at e = header_of r x (subst (λ n. cell r (n - 4) ≡ Some x) (at ∙ sym (same_addr q r g)) e)

wide_at : (q r : Query) (a x : ℕ) → Grows q r → a ≡ q.addr → cell r (a - 8) ≡ Some x → query.wide r ≡ Some x
wide_at q r a x g at e = wide_of r x (subst (λ n. cell r (n - 8) ≡ Some x) (at ∙ sym (same_addr q r g)) e)

pub returns-then-cell-eq0-clause-ok : goal.returns-then-cell-eq0-clause-ok
returns-then-cell-eq0-clause-ok g c =
    let q = c.args.reader.now in
    let r = c.load-cell.new.self in
    let grows = c.load-cell.ensures.goes.grows in
    let header = header_at q r c.addr-addr.result c.load-cell.result grows c.addr-addr.ensures c.load-cell.ensures.cell in record {
      placed = placed_later q r grows (c.in_default.ensures.none refl);
      bad_wide = narrow_passes r c.load-cell.result header c.if-cell-eq0.true;
      header = header;
      offset = narrow_offset r c.load-cell.result header c.if-cell-eq0.true ∙ ap (λ n. Some n) (sym c.from-field.ensures);
      small = (let word = c.load-cell.type_inv in let is = c.from-field.ensures in omega (arith, word, is));
    }

-- the header and the cell before it
both_at : (q r s : Query) (a h w : ℕ) → Grows q r → Grows r s → a ≡ q.addr → cell r (a - 4) ≡ Some h → cell s (a - 8) ≡ Some w
    → (query.header s ≡ Some h) × (query.wide s ≡ Some w)
both_at q r s a h w one two at e f =
    let both = grows_then q r s one two in
    (header_at q s a h both at (two.cells (a - 4) h e), wide_at q s a w both at f)

pub returns-then-field-ne0-clause-err : goal.returns-then-field-ne0-clause-err
returns-then-field-ne0-clause-err g c =
    let q = c.args.reader.now in
    let r = c.load-cell.new.self in
    let s = c.load-2.new.self in
    let h : ℕ = c.load-cell.result in
    let w : ℕ = c.load-2.result in
    let at = both_at q r s c.addr-addr.result h w c.load-cell.ensures.goes.grows c.load-2.ensures.goes.grows c.addr-addr.ensures c.load-cell.ensures.cell c.load-2.ensures.cell in
    let placed = placed_later q s (grows_then q r s c.load-cell.ensures.goes.grows c.load-2.ensures.goes.grows) (c.in_default.ensures.none refl) in
    let field = c.from-field.ensures in
    let wide = c.from-wide.ensures in
    let bad : (h / 65536 ≢ 0) ⊎ (w ≤ 65535) = elim c.then-field-ne0.branch [
      | then-field-ne0-via-then-field-ne0 v ↦ inl (λ z. v.if-field-ne0.true (field ∙ z))
      | then-field-ne0-via-else-field-ne0+then-wide-le65535 v ↦ inr (let low = v.if-wide-le65535.true in omega (arith, wide, low))
    ] in
    after_placed s placed ∙ fails BadWide checks.bad_wide from_4 s (wide_test s h w at.0 c.if-cell-eq0.false at.1 ∙ ap (λ b. Some b) (wide_bad (h / 65536) w bad))

pub returns-clause-ok : goal.returns-clause-ok
returns-clause-ok g c =
    let q = c.args.reader.now in
    let r = c.load-cell.new.self in
    let s = c.load-2.new.self in
    let h : ℕ = c.load-cell.result in
    let w : ℕ = c.load-2.result in
    let at = both_at q r s c.addr-addr.result h w c.load-cell.ensures.goes.grows c.load-2.ensures.goes.grows c.addr-addr.ensures c.load-cell.ensures.cell c.load-2.ensures.cell in
    let placed = placed_later q s (grows_then q r s c.load-cell.ensures.goes.grows c.load-2.ensures.goes.grows) (c.in_default.ensures.none refl) in
    let field = c.from-field.ensures in
    let wide = c.from-wide.ensures in
    let high = c.if-wide-le65535.false in
    let word = c.load-2.type_inv in record {
      placed = placed;
      bad_wide = wide_test s h w at.0 c.if-cell-eq0.false at.1 ∙ ap (λ b. Some b) (wide_good (h / 65536) w (sym field ∙ c.if-field-ne0.false) (omega (arith, wide, high)));
      header = at.0;
      offset = wide_offset s h w at.0 c.if-cell-eq0.false at.1 ∙ ap (λ n. Some n) (sym wide);
      small = omega (arith, word, wide);
    }
