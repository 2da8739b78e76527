use Rattle.std.proofs.Common.{true, false, ◌≡◌, ℕ, ◌∙◌, not, refl, ap, sym, subst, eqb, eq-eqb, ne_eqb, ◌-◌, ◌<◌, ◌≤◌, ◌*◌, ◌+◌, arith}
use Rattle.std.specs.Prelude.{Some}
use Rattle.ng_meta.specs.Place.{IsMetaPlace}
use Rattle.ng_check.specs.Checks as checks
use Rattle.ng_check.specs.Queries as query
use Rattle.ng_check.specs.Queries.{Query, number}
use Rattle.ng_check.specs.Readings.{Grows, HasHeader}
use Rattle.ng_check.specs.declared.fault.PointerFault.TheVariants.{NotGroup}
use Rattle.ng_check.specs.declared.header.Header.{Header}
use Rattle.ng_check.proofs.Failing.{after_header, fails, from_5}
use Rattle.ng_check.proofs.Growing.{grows_then, header_later, number_later, same_addr, same_pages}
use Rattle.ng_check.proofs.Tests.{base_of, low_base, mem_of, mem_test, meta_of, named_of, no_place}
use Rattle.ng_check.proofs.group.read_group.Goals as goal

pub overflow_mul-back : goal.overflow_mul-back
overflow_mul-back g c = let small = c.requires.header.small in omega (arith, small)

pub overflow_add-back : goal.overflow_add-back
overflow_add-back g c = let small = c.requires.header.small in omega (arith, small)

base_at : (q : Query) (h : Header) (a b : ℕ) → HasHeader q h → a ≡ q.addr → b ≡ a - (16 * h.offset + 16) → query.base q ≡ Some b
base_at q h a b p at is =
    let same : q.addr - 16 * h.offset - 16 ≡ b = omega arith in
    base_of q h.offset p.offset ∙ ap (λ n. Some n) same

place_below : (m pages : ℕ) → IsMetaPlace m pages → m < 4096 * pages
place_below m pages is = let few = is.counted in let in_space = is.inside in let at = is.stands in omega arith

pub returns-then-base-lt-PAGE_BYTES-clause-err : goal.returns-then-base-lt-PAGE_BYTES-clause-err
returns-then-base-lt-PAGE_BYTES-clause-err g c =
    let q = c.args.reader.now in
    let h = c.args.header in
    let p = c.requires.header in
    let b = c.saturating_sub-base.result in
    after_header q h p ∙ fails NotGroup checks.not_group from_5 q (low_base q b (base_at q h c.addr.result b p c.addr.ensures c.saturating_sub-base.ensures) c.if-base-lt-PAGE_BYTES.true)

pub returns-then-not-is_meta_place-clause-err : goal.returns-then-not-is_meta_place-clause-err
returns-then-not-is_meta_place-clause-err g c =
    let q = c.args.reader.now in
    let r = c.load_number-meta.new.self in
    let h = c.args.header in
    let grows = c.load_number-meta.ensures.goes.grows in
    let p = header_later q r h grows c.requires.header in
    let b = c.saturating_sub-base.result in
    let m = c.load_number-meta.result in
    let base = base_at r h c.addr.result b p (c.addr.ensures ∙ sym (same_addr q r grows)) c.saturating_sub-base.ensures in
    let never : IsMetaPlace m r.pages → ⊥ = λ is. absurd (let e : false ≡ true = c.if-not-is_meta_place.ensures.1 (subst (IsMetaPlace m) (sym c.pages.ensures.pages) is) in cc) in
    after_header r h p ∙ fails NotGroup checks.not_group from_5 r
    (no_place r b m base c.if-base-lt-PAGE_BYTES.false (named_of r b m base c.load_number-meta.ensures.number) never)

-- the group's cells, once both numbers were read
module _ (q r s : Query) (h : Header) (a b m x pages : ℕ) (p : HasHeader q h) (one : Grows q r) (two : Grows r s) (at : a ≡ q.addr) (is : b ≡ a - (16 * h.offset + 16))
    (first : number r b ≡ Some m) (second : number s (m + 16) ≡ Some x) (there : IsMetaPlace m pages) (of : pages ≡ r.pages) (above : 4096 ≤ b) where
  header_s : HasHeader s h
  header_s = header_later q s h (grows_then q r s one two) p

  base_s : query.base s ≡ Some b
  base_s = base_at s h a b header_s (at ∙ sym (same_addr q s (grows_then q r s one two))) is

  named_s : query.named s ≡ Some m
  named_s = named_of s b m base_s (number_later r s b two m first)

  place_s : IsMetaPlace m s.pages
  place_s = subst (IsMetaPlace m) (of ∙ sym (same_pages r s two)) there

  meta_s : query.meta s ≡ Some m
  meta_s = meta_of s m named_s (place_below m s.pages place_s)

  test_s : checks.not_group s ≡ Some (not (eqb x b))
  test_s = mem_test s b m x base_s above named_s place_s (mem_of s m x meta_s second)

pub returns-then-load_number-base-clause-err : goal.returns-then-load_number-base-clause-err
returns-then-load_number-base-clause-err g c =
    let q = c.args.reader.now in
    let r = c.load_number-meta.new.self in
    let s = c.load_number.new.self in
    let h = c.args.header in
    let b = c.saturating_sub-base.result in
    let m = c.load_number-meta.result in
    let x = c.load_number.result in
    let one = c.load_number-meta.ensures.goes.grows in
    let two = c.load_number.ensures.goes.grows in
    let there : IsMetaPlace m c.pages.result = c.if-not-is_meta_place.ensures.0 refl in
    after_header s h (header_s q r s h c.addr.result b m x c.pages.result c.requires.header one two c.addr.ensures c.saturating_sub-base.ensures c.load_number-meta.ensures.number c.load_number.ensures.number there c.pages.ensures.pages c.if-base-lt-PAGE_BYTES.false)
    ∙ fails NotGroup checks.not_group from_5 s
    (test_s q r s h c.addr.result b m x c.pages.result c.requires.header one two c.addr.ensures c.saturating_sub-base.ensures c.load_number-meta.ensures.number c.load_number.ensures.number there c.pages.ensures.pages c.if-base-lt-PAGE_BYTES.false
    ∙ ap (λ t. Some (not t)) (ne_eqb x b c.if-load_number-base.true))

pub returns-clause-ok : goal.returns-clause-ok
returns-clause-ok g c =
    let q = c.args.reader.now in
    let r = c.load_number-meta.new.self in
    let s = c.load_number.new.self in
    let h = c.args.header in
    let b = c.saturating_sub-base.result in
    let m = c.load_number-meta.result in
    let x = c.load_number.result in
    let one = c.load_number-meta.ensures.goes.grows in
    let two = c.load_number.ensures.goes.grows in
    let there : IsMetaPlace m c.pages.result = c.if-not-is_meta_place.ensures.0 refl in
    let at = c.addr.ensures in
    let is = c.saturating_sub-base.ensures in
    let same = same_addr q s (grows_then q r s one two) in
    record {
      has = header_s q r s h c.addr.result b m x c.pages.result c.requires.header one two at is c.load_number-meta.ensures.number c.load_number.ensures.number there c.pages.ensures.pages c.if-base-lt-PAGE_BYTES.false;
      not_group = test_s q r s h c.addr.result b m x c.pages.result c.requires.header one two at is c.load_number-meta.ensures.number c.load_number.ensures.number there c.pages.ensures.pages c.if-base-lt-PAGE_BYTES.false
          ∙ ap (λ t. Some (not t)) (eq-eqb x b c.if-load_number-base.false);
      base = base_s q r s h c.addr.result b m x c.pages.result c.requires.header one two at is c.load_number-meta.ensures.number c.load_number.ensures.number there c.pages.ensures.pages c.if-base-lt-PAGE_BYTES.false;
      meta = meta_s q r s h c.addr.result b m x c.pages.result c.requires.header one two at is c.load_number-meta.ensures.number c.load_number.ensures.number there c.pages.ensures.pages c.if-base-lt-PAGE_BYTES.false;
      place = place_s q r s h c.addr.result b m x c.pages.result c.requires.header one two at is c.load_number-meta.ensures.number c.load_number.ensures.number there c.pages.ensures.pages c.if-base-lt-PAGE_BYTES.false;
      is = omega (arith, at, is, same);
      above = c.if-base-lt-PAGE_BYTES.false;
      index = refl;
    }
