use Rattle.std.proofs.Common.{◌≡◌, ◌⊎◌, ◌-◌, ◌*◌, ◌∙◌, ◌≤◌, not, ap, sym, subst, eq-eqb, ne_eqb, inl, inr, arith}
use Rattle.std.specs.Prelude.{Some}
use Rattle.ng_check.specs.Checks as checks
use Rattle.ng_check.specs.Queries as query
use Rattle.ng_check.specs.Queries.{Query, number}
use Rattle.ng_check.specs.Readings.{HasGroup}
use Rattle.ng_check.specs.declared.fault.PointerFault.TheVariants.{BadClass, BadMaplen, BadOffset, BadSecret}
use Rattle.ng_check.specs.declared.group.Group.{Group}
use Rattle.ng_check.specs.declared.header.Header.{Header}
use Rattle.ng_check.proofs.Failing.{after_listed, fails, from_9, from_10, from_11, from_12, passes}
use Rattle.ng_check.proofs.Growing.{listed_later}
use Rattle.ng_check.proofs.Loading.{goes_then}
use Rattle.ng_check.proofs.Tests.{class_test, index_of, later_page, maplen_test, no_maplen, offset_test, secret_test}
use Rattle.ng_check.proofs.slot.read_slot.Goals.{else-fields-gt0-via-then-fields-gt0+else-header-fields, else-fields-gt0-via-else-fields-gt0}
use Rattle.ng_check.proofs.slot.read_slot.Goals as goal

index_at : (x : Query) (h : Header) (k : Group) → HasGroup x h k → query.index x ≡ Some k.index
index_at x h k has = index_of x h.cell has.has.header ∙ ap (λ n. Some n) (sym has.index)

pub returns-then-secret-clause-err : goal.returns-then-secret-clause-err
returns-then-secret-clause-err g c =
    let q = c.args.reader.now in
    let mid = c.read_masks.new.reader in
    let x = c.load_number-secret.new.self in
    let h = c.args.header in
    let k = c.args.group in
    let f = c.in_ok-fields.fields in
    let listed = listed_later mid x h k f c.load_number-secret.ensures.goes.grows c.in_ok-fields.ensures.ok in
    let index = index_at x h k listed.has in
    let start = after_listed x h k f listed in
    let secret = secret_test x k.meta c.load_number-secret.result listed.has.meta (subst (λ a. number x a ≡ Some c.load_number-secret.result) c.area_of.ensures c.load_number-secret.ensures.number) in
    let ne = λ (e : c.load_number-secret.result ≡ x.secret). c.if-secret.true (e ∙ sym c.secret.ensures) in
    start ∙ fails BadSecret checks.bad_secret from_9 x (secret ∙ ap (λ b. Some (not b)) (ne_eqb c.load_number-secret.result x.secret ne))

pub returns-then-is_offset_bad-clause-err : goal.returns-then-is_offset_bad-clause-err
returns-then-is_offset_bad-clause-err g c =
    let q = c.args.reader.now in
    let mid = c.read_masks.new.reader in
    let x = c.load_number-secret.new.self in
    let h = c.args.header in
    let k = c.args.group in
    let f = c.in_ok-fields.fields in
    let listed = listed_later mid x h k f c.load_number-secret.ensures.goes.grows c.in_ok-fields.ensures.ok in
    let index = index_at x h k listed.has in
    let start = after_listed x h k f listed in
    let secret = secret_test x k.meta c.load_number-secret.result listed.has.meta (subst (λ a. number x a ≡ Some c.load_number-secret.result) c.area_of.ensures c.load_number-secret.ensures.number) in
    let s = secret ∙ ap (λ b. Some (not b)) (eq-eqb c.load_number-secret.result x.secret (c.if-secret.false ∙ c.secret.ensures)) in
    let o = offset_test x k.index h.offset f index listed.has.has.offset listed.fields ∙ ap (λ b. Some b) (sym c.is_offset_bad.ensures ∙ c.if-is_offset_bad.true) in
    start ∙ passes BadSecret checks.bad_secret from_9 x s ∙ fails BadOffset checks.bad_offset from_10 x o

pub returns-then-not-is_known_class-clause-err : goal.returns-then-not-is_known_class-clause-err
returns-then-not-is_known_class-clause-err g c =
    let q = c.args.reader.now in
    let mid = c.read_masks.new.reader in
    let x = c.load_number-secret.new.self in
    let h = c.args.header in
    let k = c.args.group in
    let f = c.in_ok-fields.fields in
    let listed = listed_later mid x h k f c.load_number-secret.ensures.goes.grows c.in_ok-fields.ensures.ok in
    let index = index_at x h k listed.has in
    let start = after_listed x h k f listed in
    let secret = secret_test x k.meta c.load_number-secret.result listed.has.meta (subst (λ a. number x a ≡ Some c.load_number-secret.result) c.area_of.ensures c.load_number-secret.ensures.number) in
    let s = secret ∙ ap (λ b. Some (not b)) (eq-eqb c.load_number-secret.result x.secret (c.if-secret.false ∙ c.secret.ensures)) in
    let o = offset_test x k.index h.offset f index listed.has.has.offset listed.fields ∙ ap (λ b. Some b) (sym c.is_offset_bad.ensures ∙ c.if-is_offset_bad.false) in
    let l = class_test x f listed.fields ∙ ap (λ b. Some (not b)) (sym c.is_known_class.ensures ∙ c.if-not-is_known_class.true) in
    start ∙ passes BadSecret checks.bad_secret from_9 x s ∙ passes BadOffset checks.bad_offset from_10 x o ∙ fails BadClass checks.bad_class from_11 x l

pub returns-then-header-fields-clause-err : goal.returns-then-header-fields-clause-err
returns-then-header-fields-clause-err g c =
    let q = c.args.reader.now in
    let mid = c.read_masks.new.reader in
    let x = c.load_number-secret.new.self in
    let h = c.args.header in
    let k = c.args.group in
    let f = c.in_ok-fields.fields in
    let listed = listed_later mid x h k f c.load_number-secret.ensures.goes.grows c.in_ok-fields.ensures.ok in
    let index = index_at x h k listed.has in
    let start = after_listed x h k f listed in
    let secret = secret_test x k.meta c.load_number-secret.result listed.has.meta (subst (λ a. number x a ≡ Some c.load_number-secret.result) c.area_of.ensures c.load_number-secret.ensures.number) in
    let s = secret ∙ ap (λ b. Some (not b)) (eq-eqb c.load_number-secret.result x.secret (c.if-secret.false ∙ c.secret.ensures)) in
    let o = offset_test x k.index h.offset f index listed.has.has.offset listed.fields ∙ ap (λ b. Some b) (sym c.is_offset_bad.ensures ∙ c.if-is_offset_bad.false) in
    let l = class_test x f listed.fields ∙ ap (λ b. Some (not b)) (sym c.is_known_class.ensures ∙ c.if-not-is_known_class.false) in
    let m = maplen_test x h.offset f listed.has.has.offset listed.fields ∙ ap (λ b. Some b) (later_page f.maplen (f.maplen * 256 - 1) h.offset c.if-fields-gt0.true c.if-header-fields.true) in
    start ∙ passes BadSecret checks.bad_secret from_9 x s ∙ passes BadOffset checks.bad_offset from_10 x o ∙ passes BadClass checks.bad_class from_11 x l
    ∙ fails BadMaplen checks.bad_maplen from_12 x m

pub returns-clause-ok : goal.returns-clause-ok
returns-clause-ok g c =
    let q = c.args.reader.now in
    let mid = c.read_masks.new.reader in
    let x = c.load_number-secret.new.self in
    let h = c.args.header in
    let k = c.args.group in
    let f = c.in_ok-fields.fields in
    let listed = listed_later mid x h k f c.load_number-secret.ensures.goes.grows c.in_ok-fields.ensures.ok in
    let index = index_at x h k listed.has in
    let start = after_listed x h k f listed in
    let secret = secret_test x k.meta c.load_number-secret.result listed.has.meta (subst (λ a. number x a ≡ Some c.load_number-secret.result) c.area_of.ensures c.load_number-secret.ensures.number) in
    let s = secret ∙ ap (λ b. Some (not b)) (eq-eqb c.load_number-secret.result x.secret (c.if-secret.false ∙ c.secret.ensures)) in
    let o = offset_test x k.index h.offset f index listed.has.has.offset listed.fields ∙ ap (λ b. Some b) (sym c.is_offset_bad.ensures ∙ c.if-is_offset_bad.false) in
    let l = class_test x f listed.fields ∙ ap (λ b. Some (not b)) (sym c.is_known_class.ensures ∙ c.if-not-is_known_class.false) in
    let good : (f.maplen ≤ 0) ⊎ (h.offset ≤ f.maplen * 256 - 1) = elim c.else-fields-gt0.branch [
      | else-fields-gt0-via-then-fields-gt0+else-header-fields w ↦ inr w.if-header-fields.false
      | else-fields-gt0-via-else-fields-gt0 w ↦ inl w.if-fields-gt0.false
    ] in record {
      listed = listed;
      bad_secret = s;
      bad_offset = o;
      bad_class = l;
      bad_maplen = maplen_test x h.offset f listed.has.has.offset listed.fields ∙ ap (λ b. Some b) (no_maplen h.offset f.maplen good);
      class = sym c.is_known_class.ensures ∙ c.if-not-is_known_class.false;
      range = c.in_ok-fields.ensures.range;
    }

pub returns-then-is_offset_bad-clause-goes : goal.returns-then-is_offset_bad-clause-goes
returns-then-is_offset_bad-clause-goes g c =
    goes_then g.N.Name.facts.start 4 2 6 c.args.reader.now c.read_masks.new.reader c.load_number-secret.new.self c.args.hand.now c.read_masks.new.hand c.load_number-secret.new.hand (omega arith)
    c.read_masks.ensures.goes c.load_number-secret.ensures.goes

pub returns-then-not-is_known_class-clause-goes : goal.returns-then-not-is_known_class-clause-goes
returns-then-not-is_known_class-clause-goes g c =
    goes_then g.N.Name.facts.start 4 2 6 c.args.reader.now c.read_masks.new.reader c.load_number-secret.new.self c.args.hand.now c.read_masks.new.hand c.load_number-secret.new.hand (omega arith)
    c.read_masks.ensures.goes c.load_number-secret.ensures.goes

pub returns-then-header-fields-clause-goes : goal.returns-then-header-fields-clause-goes
returns-then-header-fields-clause-goes g c =
    goes_then g.N.Name.facts.start 4 2 6 c.args.reader.now c.read_masks.new.reader c.load_number-secret.new.self c.args.hand.now c.read_masks.new.hand c.load_number-secret.new.hand (omega arith)
    c.read_masks.ensures.goes c.load_number-secret.ensures.goes

pub returns-clause-goes : goal.returns-clause-goes
returns-clause-goes g c =
    goes_then g.N.Name.facts.start 4 2 6 c.args.reader.now c.read_masks.new.reader c.load_number-secret.new.self c.args.hand.now c.read_masks.new.hand c.load_number-secret.new.hand (omega arith)
    c.read_masks.ensures.goes c.load_number-secret.ensures.goes
