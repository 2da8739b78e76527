use Rattle.std.proofs.Common.{◌≡◌, ◌≢◌, ◌∙◌, ℕ, ◌+◌, ◌-◌, ◌%◌, ◌<◌, ◌≤◌, false, [], inl, inr, ap, sym, subst, arith}
use Rattle.std.specs.Prelude.{Option, Some, None, nat_lt}
use Rattle.ng_class.specs.Slot.{end_at}
use Rattle.ng_meta.specs.declared.flags.Fields.{Fields}
use Rattle.ng_view.specs.declared.view.Start.{Start}
use Rattle.ng_space.specs.Callers.{Caller}
use Rattle.ng_check.specs.Checks as checks
use Rattle.ng_check.specs.Checks.{check, first_of}
use Rattle.ng_check.specs.Queries as query
use Rattle.ng_check.specs.Queries.{Query, byte}
use Rattle.ng_check.specs.Readings.{Fails, Goes, Grows, HasEnd, HasGroup, HasReserved, HasSlot, bounds_in}
use Rattle.ng_check.specs.declared.ending.Bounds.{Bounds}
use Rattle.ng_check.specs.declared.fault.PointerFault.TheVariants.{BadReserved, EndByte, Overrun}
use Rattle.ng_check.specs.declared.group.Group.{Group}
use Rattle.ng_check.specs.declared.header.Header.{Header}
use Rattle.ng_check.proofs.Ends.{bounds_at, step_of}
use Rattle.ng_check.proofs.Failing.{after_slot, fails, from_13, from_14, none_left, passes}
use Rattle.ng_check.proofs.Growing.{byte_later, end_later, grows_then, reserved_later, slot_later}
use Rattle.ng_check.proofs.Loading.{goes_itself, goes_then}
use Rattle.ng_check.proofs.Tests.{below_test, index_of}
use Rattle.ng_check.proofs.Trailing.{bad_end, end_of, end_test, found_is, inside_end, last_of, len_of, mark_of, no_overrun, outside_end, overrun_test, slot_end_at, start_of, whole_end}
use Rattle.ng_check.proofs.ending.read_end.Goals.{else-reserved-gt0-via-then-reserved-gt0+else-load_byte-ne0, else-reserved-gt0-via-else-reserved-gt0}
use Rattle.ng_check.proofs.ending.read_end.Goals as goal

index_at : (q : Query) (h : Header) (k : Group) → HasGroup q h k → query.index q ≡ Some k.index
index_at q h k has = index_of q h.cell has.has.header ∙ ap (λ n. Some n) (sym has.index)

-- the slot of a query, by its bounds
module _ (q : Query) (h : Header) (k : Group) (f : Fields) (slot : HasSlot q h k f) where
  abbrev final : ℕ
  final = end_at (k.base + 16) (step_of f) k.index

  slot_ends : query.slot_end q ≡ Some final
  slot_ends = slot_end_at q k.base k.index f slot.listed.has.base slot.listed.fields (index_at q h k slot.listed.has) slot.class

  unbounded : bounds_in q.pages k.base k.index f ≡ None → Fails q BadReserved
  unbounded none =
      after_slot q h k f slot ∙ fails BadReserved checks.bad_reserved from_13 q (bad_end q final slot_ends (inl (outside_end q.pages k.base k.index f slot.class none)))

-- the same, where the bounds are these
module _ (q : Query) (h : Header) (k : Group) (f : Fields) (x : Bounds) (slot : HasSlot q h k f) (some : bounds_in q.pages k.base k.index f ≡ Some x) where
  is_at : x ≡ bounds_at k.base k.index f
  is_at = (inside_end q.pages k.base k.index f x slot.class some).1

  ends_at : x.end ≡ final q h k f slot
  ends_at = ap (λ (b : Bounds). b.end) is_at

  ends_below : x.end < q.addr → Fails q BadReserved
  ends_below low =
      after_slot q h k f slot
      ∙ fails BadReserved checks.bad_reserved from_13 q (bad_end q (final q h k f slot) (slot_ends q h k f slot) (inr (subst (λ n. n < q.addr) ends_at low)))

  whole_base : k.base % 16 ≡ 0
  whole_base =
      let base = slot.listed.has.is in let above = slot.listed.has.above in let whole = slot.listed.has.has.placed.whole in omega (arith, base, above, whole)

  has_end : (a : ℕ) → a ≡ q.addr → a ≤ x.end → HasEnd q x.end
  has_end a at above =
      let from : q.addr ≤ x.end = subst (λ n. n ≤ x.end) at above in
      let below = (inside_end q.pages k.base k.index f x slot.class some).0 in
      subst (HasEnd q) (sym ends_at) (record {
        end = end_of q (final q h k f slot) (slot_ends q h k f slot) below;
        from = subst (λ n. q.addr ≤ n) ends_at from;
        below = below;
        whole = whole_end k.base k.index f whole_base slot.class;
      })

  starts_at : (y : Query) → HasSlot y h k f → query.start y ≡ Some x.start
  starts_at y later =
      start_of y k.base k.index f later.listed.has.base later.listed.fields (index_at y h k later.listed.has) later.class
      ∙ ap (λ (b : Bounds). Some b.start) (sym is_at)

-- the last checks, once so many reserved bytes are known
module _ (y : Query) (h : Header) (k : Group) (f : Fields) (e r : ℕ) (slot : HasSlot y h k f) (end : HasEnd y e) (has : HasReserved y e r) where
  reserved_passes : check y ≡ first_of from_13 y
  reserved_passes = after_slot y h k f slot ∙ passes BadReserved checks.bad_reserved from_13 y has.bad_reserved

  marked : (b : ℕ) → r ≢ 0 → byte y (e - r) ≡ Some b → checks.overrun y ≡ Some (nat_lt 0 b)
  marked b some there = overrun_test y r b has.reserved some (mark_of y e r b end.end has.reserved some there)

  overruns : (b : ℕ) → r ≢ 0 → byte y (e - r) ≡ Some b → b ≢ 0 → Fails y Overrun
  overruns b some there written =
      reserved_passes ∙ fails Overrun checks.overrun from_14 y (marked b some there ∙ ap (λ t. Some t) (below_test 0 b (omega (arith, written))))

  ended : (b : ℕ) → byte y e ≡ Some b → checks.end_byte y ≡ Some (nat_lt 0 b)
  ended b there = end_test y b (last_of y e b end.end there)

  ends_written : (b : ℕ) → checks.overrun y ≡ Some false → byte y e ≡ Some b → b ≢ 0 → Fails y EndByte
  ends_written b clean there written =
      reserved_passes ∙ passes Overrun checks.overrun from_14 y clean
      ∙ fails EndByte checks.end_byte [] y (ended b there ∙ ap (λ t. Some t) (below_test 0 b (omega (arith, written))))

  ends_clean : (b : ℕ) → checks.overrun y ≡ Some false → byte y e ≡ Some b → b ≡ 0 → check y ≡ Some None
  ends_clean b clean there zero =
      reserved_passes ∙ passes Overrun checks.overrun from_14 y clean
      ∙ passes EndByte checks.end_byte [] y (ended b there ∙ ap (λ n. Some (nat_lt 0 n)) zero) ∙ none_left y

-- what is known of a query later, of what was read before
record Known (q : Query) (h : Header) (k : Group) (f : Fields) (e r : ℕ) : Type 0 where
  slot : HasSlot q h k f
  end : HasEnd q e
  has : HasReserved q e r

known_later : (q mid y : Query) (h : Header) (k : Group) (f : Fields) (e r : ℕ) → HasSlot q h k f → HasEnd q e → Grows q mid → HasReserved mid e r → Grows mid y
    → Known y h k f e r
known_later q mid y h k f e r slot end one has two = record {
  slot = slot_later q y h k f (grows_then q mid y one two) slot;
  end = end_later q y e (grows_then q mid y one two) end;
  has = reserved_later mid y e r two has;
}

-- the bounds of the slot, as a call found them by the query's pages
bounds_here : (q : Query) (k : Group) (f : Fields) (pages : ℕ) (found o : Option Bounds) → pages ≡ q.pages → found ≡ bounds_in pages k.base k.index f → found ≡ o
    → bounds_in q.pages k.base k.index f ≡ o
bounds_here q k f pages found o same is e = ap (λ p. bounds_in p k.base k.index f) (sym same) ∙ sym is ∙ e

pub returns-in_default-clause-err : goal.returns-in_default-clause-err
returns-in_default-clause-err g c =
    let q = c.args.reader.now in
    let k = c.args.group in
    let f = c.args.fields in
    unbounded q c.args.header k f c.requires.slot (bounds_here q k f c.pages.result c.bounds_of.result None c.pages.ensures.pages c.bounds_of.ensures c.in_default.is)

pub returns-then-end-addr-clause-err : goal.returns-then-end-addr-clause-err
returns-then-end-addr-clause-err g c =
    let q = c.args.reader.now in
    let k = c.args.group in
    let f = c.args.fields in
    let x = c.in-Some.field-0 in
    let some = bounds_here q k f c.pages.result c.bounds_of.result (Some x) c.pages.ensures.pages c.bounds_of.ensures c.in-Some.is in
    ends_below q c.args.header k f x c.requires.slot some (subst (λ n. x.end < n) c.addr.ensures c.if-end-addr.true)

pub read_reserved-requires-clause-end : goal.read_reserved-requires-clause-end
read_reserved-requires-clause-end g c =
    let q = c.args.reader.now in
    let k = c.args.group in
    let f = c.args.fields in
    let x = c.in-Some.field-0 in
    let some = bounds_here q k f c.pages.result c.bounds_of.result (Some x) c.pages.ensures.pages c.bounds_of.ensures c.in-Some.is in
    has_end q c.args.header k f x c.requires.slot some c.addr.result c.addr.ensures c.if-end-addr.false

pub returns-then-load_byte-ne0-clause-goes : goal.returns-then-load_byte-ne0-clause-goes
returns-then-load_byte-ne0-clause-goes g c =
    let mid = c.read_reserved.new in
    let y = c.load_byte.new in
    goes_then g.N.Name.facts.start 2 1 4 c.args.reader.now mid.reader y.self c.args.hand.now mid.hand y.hand (omega arith) c.read_reserved.ensures.goes c.load_byte.ensures.goes

pub returns-then-load_byte-ne0-clause-err : goal.returns-then-load_byte-ne0-clause-err
returns-then-load_byte-ne0-clause-err g c =
    let q = c.args.reader.now in
    let h = c.args.header in
    let k = c.args.group in
    let f = c.args.fields in
    let x = c.in-Some.field-0 in
    let some = bounds_here q k f c.pages.result c.bounds_of.result (Some x) c.pages.ensures.pages c.bounds_of.ensures c.in-Some.is in
    let end = has_end q h k f x c.requires.slot some c.addr.result c.addr.ensures c.if-end-addr.false in
    let mid = c.read_reserved.new.reader in
    let y = c.load_byte.new.self in
    let r = c.in_ok-reserved.reserved in
    let known = known_later q mid y h k f x.end r c.requires.slot end c.read_reserved.ensures.goes.grows c.in_ok-reserved.ensures.ok c.load_byte.ensures.goes.grows in
    let more : 0 < r = c.if-reserved-gt0.true in
    overruns y h k f x.end r known.slot known.end known.has c.load_byte.result (omega (arith, more)) c.load_byte.ensures.byte c.if-load_byte-ne0.true

-- the loads from one query to a last one, over one that is seen as another
last_goes : (key : Start) (q mid z seen y : Query) (one two three met four : Caller) → seen ≡ z → met ≡ three
    → Goes key 2 q one mid two → Goes key 1 mid two z three → Goes key 1 seen met y four → Goes key 4 q one y four
last_goes key q mid z seen y one two three met four same hands a b c =
    let last : Goes key 1 z three y four = subst (λ x. Goes key 1 x three y four) same (subst (λ x. Goes key 1 seen x y four) hands c) in
    goes_then key 3 1 4 q z y one three four (omega arith) (goes_then key 2 1 3 q mid z one two three (omega arith) a b) last

pub returns-then-load_byte-ne0-2-clause-goes : goal.returns-then-load_byte-ne0-2-clause-goes
returns-then-load_byte-ne0-2-clause-goes g c =
    let key = g.N.Name.facts.start in
    let q = c.args.reader.now in
    let mid = c.read_reserved.new in
    let z = c.else-reserved-gt0 in
    let hand = c.args.hand.now in
    let y = c.load_byte-2.new in
    elim c.else-reserved-gt0.branch [
      | else-reserved-gt0-via-then-reserved-gt0+else-load_byte-ne0 w ↦
          last_goes key q mid.reader w.load_byte.new.self z.reader y.self hand mid.hand w.load_byte.new.hand z.hand y.hand w.reader-is w.hand-is c.read_reserved.ensures.goes
          w.load_byte.ensures.goes c.load_byte-2.ensures.goes
      | else-reserved-gt0-via-else-reserved-gt0 w ↦
          last_goes key q mid.reader mid.reader z.reader y.self hand mid.hand mid.hand z.hand y.hand w.reader-is w.hand-is c.read_reserved.ensures.goes
          (goes_itself key 1 mid.reader mid.hand) c.load_byte-2.ensures.goes
    ]

pub returns-clause-goes : goal.returns-clause-goes
returns-clause-goes g c =
    let key = g.N.Name.facts.start in
    let q = c.args.reader.now in
    let mid = c.read_reserved.new in
    let z = c.else-reserved-gt0 in
    let hand = c.args.hand.now in
    let y = c.load_byte-2.new in
    elim c.else-reserved-gt0.branch [
      | else-reserved-gt0-via-then-reserved-gt0+else-load_byte-ne0 w ↦
          last_goes key q mid.reader w.load_byte.new.self z.reader y.self hand mid.hand w.load_byte.new.hand z.hand y.hand w.reader-is w.hand-is c.read_reserved.ensures.goes
          w.load_byte.ensures.goes c.load_byte-2.ensures.goes
      | else-reserved-gt0-via-else-reserved-gt0 w ↦
          last_goes key q mid.reader mid.reader z.reader y.self hand mid.hand mid.hand z.hand y.hand w.reader-is w.hand-is c.read_reserved.ensures.goes
          (goes_itself key 1 mid.reader mid.hand) c.load_byte-2.ensures.goes
    ]

-- what is known at last, and that no reserved byte was written
clean_marked : (q mid z y : Query) (h : Header) (k : Group) (f : Fields) (e r b : ℕ) → HasSlot q h k f → HasEnd q e → Grows q mid → HasReserved mid e r → Grows mid z → Grows z y
    → 0 < r → byte z (e - r) ≡ Some b → b ≡ 0 → Known y h k f e r × (checks.overrun y ≡ Some false)
clean_marked q mid z y h k f e r b slot end one has two three more there zero =
    let known = known_later q mid y h k f e r slot end one has (grows_then mid z y two three) in
    (known, marked y h k f e r known.slot known.end known.has b (omega (arith, more)) (byte_later z y (e - r) three b there) ∙ ap (λ n. Some (nat_lt 0 n)) zero)

clean_plain : (q mid y : Query) (h : Header) (k : Group) (f : Fields) (e r : ℕ) → HasSlot q h k f → HasEnd q e → Grows q mid → HasReserved mid e r → Grows mid y
    → r ≤ 0 → Known y h k f e r × (checks.overrun y ≡ Some false)
clean_plain q mid y h k f e r slot end one has two none =
    let known = known_later q mid y h k f e r slot end one has two in
    (known, no_overrun y r known.has.reserved (omega (arith, none)))

pub returns-then-load_byte-ne0-2-clause-err : goal.returns-then-load_byte-ne0-2-clause-err
returns-then-load_byte-ne0-2-clause-err g c =
    let q = c.args.reader.now in
    let h = c.args.header in
    let k = c.args.group in
    let f = c.args.fields in
    let x = c.in-Some.field-0 in
    let some = bounds_here q k f c.pages.result c.bounds_of.result (Some x) c.pages.ensures.pages c.bounds_of.ensures c.in-Some.is in
    let end = has_end q h k f x c.requires.slot some c.addr.result c.addr.ensures c.if-end-addr.false in
    let mid = c.read_reserved.new.reader in
    let y = c.load_byte-2.new.self in
    let r = c.in_ok-reserved.reserved in
    let one = c.read_reserved.ensures.goes.grows in
    let last = c.load_byte-2.ensures.goes.grows in
    let known : Known y h k f x.end r × (checks.overrun y ≡ Some false) = elim c.else-reserved-gt0.branch [
      | else-reserved-gt0-via-then-reserved-gt0+else-load_byte-ne0 w ↦
          clean_marked q mid w.load_byte.new.self y h k f x.end r w.load_byte.result c.requires.slot end one c.in_ok-reserved.ensures.ok w.load_byte.ensures.goes.grows
          (subst (λ z. Grows z y) w.reader-is last) w.if-reserved-gt0.true w.load_byte.ensures.byte w.if-load_byte-ne0.false
      | else-reserved-gt0-via-else-reserved-gt0 w ↦
          clean_plain q mid y h k f x.end r c.requires.slot end one c.in_ok-reserved.ensures.ok (subst (λ z. Grows z y) w.reader-is last) w.if-reserved-gt0.false
    ] in
    ends_written y h k f x.end r known.0.slot known.0.end known.0.has c.load_byte-2.result known.1 c.load_byte-2.ensures.byte c.if-load_byte-ne0-2.true

pub returns-clause-ok : goal.returns-clause-ok
returns-clause-ok g c =
    let q = c.args.reader.now in
    let h = c.args.header in
    let k = c.args.group in
    let f = c.args.fields in
    let x = c.in-Some.field-0 in
    let some = bounds_here q k f c.pages.result c.bounds_of.result (Some x) c.pages.ensures.pages c.bounds_of.ensures c.in-Some.is in
    let end = has_end q h k f x c.requires.slot some c.addr.result c.addr.ensures c.if-end-addr.false in
    let mid = c.read_reserved.new.reader in
    let y = c.load_byte-2.new.self in
    let r = c.in_ok-reserved.reserved in
    let one = c.read_reserved.ensures.goes.grows in
    let last = c.load_byte-2.ensures.goes.grows in
    let known : Known y h k f x.end r × (checks.overrun y ≡ Some false) = elim c.else-reserved-gt0.branch [
      | else-reserved-gt0-via-then-reserved-gt0+else-load_byte-ne0 w ↦
          clean_marked q mid w.load_byte.new.self y h k f x.end r w.load_byte.result c.requires.slot end one c.in_ok-reserved.ensures.ok w.load_byte.ensures.goes.grows
          (subst (λ z. Grows z y) w.reader-is last) w.if-reserved-gt0.true w.load_byte.ensures.byte w.if-load_byte-ne0.false
      | else-reserved-gt0-via-else-reserved-gt0 w ↦
          clean_plain q mid y h k f x.end r c.requires.slot end one c.in_ok-reserved.ensures.ok (subst (λ z. Grows z y) w.reader-is last) w.if-reserved-gt0.false
    ] in
    let slot = known.0.slot in record {
      passes = ends_clean y h k f x.end r slot known.0.end known.0.has c.load_byte-2.result known.1 c.load_byte-2.ensures.byte c.if-load_byte-ne0-2.false;
      is = sym (found_is y k.meta k.index x.start x.end (x.end - c.addr-2.result - r) slot.listed.has.meta (index_at y h k slot.listed.has)
          (starts_at q h k f x c.requires.slot some y slot) known.0.end.end
          (len_of y x.end r known.0.end.end known.0.has.reserved ∙ ap (λ d. Some (x.end - d - r)) (sym c.addr-2.ensures)));
    }
