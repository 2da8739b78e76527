-- No check up to the eleventh fails for a block's own slot.
use Rattle.std.proofs.Common.{◌≡◌, ◌≢◌, ◌⊎◌, ⊎_elim, ℕ, ◌+◌, ◌-◌, ◌*◌, ◌/◌, ◌%◌, ◌<◌, ◌≤◌, Bool, true, false, cond, not, ◌&&◌, ◌||◌, eq-eqb, ne_eqb, ltb-true, leb-true, refl, sym, ap, ◌∙◌, subst, inl, inr, true≢false, arith}
use Rattle.std.specs.Prelude.{Option, Some, nat_lt, nat_le, ◌==◌}
use Rattle.std.specs.Int.{bit_at}
use Rattle.std.specs.Option.{option_and_then, option_map}
use Rattle.std.proofs.lemmas.Bool.{cases_eq}
use Rattle.ng_class.specs.Class.{units_of}
use Rattle.ng_class.specs.Slot.{IsGroupClass, stride_of}
use Rattle.ng_class.proofs.Slots.{room_of_slot, stride_of_several}
use Rattle.ng_meta.specs.Place.{IsMetaPlace}
use Rattle.ng_meta.specs.declared.flags.Fields.{Fields}
use Rattle.ng_view.specs.Blocks.{IsNarrow, IsWide}
use Rattle.ng_view.specs.Places.{reach, room, stride}
use Rattle.ng_view.specs.Tells.{IsOfRun, IsOfSlot}
use Rattle.ng_view.specs.declared.view.Group.{Group}
use Rattle.ng_view.specs.declared.view.Held.{Held}
use Rattle.ng_view.specs.declared.view.Start.{Start}
use Rattle.ng_space.proofs.Reading.{group_class}
use Rattle.ng_check.specs.Checks as checks
use Rattle.ng_check.specs.Checks.{is_bad_maplen, is_bad_offset, is_place}
use Rattle.ng_check.specs.Queries as query
use Rattle.ng_check.specs.Queries.{Query, both, is_class}
use Rattle.ng_check.proofs.Options.{both_some, map_some, some_is, then_some}
use Rattle.ng_check.proofs.OwnCells.{IsOwn, above_page, behind_page, in_space, own_avail, own_base, own_check, own_fields, own_freed, own_header, own_index, own_mem, own_named, own_offset, own_wide, reaches}
use Rattle.ng_check.proofs.Tests.{above_test, aligned_is, and_left, and_right, below_test, inside_is, place_true, wide_good}

abbrev pub Never : Option Bool → Type 0
Never t = t ≡ Some true → ⊥

pub never_both : (t : Option Bool) → t ≡ Some false → Never t
never_both t passed failed = true≢false (some_is true false (sym failed ∙ passed))

not_same : (a b : ℕ) → a ≡ b → not (a == b) ≡ true → ⊥
not_same a b e ne = true≢false (sym ne ∙ ap not (eq-eqb a b e))

not_both : (a b c : ℕ) → a ≡ c → b ≡ c → not (a == b) ≡ true → ⊥
not_both a b c e f = not_same a b (e ∙ sym f)

either : (a b : Bool) → (a || b) ≡ true → (a ≡ true) ⊎ (b ≡ true)
either true b e = inl refl
either false b e = inr e

no_bit : (b : ℕ) → b ≡ 0 → (b == 1) ≡ true → ⊥
no_bit b z e = true≢false (sym e ∙ ne_eqb b 1 (omega arith))

times_none : (n : ℕ) → n * 0 ≡ 0
times_none n = omega arith

-- the class of a group's fields is one of groups
pub class_is : (f : Fields) → IsGroupClass f.class f.last f.maplen → is_class f ≡ true
class_is f (inl low) = ap (λ b. b || (f.class == 63 && (f.last == 0 && nat_lt 0 f.maplen))) (below_test f.class 48 low)
class_is f (inr lone) =
    let is = lone.lone in
    (λ k. above_test f.class 48 (omega (arith, is)) k || (eq-eqb f.class 63 lone.lone k && (eq-eqb f.last 0 lone.single k && below_test 0 f.maplen (let m = lone.mapped in omega (arith, m)) k)))

module _ (key : Start) (h : Held) (q : Query) (own : IsOwn key h q) where
  abbrev g : Group
  g = h.place.group

  abbrev i : ℕ
  i = h.place.index

  pub never_misaligned : Never (checks.misaligned q)
  never_misaligned = never_both (checks.misaligned q) (aligned_is q own.whole)

  pub never_outside : Never (checks.outside q)
  never_outside =
      let below = in_space key h q own in let same = own.pages in
      never_both (checks.outside q) (inside_is q (above_page key h q own) (omega (arith, below, same)))

  pub never_wide : Never (checks.bad_wide q)
  unfolding checks.bad_wide
  never_wide e =
      let f = then_some (λ h. cond (h % 256 == 0) (Some false) (option_map (λ w. not (h / 65536 == 0) || nat_le w 65535) (query.wide q))) (query.header q) true e in
      let is = own_header key h q own f.0 f.1 in
      let rest = option_map (λ w. not (f.0 / 65536 == 0) || nat_le w 65535) (query.wide q) in
      ⊎_elim
      (λ (w : IsNarrow h q.addr own.header.value).
      let zero : f.0 % 256 ≡ 0 = ap (λ x. x % 256) is ∙ w.check in
      never_both (Some false) refl (subst (λ b. cond b (Some false) rest ≡ Some true) (eq-eqb (f.0 % 256) 0 zero) f.2))
      (λ (w : IsWide h q.addr own.header.value).
      let one : f.0 % 256 ≡ 1 = ap (λ x. x % 256) is ∙ w.check in
      let is_rest : rest ≡ Some true = subst (λ b. cond b (Some false) rest ≡ Some true) (ne_eqb (f.0 % 256) 0 (omega (arith, one))) f.2 in
      let o = map_some (λ w. not (f.0 / 65536 == 0) || nat_le w 65535) (query.wide q) true is_rest in
      let large = w.large in let same = own_wide key h q own w o.0 o.1 in
      let zero : f.0 / 65536 ≡ 0 = ap (λ x. x / 65536) is ∙ w.field in
      true≢false (sym o.2 ∙ wide_good (f.0 / 65536) o.0 zero (omega (arith, large, same))))
      own.header.carries.offset

  place_is : IsMetaPlace g.meta q.pages
  place_is = subst (IsMetaPlace g.meta) (sym own.pages) own.lies.meta

  pub never_group : Never (checks.not_group q)
  unfolding checks.not_group
  never_group e =
      let f = then_some (λ b. cond (nat_lt b 4096) (Some true) (option_and_then (λ m. cond (is_place q.pages m) (option_map (λ x. not (x == b)) (query.mem q)) (Some true)) (query.named q))) (query.base q) true e in
      let base = own_base key h q own f.0 f.1 in
      let above = behind_page key h q own in
      let rest = option_and_then (λ m. cond (is_place q.pages m) (option_map (λ x. not (x == f.0)) (query.mem q)) (Some true)) (query.named q) in
      let second : rest ≡ Some true = subst (λ b. cond b (Some true) rest ≡ Some true) (above_test f.0 4096 (omega (arith, base, above))) f.2 in
      let n = then_some (λ m. cond (is_place q.pages m) (option_map (λ x. not (x == f.0)) (query.mem q)) (Some true)) (query.named q) true second in
      let named = own_named key h q own n.0 n.1 in
      let third : option_map (λ x. not (x == f.0)) (query.mem q) ≡ Some true =
      subst (λ b. cond b (option_map (λ x. not (x == f.0)) (query.mem q)) (Some true) ≡ Some true) (place_true q.pages n.0 (subst (λ m. IsMetaPlace m q.pages) (sym named) place_is)) n.2 in
      let x = map_some (λ x. not (x == f.0)) (query.mem q) true third in
      not_both x.0 f.0 g.base (own_mem key h q own x.0 x.1) base x.2

  pub never_index : Never (checks.bad_index q)
  unfolding checks.bad_index
  never_index e =
      let f = both_some (λ i f. nat_lt f.last i) (query.index q) (query.fields q) true e in
      let index = own_index key h q own f.0 f.2 in
      let last = (own_fields key h q own f.1 f.3).last in
      let over = ltb-true f.1.last f.0 f.4 in let most = own.lies.index in
      omega (arith, index, last, over, most)

  pub never_available : Never (checks.available q)
  unfolding checks.available
  never_available e =
      let f = both_some (λ i a. bit_at a i == 1) (query.index q) (query.avail q) true e in
      let index = own_index key h q own f.0 f.2 in
      no_bit (bit_at f.1 f.0) (ap (λ j. bit_at f.1 j) index ∙ own_avail key h q own f.1 f.3) f.4

  pub never_freed : Never (checks.is_freed q)
  unfolding checks.is_freed
  never_freed e =
      let f = both_some (λ i a. bit_at a i == 1) (query.index q) (query.freed q) true e in
      let index = own_index key h q own f.0 f.2 in
      no_bit (bit_at f.1 f.0) (ap (λ j. bit_at f.1 j) index ∙ own_freed key h q own f.1 f.3) f.4

  pub never_secret : Never (checks.bad_secret q)
  unfolding checks.bad_secret
  never_secret e =
      let f = map_some (λ c. not (c == q.secret)) (query.check_word q) true e in
      not_same f.0 q.secret (own_check key h q own f.0 f.1) f.2

  -- the offset of a class below 48
  offset_within : (u o : ℕ) → u ≡ units_of (g.tag - 1) → g.tag - 1 < 48 → q.addr ≡ (g.base + 16) + 16 * o → (u * i ≤ o) × (o < u * (i + 1))
  unfolding stride room
  offset_within u o is low at =
      let from = own.from in let roomy = own.roomy in
      let size = room_of_slot (g.tag - 1) g.last g.maplen (omega (arith, low)) in
      let few : room g ≤ 16 * u = (let r : ℕ = stride_of (g.tag - 1) g.last g.maplen in omega (arith, size, is)) in
      let next : u * (i + 1) ≡ u * i + u = omega arith in
      ⊎_elim
      (λ (none : g.last ≡ 0).
      let index = own.lies.index in
      let zero : i ≡ 0 = omega (arith, index, none) in
      let times : u * i ≡ 0 = ap (λ n. u * n) zero ∙ times_none u in
      let start : stride g * i ≡ 0 = ap (λ n. stride g * n) zero ∙ times_none (stride g) in
      (omega (arith, times), omega (arith, times, start, next, roomy, few, at)))
      (λ (ne : g.last ≢ 0).
      let step : stride g ≡ 16 * u = stride_of_several (g.tag - 1) g.last g.maplen (omega (arith, ne)) ∙ ap (λ n. 16 * n) (sym is) in
      let times : stride g * i ≡ 16 * (u * i) = ap (λ n. n * i) step ∙ (let same : (16 * u) * i ≡ 16 * (u * i) = grind arith in same) in
      (omega (arith, times, from, at), omega (arith, times, next, roomy, few, at)))
      (cases_eq g.last 0)

  pub never_offset : Never (checks.bad_offset q)
  unfolding checks.bad_offset
  never_offset e =
      let f = then_some (λ i. both (is_bad_offset i) (query.offset q) (query.fields q)) (query.index q) true e in
      let p = both_some (is_bad_offset f.0) (query.offset q) (query.fields q) true f.2 in
      let o : ℕ = p.0 in let fs : Fields = p.1 in
      let index = own_index key h q own f.0 f.1 in
      let fields = own_fields key h q own fs p.3 in
      let low = ltb-true fs.class 48 (and_left _ _ p.4) in
      let class = fields.class in
      let within = offset_within (units_of fs.class) o (ap units_of class) (omega (arith, low, class)) (own_offset key h q own o p.2) in
      let one = within.0 in let two = within.1 in
      ⊎_elim
      (λ (t : nat_lt o (units_of fs.class * f.0) ≡ true).
      let lt = ltb-true o (units_of fs.class * f.0) t in
      let same : units_of fs.class * f.0 ≡ units_of fs.class * i = ap (λ n. units_of fs.class * n) index in omega (arith, lt, same, one))
      (λ (t : nat_le (units_of fs.class * (f.0 + 1)) o ≡ true).
      let le = leb-true (units_of fs.class * (f.0 + 1)) o t in
      let same : units_of fs.class * (f.0 + 1) ≡ units_of fs.class * (i + 1) = ap (λ n. units_of fs.class * (n + 1)) index in omega (arith, le, same, two))
      (either _ _ (and_right _ _ p.4))

  pub own_class : (f : Fields) → query.fields q ≡ Some f → is_class f ≡ true
  own_class f e = class_is f (group_class h.place f (own_fields key h q own f e) own.lies.class)

  pub never_class : Never (checks.bad_class q)
  unfolding checks.bad_class
  never_class e =
      let f = map_some (λ f. not (is_class f)) (query.fields q) true e in
      true≢false (sym f.2 ∙ ap not (own_class f.0 f.1))

  pub never_maplen : Never (checks.bad_maplen q)
  unfolding checks.bad_maplen
  never_maplen e =
      let p = both_some is_bad_maplen (query.offset q) (query.fields q) true e in
      let o : ℕ = p.0 in let fs : Fields = p.1 in
      let some_pages : 0 < fs.maplen = ltb-true 0 fs.maplen (and_left (nat_lt 0 fs.maplen) (nat_lt (fs.maplen * 256 - 1) o) p.4) in
      let over : fs.maplen * 256 - 1 < o = ltb-true (fs.maplen * 256 - 1) o (and_right (nat_lt 0 fs.maplen) (nat_lt (fs.maplen * 256 - 1) o) p.4) in
      let maplen = (own_fields key h q own fs p.3).maplen in
      let at = own_offset key h q own o p.2 in
      let first = own.first in let most = reaches key h q own in
      ⊎_elim
      (λ (r : IsOfRun g). let fits = r.fits in let top : ℕ = reach g in
      let low : q.addr + 4 < g.base + 4096 * fs.maplen = omega (arith, first, most, fits, maplen) in
      omega (arith, low, over, at, some_pages))
      (λ (s : IsOfSlot g). let none = s.unmapped in omega (arith, none, maplen, some_pages))
      own.runs
