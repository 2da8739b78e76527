-- What stands round a slot's end, and what the last three checks answer by that.
use Rattle.std.proofs.Common.{◌≡◌, ◌≢◌, ◌⊎◌, ℕ, ◌+◌, ◌-◌, ◌*◌, ◌/◌, ◌%◌, ◌<◌, ◌≤◌, Bool, true, false, cond, ◌&&◌, ◌||◌, eq-eqb, eqb-true, ne_eqb, ltb-true, ltb-false, inl, inr, ap, ◌∙◌, sym, refl, arith}
use Rattle.std.specs.Prelude.{Option, Some, None, Result, Ok, is_err, nat_lt, nat_le, ◌==◌}
use Rattle.std.specs.Option.{option_and_then, option_map}
use Rattle.std.proofs.lemmas.Bool.Decides.{nat_tests}
use Rattle.ng_class.specs.Slot.{IsGroupClass, end_at, start_at}
use Rattle.ng_class.proofs.Slots.{stride_of_aligned, stride_of_least}
use Rattle.ng_header.specs.Reading.{reserved_in}
use Rattle.ng_header.specs.declared.reading.NominalFault.{NominalFault}
use Rattle.ng_meta.specs.declared.flags.Fields.{Fields}
use Rattle.ng_check.specs.Answers.{found_of, or_zero}
use Rattle.ng_check.specs.Checks as checks
use Rattle.ng_check.specs.Queries as query
use Rattle.ng_check.specs.Queries.{Query, both, byte, cell, is_class}
use Rattle.ng_check.specs.Readings.{bounds_in}
use Rattle.ng_check.specs.declared.ending.Bounds.{Bounds}
use Rattle.ng_check.proofs.Ends.{bounds_at, past_end, step_of, within_space}
use Rattle.ng_check.proofs.Options.{both_is, some_is, then_some}
use Rattle.ng_check.proofs.Tests.{and_left, and_right, below_test}

-- ---- the slot
pub slot_end_at : (q : Query) (b i : ℕ) (f : Fields) → query.base q ≡ Some b → query.fields q ≡ Some f → query.index q ≡ Some i → is_class f ≡ true
    → query.slot_end q ≡ Some (end_at (b + 16) (step_of f) i)
unfolding query.slot_end query.stride
slot_end_at q b i f base fields index class =
    (λ k. option_and_then (λ b. both (end_at (b + 16)) (option_and_then (λ f. cond (is_class f) (Some (step_of f)) None) (fields k)) (index k)) (base k))
    ∙ ap (λ t. both (end_at (b + 16)) (cond t (Some (step_of f)) None) (Some i)) class

pub start_of : (q : Query) (b i : ℕ) (f : Fields) → query.base q ≡ Some b → query.fields q ≡ Some f → query.index q ≡ Some i → is_class f ≡ true
    → query.start q ≡ Some (start_at (b + 16) (step_of f) i)
unfolding query.start query.stride
start_of q b i f base fields index class =
    (λ k. option_and_then (λ b. both (start_at (b + 16)) (option_and_then (λ f. cond (is_class f) (Some (step_of f)) None) (fields k)) (index k)) (base k))
    ∙ ap (λ t. both (start_at (b + 16)) (cond t (Some (step_of f)) None) (Some i)) class

pub end_of : (q : Query) (e : ℕ) → query.slot_end q ≡ Some e → e < 4096 * q.pages → query.end q ≡ Some e
unfolding query.end
end_of q e is lt = rw (is, below_test e (4096 * q.pages) lt) refl

same_inside : (t : Bool) (x e : ℕ) → ◌≡◌ {A = Option ℕ} (cond t (Some x) None) (Some e) → x ≡ e
same_inside true x e is = some_is x e is
same_inside false x e is = absurd (cc)

pub slot_end_of : (q : Query) (e : ℕ) → query.end q ≡ Some e → query.slot_end q ≡ Some e
unfolding query.end
slot_end_of q e is =
    let from = then_some (λ x. cond (nat_lt x (4096 * q.pages)) (Some x) None) (query.slot_end q) e is in
    from.1 ∙ ap (λ n. Some n) (same_inside (nat_lt from.0 (4096 * q.pages)) from.0 e from.2)

-- a slot without bounds ends outside of the space
pub outside_end : (pages b i : ℕ) (f : Fields) → is_class f ≡ true → bounds_in pages b i f ≡ None → 4096 * pages ≤ end_at (b + 16) (step_of f) i
outside_end pages b i f class none = by_test (nat_lt (end_at (b + 16) (step_of f) i) (4096 * pages)) refl
  where
    by_test : (t : Bool) → nat_lt (end_at (b + 16) (step_of f) i) (4096 * pages) ≡ t → 4096 * pages ≤ end_at (b + 16) (step_of f) i
    by_test true e = absurd (let some = within_space pages b i f class (ltb-true (end_at (b + 16) (step_of f) i) (4096 * pages) e) in let never = sym some ∙ none in cc)
    by_test false e = ltb-false (end_at (b + 16) (step_of f) i) (4096 * pages) e

-- and bounds are those of the slot, which ends in the space
pub inside_end : (pages b i : ℕ) (f : Fields) (x : Bounds) → is_class f ≡ true → bounds_in pages b i f ≡ Some x
    → (end_at (b + 16) (step_of f) i < 4096 * pages) × (x ≡ bounds_at b i f)
inside_end pages b i f x class some = by_test (nat_lt (end_at (b + 16) (step_of f) i) (4096 * pages)) refl
  where
    by_test : (t : Bool) → nat_lt (end_at (b + 16) (step_of f) i) (4096 * pages) ≡ t → (end_at (b + 16) (step_of f) i < 4096 * pages) × (x ≡ bounds_at b i f)
    by_test true e =
        let lt = ltb-true (end_at (b + 16) (step_of f) i) (4096 * pages) e in
        let is = sym some ∙ within_space pages b i f class lt in (lt, (cc))
    by_test false e = absurd (let none = sym (past_end pages b i f (ltb-false (end_at (b + 16) (step_of f) i) (4096 * pages) e)) ∙ some in cc)

group_class : (f : Fields) → is_class f ≡ true → IsGroupClass f.class f.last f.maplen
group_class f e = by_test (nat_lt f.class 48) refl e
  where
    by_test : (t : Bool) → nat_lt f.class 48 ≡ t → (t || (f.class == 63 && (f.last == 0 && nat_lt 0 f.maplen))) ≡ true → IsGroupClass f.class f.last f.maplen
    by_test true low is = inl (ltb-true f.class 48 low)
    by_test false high is = inr (record {
      lone = eqb-true f.class 63 (and_left _ _ is);
      single = eqb-true f.last 0 (and_left _ _ (and_right _ _ is));
      mapped = ltb-true 0 f.maplen (and_right _ _ (and_right _ _ is));
    })

-- the slots of a group at a multiple of 16 end four bytes before one
pub whole_end : (b i : ℕ) (f : Fields) → b % 16 ≡ 0 → is_class f ≡ true → end_at (b + 16) (step_of f) i % 16 ≡ 12
whole_end b i f whole class =
    let least : 16 ≤ step_of f = stride_of_least f.class f.last f.maplen (group_class f class) in
    let aligned : step_of f % 16 ≡ 0 = stride_of_aligned f.class f.last f.maplen in
    let s : ℕ = step_of f in
    let parts : s ≡ 16 * (s / 16) = omega arith in
    whole_step b i s (s / 16) whole least parts
  where
    whole_step : (b i s k : ℕ) → b % 16 ≡ 0 → 16 ≤ s → s ≡ 16 * k → end_at (b + 16) s i % 16 ≡ 12
    whole_step b i s k whole least parts =
        let times : s * i ≡ 16 * (k * i) = rw parts (omega arith) in
        omega arith

-- ---- the reserved number
pub field_of : (q : Query) (h : ℕ) → query.header q ≡ Some h → query.field q ≡ Some (h / 8192 % 8)
unfolding query.field
field_of q h e = ap (option_map (λ h. h / 8192 % 8)) e

pub word_of : (q : Query) (e x : ℕ) → query.end q ≡ Some e → cell q (e - 4) ≡ Some x → query.word q ≡ Some x
unfolding query.word
word_of q e x is there = ap (option_and_then (λ e. cell q (e - 4))) is ∙ there

pub fifth_of : (q : Query) (e x : ℕ) → query.end q ≡ Some e → byte q (e - 5) ≡ Some x → query.fifth q ≡ Some x
unfolding query.fifth
fifth_of q e x is there = ap (option_and_then (λ e. byte q (e - 5))) is ∙ there

pub reserved_plain : (q : Query) (f e : ℕ) → query.field q ≡ Some f → query.end q ≡ Some e → f ≢ 5 → query.reserved q ≡ Some (reserved_in f 0 0 (e - q.addr))
unfolding query.reserved query.reserved_with
reserved_plain q f e field end ne =
    (λ k. option_and_then (λ f. option_and_then (query.reserved_with q f) (end k)) (field k))
    ∙ ap (λ t. cond t (both (λ w x. reserved_in f w x (e - q.addr)) (query.word q) (query.fifth q)) (Some (reserved_in f 0 0 (e - q.addr)))) (ne_eqb f 5 ne)

pub reserved_read : (q : Query) (f e w x : ℕ) → query.field q ≡ Some f → query.end q ≡ Some e → f ≡ 5 → query.word q ≡ Some w → query.fifth q ≡ Some x
    → query.reserved q ≡ Some (reserved_in f w x (e - q.addr))
unfolding query.reserved query.reserved_with
reserved_read q f e w x field end five word fifth =
    (λ k. option_and_then (λ f. option_and_then (query.reserved_with q f) (end k)) (field k))
    ∙ ap (λ t. cond t (both (λ w x. reserved_in f w x (e - q.addr)) (query.word q) (query.fifth q)) (Some (reserved_in f 0 0 (e - q.addr)))) (eq-eqb f 5 five)
    ∙ both_is (λ w x. reserved_in f w x (e - q.addr)) (query.word q) (query.fifth q) w x word fifth

-- ---- the checks
within_test : (p e a : ℕ) → e < p → a ≤ e → (nat_le p e || nat_lt e a) ≡ false
within_test p e a below from = grind (arith, nat_tests)

beyond_test : (p e a : ℕ) → (p ≤ e) ⊎ (e < a) → (nat_le p e || nat_lt e a) ≡ true
beyond_test p e a bad = grind (arith, nat_tests, bad)

pub bad_end : (q : Query) (e : ℕ) → query.slot_end q ≡ Some e → (4096 * q.pages ≤ e) ⊎ (e < q.addr) → checks.bad_reserved q ≡ Some true
unfolding checks.bad_reserved
bad_end q e is bad =
    ap (option_and_then (λ e. cond (nat_le (4096 * q.pages) e || nat_lt e q.addr) (Some true) (option_map is_err (query.reserved q)))) is
    ∙ ap (λ t. cond t (Some true) (option_map is_err (query.reserved q))) (beyond_test (4096 * q.pages) e q.addr bad)

pub reserved_test : (q : Query) (e : ℕ) (n : Result ℕ NominalFault) → query.slot_end q ≡ Some e → e < 4096 * q.pages → q.addr ≤ e → query.reserved q ≡ Some n
    → checks.bad_reserved q ≡ Some (is_err n)
unfolding checks.bad_reserved
reserved_test q e n is below from reserved =
    ap (option_and_then (λ e. cond (nat_le (4096 * q.pages) e || nat_lt e q.addr) (Some true) (option_map is_err (query.reserved q)))) is
    ∙ ap (λ t. cond t (Some true) (option_map is_err (query.reserved q))) (within_test (4096 * q.pages) e q.addr below from)
    ∙ ap (option_map is_err) reserved

pub mark_of : (q : Query) (e r x : ℕ) → query.end q ≡ Some e → query.reserved q ≡ Some (Ok r) → r ≢ 0 → byte q (e - r) ≡ Some x → query.mark q ≡ Some x
unfolding query.mark
mark_of q e r x end reserved some there =
    (λ k. option_and_then (λ e. option_and_then (query.mark_with q e) (reserved k)) (end k))
    ∙ ap (λ t. cond t None (byte q (e - r))) (ne_eqb r 0 some)
    ∙ there

pub overrun_test : (q : Query) (r x : ℕ) → query.reserved q ≡ Some (Ok r) → r ≢ 0 → query.mark q ≡ Some x → checks.overrun q ≡ Some (nat_lt 0 x)
unfolding checks.overrun
overrun_test q r x reserved some mark =
    ap (option_and_then (checks.overrun_with q)) reserved
    ∙ ap (λ t. cond t (Some false) (option_map (nat_lt 0) (query.mark q))) (ne_eqb r 0 some)
    ∙ ap (option_map (nat_lt 0)) mark

pub no_overrun : (q : Query) (r : ℕ) → query.reserved q ≡ Some (Ok r) → r ≡ 0 → checks.overrun q ≡ Some false
unfolding checks.overrun
no_overrun q r reserved none =
    ap (option_and_then (checks.overrun_with q)) reserved
    ∙ ap (λ t. cond t (Some false) (option_map (nat_lt 0) (query.mark q))) (eq-eqb r 0 none)

pub last_of : (q : Query) (e x : ℕ) → query.end q ≡ Some e → byte q e ≡ Some x → query.last q ≡ Some x
unfolding query.last
last_of q e x end there = ap (option_and_then (byte q)) end ∙ there

pub end_test : (q : Query) (x : ℕ) → query.last q ≡ Some x → checks.end_byte q ≡ Some (nat_lt 0 x)
unfolding checks.end_byte
end_test q x last = ap (option_map (nat_lt 0)) last

pub len_of : (q : Query) (e r : ℕ) → query.end q ≡ Some e → query.reserved q ≡ Some (Ok r) → query.len q ≡ Some (e - q.addr - r)
unfolding query.len
len_of q e r end reserved = λ k. option_and_then (λ e. option_and_then (query.len_with (e - q.addr)) (reserved k)) (end k)

-- what was found, by its parts
pub found_is : (q : Query) (m i s e l : ℕ) → query.meta q ≡ Some m → query.index q ≡ Some i → query.start q ≡ Some s → query.end q ≡ Some e → query.len q ≡ Some l
    → found_of q ≡ record { meta = m; index = i; start = s; end = e; len = l }
found_is q m i s e l meta index start end len =
    λ k. record { meta = or_zero (meta k); index = or_zero (index k); start = or_zero (start k); end = or_zero (end k); len = or_zero (len k) }
