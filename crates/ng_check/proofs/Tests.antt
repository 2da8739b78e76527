-- What each check answers, by the values that it reads.
use Rattle.std.proofs.Common.{◌≡◌, ◌≢◌, ◌⊎◌, ℕ, ◌+◌, ◌-◌, ◌*◌, ◌/◌, ◌%◌, ◌<◌, ◌≤◌, Bool, true, false, not, ◌&&◌, ◌||◌, eq-eqb, eqb-true, ne_eqb, le-leb, leb-true, ltb-true, ap, ◌∙◌, refl, arith}
use Rattle.std.specs.Prelude.{Some, nat_lt, nat_le, ◌==◌}
use Rattle.std.specs.Int.{bit_at}
use Rattle.std.specs.Option.{option_and_then, option_map}
use Rattle.std.proofs.lemmas.Bool.Decides.{nat_tests}
use Rattle.ng_meta.specs.Flags.{fields_in}
use Rattle.ng_meta.specs.Place.{IsMetaPlace, area_at}
use Rattle.ng_meta.proofs.PlaceLemmas.{meta_from_parts}
use Rattle.ng_meta.specs.declared.flags.Fields.{Fields}
use Rattle.ng_check.specs.Checks as checks
use Rattle.ng_check.specs.Checks.{is_bad_maplen, is_bad_offset, is_place}
use Rattle.ng_check.specs.Queries as query
use Rattle.ng_check.specs.Queries.{Query, both, number}
use Rattle.ng_check.specs.Readings.{IsPlaced}
use Rattle.ng_check.proofs.Options.{both_is}

-- ---- where the address is
pub misaligned_is : (q : Query) → (q.addr % 16 ≢ 0) → checks.misaligned q ≡ Some true
unfolding checks.misaligned
misaligned_is q ne = ap (λ b. Some (not b)) (ne_eqb (q.addr % 16) 0 ne)

pub aligned_is : (q : Query) → q.addr % 16 ≡ 0 → checks.misaligned q ≡ Some false
unfolding checks.misaligned
aligned_is q e = ap (λ b. Some (not b)) (eq-eqb (q.addr % 16) 0 e)

out_test : (a p : ℕ) → (a < 4096) ⊎ (p ≤ a) → (nat_lt a 4096 || nat_le p a) ≡ true
out_test a p e = grind (arith, nat_tests, e)

in_test : (a p : ℕ) → 4096 ≤ a → a < p → (nat_lt a 4096 || nat_le p a) ≡ false
in_test a p low high = grind (arith, nat_tests)

pub outside_is : (q : Query) → (q.addr < 4096) ⊎ (4096 * q.pages ≤ q.addr) → checks.outside q ≡ Some true
unfolding checks.outside
outside_is q e = ap (λ b. Some b) (out_test q.addr (4096 * q.pages) e)

pub inside_is : (q : Query) → 4096 ≤ q.addr → q.addr < 4096 * q.pages → checks.outside q ≡ Some false
unfolding checks.outside
inside_is q low high = ap (λ b. Some b) (in_test q.addr (4096 * q.pages) low high)

pub placed_is : (q : Query) → q.addr % 16 ≡ 0 → 4096 ≤ q.addr → q.addr < 4096 * q.pages → IsPlaced q
placed_is q whole low high = record { misaligned = aligned_is q whole; outside = inside_is q low high; whole = whole; above = low; below = high }

-- ---- the header
pub narrow_passes : (q : Query) (h : ℕ) → query.header q ≡ Some h → h % 256 ≡ 0 → checks.bad_wide q ≡ Some false
unfolding checks.bad_wide
narrow_passes q h e z = rw (e, eq-eqb (h % 256) 0 z) refl

pub narrow_offset : (q : Query) (h : ℕ) → query.header q ≡ Some h → h % 256 ≡ 0 → query.offset q ≡ Some (h / 65536)
unfolding query.offset
narrow_offset q h e z = rw (e, eq-eqb (h % 256) 0 z) refl

pub wide_test : (q : Query) (h w : ℕ) → query.header q ≡ Some h → h % 256 ≢ 0 → query.wide q ≡ Some w
    → checks.bad_wide q ≡ Some (not (h / 65536 == 0) || nat_le w 65535)
unfolding checks.bad_wide
wide_test q h w e z f = rw (e, ne_eqb (h % 256) 0 z, f) refl

pub wide_offset : (q : Query) (h w : ℕ) → query.header q ≡ Some h → h % 256 ≢ 0 → query.wide q ≡ Some w → query.offset q ≡ Some w
unfolding query.offset
wide_offset q h w e z f = rw (e, ne_eqb (h % 256) 0 z) f

pub wide_bad : (field w : ℕ) → (field ≢ 0) ⊎ (w ≤ 65535) → (not (field == 0) || nat_le w 65535) ≡ true
wide_bad field w bad = grind (arith, nat_tests, bad)

pub wide_good : (field w : ℕ) → field ≡ 0 → 65535 < w → (not (field == 0) || nat_le w 65535) ≡ false
wide_good field w z large = grind (arith, nat_tests)

pub header_of : (q : Query) (x : ℕ) → query.cell q (q.addr - 4) ≡ Some x → query.header q ≡ Some x
unfolding query.header
header_of q x e = e

pub wide_of : (q : Query) (x : ℕ) → query.cell q (q.addr - 8) ≡ Some x → query.wide q ≡ Some x
unfolding query.wide
wide_of q x e = e

-- ---- the group
pub base_of : (q : Query) (o : ℕ) → query.offset q ≡ Some o → query.base q ≡ Some (q.addr - 16 * o - 16)
unfolding query.base
base_of q o e = ap (option_map (λ o. q.addr - 16 * o - 16)) e

pub named_of : (q : Query) (b m : ℕ) → query.base q ≡ Some b → number q b ≡ Some m → query.named q ≡ Some m
unfolding query.named
named_of q b m e f = ap (option_and_then (number q)) e ∙ f

pub below_test : (a b : ℕ) → a < b → nat_lt a b ≡ true
below_test a b lt = grind (arith, nat_tests)

pub above_test : (a b : ℕ) → b ≤ a → nat_lt a b ≡ false
above_test a b le = grind (arith, nat_tests)

pub meta_of : (q : Query) (m : ℕ) → query.named q ≡ Some m → m < 4096 * q.pages → query.meta q ≡ Some m
unfolding query.meta
meta_of q m e lt = rw (e, below_test m (4096 * q.pages) lt) refl

pub mem_of : (q : Query) (m x : ℕ) → query.meta q ≡ Some m → number q (m + 16) ≡ Some x → query.mem q ≡ Some x
unfolding query.mem
mem_of q m x e f = ap (option_and_then (λ m. number q (m + 16))) e ∙ f

pub low_base : (q : Query) (b : ℕ) → query.base q ≡ Some b → b < 4096 → checks.not_group q ≡ Some true
unfolding checks.not_group
low_base q b e lt = rw (e, below_test b 4096 lt) refl

place_test : (pages m : ℕ) → 0 < m / 4096 → m / 4096 < pages → 24 ≤ m % 4096 → (m % 4096 - 24) % 40 ≡ 0 → (m % 4096 - 24) / 40 < 101 → is_place pages m ≡ true
place_test pages m a b c d e =
    rw (below_test 0 (m / 4096) a, below_test (m / 4096) pages b, le-leb 24 (m % 4096) c, eq-eqb ((m % 4096 - 24) % 40) 0 d, below_test ((m % 4096 - 24) / 40) 101 e) refl

pub and_left : (a b : Bool) → (a && b) ≡ true → a ≡ true
and_left true b e = refl
and_left false b e = absurd (cc)

pub and_right : (a b : Bool) → (a && b) ≡ true → b ≡ true
and_right true b e = e
and_right false b e = absurd (cc)

place_parts : (pages m : ℕ) → is_place pages m ≡ true → IsMetaPlace m pages
place_parts pages m e =
    let p = m / 4096 in
    let at = m % 4096 in
    let one : (nat_lt 0 p && nat_lt p pages) ≡ true = and_left _ _ e in
    let two : (nat_le 24 at && ((at - 24) % 40 == 0 && nat_lt ((at - 24) / 40) 101)) ≡ true = and_right _ _ e in
    let three : ((at - 24) % 40 == 0 && nat_lt ((at - 24) / 40) 101) ≡ true = and_right _ _ two in
    meta_from_parts m pages (ltb-true 0 p (and_left _ _ one)) (ltb-true p pages (and_right _ _ one)) (leb-true 24 at (and_left _ _ two))
    (eqb-true ((at - 24) % 40) 0 (and_left _ _ three)) (ltb-true ((at - 24) / 40) 101 (and_right _ _ three))

pub place_true : (pages m : ℕ) → IsMetaPlace m pages → is_place pages m ≡ true
place_true pages m is =
    let low = is.mapped in let high = is.inside in let few = is.counted in let at = is.stands in
    let page : m / 4096 ≡ is.page = omega arith in
    let rest : m % 4096 ≡ 24 + 40 * is.i = omega arith in
    let back : m % 4096 - 24 ≡ 40 * is.i = omega arith in
    let none : (m % 4096 - 24) % 40 ≡ 0 = omega arith in
    let number : (m % 4096 - 24) / 40 ≡ is.i = omega arith in
    place_test pages m (omega arith) (omega arith) (omega arith) none (omega arith)

pub place_false : (pages m : ℕ) → (IsMetaPlace m pages → ⊥) → is_place pages m ≡ false
place_false pages m no_place = by_test (is_place pages m) refl
  where
    by_test : (b : Bool) → is_place pages m ≡ b → is_place pages m ≡ false
    by_test true e = absurd (no_place (place_parts pages m e))
    by_test false e = e

pub no_place : (q : Query) (b m : ℕ) → query.base q ≡ Some b → 4096 ≤ b → query.named q ≡ Some m → (IsMetaPlace m q.pages → ⊥) → checks.not_group q ≡ Some true
unfolding checks.not_group
no_place q b m e le f never = rw (e, above_test b 4096 le, f, place_false q.pages m never) refl

pub mem_test : (q : Query) (b m x : ℕ) → query.base q ≡ Some b → 4096 ≤ b → query.named q ≡ Some m → IsMetaPlace m q.pages → query.mem q ≡ Some x → checks.not_group q ≡ Some (not (x == b))
unfolding checks.not_group
mem_test q b m x e le f is g = rw (e, above_test b 4096 le, f, place_true q.pages m is, g) refl

-- ---- the slot
pub index_of : (q : Query) (h : ℕ) → query.header q ≡ Some h → query.index q ≡ Some (h / 256 % 32)
unfolding query.index
index_of q h e = ap (option_map (λ h. h / 256 % 32)) e

pub fields_are : (q : Query) (m n : ℕ) → query.meta q ≡ Some m → number q (m + 32) ≡ Some n → query.fields q ≡ Some (fields_in n)
unfolding query.fields query.flags
fields_are q m n e f = ap (option_map fields_in) (ap (option_and_then (λ m. number q (m + 32))) e ∙ f)

pub index_test : (q : Query) (i : ℕ) (f : Fields) → query.index q ≡ Some i → query.fields q ≡ Some f → checks.bad_index q ≡ Some (nat_lt f.last i)
unfolding checks.bad_index
index_test q i f e g = both_is (λ i f. nat_lt f.last i) (query.index q) (query.fields q) i f e g

pub avail_test : (q : Query) (i m x : ℕ) → query.index q ≡ Some i → query.meta q ≡ Some m → query.cell q (m + 24) ≡ Some x → checks.available q ≡ Some (bit_at x i == 1)
unfolding checks.available query.avail
avail_test q i m x e f g = both_is (λ i a. bit_at a i == 1) (query.index q) (option_and_then (λ m. query.cell q (m + 24)) (query.meta q)) i x e (ap (option_and_then (λ m. query.cell q (m + 24))) f ∙ g)

pub freed_test : (q : Query) (i m x : ℕ) → query.index q ≡ Some i → query.meta q ≡ Some m → query.cell q (m + 28) ≡ Some x → checks.is_freed q ≡ Some (bit_at x i == 1)
unfolding checks.is_freed query.freed
freed_test q i m x e f g = both_is (λ i a. bit_at a i == 1) (query.index q) (option_and_then (λ m. query.cell q (m + 28)) (query.meta q)) i x e (ap (option_and_then (λ m. query.cell q (m + 28))) f ∙ g)

pub secret_test : (q : Query) (m x : ℕ) → query.meta q ≡ Some m → number q (area_at m) ≡ Some x → checks.bad_secret q ≡ Some (not (x == q.secret))
unfolding checks.bad_secret query.check_word
secret_test q m x e f = ap (option_map (λ c. not (c == q.secret))) (ap (option_and_then (λ m. number q (area_at m))) e ∙ f)

pub offset_test : (q : Query) (i o : ℕ) (f : Fields) → query.index q ≡ Some i → query.offset q ≡ Some o → query.fields q ≡ Some f → checks.bad_offset q ≡ Some (is_bad_offset i o f)
unfolding checks.bad_offset
offset_test q i o f e g k = ap (option_and_then (λ i. both (is_bad_offset i) (query.offset q) (query.fields q))) e ∙ both_is (is_bad_offset i) (query.offset q) (query.fields q) o f g k

pub class_test : (q : Query) (f : Fields) → query.fields q ≡ Some f → checks.bad_class q ≡ Some (not (query.is_class f))
unfolding checks.bad_class
class_test q f e = ap (option_map (λ f. not (query.is_class f))) e

pub maplen_test : (q : Query) (o : ℕ) (f : Fields) → query.offset q ≡ Some o → query.fields q ≡ Some f → checks.bad_maplen q ≡ Some (is_bad_maplen o f)
unfolding checks.bad_maplen
maplen_test q o f e g = both_is is_bad_maplen (query.offset q) (query.fields q) o f e g

pub later_page : (a b c : ℕ) → 0 < a → b < c → (nat_lt 0 a && nat_lt b c) ≡ true
later_page a b c one two = rw (below_test 0 a one, below_test b c two) refl

pub no_maplen : (o m : ℕ) → (m ≤ 0) ⊎ (o ≤ m * 256 - 1) → (nat_lt 0 m && nat_lt (m * 256 - 1) o) ≡ false
no_maplen o m good = grind (arith, nat_tests, good)
