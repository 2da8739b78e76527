-- What the cells that were loaded tell of a slot with a block at the address.
use Rattle.std.proofs.Common.{◌≡◌, ◌⊎◌, ⊎_elim, ℕ, ◌+◌, ◌-◌, ◌*◌, ◌/◌, ◌%◌, ◌^◌, ◌<◌, ◌≤◌, Bool, true, false, cond, eq-eqb, ne_eqb, sym, ap, ◌∙◌, subst, arith}
use Rattle.std.specs.Prelude.{Some, None, nat_lt, ◌==◌}
use Rattle.std.specs.Int.{bit_at}
use Rattle.std.specs.Option.{option_and_then}
use Rattle.std.proofs.lemmas.Nat.{shr_split}
use Rattle.std.proofs.lemmas.Nat.Bits.{bit_at_cat_low}
use Rattle.ng_class.proofs.Slots.{start-le}
use Rattle.ng_meta.specs.Cells.{joined}
use Rattle.ng_meta.specs.Flags.{fields_in}
use Rattle.ng_meta.specs.Place.{area_at}
use Rattle.ng_meta.specs.declared.flags.Fields.{Fields}
use Rattle.ng_view.specs.Blocks.{IsHeader, IsNarrow, IsWide, Knows}
use Rattle.ng_view.specs.Layouts.{InRange}
use Rattle.ng_view.specs.Lists.{Among}
use Rattle.ng_view.specs.Places.{Owns, reach, room, slot_start, stride}
use Rattle.ng_view.specs.Tells.{IsOfRun, IsOfSlot, TellsSlot}
use Rattle.ng_view.specs.declared.view.Group.{Group}
use Rattle.ng_view.specs.declared.view.Held.{Held}
use Rattle.ng_view.specs.declared.view.Start.{Start}
use Rattle.ng_space.proofs.Reading.{IsFieldsOf}
use Rattle.ng_space.specs.Placed.{LiesIn}
use Rattle.ng_check.specs.Queries as query
use Rattle.ng_check.specs.Queries.{Query, cell, number}
use Rattle.ng_check.proofs.Options.{both_some, map_some, some_is, then_some}

-- a cell of the query was loaded, and so it tells
pub record IsTold (key : Start) (h : Held) (q : Query) (a x : ℕ) : Type 0 where
  pub word : ℕ
  pub there : Among {A = ℕ × ℕ} (a, word) q.cells
  pub low : x ≡ word % 4294967296
  pub tells : TellsSlot key h a word
  pub small : Owns h.place a → word < 4294967296

-- the slot has a block at the address, and what was loaded tells of it
pub record IsOwn (key : Start) (h : Held) (q : Query) : Type 0 where
  pub cells : (a x : ℕ) → cell q a ≡ Some x → IsTold key h q a x
  pub range : InRange key
  pub pages : q.pages ≡ key.pages
  pub secret : q.secret ≡ key.secret
  pub lies : LiesIn key h.place
  pub above : key.lower ≤ h.place.group.base
  pub runs : IsOfRun h.place.group ⊎ IsOfSlot h.place.group
  pub whole : q.addr % 16 ≡ 0
  pub from : slot_start h.place ≤ q.addr
  pub first : q.addr + 4 < slot_start h.place + stride h.place.group
  pub roomy : q.addr < slot_start h.place + room h.place.group
  pub header : IsHeader h q.addr

-- a value where a test is true
pub where_true : (b : Bool) (n m : ℕ) → cond b (Some n) None ≡ Some m → n ≡ m
where_true true n m e = some_is n m e
where_true false n m e = absurd (cc)

low_bit : (word i : ℕ) → i < 32 → bit_at (word % 4294967296) i ≡ bit_at word i
low_bit word i lt = sym (bit_at_cat_low (word / 2 ^ 32) 32 (word % 2 ^ 32) i lt) ∙ ap (λ n. bit_at n i) (shr_split word 32)

module _ (key : Start) (h : Held) (q : Query) (own : IsOwn key h q) where
  abbrev g : Group
  g = h.place.group

  abbrev i : ℕ
  i = h.place.index

  -- ---- where it lies
  pub reaches : slot_start h.place + stride g ≤ g.base + reach g
  reaches = let le = start-le (g.base + 16) (stride g) i g.last own.lies.index in omega (arith, le)

  pub inside : slot_start h.place + stride g ≤ 4096 * key.pages
  inside = let a = reaches in let b = own.lies.inside in omega (arith, a, b)

  pub low_pages : key.pages ≤ 16384
  low_pages = own.range.addressed

  pub behind_page : 4096 ≤ g.base
  behind_page = let a = own.above in let b = own.range.above in omega (arith, a, b)

  pub owns : (a : ℕ) → slot_start h.place ≤ a + 4 → a + 4 < slot_start h.place + stride g → Owns h.place a
  owns a low high = (low, high)

  pub above_page : 4096 ≤ q.addr
  above_page = let a = behind_page in let b = own.from in let s : ℕ = stride g * i in omega (arith, a, b)

  pub in_space : q.addr + 4 < 4096 * key.pages
  in_space = let a = inside in let b = own.first in omega (arith, a, b)

  low_meta : g.meta < 67108864
  low_meta =
      let m = own.lies.meta in let few = low_pages in
      let below = m.inside in let counted = m.counted in let stands = m.stands in omega (arith, few, below, counted, stands)

  low_base : g.base < 67108864
  low_base = let a = own.lies.inside in let few = low_pages in omega (arith, a, few)

  -- ---- the header
  abbrev value : ℕ
  value = own.header.value

  pub own_header : (x : ℕ) → query.header q ≡ Some x → x ≡ value
  unfolding query.header
  own_header x e =
      let t = own.cells (q.addr - 4) x e in
      let front = own.header.front in
      let above = above_page in
      let at : own.header.cell ≡ q.addr - 4 = omega (arith, front) in
      let same : t.word ≡ value = t.tells.known value (subst (λ a. Knows a value h) at own.header.known) in
      let from = own.from in let first = own.first in
      let small : t.word < 4294967296 = t.small (owns (q.addr - 4) (omega (arith, from, above)) (omega (arith, first, above))) in
      let low = t.low in omega (arith, same, small, low)

  pub own_wide : (w : IsWide h q.addr value) (n : ℕ) → query.wide q ≡ Some n → n ≡ w.offset
  unfolding query.wide
  own_wide w n e =
      let t = own.cells (q.addr - 8) n e in
      let front = w.front in
      let at : w.cell ≡ q.addr - 8 = omega (arith, front) in
      let same : t.word ≡ w.offset = t.tells.known w.offset (subst (λ a. Knows a w.offset h) at w.known) in
      let place = w.place in let few = low_pages in let below = in_space in
      let low = t.low in omega (arith, same, place, few, below, low)

  pub own_index : (j : ℕ) → query.index q ≡ Some j → j ≡ i
  unfolding query.index
  own_index j e =
      let f = map_some (λ h. h / 256 % 32) (query.header q) j e in
      sym f.2 ∙ ap (λ x. x / 256 % 32) (own_header f.0 f.1) ∙ own.header.carries.index

  -- the offset is that of the address
  pub own_offset : (n : ℕ) → query.offset q ≡ Some n → q.addr ≡ (g.base + 16) + 16 * n
  unfolding query.offset
  own_offset n e =
      let f = then_some (λ h. cond (h % 256 == 0) (Some (h / 65536)) (query.wide q)) (query.header q) n e in
      let is = own_header f.0 f.1 in
      ⊎_elim
      (λ (w : IsNarrow h q.addr value).
      let zero : f.0 % 256 ≡ 0 = ap (λ x. x % 256) is ∙ w.check in
      let n_is : f.0 / 65536 ≡ n = some_is (f.0 / 65536) n (subst (λ b. cond b (Some (f.0 / 65536)) (query.wide q) ≡ Some n) (eq-eqb (f.0 % 256) 0 zero) f.2) in
      let at = w.offset in
      let same : value / 65536 ≡ n = ap (λ x. x / 65536) (sym is) ∙ n_is in
      at ∙ ap (λ x. (g.base + 16) + 16 * x) same)
      (λ (w : IsWide h q.addr value).
      let one : f.0 % 256 ≡ 1 = ap (λ x. x % 256) is ∙ w.check in
      let n_is : query.wide q ≡ Some n = subst (λ b. cond b (Some (f.0 / 65536)) (query.wide q) ≡ Some n) (ne_eqb (f.0 % 256) 0 (omega (arith, one))) f.2 in
      w.place ∙ ap (λ x. (g.base + 16) + 16 * x) (sym (own_wide w n n_is)))
      own.header.carries.offset

  -- ---- the group
  pub own_base : (b : ℕ) → query.base q ≡ Some b → b ≡ g.base
  unfolding query.base
  own_base b e =
      let f = map_some (λ o. q.addr - 16 * o - 16) (query.offset q) b e in
      let at = own_offset f.0 f.1 in let is = f.2 in omega (arith, at, is)

  -- the halves of a number
  pub halves : (a n : ℕ) → number q a ≡ Some n → (x : ℕ) × (y : ℕ) × (cell q a ≡ Some x) × (cell q (a + 4) ≡ Some y) × (joined x y ≡ n)
  unfolding number
  halves a n e = both_some joined (cell q a) (cell q (a + 4)) n e

  pub own_named : (n : ℕ) → query.named q ≡ Some n → n ≡ g.meta
  unfolding query.named
  own_named n e =
      let f = then_some (number q) (query.base q) n e in
      let b = own_base f.0 f.1 in
      let k = halves f.0 n f.2 in
      let x = own.cells f.0 k.0 k.2 in let y = own.cells (f.0 + 4) k.1 k.3 in
      let low : x.word ≡ g.meta = x.tells.base b in
      let high : y.word ≡ 0 = y.tells.base_high (ap (λ a. a + 4) b) in
      let lx = x.low in let ly = y.low in let is = k.4 in let few = low_meta in
      omega (arith, low, high, lx, ly, is, few)

  pub own_meta : (m : ℕ) → query.meta q ≡ Some m → m ≡ g.meta
  unfolding query.meta
  own_meta m e =
      let f = then_some (λ m. cond (nat_lt m (4096 * q.pages)) (Some m) None) (query.named q) m e in
      sym (where_true (nat_lt f.0 (4096 * q.pages)) f.0 m f.2) ∙ own_named f.0 f.1

  pub own_mem : (n : ℕ) → query.mem q ≡ Some n → n ≡ g.base
  unfolding query.mem
  own_mem n e =
      let f = then_some (λ m. number q (m + 16)) (query.meta q) n e in
      let m = own_meta f.0 f.1 in
      let k = halves (f.0 + 16) n f.2 in
      let x = own.cells (f.0 + 16) k.0 k.2 in let y = own.cells (f.0 + 16 + 4) k.1 k.3 in
      let low : x.word ≡ g.base = x.tells.mem (ap (λ a. a + 16) m) in
      let high : y.word ≡ 0 = y.tells.mem_high (omega (arith, m)) in
      let lx = x.low in let ly = y.low in let is = k.4 in let few = low_base in
      omega (arith, low, high, lx, ly, is, few)

  pub own_fields : (f : Fields) → query.fields q ≡ Some f → IsFieldsOf f h.place
  unfolding query.fields query.flags
  own_fields f e =
      let p = map_some fields_in (option_and_then (λ m. number q (m + 32)) (query.meta q)) f e in
      let t = then_some (λ m. number q (m + 32)) (query.meta q) p.0 p.1 in
      let m = own_meta t.0 t.1 in
      let k = halves (t.0 + 32) p.0 t.2 in
      let x = own.cells (t.0 + 32) k.0 k.2 in let y = own.cells (t.0 + 32 + 4) k.1 k.3 in
      let low = x.tells.flags (ap (λ a. a + 32) m) in
      let high : y.word ≡ 0 = y.tells.flags_high (omega (arith, m)) in
      let lx = x.low in let ly = y.low in let is = k.4 in let few = own.lies.few in
      let maplen = low.maplen in
      let same : p.0 ≡ x.word = omega (arith, high, lx, ly, is, few, maplen) in
      let last = low.last in let class = low.class in record {
        class = ap (λ (z : Fields). z.class) (sym p.2) ∙ (let c : p.0 / 2 ^ 6 % 2 ^ 6 ≡ g.tag - 1 = omega (arith, same, class) in c);
        last = ap (λ (z : Fields). z.last) (sym p.2) ∙ (let c : p.0 % 2 ^ 5 ≡ g.last = omega (arith, same, last) in c);
        maplen = ap (λ (z : Fields). z.maplen) (sym p.2) ∙ (let c : p.0 / 2 ^ 12 ≡ g.maplen = omega (arith, same, maplen) in c);
      }

  few_slots : i < 32
  few_slots = let a = own.lies.index in let b = own.lies.many in omega (arith, a, b)

  pub own_avail : (x : ℕ) → query.avail q ≡ Some x → bit_at x i ≡ 0
  unfolding query.avail
  own_avail x e =
      let f = then_some (λ m. cell q (m + 24)) (query.meta q) x e in
      let t = own.cells (f.0 + 24) x f.2 in
      ap (λ n. bit_at n i) t.low ∙ low_bit t.word i few_slots ∙ (t.tells.avail (ap (λ a. a + 24) (own_meta f.0 f.1))).1

  pub own_freed : (x : ℕ) → query.freed q ≡ Some x → bit_at x i ≡ 0
  unfolding query.freed
  own_freed x e =
      let f = then_some (λ m. cell q (m + 28)) (query.meta q) x e in
      let t = own.cells (f.0 + 28) x f.2 in
      ap (λ n. bit_at n i) t.low ∙ low_bit t.word i few_slots ∙ t.tells.freed (ap (λ a. a + 28) (own_meta f.0 f.1))

  pub own_check : (n : ℕ) → query.check_word q ≡ Some n → n ≡ q.secret
  unfolding query.check_word
  own_check n e =
      let f = then_some (λ m. number q (area_at m)) (query.meta q) n e in
      let m = own_meta f.0 f.1 in
      let k = halves (area_at f.0) n f.2 in
      let x = own.cells (area_at f.0) k.0 k.2 in let y = own.cells (area_at f.0 + 4) k.1 k.3 in
      let at : area_at f.0 ≡ g.meta / 4096 * 4096 = omega (arith, m) in
      let low : x.word ≡ key.secret % 4294967296 = x.tells.check at in
      let high : y.word ≡ key.secret / 4294967296 = y.tells.check_high (ap (λ a. a + 4) at) in
      let lx = x.low in let ly = y.low in let is = k.4 in let few = own.range.secret in let secret = own.secret in
      omega (arith, low, high, lx, ly, is, few, secret)
