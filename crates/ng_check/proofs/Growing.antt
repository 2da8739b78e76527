-- What a query has, a later one has too.
use Rattle.std.proofs.Common.{◌≡◌, ℕ, ◌+◌, ◌-◌, ◌*◌, ◌/◌, ◌%◌, Bool, false, List, [], ◌∷◌, refl, sym, subst, ap, ◌∙◌}
use Rattle.std.specs.Prelude.{Option, Some, None, Result, Ok, Err, ◌==◌, ◌||◌, not, nat_lt, nat_le, is_err}
use Rattle.std.specs.Int.{bit_at}
use Rattle.ng_class.specs.Slot.{end_at, start_at}
use Rattle.ng_header.specs.Bytes.{byte_of}
use Rattle.ng_header.specs.Reading.{reserved_in}
use Rattle.ng_header.specs.declared.reading.NominalFault.{NominalFault}
use Rattle.ng_meta.specs.Cells.{joined}
use Rattle.ng_meta.specs.Flags.{fields_in}
use Rattle.ng_meta.specs.Place.{area_at}
use Rattle.ng_meta.specs.declared.flags.Fields.{Fields}
use Rattle.ng_check.specs.Cells.{cell_at}
use Rattle.ng_check.specs.Queries as query
use Rattle.ng_check.specs.Queries.{Query, byte, mark_with, number}
use Rattle.ng_check.specs.Checks as checks
use Rattle.ng_check.specs.Checks.{check, first_of, is_bad_maplen, is_bad_offset, is_place, overrun_with}
use Rattle.ng_check.specs.Readings.{Fails, Grows, HasCell, HasEnd, HasGroup, HasHeader, HasReserved, HasSlot, IsListed, IsPlaced}
use Rattle.ng_check.specs.declared.fault.PointerFault.{PointerFault}
use Rattle.ng_check.specs.declared.group.Group.{Group}
use Rattle.ng_check.specs.declared.header.Header.{Header}
use Rattle.ng_check.proofs.Options.{More, both_more, if_more, map_more, same_more, then_more}

module _ (pages secret addr : ℕ) (cs ds : List (ℕ × ℕ)) (m : (a : ℕ) → More (cell_at a cs) (cell_at a ds)) where
  abbrev q : Query
  q = record { pages = pages; secret = secret; addr = addr; cells = cs }

  abbrev r : Query
  r = record { pages = pages; secret = secret; addr = addr; cells = ds }

  number_more : (a : ℕ) → More (number q a) (number r a)
  unfolding number
  number_more a = both_more joined (cell_at a cs) (cell_at a ds) (cell_at (a + 4) cs) (cell_at (a + 4) ds) (m a) (m (a + 4))

  byte_more : (a : ℕ) → More (byte q a) (byte r a)
  unfolding byte
  byte_more a = map_more (λ x. byte_of x (a % 4)) (cell_at (4 * (a / 4)) cs) (cell_at (4 * (a / 4)) ds) (m (4 * (a / 4)))

  header_more : More (query.header q) (query.header r)
  unfolding query.header
  header_more = m (addr - 4)

  wide_more : More (query.wide q) (query.wide r)
  unfolding query.wide
  wide_more = m (addr - 8)

  index_more : More (query.index q) (query.index r)
  unfolding query.index
  index_more = map_more (λ h. h / 256 % 32) (query.header q) (query.header r) header_more

  field_more : More (query.field q) (query.field r)
  unfolding query.field
  field_more = map_more (λ h. h / 8192 % 8) (query.header q) (query.header r) header_more

  offset_more : More (query.offset q) (query.offset r)
  unfolding query.offset
  offset_more = then_more _ _ (query.header q) (query.header r) header_more (λ h. if_more (h % 256 == 0) _ _ _ _ (same_more (Some (h / 65536))) wide_more)

  base_more : More (query.base q) (query.base r)
  unfolding query.base
  base_more = map_more (λ o. addr - 16 * o - 16) (query.offset q) (query.offset r) offset_more

  named_more : More (query.named q) (query.named r)
  unfolding query.named
  named_more = then_more (number q) (number r) (query.base q) (query.base r) base_more number_more

  meta_more : More (query.meta q) (query.meta r)
  unfolding query.meta
  meta_more = then_more _ _ (query.named q) (query.named r) named_more (λ x. same_more _)

  mem_more : More (query.mem q) (query.mem r)
  unfolding query.mem
  mem_more = then_more _ _ (query.meta q) (query.meta r) meta_more (λ x. number_more (x + 16))

  avail_more : More (query.avail q) (query.avail r)
  unfolding query.avail
  avail_more = then_more _ _ (query.meta q) (query.meta r) meta_more (λ x. m (x + 24))

  freed_more : More (query.freed q) (query.freed r)
  unfolding query.freed
  freed_more = then_more _ _ (query.meta q) (query.meta r) meta_more (λ x. m (x + 28))

  flags_more : More (query.flags q) (query.flags r)
  unfolding query.flags
  flags_more = then_more _ _ (query.meta q) (query.meta r) meta_more (λ x. number_more (x + 32))

  fields_more : More (query.fields q) (query.fields r)
  unfolding query.fields
  fields_more = map_more fields_in (query.flags q) (query.flags r) flags_more

  check_more : More (query.check_word q) (query.check_word r)
  unfolding query.check_word
  check_more = then_more _ _ (query.meta q) (query.meta r) meta_more (λ x. number_more (area_at x))

  stride_more : More (query.stride q) (query.stride r)
  unfolding query.stride
  stride_more = then_more _ _ (query.fields q) (query.fields r) fields_more (λ f. same_more _)

  start_more : More (query.start q) (query.start r)
  unfolding query.start
  start_more = then_more _ _ (query.base q) (query.base r) base_more
      (λ b. both_more (start_at (b + 16)) (query.stride q) (query.stride r) (query.index q) (query.index r) stride_more index_more)

  slot_end_more : More (query.slot_end q) (query.slot_end r)
  unfolding query.slot_end
  slot_end_more = then_more _ _ (query.base q) (query.base r) base_more
      (λ b. both_more (end_at (b + 16)) (query.stride q) (query.stride r) (query.index q) (query.index r) stride_more index_more)

  end_more : More (query.end q) (query.end r)
  unfolding query.end
  end_more = then_more _ _ (query.slot_end q) (query.slot_end r) slot_end_more (λ e. same_more _)

  word_more : More (query.word q) (query.word r)
  unfolding query.word
  word_more = then_more _ _ (query.end q) (query.end r) end_more (λ e. m (e - 4))

  fifth_more : More (query.fifth q) (query.fifth r)
  unfolding query.fifth
  fifth_more = then_more _ _ (query.end q) (query.end r) end_more (λ e. byte_more (e - 5))

  with_more : (f e : ℕ) → More (query.reserved_with q f e) (query.reserved_with r f e)
  unfolding query.reserved_with
  with_more f e = if_more (f == 5) _ _ _ _
      (both_more (λ w x. reserved_in f w x (e - addr)) (query.word q) (query.word r) (query.fifth q) (query.fifth r) word_more fifth_more) (same_more _)

  reserved_more : More (query.reserved q) (query.reserved r)
  unfolding query.reserved
  reserved_more = then_more _ _ (query.field q) (query.field r) field_more
      (λ f. then_more (query.reserved_with q f) (query.reserved_with r f) (query.end q) (query.end r) end_more (with_more f))

  -- ---- checks that passed
  placed_more : IsPlaced q → IsPlaced r
  unfolding checks.misaligned checks.outside
  placed_more p = record { misaligned = p.misaligned; outside = p.outside; whole = p.whole; above = p.above; below = p.below }

  bad_wide_more : More (checks.bad_wide q) (checks.bad_wide r)
  unfolding checks.bad_wide
  bad_wide_more = then_more _ _ (query.header q) (query.header r) header_more
      (λ h. if_more (h % 256 == 0) _ _ _ _ (same_more _) (map_more (λ w. not (h / 65536 == 0) || nat_le w 65535) (query.wide q) (query.wide r) wide_more))

  not_group_more : More (checks.not_group q) (checks.not_group r)
  unfolding checks.not_group
  not_group_more = then_more _ _ (query.base q) (query.base r) base_more
      (λ b. if_more (nat_lt b 4096) _ _ _ _ (same_more _) (then_more _ _ (query.named q) (query.named r) named_more
      (λ x. if_more (is_place pages x) _ _ _ _ (map_more (λ y. not (y == b)) (query.mem q) (query.mem r) mem_more) (same_more _))))

  bad_index_more : More (checks.bad_index q) (checks.bad_index r)
  unfolding checks.bad_index
  bad_index_more = both_more (λ i f. nat_lt f.last i) (query.index q) (query.index r) (query.fields q) (query.fields r) index_more fields_more

  available_more : More (checks.available q) (checks.available r)
  unfolding checks.available
  available_more = both_more (λ i a. bit_at a i == 1) (query.index q) (query.index r) (query.avail q) (query.avail r) index_more avail_more

  is_freed_more : More (checks.is_freed q) (checks.is_freed r)
  unfolding checks.is_freed
  is_freed_more = both_more (λ i a. bit_at a i == 1) (query.index q) (query.index r) (query.freed q) (query.freed r) index_more freed_more

  bad_secret_more : More (checks.bad_secret q) (checks.bad_secret r)
  unfolding checks.bad_secret
  bad_secret_more = map_more (λ c. not (c == secret)) (query.check_word q) (query.check_word r) check_more

  bad_offset_more : More (checks.bad_offset q) (checks.bad_offset r)
  unfolding checks.bad_offset
  bad_offset_more = then_more _ _ (query.index q) (query.index r) index_more
      (λ i. both_more (is_bad_offset i) (query.offset q) (query.offset r) (query.fields q) (query.fields r) offset_more fields_more)

  bad_class_more : More (checks.bad_class q) (checks.bad_class r)
  unfolding checks.bad_class
  bad_class_more = map_more (λ f. not (query.is_class f)) (query.fields q) (query.fields r) fields_more

  bad_maplen_more : More (checks.bad_maplen q) (checks.bad_maplen r)
  unfolding checks.bad_maplen
  bad_maplen_more = both_more is_bad_maplen (query.offset q) (query.offset r) (query.fields q) (query.fields r) offset_more fields_more

  bad_reserved_more : More (checks.bad_reserved q) (checks.bad_reserved r)
  unfolding checks.bad_reserved
  bad_reserved_more = then_more _ _ (query.slot_end q) (query.slot_end r) slot_end_more
      (λ e. if_more (nat_le (4096 * pages) e || nat_lt e addr) _ _ _ _ (same_more _) (map_more is_err (query.reserved q) (query.reserved r) reserved_more))

  last_more : More (query.last q) (query.last r)
  unfolding query.last
  last_more = then_more (byte q) (byte r) (query.end q) (query.end r) end_more byte_more

  mark_with_more : (e : ℕ) (n : Result ℕ NominalFault) → More (mark_with q e n) (mark_with r e n)
  mark_with_more e (Ok n) = if_more (n == 0) _ _ _ _ (same_more None) (byte_more (e - n))
  mark_with_more e (Err f) = same_more None

  mark_more : More (query.mark q) (query.mark r)
  unfolding query.mark
  mark_more = then_more _ _ (query.end q) (query.end r) end_more
      (λ e. then_more (mark_with q e) (mark_with r e) (query.reserved q) (query.reserved r) reserved_more (mark_with_more e))

  overrun_with_more : (n : Result ℕ NominalFault) → More (overrun_with q n) (overrun_with r n)
  overrun_with_more (Ok n) = if_more (n == 0) _ _ _ _ (same_more (Some false)) (map_more (nat_lt 0) (query.mark q) (query.mark r) mark_more)
  overrun_with_more (Err f) = same_more (Some false)

  overrun_more : More (checks.overrun q) (checks.overrun r)
  unfolding checks.overrun
  overrun_more = then_more (overrun_with q) (overrun_with r) (query.reserved q) (query.reserved r) reserved_more overrun_with_more

  end_byte_more : More (checks.end_byte q) (checks.end_byte r)
  unfolding checks.end_byte
  end_byte_more = map_more (nat_lt 0) (query.last q) (query.last r) last_more

  misaligned_more : More (checks.misaligned q) (checks.misaligned r)
  unfolding checks.misaligned
  misaligned_more = same_more _

  outside_more : More (checks.outside q) (checks.outside r)
  unfolding checks.outside
  outside_more = same_more _

  first_more : (f : PointerFault) (t : Query → Option Bool) (ts : List (PointerFault × (Query → Option Bool))) → More (t q) (t r) → More (first_of ts q) (first_of ts r) → More (first_of ((f, t) ∷ ts) q) (first_of ((f, t) ∷ ts) r)
  unfolding first_of
  first_more f t ts one rest = then_more _ _ (t q) (t r) one (λ b. if_more b _ _ _ _ (same_more (Some (Some f))) rest)

  none_more : More (first_of [] q) (first_of [] r)
  unfolding first_of
  none_more = same_more (Some None)

  -- the answer stays
  answer_more : More (check q) (check r)
  answer_more =
      first_more _ _ _ misaligned_more (first_more _ _ _ outside_more (first_more _ _ _ bad_wide_more (first_more _ _ _ not_group_more
      (first_more _ _ _ bad_index_more (first_more _ _ _ available_more (first_more _ _ _ is_freed_more (first_more _ _ _ bad_secret_more
      (first_more _ _ _ bad_offset_more (first_more _ _ _ bad_class_more (first_more _ _ _ bad_maplen_more (first_more _ _ _ bad_reserved_more
      (first_more _ _ _ overrun_more (first_more _ _ _ end_byte_more none_more)))))))))))))

  -- ---- what passed
  has_header : (h : Header) → HasHeader q h → HasHeader r h
  has_header h p = record {
    placed = placed_more p.placed;
    bad_wide = bad_wide_more _ p.bad_wide;
    header = header_more _ p.header;
    offset = offset_more _ p.offset;
    small = p.small;
  }

  has_group : (h : Header) (g : Group) → HasGroup q h g → HasGroup r h g
  has_group h g p = record {
    has = has_header h p.has;
    not_group = not_group_more _ p.not_group;
    base = base_more _ p.base;
    meta = meta_more _ p.meta;
    place = p.place;
    is = p.is;
    above = p.above;
    index = p.index;
  }

  is_listed : (h : Header) (g : Group) (f : Fields) → IsListed q h g f → IsListed r h g f
  is_listed h g f p = record {
    has = has_group h g p.has;
    fields = fields_more _ p.fields;
    bad_index = bad_index_more _ p.bad_index;
    available = available_more _ p.available;
    freed = is_freed_more _ p.freed;
  }

  has_slot : (h : Header) (g : Group) (f : Fields) → HasSlot q h g f → HasSlot r h g f
  has_slot h g f p = record {
    listed = is_listed h g f p.listed;
    bad_secret = bad_secret_more _ p.bad_secret;
    bad_offset = bad_offset_more _ p.bad_offset;
    bad_class = bad_class_more _ p.bad_class;
    bad_maplen = bad_maplen_more _ p.bad_maplen;
    class = p.class;
    range = p.range;
  }

  has_end : (e : ℕ) → HasEnd q e → HasEnd r e
  has_end e p = record { end = end_more _ p.end; from = p.from; below = p.below; whole = p.whole }

  has_reserved : (e n : ℕ) → HasReserved q e n → HasReserved r e n
  has_reserved e n p = record { bad_reserved = bad_reserved_more _ p.bad_reserved; reserved = reserved_more _ p.reserved; within = p.within }

-- ---- from a query to a later one
-- what holds whatever cells there are
pub later : (P : Query → Type 0) (q r : Query) → Grows q r → P (record q { cells = r.cells }) → P r
later P q r g p = subst P (sym g.same) p

pub header_later : (q r : Query) (h : Header) → Grows q r → HasHeader q h → HasHeader r h
header_later q r h g p = later (λ x. HasHeader x h) q r g (has_header q.pages q.secret q.addr q.cells r.cells g.cells h p)

pub group_later : (q r : Query) (h : Header) (k : Group) → Grows q r → HasGroup q h k → HasGroup r h k
group_later q r h k g p = later (λ x. HasGroup x h k) q r g (has_group q.pages q.secret q.addr q.cells r.cells g.cells h k p)

pub listed_later : (q r : Query) (h : Header) (k : Group) (f : Fields) → Grows q r → IsListed q h k f → IsListed r h k f
listed_later q r h k f g p = later (λ x. IsListed x h k f) q r g (is_listed q.pages q.secret q.addr q.cells r.cells g.cells h k f p)

pub slot_later : (q r : Query) (h : Header) (k : Group) (f : Fields) → Grows q r → HasSlot q h k f → HasSlot r h k f
slot_later q r h k f g p = later (λ x. HasSlot x h k f) q r g (has_slot q.pages q.secret q.addr q.cells r.cells g.cells h k f p)

pub end_later : (q r : Query) (e : ℕ) → Grows q r → HasEnd q e → HasEnd r e
end_later q r e g p = later (λ x. HasEnd x e) q r g (has_end q.pages q.secret q.addr q.cells r.cells g.cells e p)

pub reserved_later : (q r : Query) (e n : ℕ) → Grows q r → HasReserved q e n → HasReserved r e n
reserved_later q r e n g p = later (λ x. HasReserved x e n) q r g (has_reserved q.pages q.secret q.addr q.cells r.cells g.cells e n p)

pub placed_later : (q r : Query) → Grows q r → IsPlaced q → IsPlaced r
placed_later q r g p = later IsPlaced q r g (placed_more q.pages q.secret q.addr q.cells r.cells g.cells p)

pub fails_later : (q r : Query) (fault : PointerFault) → Grows q r → Fails q fault → Fails r fault
fails_later q r fault g p = later (λ x. Fails x fault) q r g (answer_more q.pages q.secret q.addr q.cells r.cells g.cells (Some fault) p)

pub byte_later : (q r : Query) (a : ℕ) → Grows q r → More (byte q a) (byte r a)
byte_later q r a g x e = later (λ y. byte y a ≡ Some x) q r g (byte_more q.pages q.secret q.addr q.cells r.cells g.cells a x e)

pub number_later : (q r : Query) (a : ℕ) → Grows q r → More (number q a) (number r a)
number_later q r a g x e = later (λ y. number y a ≡ Some x) q r g (number_more q.pages q.secret q.addr q.cells r.cells g.cells a x e)

pub grows_itself : (q : Query) → Grows q q
grows_itself q = record { same = refl; cells = λ a x e. e }

pub same_addr : (q r : Query) → Grows q r → r.addr ≡ q.addr
same_addr q r g = ap (λ (x : Query). x.addr) g.same

pub same_pages : (q r : Query) → Grows q r → r.pages ≡ q.pages
same_pages q r g = ap (λ (x : Query). x.pages) g.same

pub same_secret : (q r : Query) → Grows q r → r.secret ≡ q.secret
same_secret q r g = ap (λ (x : Query). x.secret) g.same

pub grows_then : (p q r : Query) → Grows p q → Grows q r → Grows p r
grows_then p q r a b = record { same = b.same ∙ ap (λ (x : Query). record x { cells = r.cells }) a.same; cells = λ d x e. b.cells d x (a.cells d x e) }

pub cell_later : (q r : Query) → Grows q r → HasCell q → HasCell r
cell_later q r g c = record { at = c.at; value = c.value; is = g.cells c.at c.value c.is }
