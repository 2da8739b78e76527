-- What keeps each part, for a step that changes one view.
use Rattle.std.proofs.Common.{◌≡◌, ◌≢◌, ℕ, ◌+◌, ◌*◌, ◌/◌, ◌%◌, ◌<◌, ◌≤◌, eqb, List, length, set, refl, sym, ap, ◌∙◌, subst, ⊎_elim, arith}
use mathlib.Core.Option.{some}
use lib.ListN.{get_elem?}
use Rattle.std.specs.Int.{bit_at}
use Rattle.std.proofs.lemmas.Bool.{cases_lt}
use Rattle.ng_view.specs.declared.view.Group.{Group}
use Rattle.ng_terms.specs.declared.entry.Extent.{Extent}
use Rattle.ng_view.specs.declared.view.Held.{Held}
use Rattle.ng_view.specs.declared.view.Nest.{Nest}
use Rattle.ng_view.specs.declared.view.Book.{Book}
use Rattle.ng_view.specs.declared.view.Layout.{Layout}
use Rattle.ng_view.specs.declared.view.Desk.{Desk}
use Rattle.ng_view.specs.declared.view.View.{View}
use Rattle.ng_view.specs.declared.view.Start.{Start}
use Rattle.ng_view.specs.Lists.{Among, total_by, count_of, Each, excused}
use Rattle.ng_terms.specs.Histories.{book_of}
use Rattle.ng_view.specs.Cells.{cell, tag, last, avail, freed, owed_of, marked_of, owed, marked, group_at}
use Rattle.ng_view.specs.Words.{IsLawful}
use Rattle.ng_view.specs.Views.{here, has, desk_of, no_desk, booked, numbered, blocks, lives, same_extent}
use Rattle.ng_view.specs.Slots.{Slots, IsPlace, IsPlain}
use Rattle.ng_view.specs.Knowledge.{IsKnown, IsFree, Masks, Numbers, Noted, HasFreeCells, IsZeroAvail, IsZeroFreed, IsSetFreed}
use Rattle.ng_view.specs.Excuses.{Excuses}
use Rattle.ng_view.specs.Hands.{Hands, IsIdle, IsMoving, IsDeskless, HasOneBlock, IsParcel, IsSingle}
use Rattle.ng_view.specs.History.{History}
use Rattle.ng_view.specs.Layouts.{InArea}
use Rattle.ng_view.specs.Listing.{Listing}
use Rattle.ng_rule.proofs.geometry.Lists.{total_by-set, each_set, at_other}
use Rattle.ng_rule.proofs.geometry.Nesting.{own_in_run, off_areas, metas_apart}
use Rattle.ng_rule.proofs.geometry.Facts.{marked_dead, held_slot, nested, nest_slot}
use Rattle.ng_rule.proofs.geometry.Frames.{Same, place_same, free_same}

-- ---- a step that changes nothing but slots and what is known of them
pub record Quiet (v w : View) : Type 0 where
  pub leads : w.leads ≡ v.leads
  pub books : w.books ≡ v.books
  pub excuses : w.excuses ≡ v.excuses
  pub sent : w.sent ≡ v.sent
  pub taken : w.taken ≡ v.taken
  pub parcel : w.parcel ≡ v.parcel
  pub blocks : (b : Extent) → blocks b w ≡ blocks b v
  pub idle : IsIdle v → IsIdle w
  pub whole : IsParcel v → IsParcel w

pub total_by-keep : (f : View → ℕ) (vs : List View) (id : ℕ) (v w : View) → get_elem? vs id ≡ some v → f w ≡ f v → total_by f (set vs id w) ≡ total_by f vs
total_by-keep f vs id v w e q = let s = total_by-set f vs id v w e in omega arith

pub each_keep : (Q : View → Type 0) (vs : List View) (id : ℕ) (v w : View) → get_elem? vs id ≡ some v → (Q v → Q w) → Each vs Q → Each (set vs id w) Q
each_keep Q vs id v w e t h = each_set Q Q vs id w (λ j u n f. h j u f) (t (h id v e))

pub same_one_block : (v w : View) → w.leads ≡ v.leads → w.books ≡ v.books → w.excuses ≡ v.excuses → w.held ≡ v.held → HasOneBlock v → HasOneBlock w
same_one_block v w leads books excuses held o = record { follows = leads ∙ o.follows; bookless = books ∙ o.bookless; excuseless = excuses ∙ o.excuseless; slot = o.slot; block = o.block; held = held ∙ o.held; live = o.live }

pub quiet_excuses : (key : Start) (vs : List View) (id : ℕ) (v w : View) → get_elem? vs id ≡ some v → Quiet v w → (desk_of (set vs id w)).refusals ≡ (desk_of vs).refusals → Excuses key vs → Excuses key (set vs id w)
quiet_excuses key vs id v w e q d x =
    let f : ℕ → View → ℕ = λ (n : ℕ) (u : View). excused n u.excuses + booked n u in
    let same : (n : ℕ) → f n w ≡ f n v = λ n. (λ i. excused n (q.excuses i) + total_by (λ b. total_by (Rattle.ng_view.specs.Views.excuse_of n) b.entries) (q.books i)) in
    let keep : (n : ℕ) → total_by (f n) (set vs id w) ≡ total_by (f n) vs = λ n. total_by-keep (f n) vs id v w e (same n) in
    record {
      once = λ n l. let k = keep n in let o = x.once n l in omega arith;
      answered = λ n l. let a = x.answered n (let k = keep n in omega arith) in (a.0, subst (λ z. n ≤ z) (sym d) a.1);
      last = subst (λ z. (key.refusals ≤ z) × (z ≤ 18446744073709551615)) (sym d) x.last;
    }

pub quiet_hands : (vs : List View) (id : ℕ) (v w : View) → get_elem? vs id ≡ some v → Quiet v w → (desk_of (set vs id w)).next ≡ (desk_of vs).next → Hands vs → Each (set vs id w) IsDeskless → Each (set vs id w) IsMoving → Hands (set vs id w)
quiet_hands vs id v w e q d x desks moving =
    let keep : (n : ℕ) → total_by (numbered n) (set vs id w) ≡ total_by (numbered n) vs = λ n. total_by-keep (numbered n) vs id v w e (λ i. total_by (λ (b : Book). count_of (eqb b.number n)) (q.books i)) in
    record {
      desks = desks;
      moving = moving;
      idle = each_keep IsIdle vs id v w e q.idle x.idle;
      whole = each_keep IsParcel vs id v w e q.whole x.whole;
      single = each_keep IsSingle vs id v w e (λ f l. subst (λ (b : List Book). length b ≤ 1) (sym q.books) (f (sym q.leads ∙ l))) x.single;
      none = keep 0 ∙ x.none;
      first = subst (λ n. 0 < n) (sym d) x.first;
      parcels =
          (let a = total_by-keep (λ u. count_of u.parcel) vs id v w e (ap count_of q.parcel) in let b = total_by-keep (λ u. u.taken) vs id v w e q.taken in let c = total_by-keep (λ u. u.sent) vs id v w e q.sent in let h = x.parcels in omega arith);
      once = λ n. let k = keep n in let o = x.once n in omega arith;
      above = λ n l. keep n ∙ x.above n (subst (λ z. z ≤ n) d l);
      leaders = total_by-keep (λ u. count_of u.leads) vs id v w e (ap count_of q.leads) ∙ x.leaders;
    }

pub quiet_history : (key : Start) (vs : List View) (id : ℕ) (v w : View) → get_elem? vs id ≡ some v → Quiet v w → History key vs → History key (set vs id w)
quiet_history key vs id v w e q x =
    let keep : (n : ℕ) → total_by (numbered n) (set vs id w) ≡ total_by (numbered n) vs = λ n. total_by-keep (numbered n) vs id v w e (λ i. total_by (λ (b : Book). count_of (eqb b.number n)) (q.books i)) in
    record {
      calls = x.calls;
      legal = x.legal;
      books = each_keep (λ u. (b : Book) → Among b u.books → book_of b.number x.calls ≡ b.entries) vs id v w e (λ h b s. h b (subst (λ (l : List Book). Among b l) q.books s)) x.books;
      others = λ k z. x.others k (sym (keep k) ∙ z);
      live = λ b. x.live b ∙ sym (total_by-keep (blocks b) vs id v w e (q.blocks b));
      used = λ n. x.used n ∙ sym (total_by-keep (booked n) vs id v w e (λ i. total_by (λ b. total_by (Rattle.ng_view.specs.Views.excuse_of n) b.entries) (q.books i)));
    }

-- ---- Slots: what leaves a mask comes to the view, and the other way round
pub slots_by : (ws ws' : List ℕ) (vs : List View) (id : ℕ) (v w : View) → get_elem? vs id ≡ some v
    → ((m i : ℕ) → m % 4 ≡ 0 → i < 32 → (marked ws' m i + has m i w ≡ marked ws m i + has m i v) × (owed ws' m i ≡ owed ws m i))
    → Slots ws vs → (m i : ℕ) → m % 4 ≡ 0 → i < 32 → marked ws' m i + total_by (has m i) (set vs id w) ≡ owed ws' m i
slots_by ws ws' vs id v w e step s m i al lt = let a = step m i al lt in let b = total_by-set (has m i) vs id v w e in let c = s.each m i al lt in let a0 = a.0 in let a1 = a.1 in omega arith

pub owed_same : (ws ws' : List ℕ) (d : Layout) → Same ws ws' d → (m i : ℕ) → m % 4 ≡ 0 → owed ws' m i ≡ owed ws m i
owed_same ws ws' d s m i al =
    ⊎_elim
    (λ (l : 0 < tag ws m). ap (λ (g : Group). owed_of g.tag g.last i) (s.groups m al l))
    (λ (l : tag ws m ≤ 0). let z : tag ws m ≡ 0 = (let t : ℕ = tag ws m in omega arith) in ap (λ t. owed_of t (last ws' m) i) (s.tags m al ∙ z) ∙ ap (λ t. owed_of t (last ws m) i) (sym z))
    (cases_lt 0 (tag ws m))

-- no bit comes
pub plain_less : (ws ws' : List ℕ) → ((m i : ℕ) → m % 4 ≡ 0 → i < 32 → marked ws' m i ≤ marked ws m i) → ((m i : ℕ) → m % 4 ≡ 0 → i < 32 → 0 < marked ws m i → IsPlain (group_at ws m))
    → (m i : ℕ) → m % 4 ≡ 0 → i < 32 → 0 < marked ws' m i → IsPlain (group_at ws m)
plain_less ws ws' less plain m i al lt some_bit = plain m i al lt (let l = less m i al lt in omega arith)

-- ---- Listing and what is noted, by the desk
pub marked_tag : (ws : List ℕ) (m i : ℕ) → 0 < marked ws m i → 0 < tag ws m
marked_tag ws m i h = ⊎_elim (λ (l : 0 < tag ws m). l) (λ (l : tag ws m ≤ 0). absurd (let z : tag ws m ≡ 0 = (let t : ℕ = tag ws m in omega arith) in let e = marked_dead (tag ws m) (avail ws m) (freed ws m) i z in omega arith)) (cases_lt 0 (tag ws m))

pub listing_of : (ws : List ℕ) (d e : Desk) → e.layout ≡ d.layout → e.listed ≡ d.listed → e.groups ≡ d.groups → Listing ws d → Listing ws e
listing_of ws d e l s g x = record {
  bits = λ m i al lt some_bit. subst (Among m) (sym s) (x.bits m i al lt some_bit);
  metas = λ m t. let r = x.metas m (subst (Among m) s t) in record { whole = r.whole; in_area = subst (λ y. InArea y m) (sym l) r.in_area };
  known = λ m al live. subst (Among (group_at ws m)) (sym g) (x.known m al live);
  once = λ m. subst (λ (l : List Group). total_by (λ (y : Group). count_of (eqb y.meta m)) l ≤ 1) (sym g) (x.once m);
  live = λ y t. x.live y (subst (Among y) g t);
}

pub listing_by : (ws ws' : List ℕ) (d : Desk) → Same ws ws' d.layout → ((m i : ℕ) → m % 4 ≡ 0 → i < 32 → 0 < marked ws' m i → Among m d.listed) → Listing ws d → Listing ws' d
listing_by ws ws' d s marks x = record {
  bits = marks;
  metas = x.metas;
  once = x.once;
  known = λ m al live. let l = subst (λ t. 0 < t) (s.tags m al) live in subst (λ g. Among g d.groups) (sym (s.groups m al l)) (x.known m al l);
  live = λ g t. let r = x.live g t in record { group = r.group ∙ sym (s.groups g.meta r.whole (subst (λ (y : Group). 0 < y.tag) r.group r.live)); whole = r.whole; live = r.live };
}

-- no bit comes
pub listing_less : (ws ws' : List ℕ) (d : Desk) → Same ws ws' d.layout → ((m i : ℕ) → m % 4 ≡ 0 → i < 32 → marked ws' m i ≤ marked ws m i) → Listing ws d → Listing ws' d
listing_less ws ws' d s less x = listing_by ws ws' d s (λ m i al lt some_bit. x.bits m i al lt (let l = less m i al lt in omega arith)) x

pub masks_of : (ws : List ℕ) (d e : Desk) → e.zero_avail ≡ d.zero_avail → e.zero_freed ≡ d.zero_freed → e.set_freed ≡ d.set_freed → Masks ws d → Masks ws e
masks_of ws d e a f s x = record {
  zero_avail = λ m t. x.zero_avail m (subst (Among m) a t);
  zero_freed = λ m t. x.zero_freed m (subst (Among m) f t);
  set_freed = λ m i t. x.set_freed m i (subst (Among {A = ℕ × ℕ} (m, i)) s t);
}

pub numbers_of : (ws : List ℕ) (d e : Desk) → e.active ≡ d.active → e.counter ≡ d.counter → Numbers ws d → Numbers ws e
numbers_of ws d e a c x = record { count = ap length a ∙ x.count; active = λ k lt. x.active k lt ∙ ap (λ l. Rattle.std.specs.Prelude.slice_index l k) (sym a); counter = x.counter ∙ sym c }

pub noted_of : (ws : List ℕ) (d e : Desk) → e.layout ≡ d.layout → e.cells ≡ d.cells → e.zero_avail ≡ d.zero_avail → e.zero_freed ≡ d.zero_freed → e.set_freed ≡ d.set_freed → e.active ≡ d.active → e.counter ≡ d.counter → Noted ws d → Noted ws e
noted_of ws d e l k a f s n c x = record {
  free = λ b y t. let r = x.free b y (subst (Among {A = ℕ × ℕ} (b, y)) k t) in (subst (λ z. IsFree ws z b) (sym l) r.0, r.1);
  masks = masks_of ws d e a f s x.masks;
  numbers = numbers_of ws d e n c x.numbers;
}

pub numbers_by : (ws ws' : List ℕ) (d : Desk) → ((a : ℕ) → a % 4 ≡ 0 → a < 4096 → cell ws' a ≡ cell ws a) → Numbers ws d → Numbers ws' d
numbers_by ws ws' d s x = record {
  count = x.count;
  active = λ c lt. s (4 * (c + 1)) (omega arith) (omega arith) ∙ x.active c lt;
  counter = s 196 refl (omega arith) ∙ x.counter;
}

pub free_cells_by : (ws ws' : List ℕ) (d : Desk) → Same ws ws' d.layout → ((a : ℕ) → IsFree ws d.layout a → cell ws' a ≡ cell ws a) → HasFreeCells ws d → HasFreeCells ws' d
free_cells_by ws ws' d s keep x a y t = let k = x a y t in (free_same ws ws' d.layout s a k.0, keep a k.0 ∙ k.1)

-- notes of masks, one by one
pub keep_avail : (ws ws' : List ℕ) (d : Layout) → Same ws ws' d → (m : ℕ) → ((i : ℕ) → i < 32 → bit_at (avail ws m) i ≡ 0 → bit_at (avail ws' m) i ≡ 0) → IsZeroAvail ws m → IsZeroAvail ws' m
keep_avail ws ws' d s m keep k = record { whole = k.whole; live = subst (λ t. 0 < t) (sym (s.tags m k.whole)) k.live; zero_bits = λ i lt. keep i lt (k.zero_bits i lt) }

pub keep_freed : (ws ws' : List ℕ) (d : Layout) → Same ws ws' d → (m : ℕ) → (freed ws m ≡ 0 → freed ws' m ≡ 0) → IsZeroFreed ws m → IsZeroFreed ws' m
keep_freed ws ws' d s m keep k = record { whole = k.whole; live = subst (λ t. 0 < t) (sym (s.tags m k.whole)) k.live; zero_mask = keep k.zero_mask }

pub keep_bit : (ws ws' : List ℕ) (d : Layout) → Same ws ws' d → (m i : ℕ) → (bit_at (freed ws m) i ≡ 1 → bit_at (freed ws' m) i ≡ 1) → IsSetFreed ws m i → IsSetFreed ws' m i
keep_bit ws ws' d s m i keep k = record { whole = k.whole; few = k.few; live = subst (λ t. 0 < t) (sym (s.tags m k.whole)) k.live; bit = keep k.bit }

-- a step on no mask of a live group
pub masks_by : (ws ws' : List ℕ) (d : Desk) → Same ws ws' d.layout → ((m : ℕ) → m % 4 ≡ 0 → 0 < tag ws m → (avail ws' m ≡ avail ws m) × (freed ws' m ≡ freed ws m)) → Masks ws d → Masks ws' d
masks_by ws ws' d s keep x = record {
  zero_avail = λ m t. let k = x.zero_avail m t in keep_avail ws ws' d.layout s m (λ i lt z. ap (λ y. bit_at y i) (keep m k.whole k.live).0 ∙ z) k;
  zero_freed = λ m t. let k = x.zero_freed m t in keep_freed ws ws' d.layout s m (λ z. (keep m k.whole k.live).1 ∙ z) k;
  set_freed = λ m i t. let k = x.set_freed m i t in keep_bit ws ws' d.layout s m i (λ z. ap (λ y. bit_at y i) (keep m k.whole k.live).1 ∙ z) k;
}

module _ (key : Start) (ws : List ℕ) (vs : List View) (slots : Slots ws vs) (words : IsLawful key ws (desk_of vs).layout) where
  -- ---- Slots, where a step leaves the groups
  pub slots_with : (ws' : List ℕ) (id : ℕ) (v w : View) → get_elem? vs id ≡ some v → ((m i : ℕ) → m % 4 ≡ 0 → i < 32 → marked ws' m i + total_by (has m i) (set vs id w) ≡ owed ws' m i)
      → ((m i : ℕ) → m % 4 ≡ 0 → i < 32 → 0 < marked ws' m i → IsPlain (group_at ws m))
      → Same ws ws' (desk_of vs).layout → w.desk.layout ≡ v.desk.layout → ((h : Held) → Among h w.held → IsPlace ws' h.place) → Slots ws' (set vs id w)
  slots_with ws' id v w e law plains s d mine = record {
    each = law;
    plain = λ m i al lt some_bit. subst IsPlain (sym (s.groups m al (subst (λ t. 0 < t) (s.tags m al) (marked_tag ws' m i some_bit)))) (plains m i al lt some_bit);
    held = each_set (λ u. Unit {0}) (λ u. (h : Held) → Among h u.held → IsPlace ws' h.place) vs id w (λ j u n f h t. place_same ws ws' (desk_of vs).layout s h.place (held_slot ws vs slots j u h f t)) mine;
    nests = each_set (λ u. Unit {0}) (λ u. (n : Nest) → Among n u.desk.layout.nests → IsPlace ws' n.place) vs id w (λ j u n f h t. nest_same j u h f t) (λ n t. nest_same id v n e (subst (λ (z : Layout). Among n z.nests) d t));
  }
    where
      nest_same : (j : ℕ) (u : View) (n : Nest) → get_elem? vs j ≡ some u → Among n u.desk.layout.nests → IsPlace ws' n.place
      nest_same j u n f t = place_same ws ws' (desk_of vs).layout s n.place (nest_slot ws vs slots j u n f t)

  -- ---- the masks of a step on the cell c of the meta m
  area : (m : ℕ) → m % 4 ≡ 0 → 0 < tag ws m → InArea (desk_of vs).layout m
  area m al live = (words.groups m al live).in_area

  pub marked_other : (m c x n i : ℕ) → m % 4 ≡ 0 → c < 40 → c % 4 ≡ 0 → 0 < tag ws m → n % 4 ≡ 0 → n ≢ m → tag (set ws ((m + c) / 4) x) n ≡ tag ws n → marked (set ws ((m + c) / 4) x) n i ≡ marked ws n i
  marked_other m c x n i al lc cl live nl ne t =
      let ws' = set ws ((m + c) / 4) x in
      ⊎_elim
      (λ (l : 0 < tag ws n).
      let apart : (b : ℕ) → b < 40 → b % 4 ≡ 0 → cell ws' (n + b) ≡ cell ws (n + b) =
      λ b lb bl. at_other ws (m + c) (n + b) x (omega arith) (omega arith) (λ e. ne (metas_apart key ws (desk_of vs).layout words (nested ws vs slots) n m b c (area n nl l) (area m al live) lb lc e).0) in
      λ j. marked_of (t j) (apart 24 (omega arith) (omega arith) j) (apart 28 (omega arith) (omega arith) j) i)
      (λ (l : tag ws n ≤ 0). let z : tag ws n ≡ 0 = (let y : ℕ = tag ws n in omega arith) in marked_dead (tag ws' n) (avail ws' n) (freed ws' n) i (t ∙ z) ∙ sym (marked_dead (tag ws n) (avail ws n) (freed ws n) i z))
      (cases_lt 0 (tag ws n))

  -- another cell of a meta
  pub field_other : (m c x n b : ℕ) → m % 4 ≡ 0 → c < 40 → c % 4 ≡ 0 → 0 < tag ws m → n % 4 ≡ 0 → 0 < tag ws n → b < 40 → b % 4 ≡ 0 → ((n ≡ m) × (b ≡ c) → ⊥) → cell (set ws ((m + c) / 4) x) (n + b) ≡ cell ws (n + b)
  field_other m c x n b al lc cl live nl l lb bl ne = at_other ws (m + c) (n + b) x (omega arith) (omega arith) (λ e. ne (metas_apart key ws (desk_of vs).layout words (nested ws vs slots) n m b c (area n nl l) (area m al live) lb lc e))

  -- ---- Knowledge of a slot, where a step is on a meta
  pub known_meta : (m c x : ℕ) → m % 4 ≡ 0 → c < 40 → c % 4 ≡ 0 → 0 < tag ws m → (j : ℕ) (u : View) (h : Held) → get_elem? vs j ≡ some u → Among h u.held → IsKnown ws h → IsKnown (set ws ((m + c) / 4) x) h
  known_meta m c x al lc cl live j u h e s k a y t =
      let r = k a y t in
      let i = held_slot ws vs slots j u h e s in
      record { own = r.own; whole = r.whole; value = at_other ws (m + c) a x (omega arith) r.whole (λ q. off_areas key ws (desk_of vs).layout words (nested ws vs slots) a m (own_in_run key ws (desk_of vs).layout words (nested ws vs slots) a h.place i r.own) (area m al live) (omega arith) (omega arith)) ∙ r.value }
