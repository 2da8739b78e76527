-- The rule at the start, and a new hand.
use Rattle.std.proofs.Common.{◌≡◌, ◌≢◌, ℕ, zero, suc, ◌+◌, ◌*◌, ◌/◌, ◌<◌, ◌≤◌, eqb, eq-eqb, ne_eqb, true, true≢false, List, [], ◌∷◌, ◌++◌, length, set, replicate, refl, sym, ap, ◌∙◌, subst, ⊎_elim, inl, arith}
use mathlib.Core.Option.{some, some-ne-none, some-injective}
use lib.ListN.{get_elem?}
use Rattle.std.specs.Prelude.{slice_index}
use Rattle.std.proofs.lemmas.Bool.{cases_eq}
use Rattle.ng_rule.proofs.geometry.Parts.{listing_of, noted_of}
use Rattle.ng_view.specs.declared.view.Held.{Held}
use Rattle.ng_view.specs.declared.view.Nest.{Nest}
use Rattle.ng_view.specs.declared.view.Book.{Book}
use Rattle.ng_view.specs.declared.view.Desk.{Desk}
use Rattle.ng_view.specs.declared.view.View.{View}
use Rattle.ng_view.specs.declared.view.Start.{Start}
use Rattle.ng_view.specs.Lists.{Among, total_by, count_of, Each, excused}
use Rattle.ng_terms.specs.Histories.{book_of}
use Rattle.ng_view.specs.Cells.{cell, tag, avail, freed, last, marked, owed}
use Rattle.ng_view.specs.Hands.{IsDeskless, IsIdle, IsMoving, IsParcel, IsSingle}
use Rattle.ng_view.specs.Classes.{IsServed}
use Rattle.ng_view.specs.Words.{IsLawful}
use Rattle.ng_view.specs.Views.{has, desk_of, booked, numbered, blocks}
use Rattle.ng_view.specs.Rule.{Rule}
use Rattle.ng_view.specs.Slots.{IsPlace}
use Rattle.ng_view.specs.Knowledge.{IsKnown, Noted}
use Rattle.ng_view.specs.Blocks.{IsSet}
use Rattle.ng_view.specs.Layouts.{InRange}
use Rattle.ng_view.specs.Listing.{Listing}
use Rattle.ng_view.specs.Steps.{opener, fresh_hand, next_hand}
use Rattle.ng_rule.proofs.geometry.Lists.{total_by-set, total_by-snoc, each_set, each_snoc, desk_lead, desk_snoc}
use Rattle.ng_rule.proofs.geometry.Facts.{marked_dead}

zeros_at : (n k : ℕ) → slice_index (replicate n 0) k ≡ 0
zeros_at zero k = refl
zeros_at (suc n) zero = refl
zeros_at (suc n) (suc k) = zeros_at n k

zeros_length : (n : ℕ) → length {A = ℕ} (replicate n 0) ≡ n
zeros_length zero = refl
zeros_length (suc n) = ap suc (zeros_length n)

one : (Q : View → Type 0) (v : View) → Q v → Each (v ∷ []) Q
one Q v q zero u e = subst Q (some-injective v u e) q
one Q v q (suc j) u e = absurd (some-ne-none u (sym e))

abbrev ws : Start → List ℕ
ws key = replicate (1024 * key.pages) 0

dead : (key : Start) (m : ℕ) → tag (ws key) m ≡ 0
dead key m = let z = zeros_at (1024 * key.pages) ((m + 24) / 4) in omega arith

pub opens : (key : Start) → InRange key → Rule key (replicate (1024 * key.pages) 0) (opener key ∷ [])
opens key range = record {
  slots = record {
    each = λ m i al lt. let a = marked_dead (tag (ws key) m) (avail (ws key) m) (freed (ws key) m) i (dead key m) in let b : owed (ws key) m i ≡ 0 = ap (λ t. Rattle.ng_view.specs.Cells.owed_of t (last (ws key) m) i) (dead key m) in omega arith;
    plain = λ m i al lt some_bit. absurd (let a = marked_dead (tag (ws key) m) (avail (ws key) m) (freed (ws key) m) i (dead key m) in omega arith);
    held = one (λ u. (h : Held) → Among h u.held → IsPlace (ws key) h.place) (opener key) (λ h s. absurd s);
    nests = one (λ u. (n : Nest) → Among n u.desk.layout.nests → IsPlace (ws key) n.place) (opener key) (λ n s. absurd s);
  };
  words = record {
    lawful = record {
      long = zeros_length (1024 * key.pages);
      upper = λ k. inl (let z = zeros_at (1024 * key.pages) k in omega arith);
      apart = λ r s a p. absurd p;
      in_space = λ r p. absurd p;
      once = λ a. omega arith;
      groups = λ m al live. absurd (let z = dead key m in omega arith);
      range = range;
      carried = λ n p. absurd p;
      single = λ m. omega arith;
      areas = λ r p. absurd p;
      first = record { active = λ c lt. inl (zeros_at (1024 * key.pages) (4 * (c + 1) / 4)); rest = λ a al lt far ne. zeros_at (1024 * key.pages) (a / 4) };
      outside = λ a al page out. zeros_at (1024 * key.pages) (a / 4);
    };
    blocks = one (λ u. (h : Held) → Among h u.held → IsSet h h.block) (opener key) (λ h s. absurd s);
  };
  listing = record { bits = λ m i al lt some_bit. absurd (let a = marked_dead (tag (ws key) m) (avail (ws key) m) (freed (ws key) m) i (dead key m) in omega arith); metas = λ m s. absurd s; known = λ m al live. absurd (let z = dead key m in omega arith); live = λ g s. absurd s; once = λ m. omega arith };
  excuses = record { once = λ e lt. omega arith; answered = λ e lt. absurd (omega arith); last = (let z = range.refusals in (omega arith, omega arith)) };
  history = record {
    calls = [];
    legal = tt;
    books = one (λ u. (b : Book) → Among b u.books → book_of b.number [] ≡ b.entries) (opener key) (λ b s. absurd s);
    others = λ k z. refl;
    live = λ b. omega arith;
    used = λ e. omega arith;
  };
  knowledge = record { each = one (λ u. (h : Held) → Among h u.held → IsKnown (ws key) h) (opener key) (λ h s. absurd s); desk = record { free = λ a x s. absurd s; masks = record { zero_avail = λ m s. absurd s; zero_freed = λ m s. absurd s; set_freed = λ m i s. absurd s }; numbers = record { count = zeros_length 48; active = λ c lt. zeros_at (1024 * key.pages) (4 * (c + 1) / 4) ∙ sym (zeros_at 48 c); counter = zeros_at (1024 * key.pages) (196 / 4) } } };
  classes = record { each = one (λ u. (h : Held) → Among h u.held → IsServed h h.block) (opener key) (λ h s. absurd s) };
  hands = record {
    desks = one IsDeskless (opener key) (λ l. absurd (true≢false l));
    moving = one IsMoving (opener key) (λ l b h s. absurd s);
    idle = one IsIdle (opener key) (λ b. (refl, refl, λ l. absurd (true≢false l)));
    whole = one IsParcel (opener key) (λ p. absurd (true≢false (sym p)));
    single = one IsSingle (opener key) (λ l. absurd (true≢false l));
    none = omega arith;
    first = omega arith;
    parcels = omega arith;
    once = λ k. omega arith;
    above = λ k lt. omega arith;
    leaders = omega arith;
  };
}

module _ (key : Start) (ws : List ℕ) (vs : List View) (id : ℕ) (v : View) (kept : Rule key ws vs) (here_v : get_elem? vs id ≡ some v) (leads : v.leads ≡ true) where
  abbrev k : ℕ
  k = v.desk.next

  abbrev l : View
  l = next_hand v

  abbrev r : View
  r = fresh_hand k

  abbrev vs' : List View
  vs' = set vs id l ++ r ∷ []

  desk_was : desk_of vs ≡ v.desk
  desk_was = (desk_lead vs id v l here_v leads kept.hands.leaders leads).0

  desk_is : desk_of vs' ≡ l.desk
  desk_is = desk_snoc (set vs id l) r refl refl ∙ (desk_lead vs id v l here_v leads kept.hands.leaders leads).1

  sums : (f : View → ℕ) → f l ≡ f v → total_by f vs' ≡ total_by f vs + f r
  sums f e = let a = total_by-set f vs id v l here_v in let b = total_by-snoc f (set vs id l) r in omega arith

  each : (Q : View → Type 0) → (Q v → Q l) → Q r → Each vs Q → Each vs' Q
  each Q left right h = each_snoc Q (set vs id l) r (each_set Q Q vs id l (λ j u n f. h j u f) (left (h id v here_v))) right

  unused : total_by (numbered k) vs ≡ 0
  unused = kept.hands.above k (subst (λ (d : Desk). d.next ≤ k) (sym desk_was) (omega arith))

  new_number : (n : ℕ) → numbered n r ≡ count_of (eqb k n)
  new_number n = omega arith

  pub hands_out : Rule key ws vs'
  hands_out = record {
    slots = record {
      each = λ m i al lt. let a = sums (has m i) refl in let b = kept.slots.each m i al lt in omega arith;
      plain = kept.slots.plain;
      held = each (λ u. (h : Held) → Among h u.held → IsPlace ws h.place) (λ f. f) (λ h s. absurd s) kept.slots.held;
      nests = each (λ u. (n : Nest) → Among n u.desk.layout.nests → IsPlace ws n.place) (λ f. f) (λ h s. absurd s) kept.slots.nests;
    };
    words = record {
      lawful = subst (λ (d : Desk). IsLawful key ws d.layout) (sym desk_is) (subst (λ (d : Desk). IsLawful key ws d.layout) desk_was kept.words.lawful);
      blocks = each (λ u. (h : Held) → Among h u.held → IsSet h h.block) (λ f. f) (λ h s. absurd s) kept.words.blocks;
    };
    listing = subst (Listing ws) (sym desk_is) (listing_of ws v.desk l.desk refl refl refl (subst (Listing ws) desk_was kept.listing));
    excuses = record {
      once = λ e lt. let a = sums (λ (u : View). excused e u.excuses + booked e u) refl in let b = kept.excuses.once e lt in omega arith;
      answered = λ e lt.
          let x = kept.excuses.answered e (let a = sums (λ (u : View). excused e u.excuses + booked e u) refl in omega arith) in
          (x.0, subst (λ (d : Desk). e ≤ d.refusals) (sym desk_is) (subst (λ (d : Desk). e ≤ d.refusals) desk_was x.1));
      last = subst (λ (d : Desk). (key.refusals ≤ d.refusals) × (d.refusals ≤ 18446744073709551615)) (sym desk_is) (subst (λ (d : Desk). (key.refusals ≤ d.refusals) × (d.refusals ≤ 18446744073709551615)) desk_was kept.excuses.last);
    };
    history = record {
      calls = kept.history.calls;
      legal = kept.history.legal;
      books = each (λ u. (b : Book) → Among b u.books → book_of b.number kept.history.calls ≡ b.entries) (λ f. f)
          (λ b s. ⊎_elim (λ (e : b ≡ record { number = k; entries = [] }). subst (λ (y : Book). book_of y.number kept.history.calls ≡ y.entries) (sym e) (kept.history.others k unused)) (λ (e : ⊥). absurd e) s) kept.history.books;
      others = λ n z. kept.history.others n (let a = sums (numbered n) refl in omega arith);
      live = λ b. kept.history.live b ∙ (let a = sums (blocks b) refl in omega arith);
      used = λ e. kept.history.used e ∙ (let a = sums (booked e) refl in omega arith);
    };
    knowledge = record {
      desk = subst (Noted ws) (sym desk_is) (noted_of ws v.desk l.desk refl refl refl refl refl refl refl (subst (Noted ws) desk_was kept.knowledge.desk));
      each = each (λ u. (h : Held) → Among h u.held → IsKnown ws h) (λ f. f) (λ h s. absurd s) kept.knowledge.each;
    };
    classes = record { each = each (λ u. (h : Held) → Among h u.held → IsServed h h.block) (λ f. f) (λ h s. absurd s) kept.classes.each };
    hands = record {
      desks = each IsDeskless (λ f l. absurd (true≢false (sym leads ∙ l))) (λ l. refl) kept.hands.desks;
      moving = each IsMoving (λ f. f) (λ l. absurd (true≢false (sym l))) kept.hands.moving;
      idle = each IsIdle (λ f b. let x = f b in (x.0, x.1, λ l. absurd (true≢false (sym leads ∙ l)))) (λ b. (refl, refl, λ l p. (refl, refl))) kept.hands.idle;
      whole = each IsParcel (λ f p. absurd (true≢false (sym leads ∙ (f p).follows))) (λ p. absurd (true≢false (sym p))) kept.hands.whole;
      single = each IsSingle (λ f l. absurd (true≢false (sym leads ∙ l))) (λ l. omega arith) kept.hands.single;
      none = (let a = sums (numbered 0) refl in let b = kept.hands.none in let c = new_number 0 in let z : count_of (eqb k 0) ≡ 0 = ap count_of (ne_eqb k 0 not_zero) in omega arith);
      first = subst (λ (d : Desk). 0 < d.next) (sym desk_is) (omega arith);
      parcels = (let a = sums (λ u. count_of u.parcel) refl in let b = sums (λ u. u.taken) refl in let c = sums (λ u. u.sent) refl in let p = kept.hands.parcels in omega arith);
      once = λ n. ⊎_elim
          (λ (e : n ≡ k). subst (λ y. total_by (numbered y) vs' ≤ 1) (sym e) (let a = sums (numbered k) refl in let b = unused in let c : count_of (eqb k k) ≡ 1 = ap count_of (eq-eqb k k refl) in omega arith))
          (λ (ne : n ≢ k). let a = sums (numbered n) refl in let b = kept.hands.once n in let c : count_of (eqb k n) ≡ 0 = ap count_of (ne_eqb k n (λ q. ne (sym q))) in omega arith)
          (cases_eq n k);
      above = λ n lt.
          let more : k + 1 ≤ n = subst (λ (d : Desk). d.next ≤ n) desk_is lt in
          let a = sums (numbered n) refl in let b = kept.hands.above n (subst (λ (d : Desk). d.next ≤ n) (sym desk_was) (omega arith)) in let c : count_of (eqb k n) ≡ 0 = ap count_of (ne_eqb k n (λ q. omega arith)) in omega arith;
      leaders = (let a = sums (λ u. count_of u.leads) refl in let b = kept.hands.leaders in omega arith);
    };
  }
    where
      not_zero : k ≡ 0 → ⊥
      not_zero e = let f = subst (λ (d : Desk). 0 < d.next) desk_was kept.hands.first in omega arith
