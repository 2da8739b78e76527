-- Two views made one.
use Rattle.std.proofs.Common.{◌≡◌, ◌≢◌, ℕ, ◌+◌, ◌<◌, ◌≤◌, eqb, true, false, true≢false, List, [], set, refl, sym, ap, ◌∙◌, subst, ⊎_elim, inl, inr, arith}
use mathlib.Core.Option.{some}
use lib.ListN.{get_elem?}
use Rattle.atomic_table.proofs.Lists.{at_set}
use Rattle.ng_view.specs.declared.view.Held.{Held}
use Rattle.ng_view.specs.declared.view.Nest.{Nest}
use Rattle.ng_view.specs.declared.view.Book.{Book}
use Rattle.ng_view.specs.declared.view.Desk.{Desk}
use Rattle.ng_view.specs.declared.view.View.{View}
use Rattle.ng_view.specs.declared.view.Start.{Start}
use Rattle.ng_view.specs.Lists.{Among, total_by, count_of, Each, excused}
use Rattle.ng_terms.specs.Histories.{book_of}
use Rattle.ng_view.specs.Hands.{IsDeskless, IsIdle, IsMoving, IsParcel, IsSingle}
use Rattle.ng_view.specs.Classes.{IsServed}
use Rattle.ng_view.specs.Words.{IsLawful}
use Rattle.ng_view.specs.Views.{here, has, desk_of, no_desk, booked, numbered, blocks, lives}
use Rattle.ng_view.specs.Rule.{Rule}
use Rattle.ng_view.specs.Slots.{IsPlace}
use Rattle.ng_view.specs.Knowledge.{IsKnown, Noted}
use Rattle.ng_view.specs.Blocks.{IsSet}
use Rattle.ng_view.specs.Listing.{Listing}
use Rattle.ng_view.specs.Cuts.{Merge}
use Rattle.ng_view.specs.Steps.{taken_in, spent}
use Rattle.ng_rule.proofs.geometry.Lists.{total_by-set, total_by-append, each_set, desk_same, among_append}

module _ (key : Start) (ws : List ℕ) (vs : List View) (id other : ℕ) (v w b s : View) (kept : Rule key ws vs) (here_v : get_elem? vs id ≡ some v) (apart : ¬ (other ≡ id)) (here_w : get_elem? (set vs id b) other ≡ some w) (g : Merge v w b s) where
  abbrev vs' : List View
  vs' = set (set vs id b) other s

  was : get_elem? vs other ≡ some w
  was = ⊎_elim (λ (x : (other ≡ id) × (b ≡ w)). absurd (apart x.0)) (λ (x : (other ≢ id) × (get_elem? vs other ≡ some w)). x.1) (at_set vs id other b w here_w)

  sums : (f : View → ℕ) → f b + f s ≡ f v + f w → total_by f vs' ≡ total_by f vs
  sums f e = let a = total_by-set f vs id v b here_v in let c = total_by-set f (set vs id b) other w s here_w in omega arith

  follows : s.leads ≡ false
  follows = ap (λ (u : View). u.leads) g.left

  deskless : s.desk ≡ no_desk
  deskless = ap (λ (u : View). u.desk) g.left

  slotless : s.held ≡ []
  slotless = ap (λ (u : View). u.held) g.left

  desk : desk_of vs' ≡ desk_of vs
  desk = desk_same (set vs id b) other w s here_w (follows ∙ sym g.leads.1) (deskless ∙ sym (kept.hands.desks other w was g.leads.1)) ∙ desk_same vs id v b here_v g.leads.0 g.desk

  each : (Q : View → Type 0) → (Q v → Q w → Q b) → Q s → Each vs Q → Each vs' Q
  each Q both rest h = each_set Q Q (set vs id b) other s (λ j u n f. each_set Q Q vs id b (λ j u n f. h j u f) (both (h id v here_v) (h other w was)) j u f) rest

  pub joins : Rule key ws vs'
  joins = record {
    slots = record {
      each = λ m i al lt. let a = sums (has m i) (g.has m i) in let c = kept.slots.each m i al lt in omega arith;
      plain = kept.slots.plain;
      held = each (λ u. (h : Held) → Among h u.held → IsPlace ws h.place) (λ f f' h t. ⊎_elim (f h) (f' h) (g.held h t)) (λ h t. absurd (subst (Among h) slotless t)) kept.slots.held;
      nests = each (λ u. (n : Nest) → Among n u.desk.layout.nests → IsPlace ws n.place) (λ f f' n t. f n (subst (λ (d : Desk). Among n d.layout.nests) g.desk t)) (λ n t. absurd (subst (λ (d : Desk). Among n d.layout.nests) deskless t)) kept.slots.nests;
    };
    words = record {
      lawful = subst (λ (z : Desk). IsLawful key ws z.layout) (sym desk) kept.words.lawful;
      blocks = each (λ u. (h : Held) → Among h u.held → IsSet h h.block) (λ f f' h t. ⊎_elim (f h) (f' h) (g.held h t)) (λ h t. absurd (subst (Among h) slotless t)) kept.words.blocks;
    };
    listing = subst (Listing ws) (sym desk) kept.listing;
    excuses = record {
      once = λ e lt. let a = sums (λ (u : View). excused e u.excuses + booked e u) (both e) in let c = kept.excuses.once e lt in omega arith;
      answered = λ e lt. let x = kept.excuses.answered e (let a = sums (λ (u : View). excused e u.excuses + booked e u) (both e) in omega arith) in (x.0, subst (λ (d : Desk). e ≤ d.refusals) (sym desk) x.1);
      last = subst (λ (z : Desk). (key.refusals ≤ z.refusals) × (z.refusals ≤ 18446744073709551615)) (sym desk) kept.excuses.last;
    };
    history = record {
      calls = kept.history.calls;
      legal = kept.history.legal;
      books = each (λ u. (x : Book) → Among x u.books → book_of x.number kept.history.calls ≡ x.entries) (λ f f' x t. ⊎_elim (f x) (f' x) (g.books x t)) (λ x t. absurd (subst (Among x) (ap (λ (u : View). u.books) g.left) t)) kept.history.books;
      others = λ k z. kept.history.others k (sym (sums (numbered k) (g.numbers k)) ∙ z);
      live = λ p. kept.history.live p ∙ sym (sums (blocks p) (g.blocks p));
      used = λ e. kept.history.used e ∙ sym (sums (booked e) (g.booked e));
    };
    knowledge = record {
      desk = subst (Noted ws) (sym desk) kept.knowledge.desk;
      each = each (λ u. (h : Held) → Among h u.held → IsKnown ws h) (λ f f' h t. ⊎_elim (f h) (f' h) (g.held h t)) (λ h t. absurd (subst (Among h) slotless t)) kept.knowledge.each;
    };
    classes = record { each = each (λ u. (h : Held) → Among h u.held → IsServed h h.block) (λ f f' h t. ⊎_elim (f h) (f' h) (g.held h t)) (λ h t. absurd (subst (Among h) slotless t)) kept.classes.each };
    hands = record {
      desks = each IsDeskless (λ f f' e. g.desk ∙ f (sym g.leads.0 ∙ e)) (λ e. deskless) kept.hands.desks;
      moving = each IsMoving (λ f f'. g.moving f (kept.hands.idle other w was)) (λ l. absurd (true≢false (sym l ∙ follows))) kept.hands.moving;
      idle = each IsIdle g.idle (subst IsIdle (sym g.left) (λ b. (refl, refl, λ l p. (refl, refl)))) kept.hands.idle;
      whole = each IsParcel g.whole (λ p. absurd (true≢false (sym p ∙ ap (λ (u : View). u.parcel) g.left))) kept.hands.whole;
      single = each IsSingle (λ f f'. g.single f) (subst IsSingle (sym g.left) (λ l. omega arith)) kept.hands.single;
      none = sums (numbered 0) (g.numbers 0) ∙ kept.hands.none;
      first = subst (λ (z : Desk). 0 < z.next) (sym desk) kept.hands.first;
      parcels = (let a = total_by-set (λ u. count_of u.parcel) vs id v b here_v in let a' = total_by-set (λ u. count_of u.parcel) (set vs id b) other w s here_w in
          let c = total_by-set (λ u. u.taken) vs id v b here_v in let c' = total_by-set (λ u. u.taken) (set vs id b) other w s here_w in
          let d = total_by-set (λ u. u.sent) vs id v b here_v in let d' = total_by-set (λ u. u.sent) (set vs id b) other w s here_w in
          let p = kept.hands.parcels in let q = g.parcels in omega arith);
      once = λ k. let a = sums (numbered k) (g.numbers k) in let c = kept.hands.once k in omega arith;
      above = λ k lt. sums (numbered k) (g.numbers k) ∙ kept.hands.above k (subst (λ (d : Desk). d.next ≤ k) desk lt);
      leaders = sums (λ u. count_of u.leads) (let a = ap count_of g.leads.0 in let c : count_of w.leads ≡ 0 = ap count_of g.leads.1 in let d : count_of s.leads ≡ 0 = ap count_of follows in omega arith) ∙ kept.hands.leaders;
    };
  }
    where
      both : (e : ℕ) → (excused e b.excuses + booked e b) + (excused e s.excuses + booked e s) ≡ (excused e v.excuses + booked e v) + (excused e w.excuses + booked e w)
      both e = let a = g.excuses e in let c = g.booked e in omega arith

pub merge_parcel : (v w : View) → (v.books ≡ [] → ⊥) → w.leads ≡ false → w.books ≡ [] → w.excuses ≡ [] → w.parcel ≡ true → w.taken ≡ 0 → w.sent ≡ 0 → w.desk ≡ no_desk → Merge v w (taken_in v w) spent
merge_parcel v w caller leads books excuses parcel taken sent desk = record {
  left = refl;
  leads = (refl, leads);
  desk = refl;
  has = λ n j. let a = total_by-append (λ (y : Held). here n j y.place) w.held v.held in let z : total_by (λ (x : Nest). here n j x.place) w.desk.layout.nests ≡ 0 = ap (λ (d : Desk). total_by (λ (x : Nest). here n j x.place) d.layout.nests) desk in omega arith;
  blocks = λ b. let a = total_by-append (λ (y : Held). lives b y.block) w.held v.held in omega arith;
  numbers = λ k. let a = ap (total_by (λ (b : Book). count_of (eqb b.number k))) books in omega arith;
  excuses = λ e. let a = ap (excused e) excuses in omega arith;
  booked = λ e. let a = ap (total_by (λ (b : Book). total_by (Rattle.ng_view.specs.Views.excuse_of e) b.entries)) books in omega arith;
  held = λ h s. ⊎_elim (λ (t : Among h w.held). inr t) (λ (t : Among h v.held). inl t) (among_append w.held v.held h s);
  books = λ b s. inl s;
  excuse = λ x s. inl s;
  readings = refl;
  stores = refl;
  idle = λ f f' b. absurd (caller b);
  whole = λ f f' p. absurd (caller (f p).bookless);
  single = λ f. f;
  moving = λ f i l b. absurd (caller b);
  parcels = (let a : count_of w.parcel ≡ 1 = ap count_of parcel in omega arith);
}
