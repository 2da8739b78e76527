-- A view cut in two, and two views made one.
use Rattle.std.proofs.Common.{◌≡◌, ℕ, ◌+◌, ◌<◌, ◌≤◌, true≢false, List, [], ◌∷◌, ◌++◌, set, refl, sym, ap, ◌∙◌, subst, ⊎_elim, inl, inr, arith}
use mathlib.Core.Option.{some}
use lib.ListN.{get_elem?}
use Rattle.std.specs.Prelude.{Some}
use Rattle.ng_terms.specs.declared.entry.Extent.{Extent}
use Rattle.ng_view.specs.declared.view.Held.{Held}
use Rattle.ng_view.specs.declared.view.Nest.{Nest}
use Rattle.ng_view.specs.declared.view.Book.{Book}
use Rattle.ng_view.specs.declared.view.Desk.{Desk}
use Rattle.ng_view.specs.declared.view.View.{View}
use Rattle.ng_view.specs.declared.view.Start.{Start}
use Rattle.ng_view.specs.Lists.{Among, total_by, count_of, Each, find, without, excused}
use Rattle.ng_terms.specs.Histories.{book_of}
use Rattle.ng_view.specs.Hands.{IsDeskless, IsIdle, IsMoving, IsParcel, IsSingle}
use Rattle.ng_view.specs.Classes.{IsServed}
use Rattle.ng_view.specs.Words.{IsLawful}
use Rattle.ng_view.specs.Views.{here, has, desk_of, booked, numbered, blocks, lives}
use Rattle.ng_view.specs.Rule.{Rule}
use Rattle.ng_view.specs.Slots.{IsPlace}
use Rattle.ng_view.specs.Knowledge.{IsKnown, Noted}
use Rattle.ng_view.specs.Blocks.{IsSet}
use Rattle.ng_view.specs.Listing.{Listing}
use Rattle.ng_view.specs.Cuts.{Cut}
use Rattle.ng_view.specs.Steps.{split_off, parcel_of}
use Rattle.ng_rule.proofs.geometry.Lists.{total_by-set, total_by-snoc, each_set, each_snoc, desk_same, desk_snoc, total_by-without, among_without, find_among}

module _ (key : Start) (ws : List ℕ) (vs : List View) (id : ℕ) (v l r : View) (kept : Rule key ws vs) (here_v : get_elem? vs id ≡ some v) (c : Cut v l r) where
  abbrev vs' : List View
  vs' = set vs id l ++ r ∷ []

  sums : (f : View → ℕ) → f l + f r ≡ f v → total_by f vs' ≡ total_by f vs
  sums f e = let a = total_by-set f vs id v l here_v in let b = total_by-snoc f (set vs id l) r in omega arith

  desk : desk_of vs' ≡ desk_of vs
  desk = desk_snoc (set vs id l) r c.leads.1 c.desk.1 ∙ desk_same vs id v l here_v c.leads.0 c.desk.0

  each : (Q : View → Type 0) → (Q v → Q l) → (Q v → Q r) → Each vs Q → Each vs' Q
  each Q left right h = each_snoc Q (set vs id l) r (each_set Q Q vs id l (λ j u n f. h j u f) (left (h id v here_v))) (right (h id v here_v))

  pub splits : Rule key ws vs'
  splits = record {
    slots = record {
      each = λ m i al lt. let a = sums (has m i) (c.has m i) in let b = kept.slots.each m i al lt in omega arith;
      plain = kept.slots.plain;
      held = each (λ u. (h : Held) → Among h u.held → IsPlace ws h.place) (λ f h s. f h (c.held h (inl s))) (λ f h s. f h (c.held h (inr s))) kept.slots.held;
      nests = each (λ u. (n : Nest) → Among n u.desk.layout.nests → IsPlace ws n.place) (λ f n s. f n (subst (λ (d : Desk). Among n d.layout.nests) c.desk.0 s)) (λ f n s. absurd (subst (λ (d : Desk). Among n d.layout.nests) c.desk.1 s)) kept.slots.nests;
    };
    words = record {
      lawful = subst (λ (z : Desk). IsLawful key ws z.layout) (sym desk) kept.words.lawful;
      blocks = each (λ u. (h : Held) → Among h u.held → IsSet h h.block) (λ f h s. f h (c.held h (inl s))) (λ f h s. f h (c.held h (inr s))) kept.words.blocks;
    };
    listing = subst (Listing ws) (sym desk) kept.listing;
    excuses = record {
      once = λ e lt. let a = sums (λ (u : View). excused e u.excuses + booked e u) (both e) in let b = kept.excuses.once e lt in omega arith;
      answered = λ e lt. let x = kept.excuses.answered e (let a = sums (λ (u : View). excused e u.excuses + booked e u) (both e) in omega arith) in (x.0, subst (λ (d : Desk). e ≤ d.refusals) (sym desk) x.1);
      last = subst (λ (z : Desk). (key.refusals ≤ z.refusals) × (z.refusals ≤ 18446744073709551615)) (sym desk) kept.excuses.last;
    };
    history = record {
      calls = kept.history.calls;
      legal = kept.history.legal;
      books = each (λ u. (b : Book) → Among b u.books → book_of b.number kept.history.calls ≡ b.entries) (λ f b s. f b (c.books b (inl s))) (λ f b s. f b (c.books b (inr s))) kept.history.books;
      others = λ k z. kept.history.others k (sym (sums (numbered k) (c.numbers k)) ∙ z);
      live = λ b. kept.history.live b ∙ sym (sums (blocks b) (c.blocks b));
      used = λ e. kept.history.used e ∙ sym (sums (booked e) (c.booked e));
    };
    knowledge = record {
      desk = subst (Noted ws) (sym desk) kept.knowledge.desk;
      each = each (λ u. (h : Held) → Among h u.held → IsKnown ws h) (λ f h s. f h (c.held h (inl s))) (λ f h s. f h (c.held h (inr s))) kept.knowledge.each;
    };
    classes = record { each = each (λ u. (h : Held) → Among h u.held → IsServed h h.block) (λ f h s. f h (c.held h (inl s))) (λ f h s. f h (c.held h (inr s))) kept.classes.each };
    hands = record {
      desks = each IsDeskless (λ f e. c.desk.0 ∙ f (sym c.leads.0 ∙ e)) (λ f e. c.desk.1) kept.hands.desks;
      moving = each IsMoving c.moving (λ f l. absurd (true≢false (sym l ∙ c.leads.1))) kept.hands.moving;
      idle = each IsIdle c.idle.0 (λ f. c.idle.1) kept.hands.idle;
      whole = each IsParcel c.whole.0 (λ f. c.whole.1) kept.hands.whole;
      single = each IsSingle c.single.0 (λ f. c.single.1) kept.hands.single;
      none = sums (numbered 0) (c.numbers 0) ∙ kept.hands.none;
      first = subst (λ (z : Desk). 0 < z.next) (sym desk) kept.hands.first;
      parcels = (let a = total_by-set (λ u. count_of u.parcel) vs id v l here_v in let a' = total_by-snoc (λ u. count_of u.parcel) (set vs id l) r in
          let b = total_by-set (λ u. u.taken) vs id v l here_v in let b' = total_by-snoc (λ u. u.taken) (set vs id l) r in
          let d = total_by-set (λ u. u.sent) vs id v l here_v in let d' = total_by-snoc (λ u. u.sent) (set vs id l) r in
          let p = kept.hands.parcels in let q = c.parcels in omega arith);
      once = λ k. let a = sums (numbered k) (c.numbers k) in let b = kept.hands.once k in omega arith;
      above = λ k lt. sums (numbered k) (c.numbers k) ∙ kept.hands.above k (subst (λ (d : Desk). d.next ≤ k) desk lt);
      leaders = sums (λ u. count_of u.leads) (let a = ap count_of c.leads.0 in let b : count_of r.leads ≡ 0 = ap count_of c.leads.1 in omega arith) ∙ kept.hands.leaders;
    };
  }
    where
      both : (e : ℕ) → (excused e l.excuses + booked e l) + (excused e r.excuses + booked e r) ≡ excused e v.excuses + booked e v
      both e = let a = c.excuses e in let b = c.booked e in omega arith

-- ---- the parcel of a block
pub cut_parcel : (v : View) (m i : ℕ) (h : Held) → (v.books ≡ [] → ⊥) → find m i v.held ≡ Some h → (b : Extent) → h.block ≡ Some b → Cut v (split_off v m i) (parcel_of h)
cut_parcel v m i h caller found b is = record {
  leads = (refl, refl);
  desk = (refl, refl);
  has = λ n j. let a = total_by-without (λ (y : Held). here n j y.place) m i v.held h found in omega arith;
  blocks = λ b. let a = total_by-without (λ (y : Held). lives b y.block) m i v.held h found in omega arith;
  numbers = λ k. omega arith;
  excuses = λ e. omega arith;
  booked = λ e. omega arith;
  held = λ x s. ⊎_elim (λ (t : Among x (without m i v.held)). among_without m i v.held x t) (λ (t : Among x (h ∷ [])). ⊎_elim (λ (q : x ≡ h). subst (λ y. Among y v.held) (sym q) (find_among m i v.held h found).0) (λ (q : ⊥). absurd q) t) s;
  books = λ b s. ⊎_elim (λ (t : Among b v.books). t) (λ (t : ⊥). absurd t) s;
  excuse = λ x s. ⊎_elim (λ (t : Among x v.excuses). t) (λ (t : ⊥). absurd t) s;
  readings = refl;
  stores = refl;
  idle = ((λ f b. absurd (caller b)), (λ b. (refl, refl, λ l p. absurd (true≢false p))));
  whole = ((λ f p. absurd (caller (f p).bookless)), (λ p. record { follows = refl; bookless = refl; excuseless = refl; slot = h; block = b; held = refl; live = is }));
  single = ((λ f. f), (λ l. omega arith));
  moving = λ f l b. absurd (caller b);
  parcels = omega arith;
}
