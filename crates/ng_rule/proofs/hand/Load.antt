-- A load keeps the rule.
use Rattle.std.proofs.Common.{◌≡◌, ◌≢◌, ℕ, ◌+◌, ◌%◌, ◌<◌, ◌≤◌, eqb, leb, ◌&&◌, cond, Bool, true, false, List, [], ◌∷◌, ◌∙◌, map, set, refl, sym, ap, subst, ⊎_elim, inl, inr, arith}
use mathlib.Core.Option.{some}
use lib.ListN.{get_elem?}
use Rattle.std.specs.Prelude.{Option, Some, None}
use Rattle.std.proofs.lemmas.Bool.Decides.{nat_tests}
use Rattle.ng_view.specs.declared.view.Place.{Place}
use Rattle.ng_terms.specs.declared.entry.Extent.{Extent}
use Rattle.ng_view.specs.declared.view.Held.{Held}
use Rattle.ng_view.specs.declared.view.Desk.{Desk}
use Rattle.ng_view.specs.declared.view.View.{View}
use Rattle.ng_view.specs.declared.view.Start.{Start}
use Rattle.ng_view.specs.Lists.{Among}
use Rattle.ng_view.specs.Cells.{cell}
use Rattle.ng_view.specs.Places.{Owns, owns_at, stride, slot_start}
use Rattle.ng_view.specs.Hands.{IsDeskless, IsMoving}
use Rattle.ng_view.specs.Words.{IsLawful}
use Rattle.ng_view.specs.Views.{here, has, desk_of, lives}
use Rattle.ng_view.specs.Rule.{Rule}
use Rattle.ng_view.specs.Knowledge.{IsKnown, IsKnownCell, Noted}
use Rattle.ng_view.specs.Blocks.{IsSet, Knows, IsHeader, IsBlock, IsNarrow, IsWide, Carries}
use Rattle.ng_view.specs.Classes.{IsServed, IsAllowed, asked}
use Rattle.ng_view.specs.Slots.{IsPlace}
use Rattle.ng_view.specs.Listing.{Listing}
use Rattle.ng_view.specs.Steps.{learnt, loaded, wrote, forget}
use Rattle.ng_rule.proofs.geometry.Lists.{desk_same, total_by-map, among_map}
use Rattle.ng_rule.proofs.geometry.Parts.{Quiet, quiet_excuses, quiet_hands, quiet_history, slots_by, each_keep}

-- a block stays set where more is known
wide_more : (h y : Held) (p x : ℕ) → y.place ≡ h.place → ((a z : ℕ) → a + 8 ≡ p → Knows a z h → Knows a z y) → IsWide h p x → IsWide (record y { place = h.place }) p x
wide_more h y p x e more w = record { check = w.check; field = w.field; behind = w.behind; cell = w.cell; offset = w.offset; front = w.front; known = more w.cell w.offset w.front w.known; large = w.large; place = w.place }

pub carries_more : (h y : Held) (p x : ℕ) → y.place ≡ h.place → ((a z : ℕ) → a + 8 ≡ p → Knows a z h → Knows a z y) → Carries h p x → Carries y p x
carries_more h y p x e more s = subst (λ (z : Held). Carries z p x) (λ i. record y { place = sym e i })
    (record { index = s.index; offset = ⊎_elim (λ (n : IsNarrow h p x). inl (record { check = n.check; offset = n.offset })) (λ (w : IsWide h p x). inr (wide_more h y p x e more w)) s.offset })

pub header_more : (h y : Held) (p : ℕ) → y.place ≡ h.place → ((a x : ℕ) → a < p → Knows a x h → Knows a x y) → IsHeader h p → IsHeader y p
header_more h y p e more s = record { cell = s.cell; value = s.value; front = s.front; known = more s.cell s.value (let f = s.front in omega arith) s.known; carries = carries_more h y p s.value e (λ a z q. more a z (omega arith)) s.carries }

-- or where what is known of the cells before it stays
pub block_more : (h y : Held) (b : Extent) → y.place ≡ h.place → ((a x : ℕ) → a < b.at → Knows a x h → Knows a x y) → IsBlock h b → IsBlock y b
block_more h y b e more s = subst (λ (z : Held). IsBlock z b) (λ i. record y { place = sym e i })
    (record { whole = s.whole; from = s.from; first = s.first; within = s.within; roomy = s.roomy; header = header_more h (record y { place = h.place }) b.at refl more s.header })

pub set_more : (h y : Held) → y.place ≡ h.place → ((a x : ℕ) → Knows a x h → Knows a x y) → (b : Option Extent) → IsSet h b → IsSet y b
set_more h y e more None s = tt
set_more h y e more (Some b) s = block_more h y b e (λ a x before. more a x) s

-- and served
pub served_more : (h y : Held) → y.place ≡ h.place → (b : Option Extent) → IsServed h b → IsServed y b
served_more h y e None s = tt
served_more h y e (Some b) s = subst (λ (p : Place). IsAllowed p.group.tag (asked b)) (sym e) s

owned : (p : Place) (a : ℕ) → owns_at p a ≡ true → Owns p a
owned p a e = own_numbers (slot_start p) (stride p.group) a e
  where
    own_numbers : (s t a : ℕ) → (leb s (a + 4) && leb (a + 5) (s + t)) ≡ true → (s ≤ a + 4) × (a + 4 < s + t)
    own_numbers s t a e = grind (arith, nat_tests)

grows : (t : Bool) (c : ℕ × ℕ) (cs : List (ℕ × ℕ)) (d : ℕ × ℕ) → Among d cs → Among d (cond t (c ∷ cs) cs)
grows true c cs d s = inr s
grows false c cs d s = s

-- what is known of another cell stays known after a store
pub still_knows : (a x b y : ℕ) (h : Held) → b ≢ a → Knows b y h → Knows b y (wrote a x h)
still_knows a x b y h ne s = inr (stays h.cells s)
  where
    tested : (n k : ℕ) → eqb n k ≡ true → n ≡ k
    tested n k e = grind (arith, nat_tests)

    stays : (cs : List (ℕ × ℕ)) → Among {A = ℕ × ℕ} (b, y) cs → Among {A = ℕ × ℕ} (b, y) (forget a cs)
    stays [] s = elim s [ ]
    stays (c ∷ cs) s = by_test (stays cs) (eqb c.0 a) refl s
      where
        by_test : (Among {A = ℕ × ℕ} (b, y) cs → Among {A = ℕ × ℕ} (b, y) (forget a cs)) → (t : Bool) → eqb c.0 a ≡ t → Among {A = ℕ × ℕ} (b, y) (c ∷ cs) → Among {A = ℕ × ℕ} (b, y) (cond t (forget a cs) (c ∷ forget a cs))
        by_test ih true is (inl e) = absurd (ne (ap (λ (p : ℕ × ℕ). p.0) e ∙ tested c.0 a is))
        by_test ih true is (inr s) = ih s
        by_test ih false is (inl e) = inl e
        by_test ih false is (inr s) = inr (ih s)

module _ (key : Start) (ws : List ℕ) (vs : List View) (id : ℕ) (v : View) (kept : Rule key ws vs) (here_v : get_elem? vs id ≡ some v) (a : ℕ) (al : a % 4 ≡ 0) where
  abbrev x : ℕ
  x = cell ws a

  abbrev w : View
  w = loaded v a x

  quiet : Quiet v w
  quiet = record {
    leads = refl;
    books = refl;
    excuses = refl;
    sent = refl;
    taken = refl;
    parcel = refl;
    blocks = λ b. total_by-map (λ (y : Held). lives b y.block) (learnt a x) v.held (λ y. refl);
    idle = λ f b. let r = f b in (r.0, r.1, λ l p. let e = r.2 l p in (ap (map (learnt a x)) e.0, e.1));
    whole = λ f p. let o = f p in record { follows = o.follows; bookless = o.bookless; excuseless = o.excuseless; slot = learnt a x o.slot; block = o.block; held = ap (map (learnt a x)) o.held; live = o.live };
  }

  desk : desk_of (set vs id w) ≡ desk_of vs
  desk = desk_same vs id v w here_v refl refl

  counts : (n j : ℕ) → has n j w ≡ has n j v
  counts n j = let e = total_by-map (λ (y : Held). here n j y.place) (learnt a x) v.held (λ y. refl) in omega arith

  known_learnt : (y : Held) → IsKnown ws y → IsKnown ws (learnt a x y)
  known_learnt y k = by_test (owns_at y.place a) refl
    where
      by_test : (t : Bool) → owns_at y.place a ≡ t → (b z : ℕ) → Among {A = ℕ × ℕ} (b, z) (cond t ((a, x) ∷ y.cells) y.cells) → IsKnownCell ws y.place b z
      by_test true is b z (inl e) = subst (λ (p : ℕ × ℕ). IsKnownCell ws y.place p.0 p.1) (sym e) (record { own = owned y.place a is; whole = al; value = refl })
      by_test true is b z (inr s) = k b z s
      by_test false is b z s = k b z s

  pub loads : Rule key ws (set vs id w)
  loads = record {
    slots = record {
      each = slots_by ws ws vs id v w here_v (λ n j nl lj. ((let b = counts n j in omega arith), refl)) kept.slots;
      plain = kept.slots.plain;
      held = each_keep (λ u. (h : Held) → Among h u.held → IsPlace ws h.place) vs id v w here_v (λ f h s. let r = among_map (learnt a x) v.held h s in subst (λ (y : Held). IsPlace ws y.place) (sym r.2) (f r.0 r.1)) kept.slots.held;
      nests = each_keep (λ u. (n : Rattle.ng_view.specs.declared.view.Nest.Nest) → Among n u.desk.layout.nests → IsPlace ws n.place) vs id v w here_v (λ f. f) kept.slots.nests;
    };
    words = record {
      lawful = subst (λ (z : Desk). IsLawful key ws z.layout) (sym desk) kept.words.lawful;
      blocks = each_keep (λ u. (y : Held) → Among y u.held → IsSet y y.block) vs id v w here_v
          (λ f h s. let r = among_map (learnt a x) v.held h s in subst (λ (y : Held). IsSet y y.block) (sym r.2) (set_more r.0 (learnt a x r.0) refl (λ b z. grows (owns_at r.0.place a) (a, x) r.0.cells (b, z)) r.0.block (f r.0 r.1))) kept.words.blocks;
    };
    listing = subst (Listing ws) (sym desk) kept.listing;
    excuses = quiet_excuses key vs id v w here_v quiet (ap (λ (d : Desk). d.refusals) desk) kept.excuses;
    history = quiet_history key vs id v w here_v quiet kept.history;
    knowledge = record {
      desk = subst (Noted ws) (sym desk) kept.knowledge.desk;
      each = each_keep (λ u. (y : Held) → Among y u.held → IsKnown ws y) vs id v w here_v (λ f h s. let r = among_map (learnt a x) v.held h s in subst (IsKnown ws) (sym r.2) (known_learnt r.0 (f r.0 r.1))) kept.knowledge.each;
    };
    classes = record {
      each = each_keep (λ u. (y : Held) → Among y u.held → IsServed y y.block) vs id v w here_v
          (λ f h s. let r = among_map (learnt a x) v.held h s in subst (λ (y : Held). IsServed y y.block) (sym r.2) (served_more r.0 (learnt a x r.0) refl r.0.block (f r.0 r.1))) kept.classes.each;
    };
    hands = quiet_hands vs id v w here_v quiet (ap (λ (d : Desk). d.next) desk) kept.hands
        (each_keep IsDeskless vs id v w here_v (λ f. f) kept.hands.desks)
        (each_keep IsMoving vs id v w here_v (λ f l b h s. let r = among_map (learnt a x) v.held h s in subst (λ (y : Held). y.block ≡ None) (sym r.2) (f l b r.0 r.1)) kept.hands.moving);
  }
