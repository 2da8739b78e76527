-- A store of the lock's seat in a free cell.
use Rattle.std.proofs.Common.{◌≡◌, ℕ, ◌+◌, ◌/◌, ◌%◌, ◌<◌, ◌≤◌, true, true≢false, List, ◌∷◌, length, set, refl, sym, ap, ◌∙◌, subst, ⊎_elim, inl, inr, arith}
use mathlib.Core.Option.{some}
use lib.ListN.{get_elem?}
use Rattle.std.proofs.lemmas.Bool.{cases_lt}
use Rattle.ng_view.specs.declared.view.Held.{Held}
use Rattle.ng_view.specs.declared.view.Run.{Run}
use Rattle.ng_view.specs.declared.view.Layout.{Layout}
use Rattle.ng_view.specs.declared.view.Desk.{Desk}
use Rattle.ng_view.specs.declared.view.View.{View}
use Rattle.ng_view.specs.declared.view.Start.{Start}
use Rattle.ng_view.specs.Lists.{Among}
use Rattle.ng_view.specs.Cells.{cell, tag, avail, freed, marked_of, marked}
use Rattle.ng_view.specs.Hands.{IsDeskless, IsMoving}
use Rattle.ng_view.specs.Classes.{IsServed}
use Rattle.ng_view.specs.Words.{IsLawful}
use Rattle.ng_view.specs.Views.{desk_of}
use Rattle.ng_view.specs.Rule.{Rule}
use Rattle.ng_view.specs.Layouts.{Inside}
use Rattle.ng_view.specs.Knowledge.{IsFree, IsKnown, Noted, Masks, Numbers}
use Rattle.ng_view.specs.Blocks.{IsSet}
use Rattle.ng_view.specs.Listing.{Listing}
use Rattle.ng_view.specs.LockSteps.{built}
use Rattle.ng_view.specs.Steps.{forget}
use Rattle.ng_rule.proofs.geometry.Lists.{each_set, desk_lead, at_other, index_same}
use Rattle.ng_rule.proofs.geometry.Facts.{marked_dead, held_slot, nested}
use Rattle.ng_rule.proofs.geometry.Frames.{Same, same_own, free_is, free_home, free_same, words_same, place_same, index_below, free_low, first_same, zero_home}
use Rattle.ng_rule.proofs.geometry.Parts.{Quiet, quiet_excuses, quiet_hands, quiet_history, slots_by, owed_same, slots_with, each_keep, listing_of, listing_less, masks_by, masks_of, numbers_of, numbers_by, plain_less}
use Rattle.ng_rule.proofs.hand.Store.{forgot}

module _ (key : Start) (ws : List ℕ) (vs : List View) (id : ℕ) (v : View) (kept : Rule key ws vs) (here_v : get_elem? vs id ≡ some v) (leads : v.leads ≡ true)
    (a x : ℕ) (free : IsFree ws (desk_of vs).layout a) (fits : x < 4294967296) where
  abbrev d : Layout
  d = (desk_of vs).layout

  abbrev ws' : List ℕ
  ws' = set ws (a / 4) x

  abbrev w : View
  w = built v a x

  al : a % 4 ≡ 0
  al = free.0

  home : (r : Run) × Among r d.runs × Inside r a
  home = free_home key ws d kept.words.lawful (nested ws vs kept.slots) a free

  long : a / 4 < length ws
  long = index_below key ws d kept.words.lawful (nested ws vs kept.slots) home.0 a home.1 home.2

  same : Same ws ws' d
  same = same_own key ws d kept.words.lawful (nested ws vs kept.slots) a x al (free_is key ws d kept.words.lawful (nested ws vs kept.slots) a free) (free_low key ws d kept.words.lawful (nested ws vs kept.slots) a x free) home long fits

  desk_was : desk_of vs ≡ v.desk
  desk_was = (desk_lead vs id v w here_v leads kept.hands.leaders leads).0

  desk_is : desk_of (set vs id w) ≡ w.desk
  desk_is = (desk_lead vs id v w here_v leads kept.hands.leaders leads).1

  layout_same : d ≡ w.desk.layout
  layout_same = ap (λ (y : Desk). y.layout) desk_was

  field : (n b : ℕ) → n % 4 ≡ 0 → b % 4 ≡ 0 → b < 40 → 0 < tag ws n → cell ws' (n + b) ≡ cell ws (n + b)
  field n b nl bl lb l = at_other ws a (n + b) x al (omega arith) (λ e. (free_is key ws d kept.words.lawful (nested ws vs kept.slots) a free).0 n nl l (omega arith) (omega arith))

  marks : (n j : ℕ) → n % 4 ≡ 0 → marked ws' n j ≡ marked ws n j
  marks n j nl =
      ⊎_elim
      (λ (l : 0 < tag ws n). λ t. marked_of (same.tags n nl t) (field n 24 nl refl (omega arith) l t) (field n 28 nl refl (omega arith) l t) j)
      (λ (l : tag ws n ≤ 0). let z : tag ws n ≡ 0 = (let y : ℕ = tag ws n in omega arith) in marked_dead (tag ws' n) (avail ws' n) (freed ws' n) j (same.tags n nl ∙ z) ∙ sym (marked_dead (tag ws n) (avail ws n) (freed ws n) j z))
      (cases_lt 0 (tag ws n))

  page_zero : (b : ℕ) → b % 4 ≡ 0 → b < 4096 → cell ws' b ≡ cell ws b
  page_zero = zero_home key ws (desk_of vs).layout kept.words.lawful (nested ws vs kept.slots) a x al home

  quiet : Quiet v w
  quiet = record { leads = refl; books = refl; excuses = refl; sent = refl; taken = refl; parcel = refl; blocks = λ b. refl; idle = λ f b. let r = f b in (r.0, r.1, λ l. absurd (true≢false (sym leads ∙ l))); whole = λ f p. absurd (true≢false (sym leads ∙ (f p).follows)) }

  -- a slot's own cell is another
  known : (j : ℕ) (u : View) (h : Held) → get_elem? vs j ≡ some u → Among h u.held → IsKnown ws' h
  known j u h e s b y q =
      let k = kept.knowledge.each j u e h s b y q in
      record { own = k.own; whole = k.whole; value = at_other ws a b x al k.whole (λ p. not_own j u h e s (subst (Rattle.ng_view.specs.Places.Owns h.place) p k.own)) ∙ k.value }
    where
      not_own : (j : ℕ) (u : View) (h : Held) → get_elem? vs j ≡ some u → Among h u.held → Rattle.ng_view.specs.Places.Owns h.place a → ⊥
      not_own j u h e s o = Rattle.ng_rule.proofs.geometry.Frames.free_not_own key ws d kept.words.lawful (nested ws vs kept.slots) a h.place (held_slot ws vs kept.slots j u h e s) o free

  known_free : (b y : ℕ) → Among {A = ℕ × ℕ} (b, y) ((a, x) ∷ forget a v.desk.cells) → IsFree ws' d b × (cell ws' b ≡ y)
  known_free b y (inl e) = subst (λ (p : ℕ × ℕ). IsFree ws' d p.0 × (cell ws' p.0 ≡ p.1)) (sym e) (free_same ws ws' d same a free, index_same ws (a / 4) x long)
  known_free b y (inr s) =
      let f = forgot a v.desk.cells b y s in
      let k = kept.knowledge.desk.free b y (subst (λ (z : Desk). Among {A = ℕ × ℕ} (b, y) z.cells) (sym desk_was) f.0) in
      (free_same ws ws' d same b k.0, at_other ws a b x al k.0.0 f.1 ∙ k.1)

  noted_is : Noted ws' w.desk
  noted_is =
      let o = subst (Masks ws') desk_was (masks_by ws ws' (desk_of vs) same (λ n nl l. (field n 24 nl refl (omega arith) l, field n 28 nl refl (omega arith) l)) kept.knowledge.desk.masks) in
      record {
        free = λ b y t. let k = known_free b y t in (subst (λ (z : Layout). IsFree ws' z b) layout_same k.0, k.1);
        masks = masks_of ws' v.desk w.desk refl refl refl o;
        numbers = numbers_of ws' v.desk w.desk refl refl (subst (Numbers ws') desk_was (numbers_by ws ws' (desk_of vs) page_zero kept.knowledge.desk.numbers));
      }

  pub builds : Rule key ws' (set vs id w)
  builds = record {
    slots = slots_with key ws vs kept.slots kept.words.lawful ws' id v w here_v (slots_by ws ws' vs id v w here_v (λ n j nl lj. ((let e = marks n j nl in omega arith), owed_same ws ws' d same n j nl)) kept.slots) (plain_less ws ws' (λ n j nl lj. let e = marks n j nl in omega arith) kept.slots.plain) same refl (λ h s. place_same ws ws' d same h.place (held_slot ws vs kept.slots id v h here_v s));
    words = record {
      lawful = subst (λ (z : Desk). IsLawful key ws' z.layout) (sym desk_is) (subst (IsLawful key ws') layout_same (words_same key ws ws' d kept.words.lawful same (first_same key ws ws' page_zero kept.words.lawful.first)));
      blocks = each_keep (λ u. (h : Held) → Among h u.held → IsSet h h.block) vs id v w here_v (λ f. f) kept.words.blocks;
    };
    listing = subst (Listing ws') (sym desk_is) (listing_of ws' v.desk w.desk refl refl refl (subst (Listing ws') desk_was (listing_less ws ws' (desk_of vs) same (λ n j nl lj. let e = marks n j nl in omega arith) kept.listing)));
    excuses = quiet_excuses key vs id v w here_v quiet (ap (λ (e : Desk). e.refusals) desk_is ∙ ap (λ (e : Desk). e.refusals) (sym desk_was)) kept.excuses;
    history = quiet_history key vs id v w here_v quiet kept.history;
    knowledge = record {
      desk = subst (Noted ws') (sym desk_is) noted_is;
      each = each_set (λ u. Unit {0}) (λ u. (h : Held) → Among h u.held → IsKnown ws' h) vs id w (λ j u n e h s. known j u h e s) (λ h s. known id v h here_v s);
    };
    classes = record { each = each_keep (λ u. (h : Held) → Among h u.held → IsServed h h.block) vs id v w here_v (λ f. f) kept.classes.each };
    hands = quiet_hands vs id v w here_v quiet (ap (λ (e : Desk). e.next) desk_is ∙ ap (λ (e : Desk). e.next) (sym desk_was)) kept.hands
        (each_keep IsDeskless vs id v w here_v (λ f l. absurd (true≢false (sym leads ∙ l))) kept.hands.desks)
        (each_keep IsMoving vs id v w here_v (λ f. f) kept.hands.moving);
  }
