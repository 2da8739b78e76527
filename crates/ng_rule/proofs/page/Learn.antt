-- A load of a free cell by the lock's seat: it is known.
use Rattle.std.proofs.Common.{◌≡◌, ℕ, true, true≢false, List, set, refl, sym, ap, ◌∙◌, subst, ⊎_elim}
use mathlib.Core.Option.{some}
use lib.ListN.{get_elem?}
use Rattle.ng_view.specs.declared.view.Held.{Held}
use Rattle.ng_view.specs.declared.view.Nest.{Nest}
use Rattle.ng_view.specs.declared.view.Desk.{Desk}
use Rattle.ng_view.specs.declared.view.View.{View}
use Rattle.ng_view.specs.declared.view.Start.{Start}
use Rattle.ng_view.specs.Lists.{Among}
use Rattle.ng_view.specs.Cells.{cell}
use Rattle.ng_view.specs.Hands.{IsDeskless, IsMoving}
use Rattle.ng_view.specs.Classes.{IsServed}
use Rattle.ng_view.specs.Words.{IsLawful}
use Rattle.ng_view.specs.Views.{desk_of}
use Rattle.ng_view.specs.Rule.{Rule}
use Rattle.ng_view.specs.Knowledge.{IsFree, IsKnown, Noted}
use Rattle.ng_view.specs.Slots.{IsPlace}
use Rattle.ng_view.specs.Blocks.{IsSet}
use Rattle.ng_view.specs.Listing.{Listing}
use Rattle.ng_view.specs.LockSteps.{learnt_free}
use Rattle.ng_rule.proofs.geometry.Lists.{desk_lead}
use Rattle.ng_rule.proofs.geometry.Parts.{Quiet, quiet_excuses, quiet_hands, quiet_history, each_keep, slots_by, listing_of, masks_of, numbers_of}

module _ (key : Start) (ws : List ℕ) (vs : List View) (id : ℕ) (v : View) (kept : Rule key ws vs) (here_v : get_elem? vs id ≡ some v) (leads : v.leads ≡ true)
    (a : ℕ) (is_free : IsFree ws v.desk.layout a) where
  abbrev w : View
  w = learnt_free v a (cell ws a)

  desk_was : desk_of vs ≡ v.desk
  desk_was = (desk_lead vs id v w here_v leads kept.hands.leaders leads).0

  desk_is : desk_of (set vs id w) ≡ w.desk
  desk_is = (desk_lead vs id v w here_v leads kept.hands.leaders leads).1

  quiet : Quiet v w
  quiet = record { leads = refl; books = refl; excuses = refl; sent = refl; taken = refl; parcel = refl; blocks = λ b. refl; idle = λ f b. let r = f b in (r.0, r.1, λ l. absurd (true≢false (sym leads ∙ l))); whole = λ f p. absurd (true≢false (sym leads ∙ (f p).follows)) }

  noted_is : Noted ws w.desk
  noted_is =
      let o = subst (Noted ws) desk_was kept.knowledge.desk in
      record { free = λ b y t. ⊎_elim (λ (q : (b, y) ≡ (a, cell ws a)). subst (λ (p : ℕ × ℕ). IsFree ws v.desk.layout p.0 × (cell ws p.0 ≡ p.1)) (sym q) (is_free, refl)) (λ (q : Among {A = ℕ × ℕ} (b, y) v.desk.cells). o.free b y q) t; masks = masks_of ws v.desk w.desk refl refl refl o.masks; numbers = numbers_of ws v.desk w.desk refl refl o.numbers }

  pub learns : Rule key ws (set vs id w)
  learns = record {
    slots = record {
      each = slots_by ws ws vs id v w here_v (λ k j kl lj. (refl, refl)) kept.slots;
      plain = kept.slots.plain;
      held = each_keep (λ u. (h : Held) → Among h u.held → IsPlace ws h.place) vs id v w here_v (λ f. f) kept.slots.held;
      nests = each_keep (λ u. (y : Nest) → Among y u.desk.layout.nests → IsPlace ws y.place) vs id v w here_v (λ f. f) kept.slots.nests;
    };
    words = record {
      lawful = subst (λ (e : Desk). IsLawful key ws e.layout) (sym desk_is) (subst (λ (z : Desk). IsLawful key ws z.layout) desk_was kept.words.lawful);
      blocks = each_keep (λ u. (y : Held) → Among y u.held → IsSet y y.block) vs id v w here_v (λ f. f) kept.words.blocks;
    };
    listing = subst (Listing ws) (sym desk_is) (listing_of ws v.desk w.desk refl refl refl (subst (Listing ws) desk_was kept.listing));
    excuses = quiet_excuses key vs id v w here_v quiet (ap (λ (e : Desk). e.refusals) desk_is ∙ ap (λ (e : Desk). e.refusals) (sym desk_was)) kept.excuses;
    history = quiet_history key vs id v w here_v quiet kept.history;
    knowledge = record {
      desk = subst (Noted ws) (sym desk_is) noted_is;
      each = each_keep (λ u. (h : Held) → Among h u.held → IsKnown ws h) vs id v w here_v (λ f. f) kept.knowledge.each;
    };
    classes = record { each = each_keep (λ u. (y : Held) → Among y u.held → IsServed y y.block) vs id v w here_v (λ f. f) kept.classes.each };
    hands = quiet_hands vs id v w here_v quiet (ap (λ (e : Desk). e.next) desk_is ∙ ap (λ (e : Desk). e.next) (sym desk_was)) kept.hands
        (each_keep IsDeskless vs id v w here_v (λ f l. absurd (true≢false (sym leads ∙ l))) kept.hands.desks)
        (each_keep IsMoving vs id v w here_v (λ f. f) kept.hands.moving);
  }
