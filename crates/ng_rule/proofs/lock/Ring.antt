-- Ring notes and refusal notes.
use Rattle.std.proofs.Common.{◌≡◌, ◌⊎◌, ℕ, ◌%◌, ◌<◌, true, true≢false, List, set, refl, sym, ap, ◌∙◌, subst, ⊎_elim}
use mathlib.Core.Option.{some}
use lib.ListN.{get_elem?}
use Rattle.ng_view.specs.declared.view.Held.{Held}
use Rattle.ng_view.specs.declared.view.Nest.{Nest}
use Rattle.ng_view.specs.declared.view.Desk.{Desk}
use Rattle.ng_view.specs.declared.view.View.{View}
use Rattle.ng_view.specs.declared.view.Start.{Start}
use Rattle.ng_view.specs.Lists.{Among}
use Rattle.ng_view.specs.Cells.{tag, marked}
use Rattle.ng_view.specs.Hands.{IsDeskless, IsMoving}
use Rattle.ng_view.specs.Classes.{IsServed}
use Rattle.ng_view.specs.Words.{IsLawful}
use Rattle.ng_view.specs.Views.{desk_of}
use Rattle.ng_view.specs.Rule.{Rule}
use Rattle.ng_view.specs.Slots.{IsPlace}
use Rattle.ng_view.specs.Knowledge.{IsKnown, Noted, IsZeroAvail, IsZeroFreed, IsSetFreed}
use Rattle.ng_view.specs.Blocks.{IsSet}
use Rattle.ng_view.specs.Listing.{Listing}
use Rattle.ng_view.specs.Layouts.{InArea}
use Rattle.ng_view.specs.LockSteps.{ring_noted}
use Rattle.ng_rule.proofs.geometry.Lists.{desk_lead}
use Rattle.ng_rule.proofs.geometry.Parts.{Quiet, quiet_excuses, quiet_hands, quiet_history, each_keep, slots_by, numbers_of}

module _ (key : Start) (ws : List ℕ) (vs : List View) (id : ℕ) (v : View) (kept : Rule key ws vs) (here_v : get_elem? vs id ≡ some v) (leads : v.leads ≡ true)
    (ls ba bf : List ℕ) (sf : List (ℕ × ℕ)) (listed : (n j : ℕ) → n % 4 ≡ 0 → j < 32 → 0 < marked ws n j → Among n v.desk.listed → Among n ls)
    (notes_l : (n : ℕ) → Among n ls → Among n v.desk.listed ⊎ ((n % 4 ≡ 0) × (0 < tag ws n)))
    (notes_a : (n : ℕ) → Among n ba → Among n v.desk.zero_avail ⊎ IsZeroAvail ws n)
    (notes_f : (n : ℕ) → Among n bf → Among n v.desk.zero_freed ⊎ IsZeroFreed ws n)
    (notes_s : (n i : ℕ) → Among {A = ℕ × ℕ} (n, i) sf → Among {A = ℕ × ℕ} (n, i) v.desk.set_freed ⊎ IsSetFreed ws n i) where
  abbrev w : View
  w = ring_noted v ls ba bf sf

  desk_was : desk_of vs ≡ v.desk
  desk_was = (desk_lead vs id v w here_v leads kept.hands.leaders leads).0

  desk_is : desk_of (set vs id w) ≡ w.desk
  desk_is = (desk_lead vs id v w here_v leads kept.hands.leaders leads).1

  quiet : Quiet v w
  quiet = record { leads = refl; books = refl; excuses = refl; sent = refl; taken = refl; parcel = refl; blocks = λ b. refl; idle = λ f b. let r = f b in (r.0, r.1, λ l. absurd (true≢false (sym leads ∙ l))); whole = λ f p. absurd (true≢false (sym leads ∙ (f p).follows)) }

  was_listing : Listing ws v.desk
  was_listing = subst (Listing ws) desk_was kept.listing

  listing_is : Listing ws w.desk
  listing_is = record {
    bits = λ n j nl lj some_bit. listed n j nl lj some_bit (was_listing.bits n j nl lj some_bit);
    metas = λ n t. ⊎_elim (λ (o : Among n v.desk.listed). was_listing.metas n o) (λ (k : (n % 4 ≡ 0) × (0 < tag ws n)). record { whole = k.0; in_area = subst (λ (z : Desk). InArea z.layout n) desk_was (kept.words.lawful.groups n k.0 k.1).in_area }) (notes_l n t);
    known = was_listing.known;
    once = was_listing.once;
    live = was_listing.live;
  }

  noted_is : Noted ws w.desk
  noted_is =
      let o = subst (Noted ws) desk_was kept.knowledge.desk in
      record {
        free = o.free;
        masks = record {
          zero_avail = λ n q. ⊎_elim (o.masks.zero_avail n) (λ k. k) (notes_a n q);
          zero_freed = λ n q. ⊎_elim (o.masks.zero_freed n) (λ k. k) (notes_f n q);
          set_freed = λ n i q. ⊎_elim (o.masks.set_freed n i) (λ k. k) (notes_s n i q);
        };
        numbers = numbers_of ws v.desk w.desk refl refl o.numbers;
      }

  pub notes_ring : Rule key ws (set vs id w)
  notes_ring = record {
    slots = record {
      each = slots_by ws ws vs id v w here_v (λ k j kl lj. (refl, refl)) kept.slots;
      plain = kept.slots.plain;
      held = each_keep (λ u. (h : Held) → Among h u.held → IsPlace ws h.place) vs id v w here_v (λ f. f) kept.slots.held;
      nests = each_keep (λ u. (y : Nest) → Among y u.desk.layout.nests → IsPlace ws y.place) vs id v w here_v (λ f. f) kept.slots.nests;
    };
    words = record {
      lawful = subst (λ (e : Desk). IsLawful key ws e.layout) (sym desk_is) (subst (λ (e : Desk). IsLawful key ws e.layout) desk_was kept.words.lawful);
      blocks = each_keep (λ u. (h : Held) → Among h u.held → IsSet h h.block) vs id v w here_v (λ f. f) kept.words.blocks;
    };
    listing = subst (Listing ws) (sym desk_is) listing_is;
    excuses = quiet_excuses key vs id v w here_v quiet (ap (λ (e : Desk). e.refusals) desk_is ∙ ap (λ (e : Desk). e.refusals) (sym desk_was)) kept.excuses;
    history = quiet_history key vs id v w here_v quiet kept.history;
    knowledge = record {
      desk = subst (Noted ws) (sym desk_is) noted_is;
      each = each_keep (λ u. (h : Held) → Among h u.held → IsKnown ws h) vs id v w here_v (λ f. f) kept.knowledge.each;
    };
    classes = record { each = each_keep (λ u. (h : Held) → Among h u.held → IsServed h h.block) vs id v w here_v (λ f. f) kept.classes.each };
    hands = quiet_hands vs id v w here_v quiet (ap (λ (e : Desk). e.next) desk_is ∙ ap (λ (e : Desk). e.next) (sym desk_was)) kept.hands
        (each_keep IsDeskless vs id v w here_v (λ f l. absurd (true≢false (sym leads ∙ l))) kept.hands.desks)
        (each_keep IsMoving vs id v w here_v (λ f. f) kept.hands.moving);
  }
