-- What was read and stored, and when, may be noted: that keeps the rule.
use Rattle.std.proofs.Common.{◌≡◌, ℕ, ◌/◌, List, [], ◌∷◌, ◌++◌, set, refl, sym, ap, subst}
use Rattle.std.specs.Prelude.{slice_index}
use Rattle.atomic_table.proofs.Lists.{set_again}
use Rattle.ng_view.specs.Cells.{cell}
use Rattle.ng_view.specs.May.{May}
use Rattle.ng_view.specs.Lists.{Among}
use Rattle.ng_view.specs.Hands.{IsDeskless, IsMoving}
use Rattle.ng_view.specs.Classes.{IsServed}
use Rattle.ng_view.specs.Words.{IsLawful}
use Rattle.ng_view.specs.Views.{desk_of}
use Rattle.ng_view.specs.Rule.{Rule}
use Rattle.ng_view.specs.Knowledge.{IsKnown, Noted}
use Rattle.ng_view.specs.Blocks.{IsSet}
use Rattle.ng_view.specs.Slots.{IsPlace}
use Rattle.ng_view.specs.Listing.{Listing}
use Rattle.ng_view.specs.Steps.{read}
use mathlib.Core.Option.{some}
use lib.ListN.{get_elem?}
use Rattle.ng_view.specs.declared.view.Held.{Held}
use Rattle.ng_view.specs.declared.view.Desk.{Desk}
use Rattle.ng_view.specs.declared.view.View.{View}
use Rattle.ng_view.specs.declared.view.Start.{Start}
use Rattle.ng_view.specs.declared.view.Store.{Store}
use Rattle.ng_rule.proofs.geometry.Lists.{desk_same, set_self, set_twice, at_now}
use Rattle.ng_rule.proofs.geometry.Parts.{Quiet, quiet_excuses, quiet_hands, quiet_history, same_one_block, slots_by, each_keep}

module _ (key : Start) (ws : List ℕ) (vs : List View) (id : ℕ) (v : View) (kept : Rule key ws vs) (here_v : get_elem? vs id ≡ some v) (readings : List (ℕ × ℕ)) (stores : List Store) where
  abbrev w : View
  w = record v { readings = readings; stores = stores }

  quiet : Quiet v w
  quiet = record { leads = refl; books = refl; excuses = refl; sent = refl; taken = refl; parcel = refl; blocks = λ b. refl; idle = λ f. f; whole = λ f p. same_one_block v w refl refl refl refl (f p) }

  desk : desk_of (set vs id w) ≡ desk_of vs
  desk = desk_same vs id v w here_v refl refl

  pub notes : Rule key ws (set vs id w)
  notes = record {
    slots = record {
      each = slots_by ws ws vs id v w here_v (λ n j nl lj. (refl, refl)) kept.slots;
      plain = kept.slots.plain;
      held = each_keep (λ u. (h : Held) → Among h u.held → IsPlace ws h.place) vs id v w here_v (λ f. f) kept.slots.held;
      nests = each_keep (λ u. (n : Rattle.ng_view.specs.declared.view.Nest.Nest) → Among n u.desk.layout.nests → IsPlace ws n.place) vs id v w here_v (λ f. f) kept.slots.nests;
    };
    words = record {
      lawful = subst (λ (z : Desk). IsLawful key ws z.layout) (sym desk) kept.words.lawful;
      blocks = each_keep (λ u. (y : Held) → Among y u.held → IsSet y y.block) vs id v w here_v (λ f. f) kept.words.blocks;
    };
    listing = subst (Listing ws) (sym desk) kept.listing;
    excuses = quiet_excuses key vs id v w here_v quiet (ap (λ (d : Desk). d.refusals) desk) kept.excuses;
    history = quiet_history key vs id v w here_v quiet kept.history;
    knowledge = record { desk = subst (Noted ws) (sym desk) kept.knowledge.desk; each = each_keep (λ u. (y : Held) → Among y u.held → IsKnown ws y) vs id v w here_v (λ f. f) kept.knowledge.each };
    classes = record { each = each_keep (λ u. (y : Held) → Among y u.held → IsServed y y.block) vs id v w here_v (λ f. f) kept.classes.each };
    hands = quiet_hands vs id v w here_v quiet (ap (λ (d : Desk). d.next) desk) kept.hands
        (each_keep IsDeskless vs id v w here_v (λ f. f) kept.hands.desks)
        (each_keep IsMoving vs id v w here_v (λ f. f) kept.hands.moving);
  }

-- nothing changed
pub stays : (key : Start) (ws : List ℕ) (vs : List View) (id k : ℕ) (v : View) → Rule key ws vs → get_elem? vs id ≡ some v → Rule key (set ws k (slice_index ws k)) (set vs id v)
stays key ws vs id k v kept e = subst (λ (p : List ℕ × List View). Rule key p.0 p.1) (λ i. (sym (set_self ws k) i, sym (set_again vs id v e) i)) kept

-- the step's reading comes after it
pub with_reading : (key : Start) (ws : List ℕ) (vs : List View) (id : ℕ) (v w : View) (a x : ℕ) → get_elem? vs id ≡ some v → Rule key ws (set vs id w) → Rule key ws (set vs id (read w a x))
with_reading key ws vs id v w a x e kept = subst (Rule key ws) (set_twice vs id w (read w a x)) (notes key ws (set vs id w) id w kept (at_now vs id v w e) (w.readings ++ (a, x) ∷ []) w.stores)

-- the step's store is noted after it
pub with_store : (key : Start) (ws : List ℕ) (vs : List View) (id : ℕ) (v w : View) (s : Store) → get_elem? vs id ≡ some v → Rule key ws (set vs id w) → Rule key ws (set vs id (record w { stores = w.stores ++ s ∷ [] }))
with_store key ws vs id v w s e kept =
    let u : View = record w { stores = w.stores ++ s ∷ [] } in
    subst (Rule key ws) (set_twice vs id w u) (notes key ws (set vs id w) id w kept (at_now vs id v w e) w.readings u.stores)

-- a load that changes the view alone
pub loads_by : (key : Start) (id : ℕ) (v : View) (a : ℕ) (w : ℕ → View) → ((ws : List ℕ) (vs : List View) → Rule key ws vs → get_elem? vs id ≡ some v → Rule key ws (set vs id (w (cell ws a))))
    → May key id v (a / 4) (λ n. n) (λ v n u. u ≡ read (w n) a n)
loads_by key id v a w move ws vs kept e fits = (
  read (w (cell ws a)) a (cell ws a),
  subst (λ (l : List ℕ). Rule key l (set vs id (read (w (cell ws a)) a (cell ws a)))) (sym (set_self ws (a / 4))) (with_reading key ws vs id v (w (cell ws a)) a (cell ws a) e (move ws vs kept e)),
  refl,
)
