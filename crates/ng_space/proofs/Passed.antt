-- What passes between the lock's seat and a hand.
use Rattle.std.proofs.Common.{◌≡◌, ℕ, ◌≤◌, length, ◌/◌, eqb, cond, Bool, true, false, List, [], ◌∷◌, refl, sym, ap, ◌∙◌, subst, ⊎_elim, inl, inr, arith}
use Rattle.std.specs.Prelude.{Option, Some, None}
use Rattle.ng_meta.specs.Place.{IsMetaPlace}
use Rattle.ng_rule.proofs.geometry.Lists.{among_without, find_among, is_at-true}
use Rattle.ng_rule.proofs.hand.Cuts.{splits}
use Rattle.ng_rule.proofs.hand.Passing.{cut_excuse, cut_seat, cut_slot}
use Rattle.ng_rule.proofs.entry.EnterMoves.{no_memory_may}
use Rattle.ng_terms.specs.declared.entry.Entry.TheVariants.{NoMemory}
use Rattle.ng_view.specs.Cuts.{Cut}
use Rattle.ng_view.specs.Lists.{Among, find, without}
use Rattle.ng_view.specs.May.{May}
use Rattle.ng_view.specs.Steps.{answered, excuse_at, hosting, pushed, read, spent, unexcused, with_excuse, without_one}
use Rattle.ng_view.specs.Views.{no_desk, numbered}
use Rattle.ng_view.specs.declared.view.Book.{Book}
use Rattle.ng_view.specs.declared.view.Excuse.{Excuse}
use Rattle.ng_view.specs.declared.view.Held.{Held}
use Rattle.ng_view.specs.declared.view.View.{View}
use Rattle.ng_view.specs.declared.view.Start.{Start}
use Rattle.ng_space.specs.Callers.{Caller}
use Rattle.ng_space.specs.Masks.{HasFree}
use Rattle.ng_space.specs.Passed.{HasInMotion, HasNumber, with_slot}
use Rattle.ng_space.specs.Splits.{MaySplit}
use Rattle.ng_space.specs.Tokens.{HasSlot, Token}
use Rattle.ng_space.proofs.Locked.{AreStill}

-- an empty seat is split off
pub cut_empty : (v : View) → Cut v v spent
cut_empty v = record {
  leads = (refl, refl);
  desk = (refl, refl);
  has = λ m i. omega arith;
  blocks = λ b. omega arith;
  numbers = λ k. omega arith;
  excuses = λ e. omega arith;
  booked = λ e. omega arith;
  held = λ h s. ⊎_elim (λ (t : Among h v.held). t) (λ (t : ⊥). absurd t) s;
  books = λ b s. ⊎_elim (λ (t : Among b v.books). t) (λ (t : ⊥). absurd t) s;
  excuse = λ x s. ⊎_elim (λ (t : Among x v.excuses). t) (λ (t : ⊥). absurd t) s;
  readings = refl;
  stores = refl;
  whole = ((λ f. f), (λ p. absurd (cc)));
  single = ((λ f. f), (λ l. omega arith));
  idle = ((λ f. f), (λ b. (refl, refl, λ l p. (refl, refl))));
  moving = λ f. f;
  parcels = omega arith;
}

pub may_cut : (key : Start) (id : ℕ) (v l r : View) → Cut v l r → MaySplit key id v l r
may_cut key id v l r cut ws vs kept at = splits key ws vs id v l r kept at cut

-- a hand has one book
pub one_book : (books : List Book) (b : Book) → books ≡ b ∷ [] → length books ≤ 1
one_book books b is = omega (arith, ap (λ (bs : List Book). length bs) is)

module _ (v w : View) (leads : v.leads ≡ true) (moves : (h : Held) → Among h v.held → h.block ≡ None) (follows : w.leads ≡ false) (whole : w.parcel ≡ false) (deskless : w.desk ≡ no_desk) (caller : w.books ≡ [] → ⊥) (none_sent : v.sent ≡ 0) (none_taken : v.taken ≡ 0) (single : length w.books ≤ 1) where
  -- a slot goes out with the hand
  pub cut_to_hand : (m i : ℕ) → HasInMotion v m i → Cut (hosting v w) (pushed v m i) (with_slot w (find m i v.held))
  cut_to_hand m i has = subst (λ (o : Option Held). Cut (hosting v w) (pushed v m i) (with_slot w o)) (sym has.found) (cut_slot v w m i has.slot moves leads follows whole deskless caller has.found none_sent none_taken single)

  -- a slot of the hand stays
  pub cut_to_seat : (m i : ℕ) → HasFree w m i → Cut (hosting v w) (with_slot v (find m i w.held)) (pushed w m i)
  cut_to_seat m i has = subst (λ (o : Option Held). Cut (hosting v w) (with_slot v o) (pushed w m i)) (sym has.found) (cut_seat v w m i has.held moves leads follows whole deskless caller has.found has.free none_sent none_taken single)

  pub cut_with_excuse : (e : ℕ) → HasNumber v e → Cut (hosting v w) (unexcused v e) (with_excuse w (excuse_at e v.excuses))
  cut_with_excuse e has = cut_excuse v w e has.excuse moves leads follows whole deskless caller has.found none_sent none_taken single

-- the slot is there
pub passed_free : (v w : View) (m i : ℕ) → ((h : Held) → Among h v.held → h.block ≡ None) → HasInMotion v m i → HasFree (with_slot w (find m i v.held)) m i
passed_free v w m i moves has =
    let is = find_among m i v.held has.slot has.found in
    subst (λ (o : Option Held). HasFree (with_slot w o) m i) (sym has.found) (record { held = has.slot; found = ap (λ b. cond b (Some has.slot) (find m i w.held)) is.1; free = moves has.slot is.0 })

-- what a slot that came leaves as it was
pub slot_like : (v : View) (o : Option Held) → ((with_slot v o).leads ≡ v.leads) × ((with_slot v o).parcel ≡ v.parcel) × ((with_slot v o).desk ≡ v.desk) × ((with_slot v o).books ≡ v.books) × ((with_slot v o).sent ≡ v.sent) × ((with_slot v o).taken ≡ v.taken)
slot_like v None = (refl, refl, refl, refl, refl, refl)
slot_like v (Some h) = (refl, refl, refl, refl, refl, refl)

pub excuse_like : (v : View) (o : Option Excuse) → ((with_excuse v o).leads ≡ v.leads) × ((with_excuse v o).parcel ≡ v.parcel) × ((with_excuse v o).desk ≡ v.desk) × ((with_excuse v o).books ≡ v.books)
excuse_like v None = (refl, refl, refl, refl)
excuse_like v (Some x) = (refl, refl, refl, refl)

-- the slots of the seat stay in motion
pub still-without : (pages m i : ℕ) (hs : List Held) → AreStill pages hs (without m i hs)
still-without pages m i hs h s = inl (among_without m i hs h s)

pub still-slot : (pages : ℕ) (v : View) (w : View) (m i : ℕ) → HasFree w m i → IsMetaPlace m pages → AreStill pages v.held (with_slot v (find m i w.held)).held
still-slot pages v w m i has place =
    let of_meta : has.held.place.group.meta ≡ m = (is_at-true m i has.held.place (find_among m i w.held has.held has.found).1).0 in
    subst (λ (o : Option Held). AreStill pages v.held (with_slot v o).held) (sym has.found) (λ h s. ⊎_elim
    (λ (e : h ≡ has.held). inr (ap (λ (y : Held). y.block) e ∙ has.free, subst (λ n. IsMetaPlace n pages) (sym (ap (λ (y : Held). y.place.group.meta) e ∙ of_meta)) place))
    (λ (t : Among h v.held). inl t)
    s)

-- the excuse is there, and has its number
pub excuse_found : (e : ℕ) (xs : List Excuse) (x : Excuse) → excuse_at e xs ≡ Some x → x.number ≡ e
excuse_found e [] x q = absurd (cc)
excuse_found e (y ∷ ys) x q = by_test (excuse_found e ys x) (eqb y.number e) refl q
  where
    tested : (n k : ℕ) → eqb n k ≡ true → n ≡ k
    tested n k is = grind (arith, Rattle.std.proofs.lemmas.Bool.Decides.nat_tests)

    by_test : (excuse_at e ys ≡ Some x → x.number ≡ e) → (b : Bool) → eqb y.number e ≡ b → cond b (Some y) (excuse_at e ys) ≡ Some x → x.number ≡ e
    by_test ih true is q = let r : y ≡ x = cc in ap (λ (z : Excuse). z.number) (sym r) ∙ tested y.number e is
    by_test ih false is q = ih q

pub enters_no_memory : (key : Start) (id : ℕ) (v : View) (k n e : ℕ) → numbered k v ≡ 1 → (x : Excuse) → Among x v.excuses → x.number ≡ e
    → May key id v (0 / 4) (λ w. w) (λ before found after. after ≡ read (answered before k (NoMemory n e) (without_one e before.excuses)) 0 found)
enters_no_memory key id v k n e own x there of_number = subst (λ j. May key id v (0 / 4) (λ w. w) (λ before found after. after ≡ read (answered before k (NoMemory n j) (without_one j before.excuses)) 0 found)) of_number (no_memory_may key id v k own n x there)

-- the slot of a token is in its hand, free
pub token_free : (w : View) (m i : ℕ) (hand : Caller) (slot : Token) → HasSlot hand slot → w ≡ hand.view → m ≡ slot.meta → i ≡ slot.index → HasFree w m i
token_free w m i hand slot has e f g = record { held = has.held; found = (λ k. find (f k) (g k) (e k).held) ∙ has.found; free = has.free }
