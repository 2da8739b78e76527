-- An entry without a block: TooLarge, BadAlign, Refused and NoMemory.
use Rattle.std.proofs.Common.{◌≡◌, ◌≢◌, ℕ, ◌+◌, ◌-◌, ◌^◌, ◌<◌, ◌≤◌, eqb, eq-eqb, cond, Bool, true, false, true≢false, List, [], ◌∷◌, set, refl, sym, ap, ◌∙◌, subst, inl, inr, arith}
use Rattle.std.specs.Prelude.{Contains}
use Rattle.ng_rule.proofs.entry.Histories.{contains-number}
use mathlib.Core.Option.{some}
use lib.ListN.{get_elem?}
use Rattle.std.proofs.lemmas.Bool.Decides.{nat_tests}
use Rattle.ng_view.specs.declared.view.Excuse.{Excuse}
use Rattle.ng_terms.specs.declared.entry.Extent.{Extent}
use Rattle.ng_view.specs.declared.view.Held.{Held}
use Rattle.ng_view.specs.declared.view.Nest.{Nest}
use Rattle.ng_view.specs.declared.view.Book.{Book}
use Rattle.ng_view.specs.declared.view.Desk.{Desk}
use Rattle.ng_terms.specs.declared.entry.Entry.{Entry}
use Rattle.ng_terms.specs.declared.entry.Entry.TheVariants.{NoMemory, TooLarge}
use Rattle.ng_view.specs.declared.view.View.{View}
use Rattle.ng_view.specs.declared.view.Start.{Start}
use Rattle.ng_view.specs.Lists.{Among, total_by, count_of, excused}
use Rattle.ng_terms.specs.Heap.{after, empty, IsLegalStep, IsTooLarge}
use Rattle.ng_terms.specs.Histories.{state_after}
use Rattle.ng_view.specs.History.{space_between}
use Rattle.ng_view.specs.Hands.{IsDeskless, IsIdle, IsMoving, IsParcel, IsSingle}
use Rattle.ng_view.specs.Classes.{IsServed}
use Rattle.ng_view.specs.Words.{IsLawful}
use Rattle.ng_view.specs.Views.{desk_of, excuse_of, booked, numbered, blocks, same_extent}
use Rattle.ng_view.specs.Rule.{Rule}
use Rattle.ng_view.specs.Slots.{IsPlace}
use Rattle.ng_view.specs.Knowledge.{IsKnown, Noted}
use Rattle.ng_view.specs.Blocks.{IsSet}
use Rattle.ng_view.specs.Listing.{Listing}
use Rattle.ng_view.specs.Steps.{answered, without_one}
use Rattle.ng_rule.proofs.geometry.Lists.{total_by-append, total_by-one, total_by-among, desk_same}
use Rattle.ng_rule.proofs.geometry.Parts.{total_by-keep, each_keep, slots_by}
use Rattle.ng_rule.proofs.entry.Enter.{history_by, total_by-write, length-write}

module _ (key : Start) (ws : List ℕ) (vs : List View) (id : ℕ) (v : View) (kept : Rule key ws vs) (here_v : get_elem? vs id ≡ some v) (k : ℕ) (mine : numbered k v ≡ 1)
    (e : Entry) (xs : List Excuse) (legal : IsLegalStep (space_between key) (state_after empty kept.history.calls) e) (same_live : (after (state_after empty kept.history.calls) e).live ≡ (state_after empty kept.history.calls).live)
    (moves : (n : ℕ) → excused n xs + excuse_of n e ≡ excused n v.excuses) where
  abbrev w : View
  w = answered v k e xs

  desk : desk_of (set vs id w) ≡ desk_of vs
  desk = desk_same vs id v w here_v refl refl

  numbers : (n : ℕ) → total_by (numbered n) (set vs id w) ≡ total_by (numbered n) vs
  numbers n = total_by-keep (numbered n) vs id v w here_v (let a = total_by-write (λ (y : Book). count_of (eqb y.number n)) k e v.books 0 (λ y. omega arith) mine in omega arith)

  excuses : (n : ℕ) → total_by (λ (u : View). excused n u.excuses + booked n u) (set vs id w) ≡ total_by (λ (u : View). excused n u.excuses + booked n u) vs
  excuses n = total_by-keep (λ (u : View). excused n u.excuses + booked n u) vs id v w here_v
      (let a = total_by-write (λ (y : Book). total_by (excuse_of n) y.entries) k e v.books (excuse_of n e) (λ y. let q = total_by-append (excuse_of n) y.entries (e ∷ []) in omega arith) mine in let m = moves n in omega arith)

  has_book : total_by (λ (y : Book). count_of (eqb y.number k)) w.books ≡ 1
  has_book = let a = total_by-write (λ (y : Book). count_of (eqb y.number k)) k e v.books 0 (λ y. omega arith) mine in omega arith

  pub answers : Rule key ws (set vs id w)
  answers = record {
    slots = record {
      each = slots_by ws ws vs id v w here_v (λ n j nl lj. (refl, refl)) kept.slots;
      plain = kept.slots.plain;
      held = each_keep (λ u. (h : Held) → Among h u.held → IsPlace ws h.place) vs id v w here_v (λ f. f) kept.slots.held;
      nests = each_keep (λ u. (n : Nest) → Among n u.desk.layout.nests → IsPlace ws n.place) vs id v w here_v (λ f. f) kept.slots.nests;
    };
    words = record {
      lawful = subst (λ (z : Desk). IsLawful key ws z.layout) (sym desk) kept.words.lawful;
      blocks = each_keep (λ u. (h : Held) → Among h u.held → IsSet h h.block) vs id v w here_v (λ f. f) kept.words.blocks;
    };
    listing = subst (Listing ws) (sym desk) kept.listing;
    excuses = record {
      once = λ n l. let a = excuses n in let o = kept.excuses.once n l in omega arith;
      answered = λ n l. let r = kept.excuses.answered n (let a = excuses n in omega arith) in (r.0, subst (λ (z : Desk). n ≤ z.refusals) (sym desk) r.1);
      last = subst (λ (z : Desk). (key.refusals ≤ z.refusals) × (z.refusals ≤ 18446744073709551615)) (sym desk) kept.excuses.last;
    };
    history = history_by key vs id v w k e here_v kept.hands mine refl kept.history legal (λ b. ap (λ l. total_by (λ (c : Extent). count_of (same_extent c b)) l + blocks b v) same_live);
    knowledge = record {
      desk = subst (Noted ws) (sym desk) kept.knowledge.desk;
      each = each_keep (λ u. (h : Held) → Among h u.held → IsKnown ws h) vs id v w here_v (λ f. f) kept.knowledge.each;
    };
    classes = record { each = each_keep (λ u. (h : Held) → Among h u.held → IsServed h h.block) vs id v w here_v (λ f. f) kept.classes.each };
    hands = record {
      desks = each_keep IsDeskless vs id v w here_v (λ f. f) kept.hands.desks;
      moving = each_keep IsMoving vs id v w here_v (λ f l q. absurd (let a = has_book in let z = ap (total_by (λ (y : Book). count_of (eqb y.number k))) q in omega arith)) kept.hands.moving;
      idle = each_keep IsIdle vs id v w here_v (λ f q. absurd (let a = has_book in let z = ap (total_by (λ (y : Book). count_of (eqb y.number k))) q in omega arith)) kept.hands.idle;
      whole = each_keep IsParcel vs id v w here_v (λ f p. absurd (let z = ap (total_by (λ (y : Book). count_of (eqb y.number k))) (f p).bookless in let m = mine in omega arith)) kept.hands.whole;
      single = each_keep IsSingle vs id v w here_v (λ f l. let n = length-write k e v.books in let o = f l in omega arith) kept.hands.single;
      none = numbers 0 ∙ kept.hands.none;
      first = subst (λ (z : Desk). 0 < z.next) (sym desk) kept.hands.first;
      parcels = (let x = total_by-keep (λ u. count_of u.parcel) vs id v w here_v refl in let y = total_by-keep (λ u. u.taken) vs id v w here_v refl in let z = total_by-keep (λ u. u.sent) vs id v w here_v refl in let p = kept.hands.parcels in omega arith);
      once = λ n. let a = numbers n in let o = kept.hands.once n in omega arith;
      above = λ n l. numbers n ∙ kept.hands.above n (subst (λ (z : Desk). z.next ≤ n) desk l);
      leaders = total_by-keep (λ u. count_of u.leads) vs id v w here_v refl ∙ kept.hands.leaders;
    };
  }

-- one excuse less
times_without : (e n : ℕ) (xs : List Excuse) (y : Excuse) → Among y xs → y.number ≡ e → excused n (without_one e xs) + count_of (eqb e n) ≡ excused n xs
times_without e n [] y s q = elim s [ ]
times_without e n (x ∷ xs) y s q = by_test (λ t. times_without e n xs y t q) (eqb x.number e) refl s
  where
    tested : (n k : ℕ) → eqb n k ≡ true → n ≡ k
    tested n k e = grind (arith, nat_tests)

    by_test : (Among y xs → excused n (without_one e xs) + count_of (eqb e n) ≡ excused n xs) → (b : Bool) → eqb x.number e ≡ b → Among y (x ∷ xs) → excused n (cond b xs (x ∷ without_one e xs)) + count_of (eqb e n) ≡ count_of (eqb x.number n) + excused n xs
    by_test ih true is s = let q : count_of (eqb x.number n) ≡ count_of (eqb e n) = ap (λ y. count_of (eqb y n)) (tested x.number e is) in omega arith
    by_test ih false is (inl p) = absurd (true≢false (sym (eq-eqb x.number e (ap (λ (z : Excuse). z.number) (sym p) ∙ q)) ∙ is))
    by_test ih false is (inr s) = let r = ih s in omega arith

module _ (key : Start) (ws : List ℕ) (vs : List View) (id : ℕ) (v : View) (kept : Rule key ws vs) (here_v : get_elem? vs id ≡ some v) (k : ℕ) (mine : numbered k v ≡ 1) where
  pub too_large : (c s a : ℕ) → IsTooLarge c s a → Rule key ws (set vs id (answered v k (TooLarge c s a) v.excuses))
  too_large c s a why = answers key ws vs id v kept here_v k mine (TooLarge c s a) v.excuses why refl (λ n. omega arith)

  -- the excuse is above the start's, so it isn't 0, and nobody has used it
  pub no_memory : (n : ℕ) (y : Excuse) → Among y v.excuses → Rule key ws (set vs id (answered v k (NoMemory n y.number) (without_one y.number v.excuses)))
  no_memory n y s = answers key ws vs id v kept here_v k mine (NoMemory n y.number) (without_one y.number v.excuses) (record { some = large; fresh = unused }) refl (λ x. times_without y.number x v.excuses y s refl)
    where
      there : 1 ≤ excused y.number v.excuses
      there = let a = total_by-among (λ (x : Excuse). count_of (eqb x.number y.number)) v.excuses y s in let o : count_of (eqb y.number y.number) ≡ 1 = ap count_of (eq-eqb y.number y.number refl) in omega arith

      whole : excused y.number v.excuses + booked y.number v ≤ total_by (λ (u : View). excused y.number u.excuses + booked y.number u) vs
      whole = total_by-one (λ (u : View). excused y.number u.excuses + booked y.number u) vs id v here_v

      noted : (key.refusals < y.number) × (y.number ≤ (desk_of vs).refusals)
      noted = kept.excuses.answered y.number (let a = there in let b = whole in omega arith)

      large : 1 ≤ y.number
      large = let r = noted.0 in omega arith

      parts : (f g : View → ℕ) (us : List View) → total_by (λ u. f u + g u) us ≡ total_by f us + total_by g us
      parts f g [] = refl
      parts f g (u ∷ us) = let r = parts f g us in omega arith

      unused : y.number ≢ 2 ^ 64 - 1 → ¬ Contains (state_after empty kept.history.calls).used y.number
      unused ne s =
          let l : y.number < 18446744073709551615 = (let a = noted.1 in let b = kept.excuses.last.1 in omega arith) in
          let t = contains-number (state_after empty kept.history.calls).used y.number s in
          let o = kept.excuses.once y.number l in let a = there in let p = parts (λ (u : View). excused y.number u.excuses) (booked y.number) vs in
          let q = total_by-one (λ (u : View). excused y.number u.excuses) vs id v here_v in
          let h = kept.history.used y.number in
          let c = total_by-among (λ x. count_of (eqb x y.number)) (state_after empty kept.history.calls).used y.number t in let d : count_of (eqb y.number y.number) ≡ 1 = ap count_of (eq-eqb y.number y.number refl) in omega arith
