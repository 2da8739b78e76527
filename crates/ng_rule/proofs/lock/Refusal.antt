-- A refusal note.
use Rattle.std.proofs.Common.{◌≡◌, ◌≢◌, ◌⊎◌, ℕ, ◌+◌, ◌<◌, ◌≤◌, eqb, eq-eqb, ne_eqb, true, true≢false, List, set, refl, sym, ap, ◌∙◌, subst, ⊎_elim, arith}
use mathlib.Core.Option.{some}
use lib.ListN.{get_elem?}
use Rattle.std.proofs.lemmas.Bool.{cases_eq, cases_lt}
use Rattle.ng_view.specs.declared.view.Excuse.{Excuse}
use Rattle.ng_view.specs.declared.view.Held.{Held}
use Rattle.ng_view.specs.declared.view.Nest.{Nest}
use Rattle.ng_view.specs.declared.view.Book.{Book}
use Rattle.ng_view.specs.declared.view.Desk.{Desk}
use Rattle.ng_view.specs.declared.view.View.{View}
use Rattle.ng_view.specs.declared.view.Start.{Start}
use Rattle.ng_view.specs.Lists.{Among, total_by, count_of, excused}
use Rattle.ng_terms.specs.Histories.{book_of}
use Rattle.ng_view.specs.Hands.{IsDeskless, IsIdle, IsMoving, IsParcel, IsSingle}
use Rattle.ng_view.specs.Classes.{IsServed}
use Rattle.ng_view.specs.Words.{IsLawful}
use Rattle.ng_view.specs.Views.{desk_of, booked, numbered, blocks}
use Rattle.ng_view.specs.Rule.{Rule}
use Rattle.ng_view.specs.Slots.{IsPlace}
use Rattle.ng_view.specs.Knowledge.{IsKnown, Noted}
use Rattle.ng_view.specs.Blocks.{IsSet}
use Rattle.ng_view.specs.Listing.{Listing}
use Rattle.ng_view.specs.LockSteps.{refused}
use Rattle.ng_rule.proofs.geometry.Lists.{total_by-set, desk_lead}
use Rattle.ng_rule.proofs.geometry.Parts.{total_by-keep, each_keep, slots_by, listing_of, noted_of}

module _ (key : Start) (ws : List ℕ) (vs : List View) (id : ℕ) (v : View) (kept : Rule key ws vs) (here_v : get_elem? vs id ≡ some v) (leads : v.leads ≡ true)
    (y : Excuse) (above : (v.desk.refusals < y.number) ⊎ ((y.number ≡ 18446744073709551615) × (v.desk.refusals ≡ y.number))) (start : key.refusals < y.number) (top : y.number ≤ 18446744073709551615) where
  abbrev e : ℕ
  e = y.number

  abbrev w : View
  w = refused v y

  desk_was : desk_of vs ≡ v.desk
  desk_was = (desk_lead vs id v w here_v leads kept.hands.leaders leads).0

  desk_is : desk_of (set vs id w) ≡ w.desk
  desk_is = (desk_lead vs id v w here_v leads kept.hands.leaders leads).1

  abbrev mark : ℕ → View → ℕ
  mark n u = excused n u.excuses + booked n u

  counts : (n : ℕ) → total_by (mark n) (set vs id w) ≡ total_by (mark n) vs + count_of (eqb e n)
  counts n = let a = total_by-set (mark n) vs id v w here_v in omega arith

  most : v.desk.refusals ≤ e
  most = ⊎_elim (λ (l : v.desk.refusals < e). omega arith) (λ (q : (e ≡ 18446744073709551615) × (v.desk.refusals ≡ e)). let r = q.1 in omega arith) above

  known : (n : ℕ) → 0 < total_by (mark n) vs → (key.refusals < n) × (n ≤ v.desk.refusals)
  known n l = let r = kept.excuses.answered n l in (r.0, subst (λ (z : Desk). n ≤ z.refusals) desk_was r.1)

  pub notes_refusal : Rule key ws (set vs id w)
  notes_refusal = record {
    slots = record {
      each = slots_by ws ws vs id v w here_v (λ k j kl lj. (refl, refl)) kept.slots;
      plain = kept.slots.plain;
      held = each_keep (λ u. (h : Held) → Among h u.held → IsPlace ws h.place) vs id v w here_v (λ f. f) kept.slots.held;
      nests = each_keep (λ u. (y : Nest) → Among y u.desk.layout.nests → IsPlace ws y.place) vs id v w here_v (λ f. f) kept.slots.nests;
    };
    words = record {
      lawful = subst (λ (z : Desk). IsLawful key ws z.layout) (sym desk_is) (subst (λ (z : Desk). IsLawful key ws z.layout) desk_was kept.words.lawful);
      blocks = each_keep (λ u. (h : Held) → Among h u.held → IsSet h h.block) vs id v w here_v (λ f. f) kept.words.blocks;
    };
    listing = subst (Listing ws) (sym desk_is) (listing_of ws v.desk w.desk refl refl refl (subst (Listing ws) desk_was kept.listing));
    excuses = record {
      once = λ n l.
          let c = counts n in
          ⊎_elim
          (λ (q : e ≡ n). ⊎_elim
          (λ (z : 0 < total_by (mark n) vs). absurd (let k = known n z in let k1 = k.1 in ⊎_elim (λ (a : v.desk.refusals < e). omega arith) (λ (a : (e ≡ 18446744073709551615) × (v.desk.refusals ≡ e)). let a0 = a.0 in omega arith) above))
          (λ (z : total_by (mark n) vs ≤ 0). let o : count_of (eqb e n) ≡ 1 = ap count_of (eq-eqb e n q) in omega arith) (cases_lt 0 (total_by (mark n) vs)))
          (λ (ne : e ≢ n). let o : count_of (eqb e n) ≡ 0 = ap count_of (ne_eqb e n ne) in let k = kept.excuses.once n l in omega arith)
          (cases_eq e n);
      answered = λ n l.
          let c = counts n in
          let r : (key.refusals < n) × (n ≤ e) = ⊎_elim
          (λ (q : e ≡ n). (omega arith, omega arith))
          (λ (ne : e ≢ n). let o : count_of (eqb e n) ≡ 0 = ap count_of (ne_eqb e n ne) in let k = known n (omega arith) in let k0 = k.0 in let k1 = k.1 in let m = most in (omega arith, omega arith))
          (cases_eq e n) in
          (r.0, subst (λ (z : Desk). n ≤ z.refusals) (sym desk_is) r.1);
      last = subst (λ (z : Desk). (key.refusals ≤ z.refusals) × (z.refusals ≤ 18446744073709551615)) (sym desk_is) (omega arith, top);
    };
    history = record {
      calls = kept.history.calls;
      legal = kept.history.legal;
      books = each_keep (λ u. (b : Book) → Among b u.books → book_of b.number kept.history.calls ≡ b.entries) vs id v w here_v (λ f. f) kept.history.books;
      others = λ k z. kept.history.others k (sym (total_by-keep (numbered k) vs id v w here_v refl) ∙ z);
      live = λ b. kept.history.live b ∙ sym (total_by-keep (blocks b) vs id v w here_v refl);
      used = λ n. kept.history.used n ∙ sym (total_by-keep (booked n) vs id v w here_v refl);
    };
    knowledge = record {
      desk = subst (Noted ws) (sym desk_is) (noted_of ws v.desk w.desk refl refl refl refl refl refl refl (subst (Noted ws) desk_was kept.knowledge.desk));
      each = each_keep (λ u. (h : Held) → Among h u.held → IsKnown ws h) vs id v w here_v (λ f. f) kept.knowledge.each;
    };
    classes = record { each = each_keep (λ u. (h : Held) → Among h u.held → IsServed h h.block) vs id v w here_v (λ f. f) kept.classes.each };
    hands = record {
      desks = each_keep IsDeskless vs id v w here_v (λ f l. absurd (true≢false (sym leads ∙ l))) kept.hands.desks;
      moving = each_keep IsMoving vs id v w here_v (λ f. f) kept.hands.moving;
      idle = each_keep IsIdle vs id v w here_v (λ f b. let r = f b in (r.0, r.1, λ l. absurd (true≢false (sym leads ∙ l)))) kept.hands.idle;
      whole = each_keep IsParcel vs id v w here_v (λ f p. absurd (true≢false (sym leads ∙ (f p).follows))) kept.hands.whole;
      single = each_keep IsSingle vs id v w here_v (λ f. f) kept.hands.single;
      none = total_by-keep (numbered 0) vs id v w here_v refl ∙ kept.hands.none;
      first = subst (λ (z : Desk). 0 < z.next) (sym desk_is) (subst (λ (z : Desk). 0 < z.next) desk_was kept.hands.first);
      parcels = (let a = total_by-keep (λ u. count_of u.parcel) vs id v w here_v refl in let b = total_by-keep (λ u. u.taken) vs id v w here_v refl in let c = total_by-keep (λ u. u.sent) vs id v w here_v refl in let p = kept.hands.parcels in omega arith);
      once = λ n. let a = total_by-keep (numbered n) vs id v w here_v refl in let o = kept.hands.once n in omega arith;
      above = λ n l. total_by-keep (numbered n) vs id v w here_v refl ∙ kept.hands.above n (subst (λ (z : Desk). z.next ≤ n) (sym desk_was) (subst (λ (z : Desk). z.next ≤ n) desk_is l));
      leaders = total_by-keep (λ u. count_of u.leads) vs id v w here_v refl ∙ kept.hands.leaders;
    };
  }
