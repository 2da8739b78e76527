-- What the rule says at a close, where one view has all that the seats had.
use Rattle.std.proofs.Common.{◌≡◌, ◌≢◌, ◌⊎◌, ℕ, zero, suc, ◌+◌, ◌%◌, ◌<◌, ◌≤◌, eqb, eq-eqb, true, false, List, [], ◌∷◌, cond, refl, sym, ap, ◌∙◌, subst, ⊎_elim, inl, inr, arith}
use mathlib.Core.Option.{some, some-ne-none, some-injective}
use lib.ListN.{get_elem?}
use Rattle.ng_view.specs.Cells.{cell, tag, marked, owed}
use Rattle.ng_view.specs.Classes.{Classes, IsServed}
use Rattle.ng_view.specs.Conditions.{IsSettled, IsBlanked}
use Rattle.ng_view.specs.Excuses.{Excuses, stands}
use Rattle.ng_view.specs.History.{History}
use Rattle.ng_view.specs.Knowledge.{Knowledge, Noted, IsKnown}
use Rattle.ng_view.specs.Listing.{Listing}
use Rattle.ng_view.specs.Lists.{Among, Each, total_by, count_of}
use Rattle.ng_view.specs.Rule.{Rule}
use Rattle.ng_view.specs.Slots.{Slots, IsPlace}
use Rattle.ng_view.specs.Views.{has, blocks, booked, numbered, desk_of, no_desk}
use Rattle.ng_view.specs.Words.{Words, IsLawful}
use Rattle.ng_view.specs.Blocks.{IsSet}
use Rattle.ng_view.specs.declared.view.Book.{Book}
use Rattle.ng_view.specs.declared.view.Desk.{Desk}
use Rattle.ng_view.specs.declared.view.Held.{Held}
use Rattle.ng_view.specs.declared.view.Nest.{Nest}
use Rattle.ng_view.specs.declared.view.Run.{Run}
use Rattle.ng_view.specs.declared.view.View.{View}
use Rattle.ng_view.specs.declared.view.Start.{Start}
use Rattle.ng_rule.proofs.geometry.Lists.{total_by-one, total_by-two, desk_lead}
use Rattle.ng_rule.proofs.hand.Close.{all_slots, all_blocks, all_books}
use Rattle.ng_rule.proofs.hand.Settled.{all_settled, all_blank}
use Rattle.ng_space.specs.Closings.{AreRunsUsed, AreFreeMetasBlank}
use Rattle.ng_space.proofs.Hosting.{hosted, AreDeskless, hosted-leads, hosted-desk, hosted-total, hosted-held, hosted-books, has-adds, blocks-adds, numbered-adds, booked-adds, stands-adds}

-- the parts of the rule over the last words and the views of all seats
pub record Ends (key : Start) (ws : List ℕ) (us : List View) : Type 0 where
  pub slots : Slots ws us
  pub words : Words key ws us
  pub listing : Listing ws (desk_of us)
  pub excuses : Excuses key us
  pub history : History key us
  pub knowledge : Knowledge ws us
  pub classes : Classes us

among_at : (us : List View) (j : ℕ) (u : View) → get_elem? us j ≡ some u → Among u us
among_at [] j u e = absurd (some-ne-none u (sym e))
among_at (x ∷ us) zero u e = inl (sym (some-injective x u e))
among_at (x ∷ us) (suc j) u e = inr (among_at us j u e)

only : (f : View → ℕ) (vs : List View) (id : ℕ) (v : View) → get_elem? vs id ≡ some v → ((j : ℕ) (u : View) → j ≢ id → get_elem? vs j ≡ some u → f u ≡ 0) → total_by f vs ≡ f v
only f [] id v e h = absurd (some-ne-none v (sym e))
only f (x ∷ xs) zero v e h = let a : f x ≡ f v = ap f (some-injective x v e) in let b = nothing f xs (λ j u s. h (suc j) u (λ q. omega arith) s) in omega arith
  where
    nothing : (f : View → ℕ) (xs : List View) → ((j : ℕ) (u : View) → get_elem? xs j ≡ some u → f u ≡ 0) → total_by f xs ≡ 0
    nothing f [] h = refl
    nothing f (x ∷ xs) h = let a = h 0 x refl in let b = nothing f xs (λ j u s. h (suc j) u s) in omega arith
only f (x ∷ xs) (suc id) v e h = let a = h 0 x (λ q. omega arith) refl in let b = only f xs id v e (λ j u n s. h (suc j) u (λ q. n (omega arith)) s) in omega arith

module _ (key : Start) (ws : List ℕ) (vs : List View) (id : ℕ) (lock : View) (hands : List View) (kept : Rule key ws vs) (here_v : get_elem? vs id ≡ some (hosted lock hands))
    (leads : lock.leads ≡ true) (deskless : AreDeskless hands) (all : (k : ℕ) → 0 < k → k < lock.desk.next → 1 ≤ total_by (numbered k) (lock ∷ hands))
    (even : (hosted lock hands).sent ≡ (hosted lock hands).taken) (whole : (hosted lock hands).parcel ≡ false) where
  abbrev v : View
  v = hosted lock hands

  abbrev us : List View
  us = lock ∷ hands

  v_leads : v.leads ≡ true
  v_leads = hosted-leads lock hands ∙ leads

  desk_was : desk_of vs ≡ v.desk
  desk_was = (desk_lead vs id v v here_v v_leads kept.hands.leaders v_leads).0

  desk_now : desk_of us ≡ lock.desk
  desk_now = ap (λ b. cond b lock.desk (desk_of hands)) leads

  desk_is : desk_of vs ≡ desk_of us
  desk_is = desk_was ∙ hosted-desk lock hands ∙ sym desk_now

  all_v : (k : ℕ) → 0 < k → k < v.desk.next → 1 ≤ numbered k v
  all_v k z l = subst (λ (n : ℕ). 1 ≤ n) (sym (hosted-total (numbered k) (numbered-adds k) lock hands deskless)) (all k z (subst (λ (d : Desk). k < d.next) (hosted-desk lock hands) l))

  bookless : (j : ℕ) (u : View) → j ≢ id → get_elem? vs j ≡ some u → (e : ℕ) → booked e u ≡ 0
  bookless j u n at e = by_books u.books refl
    where
      by_books : (bs : List Book) → u.books ≡ bs → booked e u ≡ 0
      by_books [] q = ap (total_by (λ (b : Book). total_by (Rattle.ng_view.specs.Views.excuse_of e) b.entries)) q
      by_books (b ∷ bs) q =
          let k = b.number in
          let one : count_of (eqb b.number k) ≡ 1 = ap count_of (eq-eqb k k refl) in
          let c : numbered k u ≡ count_of (eqb b.number k) + total_by (λ (x : Book). count_of (eqb x.number k)) bs = ap (total_by (λ (x : Book). count_of (eqb x.number k))) q in
          let two = total_by-two (numbered k) vs id j v u n here_v at in
          let once = kept.hands.once k in
          let none : numbered k v ≡ 0 = omega arith in
          absurd (let z = all_books key ws vs id v kept here_v v_leads desk_was all_v even whole k none in omega arith)

  of_held : (P : Held → Type 0) → ((h : Held) → Among h v.held → P h) → Each us (λ u. (h : Held) → Among h u.held → P h)
  of_held P p j u at h s = p h (hosted-held lock hands u h (among_at us j u at) s)

  total : (f : View → ℕ) → ((x y : View) → y.desk ≡ no_desk → f (Rattle.ng_view.specs.Steps.hosting x y) ≡ f x + f y) → f v ≡ total_by f us
  total f adds = hosted-total f adds lock hands deskless

  nests_of : (ws : List View) → AreDeskless ws → (P : Nest → Type 0) → Each ws (λ u. (n : Nest) → Among n u.desk.layout.nests → P n)
  nests_of [] d P j u at n s = absurd (some-ne-none u (sym at))
  nests_of (x ∷ rest) d P zero u at n s = absurd (subst (λ (e : Desk). Among n e.layout.nests) (ap (λ (y : View). y.desk) (sym (some-injective x u at)) ∙ d.0) s)
  nests_of (x ∷ rest) d P (suc j) u at n s = nests_of rest d.1 P j u at n s

  nests : Each us (λ u. (n : Nest) → Among n u.desk.layout.nests → IsPlace ws n.place)
  nests zero u at n s = kept.slots.nests id v here_v n (subst (λ (d : Desk). Among n d.layout.nests) (ap (λ (y : View). y.desk) (sym (some-injective lock u at)) ∙ sym (hosted-desk lock hands)) s)
  nests (suc j) u at n s = nests_of hands deskless (λ n. IsPlace ws n.place) j u at n s

  pub ends : Ends key ws us
  ends = record {
    slots = record {
      each = λ m i al lt. subst (λ (n : ℕ). marked ws m i + n ≡ owed ws m i) (total (has m i) (has-adds m i)) (all_slots key ws vs id v kept here_v v_leads desk_was all_v even whole m i al lt);
      plain = kept.slots.plain;
      held = of_held (λ h. IsPlace ws h.place) (kept.slots.held id v here_v);
      nests = nests;
    };
    words = record {
      lawful = subst (λ (d : Desk). IsLawful key ws d.layout) desk_is kept.words.lawful;
      blocks = of_held (λ h. IsSet h h.block) (kept.words.blocks id v here_v);
    };
    listing = subst (Listing ws) desk_is kept.listing;
    excuses = record {
      once = λ e lt. let a = total (stands e) (stands-adds e) in let b = total_by-one (stands e) vs id v here_v in let c = kept.excuses.once e lt in omega arith;
      answered = λ e some_place.
          let a = total (stands e) (stands-adds e) in let b = total_by-one (stands e) vs id v here_v in
          subst (λ (d : Desk). (key.refusals < e) × (e ≤ d.refusals)) desk_is (kept.excuses.answered e (omega arith));
      last = subst (λ (d : Desk). (key.refusals ≤ d.refusals) × (d.refusals ≤ 18446744073709551615)) desk_is kept.excuses.last;
    };
    history = record {
      calls = kept.history.calls;
      legal = kept.history.legal;
      books = λ j u at b s. kept.history.books id v here_v b (hosted-books lock hands u b (among_at us j u at) s);
      others = λ k none. kept.history.others k (all_books key ws vs id v kept here_v v_leads desk_was all_v even whole k (total (numbered k) (numbered-adds k) ∙ none));
      live = λ b. kept.history.live b ∙ all_blocks key ws vs id v kept here_v v_leads desk_was all_v even whole b ∙ total (blocks b) (blocks-adds b);
      used = λ e. kept.history.used e ∙ only (booked e) vs id v here_v (λ j u n at. bookless j u n at e) ∙ total (booked e) (booked-adds e);
    };
    knowledge = record { each = of_held (IsKnown ws) (kept.knowledge.each id v here_v); desk = subst (Noted ws) desk_is kept.knowledge.desk };
    classes = record { each = of_held (λ h. IsServed h h.block) (kept.classes.each id v here_v) };
  }

  pub ends_settled : IsSettled lock → AreRunsUsed ws lock.desk.layout
  ends_settled settled r noted =
      ⊎_elim (λ (a : r.area ≡ true). inl a) (λ (p : (m : ℕ) × (m % 4 ≡ 0) × (0 < tag ws m) × (cell ws (m + 16) ≡ r.addr)). inr (record { meta = p.0; whole = p.1; live = p.2; base = p.3 }))
      (all_settled key ws vs id v kept here_v v_leads (subst (λ (d : Desk). (r : Run) → Among r d.layout.runs → (r.area ≡ true) ⊎ ((g : Rattle.ng_view.specs.declared.view.Group.Group) × Among g d.groups × (g.base ≡ r.addr))) (sym (hosted-desk lock hands)) settled) r (subst (λ (d : Desk). Among r d.layout.runs) (sym (desk_is ∙ desk_now)) noted))

  pub ends_blank : IsBlanked lock → AreFreeMetasBlank ws lock.desk.layout
  ends_blank blanked m b al area dead lt bl =
      all_blank key ws vs id v kept here_v v_leads (blanked_v blanked) m b al (subst (λ (d : Desk). Rattle.ng_view.specs.Layouts.InArea d.layout m) (sym (desk_is ∙ desk_now)) area) dead lt bl
    where
      desk_now' : v.desk ≡ lock.desk
      desk_now' = hosted-desk lock hands

      blanked_v : IsBlanked lock → IsBlanked v
      blanked_v f = subst (λ (d : Desk). (m b : ℕ) → m % 4 ≡ 0 → Rattle.ng_view.specs.Layouts.InArea d.layout m → ((g : Rattle.ng_view.specs.declared.view.Group.Group) → Among g d.groups → g.meta ≢ m) → b < 40 → b % 4 ≡ 0 → Among {A = ℕ × ℕ} (m + b, 0) d.cells) (sym desk_now') f
