-- A run goes: no live group begins there, and all its cells are known to be 0.
use Rattle.std.proofs.Common.{◌≡◌, ◌≢◌, ◌⊎◌, ℕ, ◌+◌, ◌*◌, ◌%◌, ◌<◌, ◌≤◌, eqb, true, false, true≢false, List, set, refl, sym, ap, ◌∙◌, subst, ⊎_elim, inl, inr, arith}
use mathlib.Core.Option.{some}
use lib.ListN.{get_elem?}
use Rattle.std.specs.Prelude.{slice_index}
use Rattle.std.proofs.lemmas.Bool.{cases_lt}
use Rattle.ng_view.specs.Knowledge.{IsOfFreeRun, IsOfFreeMeta}
use Rattle.ng_view.specs.declared.view.Group.{Group}
use Rattle.ng_view.specs.declared.view.Held.{Held}
use Rattle.ng_view.specs.declared.view.Nest.{Nest}
use Rattle.ng_view.specs.declared.view.Run.{Run}
use Rattle.ng_view.specs.declared.view.Layout.{Layout}
use Rattle.ng_view.specs.declared.view.Desk.{Desk}
use Rattle.ng_view.specs.declared.view.View.{View}
use Rattle.ng_view.specs.declared.view.Start.{Start}
use Rattle.ng_view.specs.Lists.{Among, count_of}
use Rattle.ng_view.specs.Cells.{cell, tag, group_at}
use Rattle.ng_view.specs.Hands.{IsDeskless, IsMoving}
use Rattle.ng_view.specs.Classes.{IsServed}
use Rattle.ng_view.specs.Words.{IsAvailWord, IsLawful}
use Rattle.ng_view.specs.Views.{desk_of}
use Rattle.ng_view.specs.Rule.{Rule}
use Rattle.ng_view.specs.Layouts.{IsAreaAt, Inside, InArea, OnRun, InNest, IsOutside}
use Rattle.ng_view.specs.Knowledge.{IsFree, IsKnown, Noted}
use Rattle.ng_view.specs.Slots.{IsPlace}
use Rattle.ng_view.specs.Blocks.{IsSet}
use Rattle.ng_view.specs.Listing.{Listing}
use Rattle.ng_view.specs.LockSteps.{run_gone}
use Rattle.ng_rule.proofs.geometry.Lists.{desk_lead}
use Rattle.ng_rule.proofs.geometry.Parts.{Quiet, quiet_excuses, quiet_hands, quiet_history, each_keep, slots_by, masks_of, numbers_of}
use Rattle.ng_rule.proofs.geometry.Lists.{run_was, run_stays, runs_but-total}

module _ (key : Start) (ws : List ℕ) (vs : List View) (id : ℕ) (v : View) (kept : Rule key ws vs) (here_v : get_elem? vs id ≡ some v) (leads : v.leads ≡ true)
    (r : Run) (there : Among r v.desk.layout.runs) (plain : r.area ≡ false) (unused : (g : Group) → Among g v.desk.groups → g.base ≢ r.addr)
    (known : (a : ℕ) → a % 4 ≡ 0 → Inside r a → Among {A = ℕ × ℕ} (a, 0) v.desk.cells)
    (cs : List (ℕ × ℕ)) (rest : (a y : ℕ) → Among {A = ℕ × ℕ} (a, y) cs → Among {A = ℕ × ℕ} (a, y) v.desk.cells × (Inside r a → ⊥)) where
  abbrev w : View
  w = run_gone v r.addr cs

  abbrev d : Layout
  d = v.desk.layout

  abbrev e : Layout
  e = w.desk.layout

  desk_was : desk_of vs ≡ v.desk
  desk_was = (desk_lead vs id v w here_v leads kept.hands.leaders leads).0

  desk_is : desk_of (set vs id w) ≡ w.desk
  desk_is = (desk_lead vs id v w here_v leads kept.hands.leaders leads).1

  quiet : Quiet v w
  quiet = record { leads = refl; books = refl; excuses = refl; sent = refl; taken = refl; parcel = refl; blocks = λ b. refl; idle = λ f b. let r = f b in (r.0, r.1, λ l. absurd (true≢false (sym leads ∙ l))); whole = λ f p. absurd (true≢false (sym leads ∙ (f p).follows)) }

  words_was : IsLawful key ws d
  words_was = subst (λ (z : Desk). IsLawful key ws z.layout) desk_was kept.words.lawful

  listing_was : Listing ws v.desk
  listing_was = subst (Listing ws) desk_was kept.listing

  -- two runs at one address are one
  same_run : (s : Run) → Among s d.runs → s.addr ≡ r.addr → s ≡ r
  same_run s n q = let p = (words_was.in_space s n).some in let o = (words_was.in_space r there).some in words_was.apart s r r.addr n there (omega arith, omega arith) (omega arith, omega arith)

  stays : (s : Run) → Among s d.runs → (s ≡ r → ⊥) → Among s e.runs
  stays s n ne = run_stays r.addr d.runs s n (λ q. ne (same_run s n q))

  area_stays : (m : ℕ) → InArea d m → InArea e m
  area_stays m a = record { run = a.run; number = a.number; noted = stays a.run a.noted (λ q. true≢false (sym a.is_area ∙ ap (λ (z : Run). z.area) q ∙ plain)); is_area = a.is_area; page = a.page; place = a.place; below = a.below }

  -- no live group begins the run
  no_base : (m : ℕ) → m % 4 ≡ 0 → 0 < tag ws m → cell ws (m + 16) ≢ r.addr
  no_base m al live = unused (group_at ws m) (listing_was.known m al live)

  words_new : IsLawful key ws e
  words_new = record {
    range = words_was.range;
    carried = words_was.carried;
    single = words_was.single;
    long = words_was.long;
    upper = λ k. ⊎_elim (λ (l : slice_index ws k < 4294967296). inl l) (λ (x : IsAvailWord d k). inr (record { meta = x.meta; whole = x.whole; in_area = area_stays x.meta x.in_area; place = x.place })) (words_was.upper k);
    apart = λ s t a p q. words_was.apart s t a (run_was r.addr d.runs s p).0 (run_was r.addr d.runs t q).0;
    in_space = λ s p. words_was.in_space s (run_was r.addr d.runs s p).0;
    once = λ a. let o = words_was.once a in let l = runs_but-total (λ (s : Run). count_of (eqb s.addr a)) r.addr d.runs in omega arith;
    groups = λ n nl live.
        let l = words_was.groups n nl live in
        record {
          in_area = area_stays n l.in_area;
          low = l.low;
          many = l.many;
          kind = l.kind;
          fields = l.fields;
          whole = l.whole;
          base = l.base;
          base_high = l.base_high;
          lows = l.lows;
          lies = ⊎_elim (λ (x : OnRun d.runs (group_at ws n)). inl (record { run = x.run; noted = stays x.run x.noted (λ q. no_base n nl live (sym x.begins ∙ ap (λ (z : Run). z.addr) q)); plain = x.plain; begins = x.begins; fits = x.fits; pages = x.pages; large = x.large })) (λ (x : InNest d.nests (group_at ws n)). inr x) l.lies;
        };
    areas = λ s p is.
        let a = words_was.areas s (run_was r.addr d.runs s p).0 is in
        record {
          page = a.page;
          check = a.check;
          nslots = a.nslots;
          tail = a.tail;
          next_high = a.next_high;
          check_high = a.check_high;
          nslots_high = a.nslots_high;
          next = ⊎_elim (λ (z : cell ws (s.addr + 8) ≡ 0). inl z) (λ (z : IsAreaAt d.runs (cell ws (s.addr + 8))). inr (record { run = z.run; noted = stays z.run z.noted (λ q. true≢false (sym z.is_area ∙ ap (λ (y : Run). y.area) q ∙ plain)); is_area = z.is_area; is = z.is })) a.next;
        };
    first = words_was.first;
    outside = λ a al page out. by_case a al page out;
  }
    where
      inside_is : (a : ℕ) → Inside r a ⊎ ((a < r.addr) ⊎ (r.addr + 4096 * r.pages ≤ a))
      inside_is a = ⊎_elim (λ (l : a < r.addr). inr (inl l)) (λ (g : r.addr ≤ a). ⊎_elim (λ (l : a < r.addr + 4096 * r.pages). inl (g, l)) (λ (h : r.addr + 4096 * r.pages ≤ a). inr (inr h)) (cases_lt a (r.addr + 4096 * r.pages))) (cases_lt a r.addr)

      by_case : (a : ℕ) → a % 4 ≡ 0 → 4096 ≤ a → IsOutside e a → cell ws a ≡ 0
      by_case a al page out = ⊎_elim
          (λ (i : Inside r a). ((subst (Noted ws) desk_was kept.knowledge.desk).free a 0 (known a al i)).1)
          (λ (f : (a < r.addr) ⊎ (r.addr + 4096 * r.pages ≤ a)).
          words_was.outside a al page (λ s n i. out s (stays s n (λ q. let j = subst (λ (z : Run). Inside z a) q i in let j0 = j.0 in let j1 = j.1 in ⊎_elim (λ (l : a < r.addr). omega arith) (λ (h : r.addr + 4096 * r.pages ≤ a). omega arith) f)) i))
          (inside_is a)

  free : (a y : ℕ) → Among {A = ℕ × ℕ} (a, y) cs → IsFree ws e a × (cell ws a ≡ y)
  free a y q =
      let t = rest a y q in
      let k = (subst (Noted ws) desk_was kept.knowledge.desk).free a y t.0 in (
        (
          k.0.0,
          ⊎_elim
              (λ (z : IsOfFreeRun ws d a). inl (record { run = z.run; noted = stays z.run z.noted (λ p. t.1 (subst (λ (u : Run). Inside u a) p z.inside)); plain = z.plain; inside = z.inside; free = z.free }))
              (λ (z : IsOfFreeMeta ws d a). inr (record { meta = z.meta; whole = z.whole; in_area = area_stays z.meta z.in_area; free = z.free; from = z.from; below = z.below })) k.0.1,
        ),
        k.1,
      )

  noted_is : Noted ws w.desk
  noted_is =
      let o = subst (Noted ws) desk_was kept.knowledge.desk in
      record { free = free; masks = masks_of ws v.desk w.desk refl refl refl o.masks; numbers = numbers_of ws v.desk w.desk refl refl o.numbers }

  pub run_goes : Rule key ws (set vs id w)
  run_goes = record {
    slots = record {
      each = slots_by ws ws vs id v w here_v (λ k j kl lj. (refl, refl)) kept.slots;
      plain = kept.slots.plain;
      held = each_keep (λ u. (h : Held) → Among h u.held → IsPlace ws h.place) vs id v w here_v (λ f. f) kept.slots.held;
      nests = each_keep (λ u. (y : Nest) → Among y u.desk.layout.nests → IsPlace ws y.place) vs id v w here_v (λ f. f) kept.slots.nests;
    };
    words = record {
      lawful = subst (λ (e : Desk). IsLawful key ws e.layout) (sym desk_is) words_new;
      blocks = each_keep (λ u. (y : Held) → Among y u.held → IsSet y y.block) vs id v w here_v (λ f. f) kept.words.blocks;
    };
    listing = subst (Listing ws) (sym desk_is) (record { bits = listing_was.bits; metas = λ n t. let z = listing_was.metas n t in record { whole = z.whole; in_area = area_stays n z.in_area }; known = listing_was.known; once = listing_was.once; live = listing_was.live });
    excuses = quiet_excuses key vs id v w here_v quiet (ap (λ (e : Desk). e.refusals) desk_is ∙ ap (λ (e : Desk). e.refusals) (sym desk_was)) kept.excuses;
    history = quiet_history key vs id v w here_v quiet kept.history;
    knowledge = record {
      desk = subst (Noted ws) (sym desk_is) noted_is;
      each = each_keep (λ u. (h : Held) → Among h u.held → IsKnown ws h) vs id v w here_v (λ f. f) kept.knowledge.each;
    };
    classes = record { each = each_keep (λ u. (y : Held) → Among y u.held → IsServed y y.block) vs id v w here_v (λ f. f) kept.classes.each };
    hands = quiet_hands vs id v w here_v quiet (ap (λ (e : Desk). e.next) desk_is ∙ ap (λ (e : Desk). e.next) (sym desk_was)) kept.hands
        (each_keep IsDeskless vs id v w here_v (λ f l. absurd (true≢false (sym leads ∙ l))) kept.hands.desks)
        (each_keep IsMoving vs id v w here_v (λ f. f) kept.hands.moving);
  }
