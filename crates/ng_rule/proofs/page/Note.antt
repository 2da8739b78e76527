-- A run is noted.
use Rattle.std.proofs.Common.{◌≡◌, ◌⊎◌, ℕ, ◌+◌, ◌%◌, ◌<◌, ◌≤◌, true, false, true≢false, List, ◌∷◌, set, refl, sym, ap, ◌∙◌, subst, ⊎_elim, inl, inr, arith, eqb, ne_eqb}
use mathlib.Core.Option.{some}
use lib.ListN.{get_elem?}
use Rattle.std.specs.Prelude.{slice_index}
use Rattle.std.proofs.lemmas.Bool.{cases_lt}
use Rattle.ng_view.specs.Knowledge.{IsOfFreeRun, IsOfFreeMeta}
use Rattle.ng_view.specs.declared.view.Held.{Held}
use Rattle.ng_view.specs.declared.view.Nest.{Nest}
use Rattle.ng_view.specs.declared.view.Run.{Run}
use Rattle.ng_view.specs.declared.view.Layout.{Layout}
use Rattle.ng_view.specs.declared.view.Desk.{Desk}
use Rattle.ng_view.specs.declared.view.View.{View}
use Rattle.ng_view.specs.declared.view.Start.{Start}
use Rattle.ng_view.specs.Lists.{Among, total_by, count_of}
use Rattle.ng_view.specs.Cells.{cell, group_at}
use Rattle.ng_view.specs.Hands.{IsDeskless, IsMoving}
use Rattle.ng_view.specs.Classes.{IsServed}
use Rattle.ng_view.specs.Words.{IsAvailWord, IsLawful}
use Rattle.ng_view.specs.Views.{desk_of}
use Rattle.ng_view.specs.Rule.{Rule}
use Rattle.ng_view.specs.Layouts.{IsRun, IsAreaAt, Inside, InArea, OnRun, InNest, IsArea}
use Rattle.ng_view.specs.Knowledge.{IsFree, IsKnown, Noted}
use Rattle.ng_view.specs.Slots.{IsPlace}
use Rattle.ng_view.specs.Blocks.{IsSet}
use Rattle.ng_view.specs.Listing.{Listing}
use Rattle.ng_view.specs.LockSteps.{noted}
use Rattle.ng_rule.proofs.geometry.Lists.{desk_lead, total_by-some, count_of-most, counted}
use Rattle.ng_rule.proofs.geometry.Nesting.{in_run}
use Rattle.ng_rule.proofs.geometry.Facts.{nested}
use Rattle.ng_rule.proofs.geometry.Parts.{Quiet, quiet_excuses, quiet_hands, quiet_history, each_keep, slots_by, masks_of, numbers_of}

abbrev more : Layout → Run → Layout
more d r = record { runs = r ∷ d.runs; nests = d.nests }

area_more : (d : Layout) (r : Run) (m : ℕ) → InArea d m → InArea (more d r) m
area_more d r m a = record { run = a.run; number = a.number; noted = inr a.noted; is_area = a.is_area; page = a.page; place = a.place; below = a.below }

module _ (key : Start) (ws : List ℕ) (vs : List View) (id : ℕ) (v : View) (kept : Rule key ws vs) (here_v : get_elem? vs id ≡ some v) (leads : v.leads ≡ true)
    (r : Run) (plain : r.area ≡ false) (bounds : IsRun key r)
    (apart : (s : Run) (a : ℕ) → Among s v.desk.layout.runs → Inside s a → Inside r a → ⊥)
    (cs : List (ℕ × ℕ)) (known : (a y : ℕ) → Among {A = ℕ × ℕ} (a, y) cs → Among {A = ℕ × ℕ} (a, y) v.desk.cells ⊎ ((a % 4 ≡ 0) × Inside r a × (y ≡ 0))) where
  abbrev w : View
  w = noted v r cs

  abbrev d : Layout
  d = (desk_of vs).layout

  desk_was : desk_of vs ≡ v.desk
  desk_was = (desk_lead vs id v w here_v leads kept.hands.leaders leads).0

  desk_is : desk_of (set vs id w) ≡ w.desk
  desk_is = (desk_lead vs id v w here_v leads kept.hands.leaders leads).1

  layout_is : more d r ≡ w.desk.layout
  layout_is = ap (λ (y : Desk). more y.layout r) desk_was

  clear : (s : Run) (a : ℕ) → Among s d.runs → Inside s a → Inside r a → ⊥
  clear s a t = apart s a (subst (λ (y : Desk). Among s y.layout.runs) desk_was t)

  area_grows : (s : Run) → IsArea key ws d s → IsArea key ws (more d r) s
  area_grows s a = record {
    page = a.page;
    check = a.check;
    nslots = a.nslots;
    tail = a.tail;
    next_high = a.next_high;
    check_high = a.check_high;
    nslots_high = a.nslots_high;
    next = ⊎_elim (λ (z : cell ws (s.addr + 8) ≡ 0). inl z) (λ (z : IsAreaAt d.runs (cell ws (s.addr + 8))). inr (record { run = z.run; noted = inr z.noted; is_area = z.is_area; is = z.is })) a.next;
  }

  words_new : IsLawful key ws (more d r)
  words_new = record {
    long = kept.words.lawful.long;
    upper = λ k. ⊎_elim (λ (l : slice_index ws k < 4294967296). inl l) (λ (x : IsAvailWord d k). inr (record { meta = x.meta; whole = x.whole; in_area = area_more d r x.meta x.in_area; place = x.place })) (kept.words.lawful.upper k);
    apart = λ s t a p q i j. ⊎_elim
        (λ (e : s ≡ r). ⊎_elim (λ (f : t ≡ r). e ∙ sym f) (λ (f : Among t d.runs). absurd (clear t a f j (subst (λ (y : Run). Inside y a) e i))) q)
        (λ (e : Among s d.runs). ⊎_elim (λ (f : t ≡ r). absurd (clear s a e i (subst (λ (y : Run). Inside y a) f j))) (λ (f : Among t d.runs). kept.words.lawful.apart s t a e f i j) q) p;
    in_space = λ s p. ⊎_elim (λ (e : s ≡ r). subst (IsRun key) (sym e) bounds) (λ (e : Among s d.runs). kept.words.lawful.in_space s e) p;
    once = λ a. ⊎_elim
        (λ (l : 0 < total_by (λ (s : Run). count_of (eqb s.addr a)) d.runs).
        let o = kept.words.lawful.once a in
        let t = total_by-some (λ (s : Run). count_of (eqb s.addr a)) d.runs l in
        let e : t.0.addr ≡ a = counted t.0.addr a t.2 in
        let z : count_of (eqb r.addr a) ≡ 0 = ap count_of (ne_eqb r.addr a (λ q. clear t.0 a t.1 (let p = (kept.words.lawful.in_space t.0 t.1).some in (omega arith, omega arith)) (let p = bounds.some in (omega arith, omega arith)))) in omega arith)
        (λ (l : total_by (λ (s : Run). count_of (eqb s.addr a)) d.runs ≤ 0). let m = count_of-most (eqb r.addr a) in omega arith)
        (cases_lt 0 (total_by (λ (s : Run). count_of (eqb s.addr a)) d.runs));
    groups = λ n nl live.
        let l = kept.words.lawful.groups n nl live in
        record {
          in_area = area_more d r n l.in_area;
          low = l.low;
          many = l.many;
          whole = l.whole;
          base = l.base;
          base_high = l.base_high;
          kind = l.kind;
          fields = l.fields;
          lows = l.lows;
          lies = ⊎_elim (λ (x : OnRun d.runs (group_at ws n)). inl (record { run = x.run; noted = inr x.noted; plain = x.plain; begins = x.begins; fits = x.fits; pages = x.pages; large = x.large })) (λ (x : InNest d.nests (group_at ws n)). inr x) l.lies;
        };
    range = kept.words.lawful.range;
    carried = kept.words.lawful.carried;
    single = kept.words.lawful.single;
    first = kept.words.lawful.first;
    areas = λ s p is. ⊎_elim (λ (e : s ≡ r). absurd (true≢false (sym is ∙ ap (λ (y : Run). y.area) e ∙ plain))) (λ (e : Among s d.runs). area_grows s (kept.words.lawful.areas s e is)) p;
    outside = λ a al page out. kept.words.lawful.outside a al page (λ s p i. out s (inr p) i);
  }

  -- the run's cells are the lock's: no group begins there
  free_new : (a : ℕ) → a % 4 ≡ 0 → Inside r a → IsFree ws (more d r) a × (cell ws a ≡ 0)
  free_new a al i = (
    (
      al,
      inl (record {
        run = r;
        noted = inl refl;
        plain = plain;
        inside = i;
        free = λ n nl live e.
            let b = in_run key ws d kept.words.lawful (nested ws vs kept.slots) (cell ws (n + 16)) n nl live (omega arith) (omega arith) in
            let i0 = i.0 in let i1 = i.1 in
            clear b.0 (cell ws (n + 16)) b.1 b.3 (omega arith, omega arith);
      }),
    ),
    kept.words.lawful.outside a al (let l = kept.words.lawful.range.above in let b = bounds.above in let i0 = i.0 in omega arith) (λ s p j. clear s a p j i),
  )

  free_old : (a y : ℕ) → IsFree ws d a × (cell ws a ≡ y) → IsFree ws (more d r) a × (cell ws a ≡ y)
  free_old a y k = (
    (
      k.0.0,
      ⊎_elim
          (λ (z : IsOfFreeRun ws d a). inl (record { run = z.run; noted = inr z.noted; plain = z.plain; inside = z.inside; free = z.free }))
          (λ (z : IsOfFreeMeta ws d a). inr (record { meta = z.meta; whole = z.whole; in_area = area_more d r z.meta z.in_area; free = z.free; from = z.from; below = z.below })) k.0.1,
    ),
    k.1,
  )

  free : (a y : ℕ) → Among {A = ℕ × ℕ} (a, y) cs → IsFree ws (more d r) a × (cell ws a ≡ y)
  free a y q = ⊎_elim
      (λ (o : Among {A = ℕ × ℕ} (a, y) v.desk.cells). free_old a y (kept.knowledge.desk.free a y (subst (λ (e : Desk). Among {A = ℕ × ℕ} (a, y) e.cells) (sym desk_was) o)))
      (λ (n : (a % 4 ≡ 0) × Inside r a × (y ≡ 0)). let f = free_new a n.0 n.1 in (f.0, f.1 ∙ sym n.2))
      (known a y q)

  quiet : Quiet v w
  quiet = record { leads = refl; books = refl; excuses = refl; sent = refl; taken = refl; parcel = refl; blocks = λ b. refl; idle = λ f b. let r = f b in (r.0, r.1, λ l. absurd (true≢false (sym leads ∙ l))); whole = λ f p. absurd (true≢false (sym leads ∙ (f p).follows)) }

  was_listing : Listing ws v.desk
  was_listing = subst (Listing ws) desk_was kept.listing

  noted_is : Noted ws w.desk
  noted_is =
      let o = subst (Noted ws) desk_was kept.knowledge.desk in
      record { free = λ a y t. let k = free a y t in (subst (λ (e : Layout). IsFree ws e a) layout_is k.0, k.1); masks = masks_of ws v.desk w.desk refl refl refl o.masks; numbers = numbers_of ws v.desk w.desk refl refl o.numbers }

  pub notes_run : Rule key ws (set vs id w)
  notes_run = record {
    slots = record {
      each = slots_by ws ws vs id v w here_v (λ k j kl lj. (refl, refl)) kept.slots;
      plain = kept.slots.plain;
      held = each_keep (λ u. (h : Held) → Among h u.held → IsPlace ws h.place) vs id v w here_v (λ f. f) kept.slots.held;
      nests = each_keep (λ u. (y : Nest) → Among y u.desk.layout.nests → IsPlace ws y.place) vs id v w here_v (λ f. f) kept.slots.nests;
    };
    words = record {
      lawful = subst (λ (e : Desk). IsLawful key ws e.layout) (sym desk_is) (subst (IsLawful key ws) layout_is words_new);
      blocks = each_keep (λ u. (y : Held) → Among y u.held → IsSet y y.block) vs id v w here_v (λ f. f) kept.words.blocks;
    };
    listing = subst (Listing ws) (sym desk_is) (record { bits = was_listing.bits; metas = λ n t. let z = was_listing.metas n t in record { whole = z.whole; in_area = area_more v.desk.layout r n z.in_area }; known = was_listing.known; once = was_listing.once; live = was_listing.live });
    excuses = quiet_excuses key vs id v w here_v quiet (ap (λ (e : Desk). e.refusals) desk_is ∙ ap (λ (e : Desk). e.refusals) (sym desk_was)) kept.excuses;
    history = quiet_history key vs id v w here_v quiet kept.history;
    knowledge = record {
      desk = subst (Noted ws) (sym desk_is) noted_is;
      each = each_keep (λ u. (h : Held) → Among h u.held → IsKnown ws h) vs id v w here_v (λ f. f) kept.knowledge.each;
    };
    classes = record { each = each_keep (λ u. (y : Held) → Among y u.held → IsServed y y.block) vs id v w here_v (λ f. f) kept.classes.each };
    hands = quiet_hands vs id v w here_v quiet (ap (λ (e : Desk). e.next) desk_is ∙ ap (λ (e : Desk). e.next) (sym desk_was)) kept.hands
        (each_keep IsDeskless vs id v w here_v (λ f l. absurd (true≢false (sym leads ∙ l))) kept.hands.desks)
        (each_keep IsMoving vs id v w here_v (λ f. f) kept.hands.moving);
  }
