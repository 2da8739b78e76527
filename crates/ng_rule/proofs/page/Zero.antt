-- The lock's seat stores a number of page 0.
use Rattle.std.proofs.Common.{◌≡◌, ◌≢◌, ◌⊎◌, ℕ, ◌+◌, ◌*◌, ◌/◌, ◌%◌, ◌<◌, ◌≤◌, eqb, eq-eqb, cond, Bool, true, false, true≢false, List, length, set, refl, sym, ap, ◌∙◌, subst, ⊎_elim, inl, arith}
use mathlib.Core.Option.{some}
use lib.ListN.{get_elem?}
use Rattle.std.specs.Prelude.{slice_index}
use Rattle.std.proofs.Math.ListN.{length-set}
use Rattle.std.proofs.lemmas.Bool.{cases_eq, cases_lt}
use Rattle.ng_view.specs.Knowledge.{IsOfFreeRun, IsOfFreeMeta}
use Rattle.ng_view.specs.declared.view.Held.{Held}
use Rattle.ng_view.specs.declared.view.Nest.{Nest}
use Rattle.ng_view.specs.declared.view.Run.{Run}
use Rattle.ng_view.specs.declared.view.Layout.{Layout}
use Rattle.ng_view.specs.declared.view.Desk.{Desk}
use Rattle.ng_view.specs.declared.view.View.{View}
use Rattle.ng_view.specs.declared.view.Start.{Start}
use Rattle.ng_view.specs.Lists.{Among}
use Rattle.ng_view.specs.Cells.{cell, tag, avail, freed, marked_of, marked, group_at}
use Rattle.ng_view.specs.Places.{header}
use Rattle.ng_view.specs.Hands.{IsDeskless, IsMoving}
use Rattle.ng_view.specs.Classes.{IsServed}
use Rattle.ng_view.specs.Words.{IsAvailWord, IsLawful}
use Rattle.ng_view.specs.Views.{desk_of}
use Rattle.ng_view.specs.Rule.{Rule}
use Rattle.ng_view.specs.Layouts.{Inside, InArea, IsFirstPage}
use Rattle.ng_view.specs.Knowledge.{IsFree, IsKnown, Noted, Masks, Numbers}
use Rattle.ng_view.specs.Blocks.{IsSet}
use Rattle.ng_meta.specs.Place.{IsMetaPlace}
use Rattle.ng_view.specs.Listing.{Listing}
use Rattle.ng_view.specs.LockSteps.{active_set, counter_set}
use Rattle.ng_rule.proofs.geometry.Lists.{at_other, index_same, index_other, desk_lead, each_set}
use Rattle.ng_rule.proofs.geometry.Nesting.{IsSlot, own_in_run, in_run}
use Rattle.ng_rule.proofs.geometry.Facts.{marked_dead, held_slot, nested}
use Rattle.std.proofs.lemmas.Bool.Decides.{nat_tests}
use Rattle.ng_rule.proofs.geometry.Frames.{IsUpper, Same, words_same, place_same, header_al, header_run}
use Rattle.ng_rule.proofs.geometry.Parts.{Quiet, quiet_excuses, quiet_hands, quiet_history, each_keep, slots_by, slots_with, owed_same, listing_of, listing_less, masks_of, masks_by, free_cells_by, plain_less}

-- a step on a cell of page 0 leaves all of the runs
module _ (key : Start) (ws : List ℕ) (d : Layout) (words : IsLawful key ws d) (nests_ok : (n : Nest) → Among n d.nests → IsSlot ws n.place)
    (a x : ℕ) (al : a % 4 ≡ 0) (low : a < 4096) (fits : x < 4294967296) where
  abbrev ws' : List ℕ
  ws' = set ws (a / 4) x

  pub far : (b : ℕ) → b % 4 ≡ 0 → 4096 ≤ b → cell ws' b ≡ cell ws b
  far b bl page = at_other ws a b x al bl (λ e. omega arith)

  pub far_long : a / 4 < length ws
  far_long = let l = words.long in let p = words.range.enough in omega arith

  -- every run begins behind page 0
  run_far : (r : Run) (b : ℕ) → Among r d.runs → Inside r b → 4096 ≤ b
  run_far r b n i = let s = (words.in_space r n).above in let q = words.range.above in let l = i.0 in omega arith

  area_far : (m b : ℕ) → InArea d m → 4096 ≤ m + b
  area_far m b r = let f = run_far r.run r.run.addr r.noted (let o = r.page in (omega arith, omega arith)) in let p = r.place in omega arith

  tags : (m : ℕ) → m % 4 ≡ 0 → tag ws' m ≡ tag ws m
  tags m ml =
      ⊎_elim
      (λ (e : m + 24 ≡ a).
      let new : cell ws' (m + 24) ≡ x = ap (cell ws') e ∙ index_same ws (a / 4) x far_long in
      let old : cell ws (m + 24) < 4294967296 = ⊎_elim (λ (l : cell ws (m + 24) < 4294967296). l)
      (λ (r : IsAvailWord d ((m + 24) / 4)). absurd (let n = r.meta in let nl = r.whole in let e3 = r.place in let f = area_far n 24 r.in_area in let k : m ≡ n = omega arith in omega arith))
      (words.upper ((m + 24) / 4)) in
      omega arith)
      (λ (n : m + 24 ≢ a). ap (λ (y : ℕ). y / 4294967296) (at_other ws a (m + 24) x al (omega arith) n))
      (cases_eq (m + 24) a)

  field : (m b : ℕ) → m % 4 ≡ 0 → 0 < tag ws m → b < 40 → b % 4 ≡ 0 → cell ws' (m + b) ≡ cell ws (m + b)
  field m b ml live lt bl = far (m + b) (omega arith) (area_far m b (words.groups m ml live).in_area)

  pub same_zero : Same ws ws' d
  same_zero = record {
    size = length-set ws (a / 4) x;
    tags = tags;
    groups = λ m ml live. λ t. record { meta = m; base = field m 16 ml live (omega arith) refl t; tag = tags m ml t; last = field m 32 ml live (omega arith) refl t % 32; maplen = field m 32 ml live (omega arith) refl t / 4096 };
    bases = λ m ml live.
        let g = (words.groups m ml live).whole in
        let r = in_run key ws d words nests_ok (cell ws (m + 16)) m ml live (omega arith) (omega arith) in
        let f = run_far r.0 (cell ws (m + 16)) r.1 r.3 in
        (far (cell ws (m + 16)) (omega arith) f, far (cell ws (m + 16) + 4) (omega arith) (omega arith));
    upper = λ k. ⊎_elim (λ (e : k ≡ a / 4). inl (let i = index_same ws (a / 4) x far_long in let j : slice_index ws' k ≡ slice_index ws' (a / 4) = ap (slice_index ws') e in omega arith))
        (λ (n : k ≢ a / 4). subst (IsUpper d k) (sym (index_other ws (a / 4) k x n)) (words.upper k)) (cases_eq k (a / 4));
    outside = λ b bl page out. far b bl page;
    fields = λ m b ml live lt bl n n'. field m b ml live lt bl;
    lows = λ m i ml live le old.
        let r = header_run key ws d words nests_ok m i ml live le in
        ap (λ (y : ℕ). y % 256) (far (header (group_at ws m) i) (header_al key ws d words nests_ok m i ml live) (run_far r.0 (header (group_at ws m) i) r.1 r.3)) ∙ old;
    heads = λ r b n is bl h.
        let p = (words.areas r n is).page in
        let f = run_far r r.addr n (omega arith, omega arith) in
        far (r.addr + b) (let q = (words.in_space r n).whole in omega arith) (omega arith);
  }

module _ (key : Start) (ws : List ℕ) (vs : List View) (id : ℕ) (v : View) (kept : Rule key ws vs) (here_v : get_elem? vs id ≡ some v) (leads : v.leads ≡ true)
    (a x : ℕ) (al : a % 4 ≡ 0) (low : a < 4096) (fits : x < 4294967296) (first : IsFirstPage key (set ws (a / 4) x)) (xs : List ℕ) (k : ℕ) where
  abbrev d : Layout
  d = (desk_of vs).layout

  abbrev ws2 : List ℕ
  ws2 = set ws (a / 4) x

  abbrev w : View
  w = record v { desk = record v.desk { active = xs; counter = k } }

  nests_fine : (n : Nest) → Among n d.nests → IsSlot ws n.place
  nests_fine = nested ws vs kept.slots

  same : Same ws ws2 d
  same = same_zero key ws d kept.words.lawful nests_fine a x al low fits

  off : (b : ℕ) → b % 4 ≡ 0 → 4096 ≤ b → cell ws2 b ≡ cell ws b
  off = far key ws d kept.words.lawful nests_fine a x al low fits

  desk_was : desk_of vs ≡ v.desk
  desk_was = (desk_lead vs id v w here_v leads kept.hands.leaders leads).0

  desk_is : desk_of (set vs id w) ≡ w.desk
  desk_is = (desk_lead vs id v w here_v leads kept.hands.leaders leads).1

  layout_same : d ≡ w.desk.layout
  layout_same = ap (λ (y : Desk). y.layout) desk_was

  behind_zero : (r : Run) (b : ℕ) → Among r d.runs → Inside r b → 4096 ≤ b
  behind_zero r b n i = let s = (kept.words.lawful.in_space r n).above in let q = kept.words.lawful.range.above in let l = i.0 in omega arith

  masks_still : (n : ℕ) → n % 4 ≡ 0 → 0 < tag ws n → (avail ws2 n ≡ avail ws n) × (freed ws2 n ≡ freed ws n)
  masks_still n nl l =
      let r = (kept.words.lawful.groups n nl l).in_area in
      let f = behind_zero r.run n r.noted (let p = r.place in let o = r.page in let b = r.below in (omega arith, omega arith)) in
      (off (n + 24) (omega arith) (omega arith), off (n + 28) (omega arith) (omega arith))

  marks : (n j : ℕ) → n % 4 ≡ 0 → marked ws2 n j ≡ marked ws n j
  marks n j nl =
      ⊎_elim
      (λ (l : 0 < tag ws n). let s = masks_still n nl l in λ t. marked_of (same.tags n nl t) (s.0 t) (s.1 t) j)
      (λ (l : tag ws n ≤ 0). let z : tag ws n ≡ 0 = (let y : ℕ = tag ws n in omega arith) in marked_dead (tag ws2 n) (avail ws2 n) (freed ws2 n) j (same.tags n nl ∙ z) ∙ sym (marked_dead (tag ws n) (avail ws n) (freed ws n) j z))
      (cases_lt 0 (tag ws n))

  quiet : Quiet v w
  quiet = record { leads = refl; books = refl; excuses = refl; sent = refl; taken = refl; parcel = refl; blocks = λ b. refl; idle = λ f b. let r = f b in (r.0, r.1, λ l. absurd (true≢false (sym leads ∙ l))); whole = λ f p. absurd (true≢false (sym leads ∙ (f p).follows)) }

  free : (b : ℕ) → IsFree ws d b → cell ws2 b ≡ cell ws b
  free b f = off b f.0 (⊎_elim
      (λ (y : IsOfFreeRun ws d b). behind_zero y.run b y.noted y.inside)
      (λ (y : IsOfFreeMeta ws d b).
      let r = y.in_area in behind_zero r.run b r.noted (let p = r.place in let o = r.page in let q = r.below in let l = y.from in let h = y.below in (omega arith, omega arith)))
      f.1)

  known : (j : ℕ) (u : View) (h : Held) → get_elem? vs j ≡ some u → Among h u.held → IsKnown ws2 h
  known j u h e s b y q =
      let k = kept.knowledge.each j u e h s b y q in
      let r = own_in_run key ws d kept.words.lawful nests_fine b h.place (held_slot ws vs kept.slots j u h e s) k.own in
      record { own = k.own; whole = k.whole; value = off b k.whole (behind_zero r.0 b r.1 r.3) ∙ k.value }

  pub numbers_set : Numbers ws2 w.desk → Rule key ws2 (set vs id w)
  numbers_set numbers = record {
    slots = slots_with key ws vs kept.slots kept.words.lawful ws2 id v w here_v (slots_by ws ws2 vs id v w here_v (λ n j nl lj. ((let e = marks n j nl in omega arith), owed_same ws ws2 d same n j nl)) kept.slots) (plain_less ws ws2 (λ n j nl lj. let e = marks n j nl in omega arith) kept.slots.plain) same refl (λ h s. place_same ws ws2 d same h.place (held_slot ws vs kept.slots id v h here_v s));
    words = record {
      lawful = subst (λ (z : Desk). IsLawful key ws2 z.layout) (sym desk_is) (subst (IsLawful key ws2) layout_same (words_same key ws ws2 d kept.words.lawful same first));
      blocks = each_keep (λ u. (h : Held) → Among h u.held → IsSet h h.block) vs id v w here_v (λ f. f) kept.words.blocks;
    };
    listing = subst (Listing ws2) (sym desk_is) (listing_of ws2 v.desk w.desk refl refl refl (subst (Listing ws2) desk_was (listing_less ws ws2 (desk_of vs) same (λ n j nl lj. let e = marks n j nl in omega arith) kept.listing)));
    excuses = quiet_excuses key vs id v w here_v quiet (ap (λ (e : Desk). e.refusals) desk_is ∙ ap (λ (e : Desk). e.refusals) (sym desk_was)) kept.excuses;
    history = quiet_history key vs id v w here_v quiet kept.history;
    knowledge = record {
      desk = subst (Noted ws2) (sym desk_is) (record {
        free = λ b y t. let k = free_cells_by ws ws2 (desk_of vs) same free kept.knowledge.desk.free b y (subst (λ (z : Desk). Among {A = ℕ × ℕ} (b, y) z.cells) (sym desk_was) t) in (subst (λ (z : Layout). IsFree ws2 z b) layout_same k.0, k.1);
        masks = masks_of ws2 v.desk w.desk refl refl refl (subst (Masks ws2) desk_was (masks_by ws ws2 (desk_of vs) same masks_still kept.knowledge.desk.masks));
        numbers = numbers;
      });
      each = each_set (λ u. Unit {0}) (λ u. (h : Held) → Among h u.held → IsKnown ws2 h) vs id w (λ j u n e h s. known j u h e s) (λ h s. known id v h here_v s);
    };
    classes = record { each = each_keep (λ u. (h : Held) → Among h u.held → IsServed h h.block) vs id v w here_v (λ f. f) kept.classes.each };
    hands = quiet_hands vs id v w here_v quiet (ap (λ (e : Desk). e.next) desk_is ∙ ap (λ (e : Desk). e.next) (sym desk_was)) kept.hands
        (each_keep IsDeskless vs id v w here_v (λ f l. absurd (true≢false (sym leads ∙ l))) kept.hands.desks)
        (each_keep IsMoving vs id v w here_v (λ f. f) kept.hands.moving);
  }

module _ (key : Start) (ws : List ℕ) (vs : List View) (id : ℕ) (v : View) (kept : Rule key ws vs) (here_v : get_elem? vs id ≡ some v) (leads : v.leads ≡ true) where
  was : Numbers ws v.desk
  was = subst (λ (z : Desk). Numbers ws z) (desk_lead vs id v v here_v leads kept.hands.leaders leads).0 kept.knowledge.desk.numbers

  -- the active word of a class
  pub sets_active : (c m : ℕ) → c < 48 → m < 4294967296 → (m ≡ 0) ⊎ IsMetaPlace m key.pages → Rule key (set ws (4 * (c + 1) / 4) m) (set vs id (active_set v c m))
  sets_active c m lt fits place = numbers_set key ws vs id v kept here_v leads (4 * (c + 1)) m (omega arith) (omega arith) fits
      (record {
        active = λ k kl. subst (λ (y : ℕ). (y ≡ 0) ⊎ IsMetaPlace y key.pages) (sym (value k kl)) (pick_place (eqb k c) k kl refl);
        rest = λ b bl low far ne. at_other ws (4 * (c + 1)) b m (omega arith) bl (λ e. ⊎_elim (λ (l : b < 4). omega arith) (λ (l : 192 < b). omega arith) far) ∙ kept.words.lawful.first.rest b bl low far ne;
      })
      (set v.desk.active c m) v.desk.counter
      (record {
        count = length-set v.desk.active c m ∙ was.count;
        active = λ k kl. value k kl ∙ same_list k kl (eqb k c) refl;
        counter = at_other ws (4 * (c + 1)) 196 m (omega arith) refl (λ e. omega arith) ∙ was.counter;
      })
    where
      tested : (n k : ℕ) → eqb n k ≡ true → n ≡ k
      tested n k e = grind (arith, nat_tests)

      untested : (n k : ℕ) → eqb n k ≡ false → n ≢ k
      untested n k e q = true≢false (sym (eq-eqb n k q) ∙ e)

      value : (k : ℕ) → k < 48 → cell (set ws (4 * (c + 1) / 4) m) (4 * (k + 1)) ≡ cond (eqb k c) m (cell ws (4 * (k + 1)))
      value k kl = by_test (eqb k c) refl
        where
          by_test : (b : Bool) → eqb k c ≡ b → cell (set ws (4 * (c + 1) / 4) m) (4 * (k + 1)) ≡ cond b m (cell ws (4 * (k + 1)))
          by_test true is = ap (λ n. cell (set ws (4 * (c + 1) / 4) m) (4 * (n + 1))) (tested k c is) ∙ index_same ws (4 * (c + 1) / 4) m (let l = kept.words.lawful.long in let p = kept.words.lawful.range.enough in omega arith)
          by_test false is = at_other ws (4 * (c + 1)) (4 * (k + 1)) m (omega arith) (omega arith) (λ e. untested k c is (omega arith))

      pick_place : (b : Bool) (k : ℕ) → k < 48 → eqb k c ≡ b → (cond b m (cell ws (4 * (k + 1))) ≡ 0) ⊎ IsMetaPlace (cond b m (cell ws (4 * (k + 1)))) key.pages
      pick_place true k kl is = place
      pick_place false k kl is = kept.words.lawful.first.active k kl

      same_list : (k : ℕ) → k < 48 → (b : Bool) → eqb k c ≡ b → cond b m (cell ws (4 * (k + 1))) ≡ slice_index (set v.desk.active c m) k
      same_list k kl true is = sym (ap (slice_index (set v.desk.active c m)) (tested k c is) ∙ index_same v.desk.active c m (let n = was.count in omega arith))
      same_list k kl false is = was.active k kl ∙ sym (index_other v.desk.active c k m (untested k c is))

  -- the counter
  pub sets_counter : (x : ℕ) → x < 4294967296 → Rule key (set ws (196 / 4) x) (set vs id (counter_set v x))
  sets_counter x fits = numbers_set key ws vs id v kept here_v leads 196 x refl (omega arith) fits
      (record {
        active = λ k kl. subst (λ (y : ℕ). (y ≡ 0) ⊎ IsMetaPlace y key.pages) (sym (at_other ws 196 (4 * (k + 1)) x refl (omega arith) (λ e. omega arith))) (kept.words.lawful.first.active k kl);
        rest = λ b bl low far ne. at_other ws 196 b x refl bl ne ∙ kept.words.lawful.first.rest b bl low far ne;
      })
      v.desk.active x
      (record {
        count = was.count;
        active = λ k kl. at_other ws 196 (4 * (k + 1)) x refl (omega arith) (λ e. omega arith) ∙ was.active k kl;
        counter = index_same ws (196 / 4) x (let l = kept.words.lawful.long in let p = kept.words.lawful.range.enough in omega arith);
      })
