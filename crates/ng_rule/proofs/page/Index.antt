-- The lock's seat stores the active index of a live group.
use Rattle.std.proofs.Common.{◌≡◌, ℕ, ◌+◌, ◌/◌, ◌%◌, ◌<◌, ◌≤◌, false, List, length, set, refl, sym, ap, ◌∙◌, subst, ⊎_elim, arith}
use mathlib.Core.Option.{some}
use lib.ListN.{get_elem?}
use Rattle.std.proofs.lemmas.Bool.{cases_lt}
use Rattle.ng_view.specs.Knowledge.{IsOfFreeRun, IsOfFreeMeta}
use Rattle.ng_view.specs.declared.view.Held.{Held}
use Rattle.ng_view.specs.declared.view.Nest.{Nest}
use Rattle.ng_view.specs.declared.view.Run.{Run}
use Rattle.ng_view.specs.declared.view.Layout.{Layout}
use Rattle.ng_view.specs.declared.view.Desk.{Desk}
use Rattle.ng_view.specs.declared.view.View.{View}
use Rattle.ng_view.specs.declared.view.Start.{Start}
use Rattle.ng_view.specs.Lists.{Among}
use Rattle.ng_view.specs.Cells.{cell, tag, avail, freed, marked_of, marked, group_at}
use Rattle.ng_view.specs.Places.{Owns, header}
use Rattle.ng_view.specs.Hands.{IsDeskless, IsMoving}
use Rattle.ng_view.specs.Classes.{IsServed}
use Rattle.ng_view.specs.Words.{IsLawful}
use Rattle.ng_view.specs.Views.{desk_of}
use Rattle.ng_view.specs.Rule.{Rule}
use Rattle.ng_view.specs.Layouts.{Inside}
use Rattle.ng_view.specs.Knowledge.{IsFree, IsKnown, Noted}
use Rattle.ng_view.specs.Blocks.{IsSet}
use Rattle.ng_view.specs.Listing.{Listing}
use Rattle.ng_rule.proofs.geometry.Lists.{at_other, desk_same, each_set}
use Rattle.ng_rule.proofs.geometry.Nesting.{IsSlot, off_areas, behind, in_run, reach_top}
use Rattle.ng_rule.proofs.geometry.Facts.{marked_dead, held_slot, held_leaf, nested}
use Rattle.ng_rule.proofs.geometry.Strides.{header_cell}
use Rattle.ng_rule.proofs.geometry.Frames.{Same, Own, IsLow, same_own, words_same, place_same, first_same, index_below, zero_home, low_word, off_head, laid_area}
use Rattle.ng_rule.proofs.geometry.Parts.{Quiet, quiet_excuses, quiet_hands, quiet_history, each_keep, slots_by, slots_with, owed_same, listing_less, masks_by, numbers_by, free_cells_by, plain_less}

module _ (key : Start) (ws : List ℕ) (vs : List View) (id : ℕ) (v : View) (kept : Rule key ws vs) (here_v : get_elem? vs id ≡ some v)
    (m x : ℕ) (al : m % 4 ≡ 0) (live : 0 < tag ws m) (fits : x < 4294967296) where
  abbrev d : Layout
  d = (desk_of vs).layout

  abbrev a : ℕ
  a = cell ws (m + 16) + 8

  abbrev ws' : List ℕ
  ws' = set ws (a / 4) x

  nests_ok : (n : Nest) → Among n d.nests → IsSlot ws n.place
  nests_ok = nested ws vs kept.slots

  base_whole : cell ws (m + 16) % 16 ≡ 0
  base_whole = (kept.words.lawful.groups m al live).whole

  index_cell : a % 4 ≡ 0
  index_cell = let b = base_whole in omega arith

  home : (r : Run) × Among r d.runs × (r.area ≡ false) × Inside r a
  home = in_run key ws d kept.words.lawful nests_ok a m al live (omega arith) (omega arith)

  long : a / 4 < length ws
  long = index_below key ws d kept.words.lawful nests_ok home.0 a home.1 home.3

  own : Own key ws d kept.words.lawful nests_ok a
  own = (
    (λ n nl l low high. off_areas key ws d kept.words.lawful nests_ok a n home (laid_area key ws d kept.words.lawful nests_ok n nl l) low high),
    (λ n b nl l lt e. let p = base_whole in let q = (kept.words.lawful.groups n nl l).whole in let y : ℕ = cell ws (n + 16) in omega (arith, p, q, lt, e)),
    low_word key ws d kept.words.lawful nests_ok a index_cell (λ n nl r e. absurd (off_areas key ws d kept.words.lawful nests_ok a n home r (omega arith) (omega arith))),
    off_head key ws d kept.words.lawful nests_ok a home,
  )

  low : IsLow key ws d kept.words.lawful nests_ok a x
  low n i nl l le e = absurd (let h = header_cell (group_at ws n) i (kept.words.lawful.groups n nl l).whole in let b = base_whole in let y : ℕ = header (group_at ws n) i in omega (arith, h, b, e))

  same : Same ws ws' d
  same = same_own key ws d kept.words.lawful nests_ok a x index_cell own low (home.0, home.1, home.3) long fits

  page_zero : (b : ℕ) → b % 4 ≡ 0 → b < 4096 → cell ws' b ≡ cell ws b
  page_zero = zero_home key ws d kept.words.lawful nests_ok a x index_cell (home.0, home.1, home.3)

  desk : desk_of (set vs id v) ≡ desk_of vs
  desk = desk_same vs id v v here_v refl refl

  field : (n b : ℕ) → n % 4 ≡ 0 → b % 4 ≡ 0 → b < 40 → 0 < tag ws n → cell ws' (n + b) ≡ cell ws (n + b)
  field n b nl bl lb l = at_other ws a (n + b) x index_cell (omega arith) (λ e. own.0 n nl l (omega arith) (omega arith))

  marks : (n j : ℕ) → n % 4 ≡ 0 → marked ws' n j ≡ marked ws n j
  marks n j nl =
      ⊎_elim
      (λ (l : 0 < tag ws n). λ t. marked_of (same.tags n nl t) (field n 24 nl refl (omega arith) l t) (field n 28 nl refl (omega arith) l t) j)
      (λ (l : tag ws n ≤ 0). let z : tag ws n ≡ 0 = (let y : ℕ = tag ws n in omega arith) in marked_dead (tag ws' n) (avail ws' n) (freed ws' n) j (same.tags n nl ∙ z) ∙ sym (marked_dead (tag ws n) (avail ws n) (freed ws n) j z))
      (cases_lt 0 (tag ws n))

  quiet : Quiet v v
  quiet = record { leads = refl; books = refl; excuses = refl; sent = refl; taken = refl; parcel = refl; blocks = λ b. refl; idle = λ f. f; whole = λ f. f }

  -- no slot has the cell
  known : (j : ℕ) (u : View) (h : Held) → get_elem? vs j ≡ some u → Among h u.held → IsKnown ws' h
  known j u h e s b y q =
      let k = kept.knowledge.each j u e h s b y q in
      record { own = k.own; whole = k.whole; value = at_other ws a b x index_cell k.whole (λ p. not_own j u h e s (subst (Owns h.place) p k.own)) ∙ k.value }
    where
      not_own : (j : ℕ) (u : View) (h : Held) → get_elem? vs j ≡ some u → Among h u.held → Owns h.place a → ⊥
      not_own j u h e s o =
          let w = behind key ws d kept.words.lawful nests_ok a m h.place al live (held_slot ws vs kept.slots j u h e s) (held_leaf ws vs kept.slots j u h e s) o (omega arith) (omega arith) in omega arith

  -- nor is it free
  free : (b : ℕ) → IsFree ws d b → cell ws' b ≡ cell ws b
  free b f = at_other ws a b x index_cell f.0 (λ e.
      let t = reach_top key ws d kept.words.lawful nests_ok a m al live (omega arith) (omega arith) in
      let j : Inside t.3.run b = subst (Inside t.3.run) (sym e) t.4 in
      ⊎_elim
      (λ (y : IsOfFreeRun ws d b).
      y.free t.0 t.1 t.2 (sym t.3.begins ∙ ap (λ (z : Run). z.addr) (kept.words.lawful.apart t.3.run y.run b t.3.noted y.noted j y.inside)))
      (λ (y : IsOfFreeMeta ws d b). off_areas key ws d kept.words.lawful nests_ok b y.meta (t.3.run, t.3.noted, t.3.plain, j) y.in_area y.from y.below)
      f.1)

  pub indexes : Rule key ws' (set vs id v)
  indexes = record {
    slots = slots_with key ws vs kept.slots kept.words.lawful ws' id v v here_v (slots_by ws ws' vs id v v here_v (λ n j nl lj. ((let e = marks n j nl in omega arith), owed_same ws ws' d same n j nl)) kept.slots) (plain_less ws ws' (λ n j nl lj. let e = marks n j nl in omega arith) kept.slots.plain) same refl (λ h s. place_same ws ws' d same h.place (held_slot ws vs kept.slots id v h here_v s));
    words = record {
      lawful = subst (λ (z : Desk). IsLawful key ws' z.layout) (sym desk) (words_same key ws ws' d kept.words.lawful same (first_same key ws ws' page_zero kept.words.lawful.first));
      blocks = each_keep (λ u. (h : Held) → Among h u.held → IsSet h h.block) vs id v v here_v (λ f. f) kept.words.blocks;
    };
    listing = subst (Listing ws') (sym desk) (listing_less ws ws' (desk_of vs) same (λ n j nl lj. let e = marks n j nl in omega arith) kept.listing);
    excuses = quiet_excuses key vs id v v here_v quiet (ap (λ (e : Desk). e.refusals) desk) kept.excuses;
    history = quiet_history key vs id v v here_v quiet kept.history;
    knowledge = record {
      desk = subst (Noted ws') (sym desk) (record { free = free_cells_by ws ws' (desk_of vs) same free kept.knowledge.desk.free; masks = masks_by ws ws' (desk_of vs) same (λ n nl l. (field n 24 nl refl (omega arith) l, field n 28 nl refl (omega arith) l)) kept.knowledge.desk.masks; numbers = numbers_by ws ws' (desk_of vs) page_zero kept.knowledge.desk.numbers });
      each = each_set (λ u. Unit {0}) (λ u. (h : Held) → Among h u.held → IsKnown ws' h) vs id v (λ j u n e h s. known j u h e s) (λ h s. known id v h here_v s);
    };
    classes = record { each = each_keep (λ u. (h : Held) → Among h u.held → IsServed h h.block) vs id v v here_v (λ f. f) kept.classes.each };
    hands = quiet_hands vs id v v here_v quiet (ap (λ (e : Desk). e.next) desk) kept.hands
        (each_keep IsDeskless vs id v v here_v (λ f. f) kept.hands.desks)
        (each_keep IsMoving vs id v v here_v (λ f. f) kept.hands.moving);
  }
