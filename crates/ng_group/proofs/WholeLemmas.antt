-- What the seat knows once a group's masks were read, or captured.
use Rattle.std.proofs.Common.{◌≡◌, ◌≢◌, ◌⊎◌, ℕ, ◌+◌, ◌%◌, ◌^◌, ◌<◌, ◌≤◌, eqb, cond, Bool, true, false, true≢false, [], ◌∷◌, ◌++◌, refl, sym, ap, subst, ◌∙◌, ⊎_elim, inl, inr, arith}
use Rattle.std.specs.Int.{bit_at}
use Rattle.std.proofs.lemmas.Bool.{cases_eq, eq-eqb}
use Rattle.std.proofs.lemmas.List.{append_assoc}
use Rattle.ng_class.specs.Mask.{FillsGroup, all_bits_of}
use Rattle.ng_view.specs.Lists.{Among, without}
use Rattle.ng_view.specs.LockSteps.{avail_emptied, avail_read, bits_of, freed_taken, outside}
use Rattle.ng_view.specs.Steps.{read}
use Rattle.ng_view.specs.declared.view.Group.{Group}
use Rattle.ng_view.specs.declared.view.View.{View}
use Rattle.ng_view.specs.Fetches.{HasGroup}
use Rattle.ng_view.specs.Loads.{Loads, TellsGroups, freed_read}
use Rattle.ng_view.specs.Masks.{IsServing, TellsAvail, TellsFreed}
use Rattle.ng_mask.specs.Fetches.{Captures, OfGroup, slots_of}
use Rattle.ng_mask.proofs.Bits.{bit_at_low}
use Rattle.ng_serve.specs.Takes.{HasCaptured, IsServed, PutsCaptured}
use Rattle.ng_serve.proofs.Changes.{changes_listed}
use Rattle.ng_serve.proofs.Readings.{among_if}
use Rattle.ng_group.specs.Filling.{AreSlots, LooksAt, Searches}
use Rattle.ng_group.specs.Returning.{CapturesAll, HasReturned, HasWhole}
use Rattle.ng_group.specs.Serving.{with_search}
use Rattle.ng_group.proofs.FillingLemmas.{Has, fills_one, has_each, low_bit, outside_alone, outside_slots}
use Rattle.ng_group.proofs.ReturningLemmas.{at_place, bare_returned, changed_view, found_alone}
use Rattle.ng_group.proofs.WorkingLemmas.{came_then}

pub groups_kept : (v w : View) → Searches v w → w.desk.groups ≡ v.desk.groups
groups_kept v w searches = ap (λ (x : View). x.desk.groups) searches.view

-- ---- both masks were read

module _ (v u w : View) (meta first second : ℕ) (has : HasGroup v meta) (loads : Loads v (meta + 28) first u) (tells : TellsGroups v (meta + 28) first)
    (loads_avail : Loads u (meta + 24) second w) (tells_avail : TellsGroups u (meta + 24) second) where
  one : u ≡ read (freed_read v has.group.meta first) (meta + 28) first
  one = loads.freed has.group has.there (ap (λ m. m + 28) (sym has.of_meta))

  still : (g : Group) → Among g v.desk.groups → Among g u.desk.groups
  still g there = subst (λ (x : View). Among g x.desk.groups) (sym one) there

  both : w ≡ read (avail_read (read (freed_read v has.group.meta first) (meta + 28) first) has.group.meta second) (meta + 24) second
  both = loads_avail.avail has.group (still has.group has.there) (ap (λ m. m + 24) (sym has.of_meta))
      ∙ ap (λ (x : View). read (avail_read x has.group.meta second) (meta + 24) second) one

  of_freed : (g : Group) → Among g v.desk.groups → g.meta ≡ meta → TellsFreed v g first
  of_freed g there of_meta = (tells g there).freed (ap (λ m. m + 28) (sym of_meta))

  of_avail : (g : Group) → Among g v.desk.groups → g.meta ≡ meta → TellsAvail u g second
  of_avail g there of_meta = (tells_avail g (still g there)).avail (ap (λ m. m + 24) (sym of_meta))

  bare_read : second % 2 ^ 32 ≡ 0 → Among meta w.desk.zero_avail
  bare_read none = subst (λ (x : View). Among meta x.desk.zero_avail) (sym both)
      (subst (λ (b : Bool). Among meta (cond b (has.group.meta ∷ v.desk.zero_avail) v.desk.zero_avail)) (sym (eq-eqb (second % 4294967296) 0 none)) (inl (sym has.of_meta)))

  searched_masks : Searches v w
  searched_masks = record {
    view = subst (λ (x : View). x ≡ with_search v x) (sym both) refl;
    came = record {
      words = (meta + 28, first) ∷ (meta + 24, second) ∷ [];
      readings = ap (λ (x : View). x.readings) both ∙ append_assoc v.readings ((meta + 28, first) ∷ []) ((meta + 24, second) ∷ []);
    };
    listed = ap (λ (x : View). x.desk.listed) both;
    active = ap (λ (x : View). x.desk.active) both;
    keeps = λ m noted. subst (λ (x : View). Among m x.desk.zero_avail) (sym both) (among_if (eqb (second % 4294967296) 0) has.group.meta m v.desk.zero_avail noted);
  }

  pub looks_at : (avail freed : ℕ) → avail ≡ second % 2 ^ 32 → freed ≡ first % 2 ^ 32 → LooksAt v meta avail freed w
  looks_at avail freed avail_is freed_is = record {
    searches = searched_masks;
    reads = record {
      first = first;
      second = second;
      freed_is = freed_is;
      avail_is = avail_is;
      view = subst (λ m. w ≡ read (avail_read (read (freed_read v m first) (meta + 28) first) m second) (meta + 24) second) has.of_meta both;
    };
    held = ap (λ (x : View). x.held) both;
    bare = λ none. bare_read (sym avail_is ∙ none);
    avail_slots = λ g there of_meta i set. let low = low_bit second i (ap (λ n. bit_at n i) (sym avail_is) ∙ set) in (of_avail g there of_meta).within i low (bit_at_low second i low ∙ ap (λ n. bit_at n i) (sym avail_is) ∙ set);
    freed_slots = λ g there of_meta i set. let low = low_bit first i (ap (λ n. bit_at n i) (sym freed_is) ∙ set) in (of_freed g there of_meta).within i low (bit_at_low first i low ∙ ap (λ n. bit_at n i) (sym freed_is) ∙ set);
    avail_serves = λ some g there of_meta.
        let serving : IsServing u g = (of_avail g there of_meta).serves (subst (λ n. 0 < n) avail_is some) in
        record { listed = subst (λ (x : View). Among g.meta x.desk.listed) one serving.listed; plain = serving.plain };
    freed_serves = λ some g there of_meta. (of_freed g there of_meta).serves (omega (arith, some, freed_is, (of_freed g there of_meta).fits));
  }

-- ---- both masks were captured

module _ (v w : View) (meta index last avail freed : ℕ) (few : last < 32) (has : HasReturned v meta index) (of_last : OfGroup v meta (λ g. g.last ≡ last)) (captures : Captures v meta avail freed w) where
  last_is : has.group.last ≡ last
  last_is = of_last has.group has.there has.of_meta

  first_step : captures.between ≡ read (avail_emptied v has.group captures.word) (meta + 24) captures.word
  first_step = captures.empties.view has.group has.there has.of_meta

  there_between : Among has.group captures.between.desk.groups
  there_between = subst (λ (x : View). Among has.group x.desk.groups) (sym first_step) has.there

  steps : w ≡ read (freed_taken (read (avail_emptied v has.group captures.word) (meta + 24) captures.word) has.group (all_bits_of 31) captures.takes.freed) (meta + 28) captures.takes.freed
  steps = captures.takes.clears.view has.group there_between has.of_meta
      ∙ ap (λ (x : View). read (freed_taken x has.group (all_bits_of 31) captures.takes.freed) (meta + 28) captures.takes.freed) first_step

  searched_all : Searches v w
  searched_all = record {
    view = subst (λ (x : View). x ≡ with_search v x) (sym steps) refl;
    came = record {
      words = (meta + 24, captures.word) ∷ (meta + 28, captures.takes.freed) ∷ [];
      readings = ap (λ (x : View). x.readings) steps ∙ append_assoc v.readings ((meta + 24, captures.word) ∷ []) ((meta + 28, captures.takes.freed) ∷ []);
    };
    listed = ap (λ (x : View). x.desk.listed) steps;
    active = ap (λ (x : View). x.desk.active) steps;
    keeps = λ m noted. subst (λ (x : View). Among m x.desk.zero_avail) (sym steps) (inr noted);
  }

  there_still : Among has.group w.desk.groups
  there_still = subst (λ (x : View). Among has.group x.desk.groups) (sym steps) has.there

  held : w.held ≡ slots_of has.group freed ++ (slots_of has.group avail ++ v.held)
  held = captures.slots has.group has.there has.of_meta

  pub own_index : index ≤ last
  own_index = omega (arith, has.within, last_is)

  pub avail_captured : AreSlots avail last
  avail_captured i set =
      let low = low_bit captures.word i (ap (λ n. bit_at n i) (sym captures.mask) ∙ set) in
      subst (λ n. i ≤ n) last_is
      ((captures.empties.tells has.group has.there has.of_meta).within i low (bit_at_low captures.word i low ∙ ap (λ n. bit_at n i) (sym captures.mask) ∙ set))

  pub freed_captured : AreSlots freed last
  freed_captured i set =
      let low = low_bit captures.takes.freed i (ap (λ n. bit_at n i) (sym captures.takes.bits) ∙ set) in
      subst (λ n. i ≤ n) last_is
      ((captures.takes.clears.tells has.group there_between has.of_meta).within i low (bit_at_low captures.takes.freed i low ∙ ap (λ n. bit_at n i) (sym captures.takes.bits) ∙ set))

  of_slot : has.slot.place.group.meta ≡ meta
  of_slot = ap (λ (g : Group). g.meta) has.of_group ∙ has.of_meta

  -- where they fill the group, every slot is in the seat
  pub whole_captured : FillsGroup avail freed index last → HasWhole w meta
  whole_captured fills = record {
    group = has.group;
    there = there_still;
    of_meta = has.of_meta;
    each = λ i within. subst (λ m. Has m i w.held) has.of_meta (subst (Has has.group.meta i) (sym held)
        (has_each has.group avail freed index i v.held (omega (arith, few, last_is)) (subst (FillsGroup avail freed index) (sym last_is) fills)
        (subst (Has has.group.meta index) (sym has.held) (has.slot, found_alone has.slot has.group.meta index (ap (λ (g : Group). g.meta) has.of_group) has.of_index))
        within));
    only = ap (outside meta) held
        ∙ outside_slots has.group meta (bits_of freed) (slots_of has.group avail ++ v.held) has.of_meta
        (outside_slots has.group meta (bits_of avail) v.held has.of_meta (ap (outside meta) has.held ∙ outside_alone has.slot meta of_slot));
    no_avail = captures.bare_avail;
    no_freed = captures.bare_freed;
  }

  pub searches_captured : Searches v w
  searches_captured = searched_all

  pub all_captured : FillsGroup avail freed index last → CapturesAll v meta index last true w
  all_captured fills = record {
    avail = avail;
    freed = freed;
    between = w;
    captures = captures;
    fills = (λ is. fills, λ group. refl);
    whole = λ is. refl;
    back = λ not. absurd (true≢false not);
  }

  -- else they may be put back
  pub may_captured : HasCaptured w meta avail freed index
  may_captured = record {
    group = has.group;
    of_meta = has.of_meta;
    before = v.held;
    held = held;
    slot = bare_returned v v.held meta index has (omega (arith, few, last_is)) refl;
  }

  pub served_captured : ¬ FillsGroup avail freed index last → (last ≡ 0) ⊎ IsServed v meta → IsServed w meta
  served_captured rest (inl none) = absurd (rest (fills_one avail freed index last own_index none))
  served_captured rest (inr served) = record {
    group = served.group;
    there = subst (λ (x : View). Among served.group x.desk.groups) (sym steps) served.there;
    of_meta = served.of_meta;
    plain = served.plain;
    listed = subst (λ (x : View). Among meta x.desk.listed) (sym steps) served.listed;
  }

  listed_captured : ¬ FillsGroup avail freed index last → (last ≡ 0) ⊎ IsServed v meta → Among meta v.desk.listed
  listed_captured rest (inl none) = absurd (rest (fills_one avail freed index last own_index none))
  listed_captured rest (inr served) = served.listed

  module _ (x : View) (puts : PutsCaptured w meta avail freed index x) where
    pub back_captured : ¬ FillsGroup avail freed index last → (last ≡ 0) ⊎ IsServed v meta → CapturesAll v meta index last false x
    back_captured rest served = record {
      avail = avail;
      freed = freed;
      between = w;
      captures = captures;
      fills = (λ is. absurd (true≢false (sym is)), λ group. absurd (rest group));
      whole = λ is. absurd (true≢false (sym is));
      back = λ not. (puts.sets, listed_captured rest served);
    }

    keeps_back : (m : ℕ) → Among m v.desk.zero_avail → Among m x.desk.zero_avail
    keeps_back m noted = ⊎_elim
        (λ (same : m ≡ meta).
        let here : Among has.group.meta v.desk.zero_avail = subst (λ k. Among k v.desk.zero_avail) (same ∙ sym has.of_meta) noted in
        let none : avail ≡ 0 = captures.mask ∙ (captures.empties.tells has.group has.there has.of_meta).zero here in
        subst (Among m) (sym (puts.bare none)) (searched_all.keeps m noted))
        (λ (apart : m ≢ meta). puts.changes.zero_avail m apart (searched_all.keeps m noted))
        (cases_eq m meta)

    pub searches_back : Searches v x
    searches_back = record {
      view = changed_view w x meta puts.changes ∙ ap (λ (y : View). with_search y x) searched_all.view;
      came = came_then v w x searched_all.came (record { words = puts.changes.words; readings = ap (λ (y : View). y.readings) puts.changes.view });
      listed = changes_listed w x meta puts.changes ∙ searched_all.listed;
      active = ap (λ (y : View). y.desk.active) puts.changes.view ∙ searched_all.active;
      keeps = keeps_back;
    }

    pub idle_back : x.held ≡ []
    unfolding may_captured
    idle_back = puts.held may_captured ∙ ap (without meta index) has.held ∙ ap (λ (b : Bool). cond b [] (has.slot ∷ [])) (at_place has.slot meta index of_slot has.of_index)
