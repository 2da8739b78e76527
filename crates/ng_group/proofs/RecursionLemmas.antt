-- Metas that a call takes in hand and lets go, and what a return of a slot leaves.
use Rattle.std.proofs.Common.{◌≡◌, ◌≢◌, ℕ, ◌<◌, Bool, true, false, List, [], ◌∷◌, ◌++◌, Contains, None, Some, refl, sym, ap, ◌∙◌, subst, inl, inr, arith}
use Rattle.ng_mapper.specs.Mapping.{Span}
use Rattle.ng_mapper.specs.Runs as mapper
use Rattle.ng_mapper.specs.declared.refusals.Refusals.{Refusals}
use Rattle.ng_meta.specs.Place.{IsMetaPlace}
use Rattle.ng_shelf.specs.Stock.{Stock, free_of}
use Rattle.ng_view.specs.Lists.{Among}
use Rattle.ng_view.specs.declared.view.Group.{Group}
use Rattle.ng_view.specs.declared.view.Start.{Start}
use Rattle.ng_view.specs.declared.view.View.{View}
use Rattle.ng_policy.specs.declared.ask.Spare.{Spare}
use Rattle.ng_ledger.specs.Metas.{IsBlankMeta}
use Rattle.ng_ledger.specs.Standing.{InHand, KeepsHand, Ledger}
use Rattle.ng_ledger.proofs.HandLemmas.{hand_put_other, hand_put_was, keeps_hand-same, keeps_hand-trans}
use Rattle.ng_ledger.proofs.MetaLemmas.{free_put}
use Rattle.ng_mask.specs.Fetches.{OfGroup}
use Rattle.ng_serve.specs.Groups.{Describes, ReadsFields}
use Rattle.ng_serve.specs.Reads.{Reads}
use Rattle.ng_serve.specs.declared.group.LiveGroup.{LiveGroup}
use Rattle.ng_group.specs.Building.{HasInHand}
use Rattle.ng_group.specs.Returning as returning
use Rattle.ng_group.specs.Ending.{Ends}
use Rattle.ng_group.specs.Returning.{HasReturned, HasWhole, IsAbove, Returns, ReturnsOutwards, TakesWhole, with_free}
use Rattle.ng_group.specs.Serving.{OnlyRing, with_search}
use Rattle.ng_group.specs.States.{IsWorking, State, Working, ledger_of}
use Rattle.ng_group.specs.Steps.{GoesOn, HandsOver}
use Rattle.ng_group.proofs.WorkingLemmas.{goes_same, goes_then, only_goes, only_hand, searched}

-- the meta of a live group has its place
pub place_of : (start : Start) (span : Span) (live : List mapper.Run) (refused : Refusals) (l : Ledger) (g : Group) (meta : ℕ)
    → IsWorking start span live refused l → Among g l.seat.desk.groups → g.meta ≡ meta → IsMetaPlace meta start.pages
place_of start span live refused l g meta works there of_meta =
    subst (λ (m : ℕ). IsMetaPlace m start.pages) of_meta (works.stands.groups.each g there).place

-- ---- a meta is put back into the stock

-- the stock with it
abbrev pub stocked : Stock → ℕ → Stock
stocked stock meta = record stock { returned = stock.returned ++ meta ∷ [] }

-- and the books with that stock
abbrev pub put : Ledger → ℕ → Ledger
put l meta = record l { stock = stocked l.stock meta }

pub put_works : (start : Start) (span : Span) (live : List mapper.Run) (refused : Refusals) (l : Ledger) (meta : ℕ)
    → IsWorking start span live refused l → HasInHand start l meta → IsWorking start span live refused (put l meta)
put_works start span live refused l meta works has = record {
  space = record {
    lower = works.space.lower;
    upper = works.space.upper;
    size = works.space.size;
    rings = works.space.rings;
    stock = works.space.stock;
    parents = works.space.parents;
  };
  stands = record {
    groups = works.stands.groups;
    ringed = works.stands.ringed;
    free = free_put start.pages l.seat.desk.layout l.seat.desk.groups l.seat.desk.cells l.stock meta works.stands.free has.free;
    of_areas = works.stands.of_areas;
    area = works.stands.area;
    mapped = works.stands.mapped;
    served = works.stands.served;
    founded = works.stands.founded;
    used = works.stands.used;
    nested = works.stands.nested;
    carried = works.stands.carried;
  };
  followed = works.followed;
  counted = works.counted;
  leads = works.leads;
  bookless = works.bookless;
}

-- ---- a meta comes in hand, and goes

-- it comes in hand where it wasn't, and the others are the same
pub record Brings (start : Start) (meta : ℕ) (before after : Ledger) : Type 0 where
  pub apart : ¬ InHand before meta
  pub has : HasInHand start after meta
  pub none_more : (m : ℕ) → m ≢ meta → InHand after m → InHand before m
  pub none_less : (m : ℕ) → InHand before m → InHand after m
  pub blank : (m : ℕ) → InHand before m → IsBlankMeta before.seat.desk.cells m → IsBlankMeta after.seat.desk.cells m

pub hand_of : (start : Start) (l : Ledger) (meta : ℕ) → HasInHand start l meta → InHand l meta
hand_of start l meta has = record { area = has.free.area; unborn = has.free.unborn; taken = has.taken }

-- it is still in hand after a call that keeps what is
pub still_has : (start : Start) (before after : Ledger) (meta : ℕ) → HasInHand start before meta → KeepsHand before after → HasInHand start after meta
still_has start before after meta has keeps =
    let hand = keeps.none_less meta (hand_of start before meta has) in
    record {
      free = record {
        place = has.free.place;
        area = hand.area;
        unborn = hand.unborn;
        blank = keeps.blank meta (hand_of start before meta has) has.free.blank;
      };
      taken = hand.taken;
    }

module _ (start : Start) (meta : ℕ) (before mid : Ledger) (brings : Brings start meta before mid) where
  other : (m : ℕ) → InHand before m → m ≢ meta
  other m hand same = brings.apart (subst (InHand before) same hand)

  -- calls before and after keep what is in hand
  pub brings_before : (first : Ledger) → KeepsHand first before → Brings start meta first mid
  brings_before first keeps = record {
    apart = λ hand. brings.apart (keeps.none_less meta hand);
    has = brings.has;
    none_more = λ m apart hand. keeps.none_more m (brings.none_more m apart hand);
    none_less = λ m hand. brings.none_less m (keeps.none_less m hand);
    blank = λ m hand blank. brings.blank m (keeps.none_less m hand) (keeps.blank m hand blank);
  }

  pub brings_then : (after : Ledger) → KeepsHand mid after → Brings start meta before after
  brings_then after keeps = record {
    apart = brings.apart;
    has = still_has start mid after meta brings.has keeps;
    none_more = λ m apart hand. brings.none_more m apart (keeps.none_more m hand);
    none_less = λ m hand. keeps.none_less m (brings.none_less m hand);
    blank = λ m hand blank. keeps.blank m (brings.none_less m hand) (brings.blank m hand blank);
  }

  -- it goes to the stock
  pub brings_put : KeepsHand before (put mid meta)
  brings_put = record {
    none_more = λ m hand.
        let was = hand_put_was mid.seat.desk.layout mid.seat.desk.groups mid.stock meta m hand in brings.none_more m was.1 was.0;
    none_less = λ m hand. hand_put_other mid.seat.desk.layout mid.seat.desk.groups mid.stock meta m (brings.none_less m hand) (other m hand);
    blank = brings.blank;
  }

  -- or to a new group
  pub brings_over : (after : Ledger) → HandsOver meta mid after → KeepsHand before after
  brings_over after over = record {
    none_more = λ m hand. brings.none_more m (λ same. over.gone (subst (InHand after) same hand)) (over.none_more m hand);
    none_less = λ m hand. over.none_less m (other m hand) (brings.none_less m hand);
    blank = λ m hand blank. over.blank m (other m hand) (brings.none_less m hand) (brings.blank m hand blank);
  }

-- the meta of a group that ended comes so
pub ended_brings : (start : Start) (g : Group) (meta : ℕ) (before after : Ledger)
    → IsMetaPlace meta start.pages → Among g before.seat.desk.groups → g.meta ≡ meta → returning.ComesInHand meta before after
    → Brings start meta before after
ended_brings start g meta before after place there of_meta comes = record {
  apart = λ hand. hand.unborn g there of_meta;
  has = record {
    free = record { place = place; area = comes.here.area; unborn = comes.here.unborn; blank = comes.clear };
    taken = comes.here.taken;
  };
  none_more = comes.none_more;
  none_less = comes.none_less;
  blank = comes.blank;
}

-- ---- a slot is returned

-- the numbers of a group are the same once its ring was searched, or words were read
pub describes_searched : (v w : View) (meta : ℕ) (found : LiveGroup) → w ≡ with_search v w → OfGroup v meta (Describes found) → OfGroup w meta (Describes found)
describes_searched v w meta found view describes g there of_meta = describes g (subst (λ (x : View). Among g x.desk.groups) view there) of_meta

pub describes_read : (v w : View) (meta : ℕ) (found : LiveGroup) → Reads v w → OfGroup v meta (Describes found) → OfGroup w meta (Describes found)
describes_read v w meta found reads describes g there of_meta = describes g (subst (λ (x : View). Among g x.desk.groups) reads.view there) of_meta

-- and so is the slot
pub returned_read : (v w : View) (meta index : ℕ) → Reads v w → HasReturned v meta index → HasReturned w meta index
returned_read v w meta index reads has = subst (λ (x : View). HasReturned x meta index) (sym reads.view) (record {
  group = has.group;
  there = has.there;
  of_meta = has.of_meta;
  within = has.within;
  slot = has.slot;
  held = has.held;
  of_group = has.of_group;
  of_index = has.of_index;
  bare = has.bare;
})

-- the group around one that ended is of a class above it
pub above : (v : View) (meta index class : ℕ) (found : LiveGroup) → HasReturned v meta index → IsAbove class v meta → OfGroup v meta (Describes found) → class < found.class
above v meta index class found has is describes = omega (arith, is has.group has.there has.of_meta, (describes has.group has.there has.of_meta).tag)

-- what a call keeps, whatever it does
pub record Keeps {M P : Type 0} (start : Start) (span : M → Span) (runs : M → List mapper.Run) (refused : M → Refusals) (before after : State M P) : Type 0 where
  pub working : Working start span runs refused after
  pub on : GoesOn before.seat after.seat
  pub hand : KeepsHand (ledger_of before) (ledger_of after)

module _ {M P : Type 0} (start : Start) (span : M → Span) (runs : M → List mapper.Run) (refused : M → Refusals) where
  pub keeps_same : (s : State M P) → Working start span runs refused s → Keeps start span runs refused s s
  keeps_same s works = record { working = works; on = goes_same s.seat; hand = keeps_hand-same (ledger_of s) }

  pub keeps_told : (before after : State M P) → Working start span runs refused after → GoesOn before.seat after.seat → KeepsHand (ledger_of before) (ledger_of after)
      → Keeps start span runs refused before after
  keeps_told before after works on hand = record { working = works; on = on; hand = hand }

  -- words were read
  pub reads_keeps : (s : State M P) (w : View) → Reads s.seat w → Working start span runs refused s
      → Keeps start span runs refused s (record s { seat = w })
  reads_keeps s w reads works = subst (λ (v : View). Keeps start span runs refused s (record s { seat = v })) (sym reads.view) (record {
    working = seen (s.seat.readings ++ reads.words);
    on = record { came = record { words = reads.words; readings = refl }; next = refl };
    hand = record { none_more = λ m hand. hand; none_less = λ m hand. hand; blank = λ m hand blank. blank };
  })
    where
      seen : (words : List (ℕ × ℕ)) → Working start span runs refused (record s { seat = record s.seat { readings = words } })
      seen words = searched start (span s.mapper) (runs s.mapper) (refused s.mapper) (ledger_of s) (record s.seat { readings = words }) s.rings works refl refl
          works.stands.ringed works.followed

  -- so too of the core whose parts are named
  pub keeps_read : {s s' : State M P} (w : View) → s ≡ s' → Reads s.seat w → Working start span runs refused s'
      → Keeps start span runs refused s' (record s { seat = w })
  keeps_read {s} {s'} w same reads works =
      subst (λ (x : State M P). Keeps start span runs refused x (record s { seat = w })) same
      (reads_keeps s w reads (subst (λ (x : State M P). Working start span runs refused x) (sym same) works))

  -- a meta in hand may be put
  pub place_at : {e mid : State M P} (meta : ℕ) → e ≡ mid → Working start span runs refused mid → HasInHand start (ledger_of mid) meta → IsMetaPlace meta e.stock.pages
  place_at {e} {mid} meta same works has =
      subst (λ (s : State M P). IsMetaPlace meta s.stock.pages) (sym same)
      (subst (λ (n : ℕ). IsMetaPlace meta n) (sym works.space.stock) has.free.place)

  pub absent_at : {e mid : State M P} (meta : ℕ) → e ≡ mid → HasInHand start (ledger_of mid) meta → ¬ Contains (free_of e.stock) meta
  absent_at {e} {mid} meta same has = subst (λ (s : State M P). ¬ Contains (free_of s.stock) meta) (sym same) has.taken

  pub keeps_then : (before mid after : State M P) → Keeps start span runs refused before mid → Keeps start span runs refused mid after
      → Keeps start span runs refused before after
  keeps_then before mid after first second = record {
    working = second.working;
    on = goes_then before.seat mid.seat after.seat first.on second.on;
    hand = keeps_hand-trans (ledger_of before) (ledger_of mid) (ledger_of after) first.hand second.hand;
  }

  pub only_keeps : (class : ℕ) (before after : State M P) → OnlyRing class before after → Working start span runs refused after
      → Keeps start span runs refused before after
  only_keeps class before after only works = record { working = works; on = only_goes class before after only; hand = only_hand class before after only }

  -- the group of a slot that was returned ended, the one around it got its slot back, and its meta goes to the stock
  module _ (before whole ended mid : State M P) (meta : ℕ)
      (kept : Keeps start span runs refused before whole) (has : HasWhole whole.seat meta)
      (on : GoesOn whole.seat ended.seat) (comes : returning.ComesInHand meta (ledger_of whole) (ledger_of ended))
      (keeps : Keeps start span runs refused ended mid) where
    brings : Brings start meta (ledger_of before) (ledger_of mid)
    brings =
        let place = place_of start (span whole.mapper) (runs whole.mapper) (refused whole.mapper) (ledger_of whole) has.group meta kept.working has.there has.of_meta in
        let here = ended_brings start has.group meta (ledger_of whole) (ledger_of ended) place has.there has.of_meta comes in
        let first = brings_before start meta (ledger_of whole) (ledger_of ended) here (ledger_of before) kept.hand in
        brings_then start meta (ledger_of before) (ledger_of ended) first (ledger_of mid) keeps.hand

    pub has_ended : HasInHand start (ledger_of mid) meta
    has_ended = brings.has

    ended_keeps : Keeps start span runs refused before (record mid { stock = stocked mid.stock meta })
    ended_keeps = record {
      working = put_works start (span mid.mapper) (runs mid.mapper) (refused mid.mapper) (ledger_of mid) meta keeps.working has_ended;
      on = goes_then before.seat whole.seat mid.seat kept.on (goes_then whole.seat ended.seat mid.seat on keeps.on);
      hand = brings_put start meta (ledger_of before) (ledger_of mid) brings;
    }

    pub ends : {e : State M P} {put' : Stock} → e ≡ mid → put' ≡ stocked e.stock meta → Keeps start span runs refused before (record e { stock = put' })
    ends {e} {put'} same puts =
        subst (λ (x : Stock). Keeps start span runs refused before (record e { stock = x })) (sym puts)
        (subst (λ (s : State M P). Keeps start span runs refused before (record s { stock = stocked s.stock meta })) (sym same) ended_keeps)

-- ---- what a return tells

module _ {M P : Type 0} where
  -- the slot around one that ended is in the seat, of a group of a greater class
  pub around_above : {s now : State M P} (meta index class : ℕ) (found : LiveGroup) → s ≡ now → HasReturned now.seat meta index → IsAbove class now.seat meta
      → OfGroup s.seat meta (Describes found) → class < found.class
  around_above {s} {now} meta index class found same has is describes =
      above now.seat meta index class found has is (subst (λ (x : State M P). OfGroup x.seat meta (Describes found)) same describes)

  pub around_returned : {s now : State M P} (w : View) (meta index : ℕ) → s ≡ now → Reads s.seat w → HasReturned now.seat meta index → HasReturned w meta index
  around_returned {s} {now} w meta index same reads has = returned_read s.seat w meta index reads (subst (λ (x : State M P). HasReturned x.seat meta index) (sym same) has)

  -- the slot went back
  pub returns_back : (keeps : Spare → Bool → Type 0) (runs : M → List mapper.Run) (before after : State M P) (meta index : ℕ) (found : LiveGroup) (answer : Bool)
      → answer ≡ false → TakesWhole keeps before meta index found answer after → Returns keeps runs before meta index found after
  returns_back keeps runs before after meta index found answer is takes =
      ([], inl (subst (λ (b : Bool). TakesWhole keeps before meta index found b after) is takes))

  -- the group ended
  module _ (gives : P → Spare → Bool → Type 0) (runs : M → List mapper.Run) (before taken : State M P) (meta index : ℕ) (found : LiveGroup) (answer : Bool)
      (is : answer ≡ true) (takes : TakesWhole (gives before.rules) before meta index found answer taken) where
    taken_whole : TakesWhole (gives before.rules) before meta index found true taken
    taken_whole = subst (λ (b : Bool). TakesWhole (gives before.rules) before meta index found b taken) is takes

    freed_then : (s now : State M P) (put' : Stock) → s ≡ now → put' ≡ stocked s.stock meta → record s { stock = put' } ≡ with_free now meta
    freed_then s now put' same puts = ap (λ (x : Stock). record s { stock = x }) puts ∙ ap (λ (x : State M P). with_free x meta) same

    -- with its run
    pub returns_run : {s now : State M P} (put' : Stock) → s ≡ now → put' ≡ stocked s.stock meta → Ends runs meta found None taken now
        → Returns (gives before.rules) runs before meta index found (record s { stock = put' })
    returns_run {s} {now} put' same puts ends =
        ([], inr (now, record { taken = taken; takes = taken_whole; ends = ends }, freed_then s now put' same puts))

    -- or in the slot of another, which was returned
    pub returns_slot : {e ended s back : State M P} (put' : Stock) (p i : ℕ) (carrying : LiveGroup) (looked : View) → e ≡ ended → Ends runs meta found (Some (p, i)) taken ended → ended.rules ≡ before.rules
        → ReadsFields e.seat p looked → Reads e.seat looked → OfGroup e.seat p (Describes carrying)
        → Returns (gives e.rules) runs (record e { seat = looked }) p i carrying back
        → s ≡ back → put' ≡ stocked s.stock meta
        → Returns (gives before.rules) runs before meta index found (record s { stock = put' })
    returns_slot {e} {ended} {s} {back} put' p i carrying looked named ends ruled fields reads describes (more, inner) same puts = (
      record { meta = p; index = i; found = carrying } ∷ more,
      (
        ended,
        looked,
        back,
        record { taken = taken; takes = taken_whole; ends = ends },
        (subst (λ (x : State M P). ReadsFields x.seat p looked) named fields, describes_read e.seat looked p carrying reads describes),
        subst (λ r. ReturnsOutwards (gives r) runs (record ended { seat = looked }) p i carrying more back) ruled
            (subst (λ (x : State M P). ReturnsOutwards (gives x.rules) runs (record x { seat = looked }) p i carrying more back) named inner),
        freed_then s back put' same puts,
      ),
    )
