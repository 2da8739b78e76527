-- The metas that a call has in hand, when the stock, the groups and the areas change.
use Rattle.std.proofs.Common.{◌≡◌, ◌≢◌, ◌⊎◌, ℕ, ◌+◌, ◌*◌, ◌≤◌, List, [], ◌∷◌, ◌++◌, drop, AllPairs, Contains, Some, sym, subst, ⊎_elim, arith}
use Rattle.std.specs.List.{slice_get}
use Rattle.std.proofs.lemmas.List.Elements.{Contains-append_cases, Contains-append_left, Contains-append_right, Contains-push}
use Rattle.ng_shelf.specs.Stock.{Stock, free_of, metas_of}
use Rattle.ng_view.specs.Conditions.{IsBlanked}
use Rattle.ng_view.specs.Layouts.{InArea}
use Rattle.ng_view.specs.LockSteps.{groups_but, runs_but}
use Rattle.ng_view.specs.declared.view.Group.{Group}
use Rattle.ng_view.specs.declared.view.Layout.{Layout}
use Rattle.ng_view.specs.declared.view.Run.{Run}
use Rattle.ng_view.specs.declared.view.View.{View}
use Rattle.ng_ledger.specs.Metas.{AreFree, IsInHand}
use Rattle.ng_ledger.specs.Standing.{InHand, KeepsHand, Ledger}
use Rattle.ng_ledger.proofs.AreaLemmas.{IsOfArea, area_was}
use Rattle.ng_ledger.proofs.ElementLemmas.{cases_contains, contains_drop, contains_get, contains_rest, first_not_behind}
use Rattle.ng_ledger.proofs.GroupLemmas.{unborn_before, unborn_dropped, unborn_fewer, unborn_more, unborn_stays}
use Rattle.ng_ledger.proofs.MetaLemmas.{area_contains, of_area, put_cases, stock_area}
use Rattle.ng_ledger.proofs.RunLemmas.{as_area}

module _ (d : Layout) (gs : List Group) (free : List ℕ) where
  -- ---- a meta is taken

  -- it is in hand then
  pub hand_taken : (pages : ℕ) (cells : List (ℕ × ℕ)) (left : List ℕ) (m : ℕ) → AreFree pages d gs cells free → AllPairs (λ n other. n ≢ other) free → slice_get free 0 ≡ Some m → left ≡ drop 1 free → IsInHand d gs left m
  hand_taken pages cells left m are distinct first rest =
      let is = are m (contains_get free m first) in
      record { area = is.area; unborn = is.unborn; taken = λ in'. first_not_behind free m distinct first (subst (λ xs. Contains xs m) rest in') }

  -- what was in hand still is
  pub hand_taken_more : (left : List ℕ) (n : ℕ) → left ≡ drop 1 free → IsInHand d gs free n → IsInHand d gs left n
  hand_taken_more left n rest hand = record {
    area = hand.area;
    unborn = hand.unborn;
    taken = λ in'. hand.taken (contains_drop free n (subst (λ xs. Contains xs n) rest in'));
  }

  -- and no other is
  pub hand_taken_other : (left : List ℕ) (m n : ℕ) → slice_get free 0 ≡ Some m → left ≡ drop 1 free → IsInHand d gs left n → n ≢ m → IsInHand d gs free n
  hand_taken_other left m n first rest hand other = record {
    area = hand.area;
    unborn = hand.unborn;
    taken = λ in'. hand.taken (subst (λ xs. Contains xs n) (sym rest) (contains_rest free m n first in' other));
  }

  -- ---- a group comes

  -- its meta is in hand no more, and others are if they were
  pub hand_born_was : (g : Group) (n : ℕ) → IsInHand d (g ∷ gs) free n → IsInHand d gs free n × (g.meta ≢ n)
  hand_born_was g n hand =
      let parts = unborn_fewer gs g n hand.unborn in
      (record { area = hand.area; unborn = parts.0; taken = hand.taken }, parts.1)

  pub hand_born_other : (g : Group) (n : ℕ) → IsInHand d gs free n → g.meta ≢ n → IsInHand d (g ∷ gs) free n
  hand_born_other g n hand other = record { area = hand.area; unborn = unborn_more gs g n hand.unborn other; taken = hand.taken }

  -- ---- a group goes

  -- its meta is in hand then
  pub hand_retired : (m : ℕ) → InArea d m → ¬ Contains free m → IsInHand d (groups_but m gs) free m
  hand_retired m area out = record { area = area; unborn = unborn_dropped gs m; taken = out }

  -- what was in hand still is
  pub hand_retired_more : (m n : ℕ) → IsInHand d gs free n → IsInHand d (groups_but m gs) free n
  hand_retired_more m n hand = record { area = hand.area; unborn = unborn_stays gs m n hand.unborn; taken = hand.taken }

  -- and no other is
  pub hand_retired_other : (m n : ℕ) → IsInHand d (groups_but m gs) free n → n ≢ m → IsInHand d gs free n
  hand_retired_other m n hand other = record { area = hand.area; unborn = unborn_before gs m n hand.unborn other; taken = hand.taken }

  -- ---- the layout changes
  pub hand_moved : (d' : Layout) (n : ℕ) → (InArea d n → InArea d' n) → IsInHand d gs free n → IsInHand d' gs free n
  hand_moved d' n stays hand = record { area = stays hand.area; unborn = hand.unborn; taken = hand.taken }

module _ (d : Layout) (gs : List Group) (s : Stock) where
  -- ---- a meta is put in the stock

  -- it is in hand no more, and others are if they were
  pub hand_put_was : (m n : ℕ) → IsInHand d gs (free_of (record s { returned = s.returned ++ m ∷ [] })) n → IsInHand d gs (free_of s) n × (n ≢ m)
  hand_put_was m n hand = (
    record {
      area = hand.area;
      unborn = hand.unborn;
      taken = λ in'. hand.taken (older in');
    },
    λ same. hand.taken (Contains-append_left (s.returned ++ m ∷ []) s.unused n (subst (Contains (s.returned ++ m ∷ [])) (sym same) (Contains-push s.returned m))),
  )
    where
      older : Contains (free_of s) n → Contains (free_of (record s { returned = s.returned ++ m ∷ [] })) n
      older in' = ⊎_elim
          (λ (left : Contains s.returned n). Contains-append_left (s.returned ++ m ∷ []) s.unused n (Contains-append_left s.returned (m ∷ []) n left))
          (λ (right : Contains s.unused n). Contains-append_right (s.returned ++ m ∷ []) s.unused n right)
          (Contains-append_cases s.returned s.unused n in')

  pub hand_put_other : (m n : ℕ) → IsInHand d gs (free_of s) n → n ≢ m → IsInHand d gs (free_of (record s { returned = s.returned ++ m ∷ [] })) n
  hand_put_other m n hand other = record {
    area = hand.area;
    unborn = hand.unborn;
    taken = λ in'. ⊎_elim other hand.taken (put_cases s m n in');
  }

  -- ---- a run becomes an area, whose metas are put in the stock
  module _ (d' : Layout) (r : Run) (made : d'.runs ≡ as_area r ∷ runs_but r.addr d.runs) (none : free_of s ≡ []) where
    -- none is in hand that wasn't
    pub hand_area_was : (n : ℕ) → IsInHand d' gs (free_of (record s { unused = metas_of r.addr; area = r.addr })) n → IsInHand d gs (free_of s) n
    hand_area_was n hand = ⊎_elim
        (λ (of : IsOfArea r.addr n). absurd (hand.taken (subst (λ xs. Contains xs n) (sym (stock_area s r.addr none)) (area_contains r.addr n of))))
        (λ (area : InArea d n). record { area = area; unborn = hand.unborn; taken = λ in'. empty (subst (λ xs. Contains xs n) none in') })
        (area_was d d' r n made hand.area)
      where
        empty : ¬ Contains [] n
        empty (k, within, is) = absurd (omega arith)

    -- and what was in hand still is, where it is apart from the run
    pub hand_area_more : (n : ℕ) → (InArea d n → InArea d' n) → r.pages ≡ 1 → (n + 40 ≤ r.addr) ⊎ (r.addr + 4096 * r.pages ≤ n) → IsInHand d gs (free_of s) n → IsInHand d' gs (free_of (record s { unused = metas_of r.addr; area = r.addr })) n
    hand_area_more n stays page apart hand = record {
      area = stays hand.area;
      unborn = hand.unborn;
      taken = λ in'. out (of_area r.addr n (subst (λ xs. Contains xs n) (stock_area s r.addr none) in'));
    }
      where
        out : IsOfArea r.addr n → ⊥
        out of = ⊎_elim
            (λ (before : n + 40 ≤ r.addr). omega (arith, of.place))
            (λ (after : r.addr + 4096 * r.pages ≤ n). omega (arith, of.place, of.below))
            apart

-- where no meta is in hand, each meta without a live group is known to be 0
pub blanked : (pages : ℕ) (v : View) (free : List ℕ) → AreFree pages v.desk.layout v.desk.groups v.desk.cells free → ((m : ℕ) → ¬ IsInHand v.desk.layout v.desk.groups free m) → IsBlanked v
blanked pages v free are none m b whole area unborn low aligned = ⊎_elim
    (λ (in' : Contains free m). (are m in').blank b low aligned)
    (λ (out : ¬ Contains free m). absurd (none m (record { area = area; unborn = unborn; taken = out })))
    (cases_contains free m)

-- ---- the metas in hand over calls

pub keeps_hand-same : (l : Ledger) → KeepsHand l l
keeps_hand-same l = record { none_more = λ m hand. hand; none_less = λ m hand. hand; blank = λ m hand blank. blank }

pub keeps_hand-trans : (before mid after : Ledger) → KeepsHand before mid → KeepsHand mid after → KeepsHand before after
keeps_hand-trans before mid after first second = record {
  none_more = λ m hand. first.none_more m (second.none_more m hand);
  none_less = λ m hand. second.none_less m (first.none_less m hand);
  blank = λ m hand blank. second.blank m (first.none_less m hand) (first.blank m hand blank);
}

-- none is in hand after a call where none was before
pub keeps_hand-none : (before after : Ledger) → KeepsHand before after → ((m : ℕ) → ¬ InHand before m) → (m : ℕ) → ¬ InHand after m
keeps_hand-none before after keeps none m hand = none m (keeps.none_more m hand)
