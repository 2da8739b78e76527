-- What was found of a ring so far, and of the whole of it.
use Rattle.std.proofs.Common.{◌≡◌, ◌≢◌, ◌⊎◌, ℕ, ◌<◌, List, [], ◌++◌, length, Contains, sym, ap, ◌∙◌, subst, ⊎_elim, arith}
use Rattle.std.specs.Prelude.{Option, Some, None, IfSome}
use Rattle.std.proofs.lemmas.List.{append-nil}
use Rattle.ng_view.specs.Lists.{Among}
use Rattle.ng_view.specs.declared.view.View.{View}
use Rattle.ng_lists.specs.Rings.{after, before, next_in, rotated}
use Rattle.ng_lists.proofs.DistinctLemmas.{IsDistinct}
use Rattle.ng_lists.proofs.MemberLemmas.{Contains-next_in, rotated_has}
use Rattle.ng_lists.proofs.TableLemmas.{before-split}
use Rattle.ng_view.specs.Fetches.{HasGroup}
use Rattle.ng_serve.specs.Choices.{FindsAllBare, FindsBare, IsChoice}
use Rattle.ng_serve.specs.Groups.{RingLives}
use Rattle.ng_serve.specs.Reads.{AllBare, IsBareIn, Notes, NotesBy}
use Rattle.ng_serve.specs.declared.choosing.Choice.{Choice}
use Rattle.ng_serve.specs.declared.choosing.Offer.{Offer}
use Rattle.ng_serve.proofs.Readings.{all_then, bare_left, bare_right, notes_groups, notes_then}
use Rattle.ng_serve.proofs.Walks.{Step, next_rotated, rotated_distinct, step_of}

-- a choice from the ring
pub record IsFrom (ring : List ℕ) (v : View) (choice : Choice) : Type 0 where
  pub member : Contains ring choice.meta
  pub choice_is : IsChoice v choice

-- the metas before one were looked at: the best is from the ring, and where there is none, they were bare
pub record Walked (v : View) (ring : List ℕ) (start at : ℕ) (best : Option Offer) (w : View) : Type 0 where
  pub member : Contains ring at
  pub words : List (ℕ × ℕ)
  pub noted : NotesBy v words w
  pub found : IfSome best (λ offer. IsFrom ring w offer.choice)
  pub bare : best ≡ None → (m : ℕ) → Contains (before at (rotated start ring)) m → IsBareIn words m
  pub all : best ≡ None → AllBare words
  pub unmarked : best ≡ None → (m i : ℕ) → Contains (before at (rotated start ring)) m → ¬ Among {A = ℕ × ℕ} (m, i) v.desk.set_freed

-- this one was too
pub record Looked (v : View) (ring : List ℕ) (start at : ℕ) (best : Option Offer) (w : View) : Type 0 where
  pub words : List (ℕ × ℕ)
  pub noted : NotesBy v words w
  pub found : IfSome best (λ offer. IsFrom ring w offer.choice)
  pub bare : best ≡ None → (m : ℕ) → Contains (before at (rotated start ring)) m ⊎ (m ≡ at) → IsBareIn words m
  pub all : best ≡ None → AllBare words
  pub unmarked : best ≡ None → (m i : ℕ) → Contains (before at (rotated start ring)) m ⊎ (m ≡ at) → ¬ Among {A = ℕ × ℕ} (m, i) v.desk.set_freed

-- ---- what holds of groups and notes still does
pub walked_none : (v : View) (ring : List ℕ) (start : ℕ) → Contains ring start → Walked v ring start start None v
walked_none v ring start member = record {
  member = member;
  words = [];
  noted = record {
    view = ap (λ (l : List (ℕ × ℕ)). record v { readings = l }) (sym (append-nil v.readings));
    zero_avail = λ m s. s;
    zero_freed = λ m s. s;
    set_freed = λ b s. s;
  };
  found = tt;
  bare = λ none m s. absurd (nowhere m (subst (λ l. Contains l m) (before-first start ring) s));
  all = λ none word s. absurd s;
  unmarked = λ none m i s marked. nowhere m (subst (λ l. Contains l m) (before-first start ring) s);
}
  where
    nowhere : (m : ℕ) → Contains [] m → ⊥
    nowhere m (k, within, is) = omega arith

    before-first : (start : ℕ) (ring : List ℕ) → before start (rotated start ring) ≡ []
    before-first start ring = before-split [] start (after start ring ++ before start ring) (nowhere start)

pub lives_at : (v w : View) (words : List (ℕ × ℕ)) (ring : List ℕ) (class meta : ℕ) → NotesBy v words w → RingLives v.desk.groups ring class → Contains ring meta → HasGroup w meta
lives_at v w words ring class meta noted lives member =
    let here = lives meta member in
    record { group = here.group; there = subst (Among here.group) (sym (notes_groups v w words noted)) here.there; of_meta = here.of_meta }

from_then : (w u : View) (words : List (ℕ × ℕ)) (ring : List ℕ) (choice : Choice) → NotesBy w words u → IsFrom ring w choice → IsFrom ring u choice
from_then w u words ring choice noted from = record {
  member = from.member;
  choice_is = record {
    noted = noted.set_freed (choice.meta, choice.lowest) from.choice_is.noted;
    small = from.choice_is.small;
    within = λ g there e. from.choice_is.within g (subst (Among g) (notes_groups w u words noted) there) e;
  };
}

best_then : (w u : View) (words : List (ℕ × ℕ)) (ring : List ℕ) (best : Option Offer) → NotesBy w words u → IfSome best (λ offer. IsFrom ring w offer.choice) → IfSome best (λ offer. IsFrom ring u offer.choice)
best_then w u words ring None noted found = tt
best_then w u words ring (Some offer) noted found = from_then w u words ring offer.choice noted found

-- ---- one candidate more
module _ (v w u : View) (ring : List ℕ) (start at : ℕ) (kept : Option Offer) (walked : Walked v ring start at kept w) where
  pub looked_offer : (offer best : Offer) → Notes w u → IsChoice u offer.choice → offer.choice.meta ≡ at → (best ≡ offer) ⊎ (kept ≡ Some best) → Looked v ring start at (Some best) u
  looked_offer offer best notes choice of_meta which = record {
    words = walked.words ++ notes.words;
    noted = notes_then v w u walked.words notes.words walked.noted notes.noted;
    found = ⊎_elim
        (λ (new : best ≡ offer). subst (λ (o : Offer). IsFrom ring u o.choice) (sym new) (record { member = subst (Contains ring) (sym of_meta) walked.member; choice_is = choice }))
        (λ (old : kept ≡ Some best). subst (λ (o : Option Offer). IfSome o (λ offer. IsFrom ring u offer.choice)) old (best_then w u notes.words ring kept notes.noted walked.found))
        which;
    bare = λ none. absurd (some≢none none);
    all = λ none. absurd (some≢none none);
    unmarked = λ none. absurd (some≢none none);
  }
    where
      some≢none : Some best ≡ None → ⊥
      some≢none e = cc

  pub looked_bare : FindsBare w at u → Looked v ring start at kept u
  looked_bare finds = record {
    words = walked.words ++ finds.words;
    noted = notes_then v w u walked.words finds.words walked.noted finds.noted;
    found = best_then w u finds.words ring kept finds.noted walked.found;
    bare = λ none m s. ⊎_elim
        (λ (before_it : Contains (before at (rotated start ring)) m). bare_left walked.words finds.words m (walked.bare none m before_it))
        (λ (here : m ≡ at). bare_right walked.words finds.words m (subst (IsBareIn finds.words) (sym here) finds.bare))
        s;
    all = λ none. all_then walked.words finds.words (walked.all none) finds.all;
    unmarked = λ none m i s marked. ⊎_elim
        (λ (before_it : Contains (before at (rotated start ring)) m). walked.unmarked none m i before_it marked)
        (λ (here : m ≡ at). finds.unmarked i (subst (λ k. Among {A = ℕ × ℕ} (k, i) w.desk.set_freed) here (walked.noted.set_freed (m, i) marked)))
        s;
  }

-- ---- and the next
module _ (v u : View) (ring : List ℕ) (start at next : ℕ) (best : Option Offer) (distinct : IsDistinct ring) (from : Contains ring start) (member : Contains ring at) (is : next ≡ next_in ring at) where
  step : Step (rotated start ring) at next
  step = subst (Step (rotated start ring) at) (sym (is ∙ next_rotated ring start at distinct from member))
      (step_of (rotated start ring) at (rotated_distinct ring start distinct from) (rotated_has ring start at from member))

  pub walked_next : next ≢ start → Looked v ring start at best u → Walked v ring start next best u
  walked_next on looked = record {
    member = subst (Contains ring) (sym is) (Contains-next_in ring at member);
    words = looked.words;
    noted = looked.noted;
    found = looked.found;
    bare = λ none m s. looked.bare none m ((step.goes_on on).passed m s);
    all = looked.all;
    unmarked = λ none m i s. looked.unmarked none m i ((step.goes_on on).passed m s);
  }

  pub walked_less : next ≢ start → length (after next (rotated start ring)) < length (after at (rotated start ring))
  walked_less on = (step.goes_on on).less

  pub all_bare : next ≡ start → Looked v ring start at best u → best ≡ None → FindsAllBare v ring u
  all_bare ends looked none = record {
    words = looked.words;
    noted = looked.noted;
    bare = λ m s. looked.bare none m (step.ends ends m (rotated_has ring start m from s));
    all = looked.all none;
    unmarked = λ m i s. looked.unmarked none m i (step.ends ends m (rotated_has ring start m from s));
  }

pub looked_notes : (v u : View) (ring : List ℕ) (start at : ℕ) (best : Option Offer) → Looked v ring start at best u → Notes v u
looked_notes v u ring start at best looked = record { words = looked.words; noted = looked.noted }

pub notes_after : (v w u : View) (words : List (ℕ × ℕ)) → NotesBy v words w → Notes w u → Notes v u
notes_after v w u words noted notes = record { words = words ++ notes.words; noted = notes_then v w u words notes.words noted notes.noted }

-- ---- what the best is
pub best_is : (v u : View) (ring : List ℕ) (start at : ℕ) (best : Option Offer) (offer : Offer) → best ≡ Some offer → Looked v ring start at best u → IsFrom ring u offer.choice
best_is v u ring start at best offer is looked = subst (λ (o : Option Offer). IfSome o (λ offer. IsFrom ring u offer.choice)) is looked.found
