-- Loads, one after another.
use Rattle.std.proofs.Common.{◌≡◌, ◌⊎◌, ⊎_elim, ℕ, ◌+◌, ◌%◌, ◌^◌, ◌≤◌, Bool, true, false, cond, eqb, eqb-true, eq-eqb, List, [], ◌∷◌, ◌++◌, length-append, map, refl, sym, ap, ◌∙◌, subst, inl, inr, arith}
use Rattle.std.specs.Prelude.{Option, Some, None}
use Rattle.std.specs.List.{find}
use Rattle.std.specs.Option.{option_map, option_or}
use Rattle.std.proofs.lemmas.List.Folds.{find-append}
use Rattle.ng_view.specs.Lists.{Among, count_of, times}
use Rattle.ng_view.specs.Blocks.{IsSet}
use Rattle.ng_view.specs.Steps.{learnt, loaded}
use Rattle.ng_view.specs.Tells.{Tells, TellsSlot}
use Rattle.ng_view.specs.declared.view.Held.{Held}
use Rattle.ng_view.specs.declared.view.Start.{Start}
use Rattle.ng_view.specs.declared.view.View.{View}
use Rattle.ng_space.specs.Callers.{Caller}
use Rattle.ng_space.specs.Leaving.{KeepsBook, Learns, LeavesAll}
use Rattle.ng_space.specs.Placed.{ArePlaced, IsSmall, LiesIn}
use Rattle.ng_view.specs.Places.{Owns}
use Rattle.ng_space.proofs.Leaving.{learns_cell, learns_itself}
use Rattle.ng_space.proofs.LeavingFrames.{leaves_all_then, leaves_itself, leaves_loaded}
use Rattle.ng_check.specs.Cells.{AreOnce, cell_at, loaded_in_turn}
use Rattle.ng_check.specs.Queries.{Query, cell}
use Rattle.ng_check.specs.Readings.{Goes, Reads}
use Rattle.ng_check.proofs.Growing.{grows_itself, grows_then}
use Rattle.ng_check.proofs.Options.{map_some}

-- ---- the view
pub loaded_more : (v : View) (cs : List (ℕ × ℕ)) (a x : ℕ) → loaded_in_turn v (cs ++ (a, x) ∷ []) ≡ loaded (loaded_in_turn v cs) a x
loaded_more v [] a x = refl
loaded_more v (c ∷ cs) a x = loaded_more (loaded v c.0 c.1) cs a x

-- it leaves all
pub leaves_loads : (v : View) (cs : List (ℕ × ℕ)) → LeavesAll v (loaded_in_turn v cs)
leaves_loads v [] = leaves_itself v
leaves_loads v (c ∷ cs) =
    leaves_all_then v (loaded v c.0 c.1) (loaded_in_turn (loaded v c.0 c.1) cs) (leaves_loaded v (loaded v c.0 c.1) c.0 c.1 refl) (leaves_loads (loaded v c.0 c.1) cs)

-- ---- once
times_more : (cs : List (ℕ × ℕ)) (a b y : ℕ) → times a (map (λ c. c.0) (cs ++ (b, y) ∷ [])) ≡ times a (map (λ c. c.0) cs) + count_of (eqb b a)
times_more [] a b y = omega arith
times_more (c ∷ cs) a b y = let ih = times_more cs a b y in omega (arith, ih)

absent : (cs : List (ℕ × ℕ)) (b : ℕ) → find (λ c. eqb c.0 b) cs ≡ None → times b (map (λ c. c.0) cs) ≡ 0
absent [] b e = refl
absent (c ∷ cs) b e = by_test (absent cs b) (eqb c.0 b) e
  where
    by_test : (find (λ c. eqb c.0 b) cs ≡ None → times b (map (λ c. c.0) cs) ≡ 0) → (t : Bool)
        → ◌≡◌ {A = Option (ℕ × ℕ)} (cond t (Some c) (find (λ c. eqb c.0 b) cs)) None → count_of t + times b (map (λ c. c.0) cs) ≡ 0
    by_test ih true e = absurd (cc)
    by_test ih false e = let z = ih e in omega (arith, z)

once_more : (cs : List (ℕ × ℕ)) (b y : ℕ) → find (λ c. eqb c.0 b) cs ≡ None → AreOnce cs → AreOnce (cs ++ (b, y) ∷ [])
once_more cs b y none once a = subst (λ n. n ≤ 1) (sym (times_more cs a b y)) (by_test (eqb b a) refl)
  where
    by_test : (t : Bool) → eqb b a ≡ t → times a (map (λ c. c.0) cs) + count_of t ≤ 1
    by_test true e =
        let zero : times a (map (λ c. c.0) cs) ≡ 0 = subst (λ n. times n (map (λ c. c.0) cs) ≡ 0) (eqb-true b a e) (absent cs b none) in omega (arith, zero)
    by_test false e = let was = once a in omega (arith, was)

-- ---- cells
none_of : {A B : Type 0} (f : A → B) (o : Option A) → option_map f o ≡ None → o ≡ None
none_of f None e = refl
none_of f (Some x) e = absurd (cc)

pub cell_here : (cs : List (ℕ × ℕ)) (a x : ℕ) → find (λ c. eqb c.0 a) cs ≡ None → cell_at a (cs ++ (a, x) ∷ []) ≡ Some (x % 2 ^ 32)
cell_here cs a x none =
    ap (option_map (λ c. c.1 % 2 ^ 32)) (find-append (λ c. eqb c.0 a) cs ((a, x) ∷ []) ∙ (λ k. option_or (none k) (cond (eq-eqb a a refl k) (Some (a, x)) None)))

pub cell_kept : (cs : List (ℕ × ℕ)) (b y a x : ℕ) → cell_at a cs ≡ Some x → cell_at a (cs ++ (b, y) ∷ []) ≡ Some x
cell_kept cs b y a x e =
    let first = map_some (λ c. c.1 % 2 ^ 32) (find (λ c. eqb c.0 a) cs) x e in
    ap (option_map (λ c. c.1 % 2 ^ 32)) (find-append (λ c. eqb c.0 a) cs ((b, y) ∷ []) ∙ ap (λ o. option_or o (find (λ c. eqb c.0 a) ((b, y) ∷ []))) first.1)
    ∙ ap (λ n. Some n) first.2

-- ---- what a word tells of the hand as it was
among-map : (t : Held → Held) (hs : List Held) (h : Held) → Among h hs → Among (t h) (map t hs)
among-map t [] h there = absurd there
among-map t (y ∷ hs) h (inl e) = inl (ap t e)
among-map t (y ∷ hs) h (inr later) = inr (among-map t hs h later)

learns_then : (h k l : Held) → Learns h k → Learns k l → Learns h l
learns_then h k l one two = record {
  place = two.place ∙ one.place;
  block = two.block ∙ one.block;
  cells = λ a x p s. two.cells a x p (one.cells a x p s);
}

pub still_held : (v : View) (cs : List (ℕ × ℕ)) (h : Held) → Among h v.held → (k : Held) × Among k (loaded_in_turn v cs).held × Learns h k
still_held v [] h there = (h, there, learns_itself h)
still_held v (c ∷ cs) h there =
    let one : Held = learnt c.0 c.1 h in
    let rest = still_held (loaded v c.0 c.1) cs one (among-map (learnt c.0 c.1) v.held h there) in
    (rest.0, rest.1, learns_then h one rest.0 (learns_cell c.0 c.1 h) rest.2)

tells_less : (key : Start) (h k : Held) (a x : ℕ) → Learns h k → IsSet h h.block → TellsSlot key k a x → TellsSlot key h a x
tells_less key h k a x l set told =
    let t : TellsSlot key (record k { place = h.place; block = h.block }) a x = subst (λ (z : Held). TellsSlot key z a x) (λ i. record k { place = l.place i; block = l.block i }) told in record {
      index = t.index;
      kind = t.kind;
      live = t.live;
      few = t.few;
      whole = t.whole;
      meta = t.meta;
      above = t.above;
      below = t.below;
      lies = t.lies;
      block = set;
      mem = t.mem;
      mem_high = t.mem_high;
      flags = t.flags;
      flags_high = t.flags_high;
      avail = t.avail;
      freed = t.freed;
      base = t.base;
      base_high = t.base_high;
      check = t.check;
      check_high = t.check_high;
      end = t.end;
      known = λ y s. t.known y (l.cells a y tt s);
    }

tells_before : (key : Start) (v : View) (cs : List (ℕ × ℕ)) (a x : ℕ) → ((b y : ℕ) → Among {A = ℕ × ℕ} (b, y) cs → Tells key v b y × ArePlaced key v × IsSmall v b y) → Tells key (loaded_in_turn v cs) a x → Tells key v a x
tells_before key v [] a x all told = told
tells_before key v (c ∷ cs) a x all told = record {
  slots = λ h there.
      let still = still_held v (c ∷ cs) h there in
      tells_less key h still.0 a x still.2 ((all c.0 c.1 (inl refl)).0.slots h there).block (told.slots still.0 still.1);
  active = told.active;
  rest = told.rest;
}

placed_before : (key : Start) (v : View) (cs : List (ℕ × ℕ)) → ArePlaced key (loaded_in_turn v cs) → ArePlaced key v
placed_before key v cs placed h there =
    let still = still_held v cs h there in subst (LiesIn key) still.2.place (placed still.0 still.1)

small_before : (v : View) (cs : List (ℕ × ℕ)) (a x : ℕ) → IsSmall (loaded_in_turn v cs) a x → IsSmall v a x
small_before v cs a x small h there owns =
    let still = still_held v cs h there in small still.0 still.1 (subst (λ p. Owns p a) (sym still.2.place) owns)

-- ---- the steps
among_last : (cs : List (ℕ × ℕ)) (c d : ℕ × ℕ) → Among d (cs ++ c ∷ []) → Among d cs ⊎ (d ≡ c)
among_last [] c d (inl e) = inr e
among_last [] c d (inr never) = absurd never
among_last (b ∷ cs) c d (inl e) = inl (inl e)
among_last (b ∷ cs) c d (inr there) = ⊎_elim (λ was. inl (inr was)) (λ e. inr e) (among_last cs c d there)

keeps_then : (one two three : Caller) → KeepsBook one two → KeepsBook two three → KeepsBook one three
keeps_then one two three a b = record { number = b.number ∙ a.number; spare = b.spare ∙ a.spare; entries = b.entries ∙ a.entries }

pub goes_itself : (key : Start) (n : ℕ) (q : Query) (hand : Caller) → Goes key n q hand q hand
goes_itself key n q hand = record { reads = λ before r. r; grows = grows_itself q; few = omega arith }

pub goes_then : (key : Start) (m n k : ℕ) (p q r : Query) (one two three : Caller) → m + n ≤ k → Goes key m p one q two → Goes key n q two r three → Goes key k p one r three
goes_then key m n k p q r one two three le a b =
    let first = a.few in let second = b.few in record {
      reads = λ before s. b.reads before (a.reads before s);
      grows = grows_then p q r a.grows b.grows;
      few = omega arith;
    }

-- a load of a cell that wasn't loaded before
module _ (key : Start) (q : Query) (hand after : Caller) (a x : ℕ) (none : cell q a ≡ None) (view : after.view ≡ loaded hand.view a x) (told : Tells key hand.view a x) (placed : ArePlaced key hand.view) (small : IsSmall hand.view a x) (book : KeepsBook hand after) where
  abbrev r : Query
  r = record q { cells = q.cells ++ (a, x) ∷ [] }

  absent_there : find (λ c. eqb c.0 a) q.cells ≡ None
  absent_there = none_of (λ c. c.1 % 2 ^ 32) (find (λ c. eqb c.0 a) q.cells) none

  pub loads_cell : cell r a ≡ Some (x % 2 ^ 32)
  loads_cell = cell_here q.cells a x absent_there

  reads_more : (before : Caller) → Reads key before q hand → Reads key before r after
  reads_more before s = record {
    view = view ∙ ap (λ v. loaded v a x) s.view ∙ sym (loaded_more before.view q.cells a x);
    once = once_more q.cells a x absent_there s.once;
    told = λ b y there. ⊎_elim (λ was. s.told b y was) (λ (e : (b, y) ≡ (a, x)). (
      subst (λ (c : ℕ × ℕ). Tells key before.view c.0 c.1) (sym e) (tells_before key before.view q.cells a x s.told (subst (λ v. Tells key v a x) s.view told)),
      placed_before key before.view q.cells (subst (ArePlaced key) s.view placed),
      subst (λ (c : ℕ × ℕ). IsSmall before.view c.0 c.1) (sym e) (small_before before.view q.cells a x (subst (λ v. IsSmall v a x) s.view small)),
    )) (among_last q.cells (a, x) (b, y) there);
    book = keeps_then before hand after s.book book;
  }

  pub loads : Goes key 1 q hand r after
  loads = record {
    reads = reads_more;
    grows = record { same = refl; cells = λ b y e. cell_kept q.cells a x b y e };
    few = (let l = length-append q.cells ((a, x) ∷ []) in omega (arith, l));
  }

  -- the same where the reader is seen as another query, which has that cell more
  is_more : (p s : Query) → p ≡ q → s ≡ record p { cells = s.cells } → s.cells ≡ p.cells ++ (a, x) ∷ [] → r ≡ s
  is_more p s was same more =
      let cells : s.cells ≡ q.cells ++ (a, x) ∷ [] = more ∙ ap (λ (y : Query). y.cells ++ (a, x) ∷ []) was in
      sym (same ∙ (λ i. record (was i) { cells = cells i }))

  pub loads_as : (p s : Query) → p ≡ q → s ≡ record p { cells = s.cells } → s.cells ≡ p.cells ++ (a, x) ∷ [] → Goes key 1 q hand s after
  loads_as p s was same more = subst (λ y. Goes key 1 q hand y after) (is_more p s was same more) loads

  pub loads_cell_as : (p s : Query) → p ≡ q → s ≡ record p { cells = s.cells } → s.cells ≡ p.cells ++ (a, x) ∷ [] → cell s a ≡ Some (x % 2 ^ 32)
  loads_cell_as p s was same more = subst (λ y. cell y a ≡ Some (x % 2 ^ 32)) (is_more p s was same more) loads_cell
