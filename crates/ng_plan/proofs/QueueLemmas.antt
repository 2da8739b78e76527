-- Posted blocks by name: one more at the end, and the first taken.
use Rattle.std.proofs.Common.{◌≡◌, ℕ, ◌+◌, ◌<◌, true, false, List, [], ◌∷◌, ◌++◌, length, Option, Some, None, eqb, get_or, set, drop, map, filter, refl, sym, ap, ◌∙◌, arith, ⊎_elim}
use Rattle.std.specs.Prelude.{find}
use Rattle.std.specs.Option.{option_map, option_to_list}
use Rattle.std.proofs.lemmas.Bool.{cases_eq, cases_Bool, eqb-true}
use Rattle.std.proofs.lemmas.List.{get_or_push, get_or_append_left, get_or-set_same, get_or-set_other, map-append, append-nil}
use Rattle.std.proofs.lemmas.List.Elements.{filter-append}
use Rattle.std.specs.declared.collections.VecDeque.{VecDeque}
use Rattle.std.specs.declared.alloc.Global.{Global}
use Rattle.ng_plan.specs.declared.step.Place.{Place}
use Rattle.ng_plan.specs.Turns.{Posted, without}
use Rattle.ng_plan.specs.Blocks.{blocks_of, AreQueues}
use Rattle.ng_plan.specs.Tables.{Rises}
use Rattle.ng_plan.proofs.TableLemmas.{apart, eqb-same, eqb-other}

blocks_of-append : (name : ℕ) (a b : List Posted) → blocks_of name (a ++ b) ≡ blocks_of name a ++ blocks_of name b
blocks_of-append name a b = ap (λ (bs : List Posted). map (λ (block : Posted). block.maker) bs) (filter-append (λ (block : Posted). eqb block.name name) a b) ∙ map-append (λ (block : Posted). block.maker) (filter (λ (block : Posted). eqb block.name name) a) (filter (λ (block : Posted). eqb block.name name) b)

one_here : (name : ℕ) (block : Posted) → eqb block.name name ≡ true → blocks_of name (block ∷ []) ≡ block.maker ∷ []
one_here name block is = rw is refl

one_there : (name : ℕ) (block : Posted) → eqb block.name name ≡ false → blocks_of name (block ∷ []) ≡ []
one_there name block is = rw is refl

-- the first block of a name, and the others of the name
pub blocks_of-first : (name : ℕ) (blocks : List Posted) → blocks_of name blocks ≡ option_to_list (option_map (λ (block : Posted). block.maker) (find (λ (block : Posted). eqb block.name name) blocks)) ++ blocks_of name (without name blocks)
blocks_of-first name [] = refl
blocks_of-first name (block ∷ blocks) = ⊎_elim
    (λ yes. rw yes refl)
    (λ other. rw other (rw other (blocks_of-first name blocks)))
    (cases_Bool (eqb block.name name))

-- what is taken leaves the blocks of other names
pub blocks_of-without : (name other : ℕ) (blocks : List Posted) → (other ≡ name → ⊥) → blocks_of other (without name blocks) ≡ blocks_of other blocks
blocks_of-without name other [] apart = refl
blocks_of-without name other (block ∷ blocks) apart = ⊎_elim
    (λ yes. rw yes (sym (blocks_of-append other (block ∷ []) blocks ∙ ap (λ (ps : List Place). ps ++ blocks_of other blocks) (one_there other block (eqb-other block.name other (λ same. apart (sym same ∙ eqb-true block.name name yes)))))))
    (λ differs. rw differs (blocks_of-append other (block ∷ []) (without name blocks) ∙ ap (λ (ps : List Place). blocks_of other (block ∷ []) ++ ps) (blocks_of-without name other blocks apart) ∙ sym (blocks_of-append other (block ∷ []) blocks)))
    (cases_Bool (eqb block.name name))

blocks_all : (names : List ℕ) (queues : List (VecDeque Place Global)) (blocks : List Posted) (at : ℕ) (block : Posted) (now : VecDeque Place Global) (i : ℕ) (none : VecDeque Place Global) → Rises names → length names ≡ length queues → at < length queues → i < length names → AreQueues names queues blocks → block.name ≡ get_or names at 0 → now.items ≡ blocks_of (get_or names at 0) blocks ++ block.maker ∷ [] → (get_or (set queues at now) i none).items ≡ blocks_of (get_or names i 0) (blocks ++ block ∷ [])
blocks_all names queues blocks at block now i none rising long within inside table named grown =
    rw (blocks_of-append (get_or names i 0) blocks (block ∷ [])) (⊎_elim
    (λ same. rw same (rw (get_or-set_same queues at now none within) (rw (one_here (get_or names at 0) block (eqb-same block.name (get_or names at 0) named)) grown)))
    (λ other. rw (get_or-set_other queues at i now none other) (rw (one_there (get_or names i 0) block (eqb-other block.name (get_or names i 0) (λ same. other (apart names i at rising inside (omega arith) (sym (sym named ∙ same)))))) (table.each i none inside ∙ sym (append-nil (blocks_of (get_or names i 0) blocks)))))
    (cases_eq i at))

-- a block is posted under its name
pub posted_at : (names : List ℕ) (queues : List (VecDeque Place Global)) (blocks : List Posted) (at : ℕ) (place : Place) (was now : VecDeque Place Global) → Rises names → length names ≡ length queues → at < length queues → was ≡ get_or queues at was → now.items ≡ was.items ++ place ∷ [] → AreQueues names queues blocks → AreQueues names (set queues at now) (blocks ++ record { name = get_or names at 0; maker = place } ∷ [])
posted_at names queues blocks at place was now rising long within is grown table =
    let block : Posted = record { name = get_or names at 0; maker = place } in
    let before : was.items ≡ blocks_of (get_or names at 0) blocks = ap (λ (q : VecDeque Place Global). q.items) is ∙ table.each at was (omega arith) in
    record {
      each = λ i none inside. blocks_all names queues blocks at block now i none rising long within inside table refl (grown ∙ ap (λ (ps : List Place). ps ++ place ∷ []) before);
    }

some_none : (place : Place) → Some place ≡ None → ⊥
some_none place same = cc

cons_nil : (place : Place) (places : List Place) → place ∷ places ≡ [] → ⊥
cons_nil place places same = cc

-- where no block has the name, none is left
none_left : (name : ℕ) (blocks : List Posted) → option_map (λ (block : Posted). block.maker) (find (λ (block : Posted). eqb block.name name) blocks) ≡ None → blocks_of name (without name blocks) ≡ []
none_left name [] none = refl
none_left name (block ∷ blocks) none = ⊎_elim
    (λ yes. absurd (some_none block.maker (rw yes at none)))
    (λ other. rw other (blocks_of-append name (block ∷ []) (without name blocks) ∙ ap (λ (ps : List Place). ps ++ blocks_of name (without name blocks)) (one_there name block other) ∙ none_left name blocks (rw other at none)))
    (cases_Bool (eqb block.name name))

-- a first element and the rest, read in two ways
first_is : (items : List Place) (r : Option Place) (rest : List Place) (o : Option Place) (ys : List Place) → items ≡ option_to_list r ++ rest → rest ≡ drop 1 items → items ≡ option_to_list o ++ ys → (o ≡ None → ys ≡ []) → (r ≡ o) × (rest ≡ ys)
first_is items (Some x) rest (Some y) ys a b c d = let e : x ∷ rest ≡ y ∷ ys = sym a ∙ c in (cc, cc)
first_is items None rest None ys a b c d = (refl, sym a ∙ c)
first_is items (Some x) rest None ys a b c d = let e : x ∷ rest ≡ [] = sym a ∙ c ∙ d refl in absurd (cons_nil x rest e)
first_is items None rest (Some y) ys a b c d =
    let e : rest ≡ ys = b ∙ ap (λ (l : List Place). drop 1 l) c in
    let f : ys ≡ y ∷ ys = sym e ∙ sym a ∙ c in
    absurd (omega (arith, ap length f))

-- the first block of a name is taken
pub taken_at : (names : List ℕ) (queues : List (VecDeque Place Global)) (blocks : List Posted) (at : ℕ) (was now : VecDeque Place Global) (r : Option Place) → length names ≡ length queues → at < length queues → was ≡ get_or queues at was → was.items ≡ option_to_list r ++ now.items → now.items ≡ drop 1 was.items → AreQueues names queues blocks → (r ≡ option_map (λ (block : Posted). block.maker) (find (λ (block : Posted). eqb block.name (get_or names at 0)) blocks)) × (now.items ≡ blocks_of (get_or names at 0) (without (get_or names at 0) blocks))
taken_at names queues blocks at was now r long within is items rest table =
    let name : ℕ = get_or names at 0 in
    let before : was.items ≡ blocks_of name blocks = ap (λ (q : VecDeque Place Global). q.items) is ∙ table.each at was (omega arith) in
    first_is was.items r now.items (option_map (λ (block : Posted). block.maker) (find (λ (block : Posted). eqb block.name name) blocks)) (blocks_of name (without name blocks)) items rest (before ∙ blocks_of-first name blocks) (none_left name blocks)

pub left_at : (names : List ℕ) (queues : List (VecDeque Place Global)) (blocks : List Posted) (at : ℕ) (now : VecDeque Place Global) → Rises names → length names ≡ length queues → at < length queues → now.items ≡ blocks_of (get_or names at 0) (without (get_or names at 0) blocks) → AreQueues names queues blocks → AreQueues names (set queues at now) (without (get_or names at 0) blocks)
left_at names queues blocks at now rising long within here table = record {
  each = λ i none inside. ⊎_elim
      (λ same. rw same (rw (get_or-set_same queues at now none within) here))
      (λ other. rw (get_or-set_other queues at i now none other) (table.each i none inside ∙ sym (blocks_of-without (get_or names at 0) (get_or names i 0) blocks (λ same. other (apart names i at rising inside (omega arith) same)))))
      (cases_eq i at);
}

-- one more empty queue
pub empty_more : (queues : List (VecDeque Place Global)) (one : VecDeque Place Global) (count : ℕ) → length queues ≡ count → one.items ≡ [] → ((i : ℕ) (none : VecDeque Place Global) → i < count → (get_or queues i none).items ≡ []) → (i : ℕ) (none : VecDeque Place Global) → i < count + 1 → (get_or (queues ++ one ∷ []) i none).items ≡ []
empty_more queues one count long empty so_far i none below = ⊎_elim
    (λ same. ap (λ (q : VecDeque Place Global). q.items) (get_or_push queues one none i (long ∙ sym same)) ∙ empty)
    (λ other. ap (λ (q : VecDeque Place Global). q.items) (get_or_append_left queues (one ∷ []) none i (omega arith)) ∙ so_far i none (omega arith))
    (cases_eq i count)
