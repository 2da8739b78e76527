-- Posted blocks and hand-offs that have no place twice.
use Rattle.std.proofs.Common.{◌≡◌, ◌≢◌, ℕ, ◌<◌, List, [], ◌∷◌, ◌++◌, get_or, Option, Some, None, eqb, sym, ap, subst, arith, ⊎_elim, append-nil}
use Rattle.std.specs.Prelude.{All}
use Rattle.std.proofs.lemmas.Bool.{cases_Bool}
use Rattle.std.proofs.lemmas.List.Elements.{All-append, All-cons, All-head, All-nil, All-tail, All-weaker}
use Rattle.ng_plan.specs.declared.step.Place.{Place}
use Rattle.ng_plan.specs.SoundTurns.{Apart, AreApart, IsDone}
use Rattle.ng_plan.specs.Turns.{HandOff, Posted, earliest, posted_by, without}

none_block : (block : Posted) → None ≡ Some block → ⊥
none_block block same = cc

same_block : (first block : Posted) → Some first ≡ Some block → first ≡ block
same_block first block same = cc

-- what is left of the posted blocks
pub without_all : (P : Posted → Type 0) (name : ℕ) (blocks : List Posted) → All P blocks → All P (without name blocks)
without_all P name [] all = all
without_all P name (block ∷ blocks) all = ⊎_elim
    (λ yes. rw yes (All-tail P block blocks all))
    (λ other. rw other (All-cons P block (without name blocks) (All-head P block blocks all) (without_all P name blocks (All-tail P block blocks all))))
    (cases_Bool (eqb block.name name))

pub earliest_all : (P : Posted → Type 0) (name : ℕ) (blocks : List Posted) (block : Posted) → All P blocks → earliest name blocks ≡ Some block → P block
earliest_all P name [] block all is = absurd (none_block block is)
earliest_all P name (first ∷ blocks) block all is = ⊎_elim
    (λ yes. subst P (same_block first block (rw yes at is)) (All-head P first blocks all))
    (λ other. earliest_all P name blocks block (All-tail P first blocks all) (rw other at is))
    (cases_Bool (eqb first.name name))

-- one more at the end
apart_push : {A : Type 0} (place : A → Place) (xs : List A) (y : A) → Apart place xs → All (λ x. place x ≢ place y) xs → Apart place (xs ++ y ∷ [])
apart_push place [] y apart other = (All-nil (λ x. place y ≢ place x), tt)
apart_push place (x ∷ xs) y apart other =
    (All-append (λ z. place x ≢ place z) xs (y ∷ []) apart.0 (All-cons (λ z. place x ≢ place z) y [] (All-head (λ z. place z ≢ place y) x xs other) (All-nil (λ z. place x ≢ place z))), apart_push place xs y apart.1 (All-tail (λ z. place z ≢ place y) x xs other))

-- what is done isn't the next op
done_apart : (done : List ℕ) (log : ℕ) (place : Place) → IsDone done place → place ≢ record { log = log; op = get_or done log 0 }
done_apart done log place is = λ same.
    let op : place.op ≡ get_or done log 0 = ap (λ (p : Place). p.op) same in
    let had : get_or done place.log 0 ≡ get_or done log 0 = ap (λ (p : Place). get_or done p.log 0) same in
    let before : place.op < get_or done place.log 0 = is.before in
    absurd (omega arith)

-- what is handed off is apart from one more block
gone_push : (posted : List Posted) (block : Posted) (handoffs : List HandOff) → All (λ (h : HandOff). All (λ (b : Posted). h.maker ≢ b.maker) posted) handoffs → All (λ (h : HandOff). h.maker ≢ block.maker) handoffs → All (λ (h : HandOff). All (λ (b : Posted). h.maker ≢ b.maker) (posted ++ block ∷ [])) handoffs
gone_push posted block [] gone other = All-nil (λ (h : HandOff). All (λ (b : Posted). h.maker ≢ b.maker) (posted ++ block ∷ []))
gone_push posted block (h ∷ handoffs) gone other =
    All-cons (λ (h : HandOff). All (λ (b : Posted). h.maker ≢ b.maker) (posted ++ block ∷ [])) h handoffs
    (All-append (λ (b : Posted). h.maker ≢ b.maker) posted (block ∷ []) (All-head (λ (h : HandOff). All (λ (b : Posted). h.maker ≢ b.maker) posted) h handoffs gone) (All-cons (λ (b : Posted). h.maker ≢ b.maker) block [] (All-head (λ (h : HandOff). h.maker ≢ block.maker) h handoffs other) (All-nil (λ (b : Posted). h.maker ≢ b.maker))))
    (gone_push posted block handoffs (All-tail (λ (h : HandOff). All (λ (b : Posted). h.maker ≢ b.maker) posted) h handoffs gone) (All-tail (λ (h : HandOff). h.maker ≢ block.maker) h handoffs other))

-- what the next op of a log posts is apart from the others
pub posted_apart : (done : List ℕ) (log : ℕ) (posts : Option ℕ) (posted : List Posted) (handoffs : List HandOff) → AreApart posted handoffs → All (λ (b : Posted). IsDone done b.maker) posted → All (λ (h : HandOff). IsDone done h.maker) handoffs → AreApart (posted ++ posted_by (record { log = log; op = get_or done log 0 }) posts) handoffs
posted_apart done log None posted handoffs apart blocks makers = subst (λ (ps : List Posted). AreApart ps handoffs) (sym (append-nil posted)) apart
posted_apart done log (Some name) posted handoffs apart blocks makers =
    let place : Place = record { log = log; op = get_or done log 0 } in
    let block : Posted = record { name = name; maker = place } in
    record {
      blocks = apart_push (λ (b : Posted). b.maker) posted block apart.blocks (All-weaker (λ (b : Posted). IsDone done b.maker) (λ (b : Posted). b.maker ≢ place) (λ b is. done_apart done log b.maker is) posted blocks);
      makers = apart.makers;
      takers = apart.takers;
      gone = gone_push posted block handoffs apart.gone (All-weaker (λ (h : HandOff). IsDone done h.maker) (λ (h : HandOff). h.maker ≢ place) (λ h is. done_apart done log h.maker is) handoffs makers);
    }

without_apart : (name : ℕ) (posted : List Posted) → Apart (λ (b : Posted). b.maker) posted → Apart (λ (b : Posted). b.maker) (without name posted)
without_apart name [] apart = apart
without_apart name (block ∷ posted) apart = ⊎_elim
    (λ yes. rw yes apart.1)
    (λ other. rw other (without_all (λ (b : Posted). block.maker ≢ b.maker) name posted apart.0, without_apart name posted apart.1))
    (cases_Bool (eqb block.name name))

-- the block that is taken is apart from those that are left
first_apart : (name : ℕ) (posted : List Posted) (block : Posted) → Apart (λ (b : Posted). b.maker) posted → earliest name posted ≡ Some block → All (λ (b : Posted). block.maker ≢ b.maker) (without name posted)
first_apart name [] block apart found = absurd (none_block block found)
first_apart name (first ∷ posted) block apart found = ⊎_elim
    (λ yes. rw yes (subst (λ (b : Posted). All (λ (c : Posted). b.maker ≢ c.maker) posted) (same_block first block (rw yes at found)) apart.0))
    (λ other. rw other (All-cons (λ (b : Posted). block.maker ≢ b.maker) first (without name posted)
    (λ same. earliest_all (λ (b : Posted). first.maker ≢ b.maker) name posted block apart.0 (rw other at found) (sym same))
    (first_apart name posted block apart.1 (rw other at found))))
    (cases_Bool (eqb first.name name))

-- the hand-off of the earliest block of a name is apart from the others
pub handed_apart : (done : List ℕ) (log name : ℕ) (block : Posted) (posted : List Posted) (handoffs : List HandOff) → block.name ≡ name → AreApart posted handoffs → earliest name posted ≡ Some block → All (λ (h : HandOff). IsDone done h.taker) handoffs → AreApart (without block.name posted) (handoffs ++ record { maker = block.maker; taker = record { log = log; op = get_or done log 0 } } ∷ [])
handed_apart done log name block posted handoffs named apart found takers =
    let place : Place = record { log = log; op = get_or done log 0 } in
    let handoff : HandOff = record { maker = block.maker; taker = place } in
    rw named (record {
      blocks = without_apart name posted apart.blocks;
      makers = apart_push (λ (h : HandOff). h.maker) handoffs handoff apart.makers (All-weaker (λ (h : HandOff). All (λ (b : Posted). h.maker ≢ b.maker) posted) (λ (h : HandOff). h.maker ≢ block.maker) (λ h gone. earliest_all (λ (b : Posted). h.maker ≢ b.maker) name posted block gone found) handoffs apart.gone);
      takers = apart_push (λ (h : HandOff). h.taker) handoffs handoff apart.takers (All-weaker (λ (h : HandOff). IsDone done h.taker) (λ (h : HandOff). h.taker ≢ place) (λ h is. done_apart done log h.taker is) handoffs takers);
      gone = All-append (λ (h : HandOff). All (λ (b : Posted). h.maker ≢ b.maker) (without name posted)) handoffs (handoff ∷ [])
          (All-weaker (λ (h : HandOff). All (λ (b : Posted). h.maker ≢ b.maker) posted) (λ (h : HandOff). All (λ (b : Posted). h.maker ≢ b.maker) (without name posted)) (λ h gone. without_all (λ (b : Posted). h.maker ≢ b.maker) name posted gone) handoffs apart.gone)
          (All-cons (λ (h : HandOff). All (λ (b : Posted). h.maker ≢ b.maker) (without name posted)) handoff [] (first_apart name posted block apart.blocks found) (All-nil (λ (h : HandOff). All (λ (b : Posted). h.maker ≢ b.maker) (without name posted))));
    })
