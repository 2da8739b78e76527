-- What a door keeps when mail arrives, is collected and is posted.
use Rattle.std.proofs.Common.{◌≡◌, ◌≢◌, ℕ, ◌<◌, eqb, cond, ⊎_elim, Option, List, [], ◌∷◌, ◌++◌, length, map, get_or, set, sym, ap, ◌∙◌, arith, append_assoc, append-nil}
use Rattle.std.specs.List.Sorted.{IsPermutation}
use Rattle.std.proofs.lemmas.Bool.Decides.{nat_tests}
use Rattle.std.proofs.lemmas.List.{get_or-set_other, get_or-set_same, map_push}
use Rattle.std.proofs.lemmas.List.Elements.{filter-append}
use Rattle.crossbeam_queue.specs.Passes.{IsPassOf, Pass, view}
use Rattle.crossbeam_queue.specs.declared.array_queue.Doing.{Doing}
use Rattle.crossbeam_queue.specs.declared.array_queue.Slotted.{Slotted}
use Rattle.ng_post.specs.Doors.{goes_to, receiver_of, sent_to}
use Rattle.ng_post.proofs.BoxLemmas.{same_or_not}
use Rattle.std.proofs.lemmas.List.Sorted.{IsPermutation-append_left, IsPermutation-append_right, IsPermutation-trans}
use Rattle.ng_post.specs.declared.mail.Letter.{Letter}
use Rattle.ng_post.specs.declared.view.View.{View}
use Rattle.ng_post.specs.Letters.{Note, Pair, pair_of}
use Rattle.ng_post.specs.Box.{reader, sender}

-- what arrives is kept
pub kept-arrived : {N : Type 0} (arrived got : List Pair) (kept : List (Letter N)) (letter : Letter N)
    → IsPermutation arrived (got ++ map pair_of kept) → IsPermutation (arrived ++ pair_of letter ∷ []) (got ++ map pair_of (kept ++ letter ∷ []))
kept-arrived arrived got kept letter before =
    rw (map_push pair_of kept letter, ← append_assoc got (map pair_of kept) (pair_of letter ∷ []))
    (IsPermutation-append_left (pair_of letter ∷ []) arrived (got ++ map pair_of kept) before)

-- what is collected is kept no more
pub kept-collected : {N : Type 0} (arrived got : List Pair) (kept left : List (Letter N)) (pair : Pair)
    → IsPermutation arrived (got ++ map pair_of kept) → IsPermutation (map pair_of kept) (pair ∷ map pair_of left)
    → IsPermutation arrived ((got ++ pair ∷ []) ++ map pair_of left)
kept-collected arrived got kept left pair before moved =
    rw (append_assoc got (pair ∷ []) (map pair_of left))
    (IsPermutation-trans arrived (got ++ map pair_of kept) (got ++ pair ∷ map pair_of left) before
    (IsPermutation-append_right got (map pair_of kept) (pair ∷ map pair_of left) moved))

-- the view of the reader once a letter was taken out
pub reads-on : (v w : View) (note : Note) → v ≡ reader v.got → w ≡ record v { got = v.got ++ note ∷ [] } → w ≡ reader w.got
reads-on v w note before now =
    now ∙ ap (λ (u : View). record u { got = v.got ++ note ∷ [] }) before ∙ ap reader (sym (ap (λ (u : View). u.got) now))

pub arrives-on : (v w : View) (note : Note) (arrived : List Pair) → map (λ (n : Note). n.1) v.got ≡ arrived → w ≡ record v { got = v.got ++ note ∷ [] }
    → map (λ (n : Note). n.1) w.got ≡ arrived ++ note.1 ∷ []
arrives-on v w note arrived before now =
    ap (λ (u : View). map (λ (n : Note). n.1) u.got) now ∙ map_push (λ (n : Note). n.1) v.got note ∙ ap (λ l. l ++ note.1 ∷ []) before

-- what was posted is sent to its box, and to no other
pub to-posted : {N Q A : Type 0} (boxes : List (Slotted (Option (Letter N)) (Doing (Letter N) View) Q A)) (to : List (Pass (Letter N) View)) (key : Pass (Letter N) View)
    (receivers : List ℕ) (sent : List Pair) (pair : Pair) (log box : ℕ)
    → ((b : ℕ) (q : Slotted (Option (Letter N)) (Doing (Letter N) View) Q A) (p : Pass (Letter N) View) → b < length boxes
    → IsPassOf (get_or boxes b q) (get_or to b p) × (view (get_or to b p) ≡ sender log (sent_to receivers b sent)))
    → length to ≡ length boxes → receiver_of receivers pair.0 ≡ box → box < length boxes
    → ((q : Slotted (Option (Letter N)) (Doing (Letter N) View) Q A) → IsPassOf (get_or boxes box q) key)
    → ((p : Pass (Letter N) View) → view key ≡ record (view (get_or to box p)) { put = (view (get_or to box p)).put ++ pair ∷ [] })
    → (b : ℕ) (q : Slotted (Option (Letter N)) (Doing (Letter N) View) Q A) (p : Pass (Letter N) View) → b < length boxes
    → IsPassOf (get_or boxes b q) (get_or (set to box key) b p) × (view (get_or (set to box key) b p) ≡ sender log (sent_to receivers b (sent ++ pair ∷ [])))
to-posted boxes to key receivers sent pair log box before long is within fits put b q p lt = ⊎_elim
    (λ (here : b ≡ box).
    let same : get_or (set to box key) b p ≡ key = ap (λ i. get_or (set to box key) i p) here ∙ get_or-set_same to box key p (omega (arith, long)) in (
      rw (same, here) (fits q),
      ap view same ∙ put p ∙ ap (λ (v : View). record v { put = v.put ++ pair ∷ [] }) (before box q p within).1
          ∙ ap (sender log) (sym (sent_to-here receivers box sent pair is)) ∙ ap (λ i. sender log (sent_to receivers i (sent ++ pair ∷ []))) (sym here),
    ))
    (λ (apart : b ≢ box).
    let same : get_or (set to box key) b p ≡ get_or to b p = get_or-set_other to box b key p apart in (
      rw same (before b q p lt).0,
      ap view same ∙ (before b q p lt).1 ∙ ap (sender log) (sym (sent_to-else receivers b sent pair (λ h. apart (sym h ∙ is)))),
    ))
    (same_or_not b box)
  where
    sent_to-here : (receivers : List ℕ) (box : ℕ) (sent : List Pair) (pair : Pair) → receiver_of receivers pair.0 ≡ box → sent_to receivers box (sent ++ pair ∷ []) ≡ sent_to receivers box sent ++ pair ∷ []
    sent_to-here receivers box sent pair is = filter-append (goes_to receivers box) sent (pair ∷ []) ∙ ap (λ l. sent_to receivers box sent ++ l) (yes (receiver_of receivers pair.0) box pair is)
      where
        yes : (a b : ℕ) (pair : Pair) → a ≡ b → cond (eqb a b) (pair ∷ []) [] ≡ pair ∷ []
        yes a b pair is = grind (arith, nat_tests)

    sent_to-else : (receivers : List ℕ) (box : ℕ) (sent : List Pair) (pair : Pair) → receiver_of receivers pair.0 ≢ box → sent_to receivers box (sent ++ pair ∷ []) ≡ sent_to receivers box sent
    sent_to-else receivers box sent pair apart = filter-append (goes_to receivers box) sent (pair ∷ []) ∙ ap (λ l. sent_to receivers box sent ++ l) (not_so (receiver_of receivers pair.0) box pair apart) ∙ append-nil (sent_to receivers box sent)
      where
        not_so : (a b : ℕ) (pair : Pair) → a ≢ b → cond (eqb a b) (pair ∷ []) [] ≡ []
        not_so a b pair apart = grind (arith, nat_tests)
