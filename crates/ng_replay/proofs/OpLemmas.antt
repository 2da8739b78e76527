-- An op of a log by its hand: a block in, the call, and a block off.
use Rattle.std.proofs.Common.{◌≡◌, ℕ, zero, suc, ◌+◌, ◌-◌, ◌<◌, ◌≤◌, List, [], ◌∷◌, ◌++◌, Option, Some, None, length, get_or, take, drop, arith, refl, ap, sym, subst, ◌∙◌}
use Rattle.std.specs.Prelude.{IfSome}
use Rattle.std.proofs.Math.ListN.{set}
use Rattle.std.proofs.lemmas.List.{append-nil, map-append, map-set, take_all}
use Rattle.std.proofs.lemmas.List.Sums.{sum_by-set}
use Rattle.ng_space.specs.Leaving.{Leaves}
use Rattle.ng_heap.specs.Keeps.{sent_one}
use Rattle.ng_space.specs.Blocks.{BlockToken, HasFramed}
use Rattle.ng_space.specs.Callers.{Caller}
use Rattle.ng_space.specs.Parcels.{ParcelToken}
use Rattle.ng_terms.specs.declared.plan.Op.{Op}
use Rattle.ng_terms.specs.declared.plan.Origin.{Origin}
use Rattle.ng_terms.specs.declared.reply.Reply.{Reply}
use Rattle.ng_terms.specs.Calls.{handed_as, origin_of, standing}
use Rattle.ng_replay.specs.Serial.{AreApartFrom, AreHeld, IsVacant, KeepsBalance, at_of_parcel, handed_after, handed_in, handed_with, handed_without, one_of, places_of, row_after, row_without, staying}
use Rattle.ng_replay.specs.Serving.{IsApartFrom, at_of}
use Rattle.ng_replay.proofs.MoveLemmas.{HasFramed-beside}
use Rattle.ng_replay.proofs.RowLemmas.{AreHeld-kept, AreHeld-push, at_of_parcel-none, get_or-handed_in, handed_in-without, places_of-without, set-none}

drop-past : {X : Type 0} → (n : ℕ) (xs : List X) → length xs ≤ n → drop n xs ≡ []
drop-past zero [] past = refl
drop-past zero (x ∷ xs) past = absurd (omega arith)
drop-past (suc n) [] past = refl
drop-past (suc n) (x ∷ xs) past = drop-past n xs (omega arith)

-- what a vector holds once a slice of all of it was written
pub written_back : {X : Type 0} → (left read old : List X) (len : ℕ) → length left ≡ length read → read ≡ old → length read ≡ len
    → take len (left ++ drop (length left) old) ≡ left
written_back left read old len same is long =
    ap (λ (rest : List _). take len (left ++ rest)) (drop-past (length left) old (omega (arith, ap length is)))
    ∙ ap (take len) (append-nil left)
    ∙ take_all len left (omega arith)

-- ---- a block off
-- nothing goes under a number where no block stands
pub handed_in-nothing : (given : Option ℕ) (block : Option BlockToken) (parcels : List (Option ParcelToken)) → block ≡ None → IsVacant given parcels
    → handed_in parcels ≡ handed_with given (at_of block) (handed_in parcels)
handed_in-nothing None block parcels none vacant = refl
handed_in-nothing (Some number) block parcels none vacant =
    sym (ap (λ (b : Option BlockToken). set (handed_in parcels) (number - 1) (at_of b)) none
    ∙ set-none (handed_in parcels) (number - 1) (get_or-handed_in parcels (number - 1) ∙ ap at_of_parcel (vacant number refl)))

pub handed_in-sent : (given : Option ℕ) (number : ℕ) (block : Option BlockToken) (token : BlockToken) (parcels : List (Option ParcelToken)) (put : Option ParcelToken) (parcel : ParcelToken)
    → given ≡ Some number → block ≡ Some token → put ≡ Some parcel → parcel.block ≡ token
    → handed_in (set parcels (number - 1) put) ≡ handed_with given (at_of block) (handed_in parcels)
handed_in-sent given number block token parcels put parcel is block_is put_is same =
    map-set at_of_parcel parcels (number - 1) put
    ∙ ap (λ (p : Option ParcelToken). set (handed_in parcels) (number - 1) (at_of_parcel p)) put_is
    ∙ ap (λ (b : BlockToken). set (handed_in parcels) (number - 1) (Some b.at)) same
    ∙ sym (ap (λ (b : Option BlockToken). set (handed_in parcels) (number - 1) (at_of b)) block_is)
    ∙ sym (ap (λ (g : Option ℕ). handed_with g (at_of block) (handed_in parcels)) is)

pub AreHeld-sent : (before after : Caller) (block : Option BlockToken) (token : BlockToken) → block ≡ Some token → after.number ≡ before.number
    → Leaves token.slot (sent_one before.view) after.view → (row : List (Option BlockToken)) → AreApartFrom block row → AreHeld before row → AreHeld after row
AreHeld-sent before after block token is number leaves row apart held =
    AreHeld-kept before after row
    (λ op other at framed. HasFramed-beside before after token.slot number (record { slots = leaves.others.slots; back = leaves.others.back }) other
    (subst (λ (b : Option BlockToken). IsApartFrom b other) is (apart op other at)) framed) held

-- one parcel more is on its way, in a place that had none
pub KeepsBalance-sent : (before after : Caller) (parcels : List (Option ParcelToken)) (i : ℕ) (parcel d : Option ParcelToken) (token : ParcelToken)
    → i < length parcels → get_or parcels i d ≡ None → parcel ≡ Some token → after.view.sent ≡ before.view.sent + 1
    → after.view.taken ≡ before.view.taken → KeepsBalance before after parcels (set parcels i parcel)
KeepsBalance-sent before after parcels i parcel d token below none some_one sent taken =
    omega (arith, sum_by-set one_of parcels i parcel d below, ap one_of none, ap one_of some_one, sent, taken)

-- ---- the op
pub IsVacant-left : (given : Option ℕ) (origin : Origin) (parcels left : List (Option ParcelToken)) → left ≡ handed_without origin parcels
    → IsVacant given (handed_without origin (handed_in parcels)) → IsVacant given left
IsVacant-left given origin parcels left same vacant number is =
    at_of_parcel-none (get_or left (number - 1) None)
    (sym (get_or-handed_in left (number - 1)) ∙ ap (λ (l : List (Option ℕ)). get_or l (number - 1) None) (ap handed_in same ∙ handed_in-without origin parcels) ∙ vacant number is)

at_of-staying : (given : Option ℕ) (block : Option BlockToken) → at_of (staying given block) ≡ staying given (at_of block)
at_of-staying None block = refl
at_of-staying (Some number) block = refl

pub places_of-after : (op : Op) (reply : Reply) (row left now : List (Option BlockToken)) (made block : Option BlockToken)
    → left ≡ row_without (origin_of op) row → now ≡ left ++ block ∷ [] → block ≡ staying (handed_as op) made
    → at_of made ≡ standing reply → places_of now ≡ row_after op reply (places_of row)
places_of-after op reply row left now made block left_is now_is block_is stands =
    ap places_of now_is ∙ map-append at_of left (block ∷ [])
    ∙ ap (λ (l : List (Option ℕ)). l ++ at_of block ∷ []) (ap places_of left_is ∙ places_of-without (origin_of op) row)
    ∙ ap (λ (at : Option ℕ). row_without (origin_of op) (places_of row) ++ at ∷ []) (ap at_of block_is ∙ at_of-staying (handed_as op) made ∙ ap (staying (handed_as op)) stands)

pub handed_in-after : (op : Op) (reply : Reply) (parcels left now : List (Option ParcelToken)) (made : Option BlockToken)
    → left ≡ handed_without (origin_of op) parcels → at_of made ≡ standing reply
    → handed_in now ≡ handed_with (handed_as op) (at_of made) (handed_in left) → handed_in now ≡ handed_after op reply (handed_in parcels)
handed_in-after op reply parcels left now made left_is stands handed =
    handed
    ∙ ap (λ (at : Option ℕ). handed_with (handed_as op) at (handed_in left)) stands
    ∙ ap (handed_with (handed_as op) (standing reply)) (ap handed_in left_is ∙ handed_in-without (origin_of op) parcels)

AreApartFrom-staying : (given : Option ℕ) (block : Option BlockToken) (row : List (Option BlockToken)) → AreApartFrom block row
    → AreApartFrom (staying given block) row
AreApartFrom-staying None block row apart = apart
AreApartFrom-staying (Some number) block row apart = λ op other is. tt

pub AreHeld-after : (first second third : Caller) (left now : List (Option BlockToken)) (source made block : Option BlockToken) (given : Option ℕ)
    → AreHeld first left → AreApartFrom source left
    → ((other : BlockToken) → IsApartFrom source other → HasFramed first other → HasFramed second other)
    → ((other : BlockToken) → IsApartFrom source other → HasFramed first other → IsApartFrom made other)
    → ((row : List (Option BlockToken)) → AreApartFrom made row → AreHeld second row → AreHeld third row) → block ≡ staying given made
    → IfSome block (HasFramed third) → now ≡ left ++ block ∷ [] → AreHeld third now
AreHeld-after first second third left now source made block given held apart others away sent block_is framed now_is =
    rw now_is (AreHeld-push third left block framed (subst (λ (b : Option BlockToken). AreApartFrom b left) (sym block_is) (AreApartFrom-staying given made left beside)) (sent left beside kept))
  where
    beside : AreApartFrom made left
    beside op other is = away other (apart op other is) (held.framed op other is)

    kept : AreHeld second left
    kept = AreHeld-kept first second left (λ op other is has. others other (apart op other is) has) held
