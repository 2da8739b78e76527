-- What holds before the first turn and after the last.
use Rattle.std.proofs.Common.{◌≡◌, ℕ, zero, suc, ◌≤◌, List, [], ◌∷◌, Option, None, length, get_or, map, arith, refl, ap, sym, ◌∙◌}
use Rattle.std.specs.Prelude.{All, replicate}
use Rattle.std.specs.Global.{Vec}
use Rattle.std.proofs.lemmas.List.{get_or-map, get_or-replicate, length-map, length-replicate}
use Rattle.ng_plan.specs.Sound.{IsSound}
use Rattle.ng_space.specs.Blocks.{BlockToken}
use Rattle.ng_space.specs.Callers.{Caller, fresh_callers}
use Rattle.ng_space.specs.Parcels.{ParcelToken}
use Rattle.ng_terms.specs.declared.plan.Plan.{Plan}
use Rattle.ng_terms.specs.declared.reply.Mode.{Mode}
use Rattle.ng_terms.specs.declared.reply.Reply.{Reply}
use Rattle.ng_replay.specs.Books.{rooms_for}
use Rattle.ng_replay.specs.Serial.{AreInHand, AreServed, at_of_parcel, blocks_in, handed_in, held_in, places_of, replies_in}
use Rattle.ng_replay.proofs.HandLemmas.{AreInHand-start}
use Rattle.ng_replay.proofs.RowLemmas.{at_of_parcel-none}
use Rattle.ng_replay.proofs.ServedLemmas.{AreServed-start, none-left}

-- rows that are empty
rows-empty : {X : Type 0} → (rows : List (Vec X)) → All (λ (row : Vec X). row.items ≡ []) rows → (log : ℕ)
    → get_or (map (λ (row : Vec X). row.items) rows) log [] ≡ []
rows-empty [] empty log = refl
rows-empty (row ∷ rows) empty zero = empty 0 row (omega arith)
rows-empty (row ∷ rows) empty (suc log) = rows-empty rows (λ k d below. empty (suc k) d (omega arith)) log

held-empty : (blocks : List (List (Option BlockToken))) → ((log : ℕ) → get_or blocks log [] ≡ []) → (log : ℕ) → get_or (held_in blocks) log [] ≡ []
held-empty [] empty log = refl
held-empty (row ∷ blocks) empty zero = ap places_of (empty 0)
held-empty (row ∷ blocks) empty (suc log) = held-empty blocks (λ other. empty (suc other)) log

handed_in-none : (count : ℕ) → handed_in (replicate count None) ≡ replicate count None
handed_in-none zero = refl
handed_in-none (suc count) = ap (λ (rest : List (Option ℕ)). None ∷ rest) (handed_in-none count)

all-none : (parcels : List (Option ParcelToken)) (count : ℕ) → parcels ≡ replicate count None → All (λ (parcel : Option ParcelToken). parcel ≡ None) parcels
all-none parcels count is k d below =
    ap (λ (ps : List (Option ParcelToken)). get_or ps k d) is
    ∙ get_or-replicate count k None d (omega (arith, ap length is, length-replicate {A = Option ParcelToken} count None))

pub AreServed-first : (plan : Plan) (mode : Mode) → IsSound plan
    → (rows : List (Vec Reply)) (blocks : List (Vec (Option BlockToken))) (parcels : List (Option ParcelToken)) → length rows ≡ length plan.logs
    → All (λ (row : Vec Reply). row.items ≡ []) rows
    → length blocks ≡ length plan.logs → All (λ (row : Vec (Option BlockToken)). row.items ≡ []) blocks → parcels ≡ replicate (length plan.receivers) None
    → AreServed plan mode 0 (replies_in rows) (held_in (blocks_in blocks)) (handed_in parcels)
AreServed-first plan mode sound rows blocks parcels logs empty same bare none =
    AreServed-start plan mode sound (replies_in rows) (held_in (blocks_in blocks)) (handed_in parcels) (length-map rows (λ (row : Vec Reply). row.items) ∙ logs) (rows-empty rows empty)
    (length-map (blocks_in blocks) places_of ∙ length-map blocks (λ (row : Vec (Option BlockToken)). row.items) ∙ same) (held-empty (blocks_in blocks) (rows-empty blocks bare))
    (ap handed_in none ∙ handed_in-none (length plan.receivers))

pub AreInHand-first : (plan : Plan) (mode : Mode) (rows : List (Vec Reply)) (blocks : List (Vec (Option BlockToken))) (parcels : List (Option ParcelToken)) (hands : List Caller)
    → All (λ (row : Vec Reply). row.items ≡ []) rows
    → All (λ (row : Vec (Option BlockToken)). row.items ≡ []) blocks → parcels ≡ replicate (length plan.receivers) None
    → hands ≡ fresh_callers 1 (rooms_for plan)
    → AreInHand plan mode (replies_in rows) (blocks_in blocks) parcels hands
AreInHand-first plan mode rows blocks parcels hands empty bare none fresh =
    AreInHand-start plan mode (replies_in rows) (blocks_in blocks) parcels hands (rows-empty rows empty) (rows-empty blocks bare) (all-none parcels (length plan.receivers) none) fresh

-- after the last turn no parcel is left
pub none-underway : (plan : Plan) (mode : Mode) → IsSound plan
    → (turns : ℕ) (replies : List (List Reply)) (held : List (List (Option ℕ))) (parcels : List (Option ParcelToken)) → length plan.order ≤ turns
    → AreServed plan mode turns replies held (handed_in parcels)
    → All (λ (parcel : Option ParcelToken). parcel ≡ None) parcels
none-underway plan mode sound turns replies held parcels all served k d below =
    at_of_parcel-none (get_or parcels k d)
    (sym (get_or-map at_of_parcel parcels k d None below) ∙ none-left plan mode sound turns replies held (handed_in parcels) all served k (omega (arith, length-map parcels at_of_parcel)))
