-- The lines of the logs that are still to be written.
use Rattle.std.proofs.Common.{◌≡◌, ◌⊎◌, ℕ, List, [], ◌∷◌, ◌++◌, refl, ⊎_elim}
use Rattle.std.proofs.lemmas.List.{append-nil}
use Rattle.std.specs.List.{flat_map, zip, enumerate_from}
use Rattle.ng_terms.specs.declared.plan.Op.{Op}
use Rattle.ng_terms.specs.declared.reply.Mode.{Mode}
use Rattle.ng_terms.specs.declared.reply.Reply.{Reply}
use Rattle.ng_terms.specs.Reports.{log_lines}

-- the lines of the logs from one on, whose number is told
abbrev pub lines_from : Mode → ℕ → List (List Op) → List (List Reply) → List ℕ
lines_from mode number logs replies = flat_map (λ log. log_lines mode log.0 log.1.0 log.1.1) (enumerate_from number (zip logs replies))

zip-nil : (logs : List (List Op)) → zip {X = List Reply} logs [] ≡ []
zip-nil [] = refl
zip-nil (ops ∷ logs) = refl

-- the text is whole once a log or its replies are wanting
pub no_lines_left : (mode : Mode) (number : ℕ) (logs : List (List Op)) (replies : List (List Reply)) (text all : List ℕ)
    → (logs ≡ []) ⊎ (replies ≡ []) → text ++ lines_from mode number logs replies ≡ all → text ≡ all
no_lines_left mode number logs replies text all ended so_far =
    let none : zip logs replies ≡ [] = ⊎_elim (λ (first : logs ≡ []). rw first refl) (λ (second : replies ≡ []). rw second (zip-nil logs)) ended in
    let whole : text ++ [] ≡ all = rw none at so_far in
    rw append-nil at whole
