-- The class that serves a request has room for it.
use Rattle.std.proofs.Common.{◌≡◌, ◌≢◌, ℕ, ◌+◌, ◌*◌, ◌<◌, ◌≤◌, sym, subst, ⊎_elim, arith}
use Rattle.std.proofs.lemmas.Bool.{cases_eq}
use Rattle.ng_class.proofs.Classes.{units_of_next}
use Rattle.ng_class.specs.Class.{units_of}
use Rattle.ng_group.specs.ClassFor.{IsClassFor}
use Rattle.ng_group.specs.States.{State}

pub class_fits : {M P : Type 0} {before after : State M P} {bytes class : ℕ} → IsClassFor before after bytes class → bytes + 4 ≤ 16 * units_of class
class_fits {bytes = bytes} {class = class} told =
    let least = told.least in let holds : bytes + 4 ≤ 16 * units_of least = told.is_least.holds in
    ⊎_elim
    (λ (up : class ≡ least + 1).
    let to : least ≤ 30 = (told.up.0 up).fine.to in
    let rises : units_of least < units_of (least + 1) = units_of_next least (omega arith) in
    subst (λ (c : ℕ). bytes + 4 ≤ 16 * units_of c) (sym up) (omega arith))
    (λ (stays : class ≢ least + 1). subst (λ (c : ℕ). bytes + 4 ≤ 16 * units_of c) (sym (told.stays stays)) holds)
    (cases_eq class (least + 1))
