use Rattle.std.proofs.Common.{◌≡◌, ◌∙◌, ◌++◌, ◌∷◌, [], ℕ, get_or, ap, sym, refl, rules}
use Rattle.std.proofs.lemmas.List.{get_or_read}
use Rattle.ng_plan.specs.Turns.{earliest}
use Rattle.ng_plan.proofs.ScheduleLemmas.{nothing_found, block_found}
use Rattle.ng_plan.proofs.schedule.Schedule.claim.Goals as goal

pub returns-in_default-clause-turns : goal.returns-in_default-clause-turns
returns-in_default-clause-turns c = λ names turns are.
    let name : ℕ = get_or names c.args.name 0 in
    nothing_found names c.args.self.now c.take.new.self turns c.args.log name (earliest name turns.posted) refl (sym c.in_default.is ∙ c.take.ensures.earliest names turns.posted are.rising are.long are.queues) are (are.long ∙ sym c.take.ensures.same) (c.take.ensures.left names turns.posted are.rising are.long are.queues)

pub returns-clause-turns : goal.returns-clause-turns
returns-clause-turns c = λ names turns are.
    let name : ℕ = get_or names c.args.name 0 in
    let made : c.push.new.self.items ≡ c.args.self.now.makers.items ++ c.in-Some.maker ∷ [] = search (rules, c.in_ok-push.ensures.items) in
    let took : c.push-2.new.self.items ≡ c.args.self.now.takers.items ++ record { log = c.args.log; op = get_or c.args.self.now.done.items c.args.log 0 } ∷ [] =
    search (rules, c.in_ok-push-2.ensures.items) ∙ ap (λ (op : ℕ). c.args.self.now.takers.items ++ record { log = c.args.log; op = op } ∷ []) (get_or_read c.args.self.now.done.items c.args.log c.index-op.result.now c.requires.log c.index-op.ensures 0) in
    block_found names c.args.self.now c.take.new.self c.push.new.self c.push-2.new.self c.in-Some.maker turns c.args.log name (earliest name turns.posted) refl (sym c.in-Some.is ∙ c.take.ensures.earliest names turns.posted are.rising are.long are.queues) are (are.long ∙ sym c.take.ensures.same) (c.take.ensures.left names turns.posted are.rising are.long are.queues) made took
