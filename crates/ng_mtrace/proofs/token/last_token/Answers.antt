use Rattle.std.proofs.Common.{arith, sym, ◌∙◌, inl, inr}
use Rattle.ng_mtrace.proofs.TokenLemmas.{same_tokens, last_token_is, no_token}
use Rattle.ng_mtrace.proofs.token.last_token.Goals as goal
use Rattle.ng_mtrace.proofs.token.last_token.Goals.{then-loop-start-test+else-not-is_blank, else-loop-start-test}

pub loop-end-preserved : goal.loop-end-preserved
loop-end-preserved c = record {
  within = omega arith;
  same = same_tokens c.args.line.now c.loop-end.end (omega arith) c.loop-end.invariant.within (sym c.is_blank.ensures ∙ c.if-is_blank.true) ∙ c.loop-end.invariant.same;
}

pub returns-then-end-eq0-clause-none : goal.returns-then-end-eq0-clause-none
returns-then-end-eq0-clause-none c = no_token c.args.line.now c.loop-end.end (omega arith) c.loop-end.invariant.same

pub returns-clause-some : goal.returns-clause-some
returns-clause-some c = last_token_is c.args.line.now c.loop-start.start c.loop-end.end c.loop-start.invariant.within c.loop-end.invariant.within c.loop-start.invariant.filled
    (elim c.loop-start-test.branch [ then-loop-start-test+else-not-is_blank w ↦ inr (omega arith, sym w.is_blank-in-loop-start.ensures ∙ w.if-not-is_blank.false) | else-loop-start-test w ↦ inl (omega arith) ])
    c.loop-end.invariant.same
