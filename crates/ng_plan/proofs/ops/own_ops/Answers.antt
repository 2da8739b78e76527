use Rattle.std.proofs.Common.{◌≡◌, ◌∙◌, ◌++◌, ◌∷◌, [], ℕ, None, ap, arith, get_or, length, rules}
use Rattle.ng_plan.specs.Plans.{op_of}
use Rattle.ng_plan.proofs.MakerLemmas.{line_at}
use Rattle.ng_plan.proofs.OpLemmas.{each_more, own_ops_are}
use Rattle.ng_plan.proofs.StepLemmas.{length-owns}
use Rattle.ng_plan.proofs.ops.own_ops.Goals as goal

pub bounds-owns-at : goal.bounds-owns-at
bounds-owns-at c =
    let long : length c.args.owns.now ≡ length c.args.lines.now = ap length c.requires ∙ length-owns [] c.args.lines.now in
    omega arith

pub loop-at-preserved : goal.loop-at-preserved
loop-at-preserved c =
    let pushed : c.push.new.self.items ≡ c.loop-at.ops.items ++ c.op.result ∷ [] = search (rules, c.in_ok-push.ensures.items) in
    record {
      long = search (rules, c.in_ok-push.ensures.len, c.loop-at.invariant.long);
      each = λ k op below. rw pushed (each_more c.loop-at.ops.items c.op.result c.loop-at.at (λ (k : ℕ). op_of (line_at c.args.lines.now k) (get_or c.args.owns.now k None) None None) c.loop-at.invariant.long c.loop-at.invariant.each c.op.ensures k op below);
    }

pub returns : goal.returns
returns c = λ turns log takers makers.
    let end : c.loop-at.at ≡ length c.args.lines.now = omega arith in
    own_ops_are turns log c.args.lines.now c.args.owns.now c.loop-at.ops.items c.requires (c.loop-at.invariant.long ∙ end) (rw end at c.loop-at.invariant.each) takers makers
