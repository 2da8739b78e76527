use Rattle.std.proofs.Common.{sym, ◌∙◌, []}
use Rattle.ng_mtrace.specs.Tokens.{last_tokens}
use Rattle.ng_mtrace.proofs.LineForms.{kind_of-from, one_token, two_tokens}
use Rattle.ng_mtrace.proofs.kind.any_kind.Goals as goal

pub returns-in_default : goal.returns-in_default
returns-in_default c = sym (kind_of-from c.args.line.now [] c.in_default.ensures.none)

pub returns-in_default-last_token : goal.returns-in_default-last_token
returns-in_default-last_token c = sym (one_token c.args.line.now c.in-Some.before_last.now c.in-Some.last.now c.in-Some.ensures.some c.in_default-last_token.ensures.none)

pub returns : goal.returns
returns c =
    let rest = last_tokens c.in-Some-last_token.before_second.now in
    c.kind_behind.ensures
    ∙ sym (two_tokens c.args.line.now c.in-Some.before_last.now c.in-Some.last.now c.in-Some-last_token.second.now rest c.in-Some.ensures.some c.in-Some-last_token.ensures.some)
