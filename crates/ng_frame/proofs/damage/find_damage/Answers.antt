use Rattle.std.proofs.Common.{sym, ap, ◌∙◌}
use Rattle.ng_frame.specs.Judging.{damage_by}
use Rattle.ng_frame.proofs.Verdicts.{damage_is}
use Rattle.ng_frame.proofs.damage.find_damage.Goals as goal

pub returns-clause-known : goal.returns-clause-known
returns-clause-known g c = λ known was.
    c.err.ensures.value ∙ damage_is c.nominal_size.result ∙ ap damage_by (sym (c.nominal_size.ensures.known known was))
