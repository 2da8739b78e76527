use Rattle.std.proofs.Common.{◌∙◌, sym, arith, ◌/◌, eqb}
use prog.Atomic.{either}
use Rattle.ng_space.proofs.Allowed.{may_allows}
use Rattle.ng_space.proofs.space.Space.exchange_told.Goals as goal

pub compare_exchange-requires : goal.compare_exchange-requires
compare_exchange-requires g c =
    let s = c.args.self.now in let words = s.words in let inside = c.requires.inside in
    (c.requires.fits ∙ sym s.named, omega arith, may_allows _ _ _ _ _ (c.args.addr / 4) (λ n. either (eqb n c.args.old) c.args.new n) g.T.Telling.told (sym s.ruled) c.requires.may)
