use Rattle.std.proofs.Common.{◌∙◌, sym, arith, ◌/◌}
use Rattle.ng_space.proofs.Allowed.{may_allows}
use Rattle.ng_space.proofs.space.Space.store_told.Goals as goal

pub store-requires : goal.store-requires
store-requires g c =
    let s = c.args.self.now in let words = s.words in let inside = c.requires.inside in
    (c.requires.fits ∙ sym s.named, omega arith, may_allows _ _ _ _ _ (c.args.addr / 4) (λ n. c.args.value) (λ before n after. g.T.Telling.told before c.args.value after) (sym s.ruled) c.requires.may)
