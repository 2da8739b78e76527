use Rattle.std.proofs.Common.{◌∙◌, sym, arith, ◌/◌}
use Rattle.std.specs.Prelude.{bit_and}
use Rattle.ng_space.proofs.Allowed.{may_allows}
use Rattle.ng_space.proofs.space.Space.and_told.Goals as goal

pub fetch_and-requires : goal.fetch_and-requires
fetch_and-requires g c =
    let s = c.args.self.now in let words = s.words in let inside = c.requires.inside in
    (c.requires.fits ∙ sym s.named, omega arith, may_allows _ _ _ _ _ (c.args.addr / 4) (λ n. bit_and n c.args.kept) g.T.Telling.told (sym s.ruled) c.requires.may)
