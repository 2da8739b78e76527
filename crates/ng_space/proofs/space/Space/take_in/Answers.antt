use Rattle.std.proofs.Common.{◌∙◌, sym, arith}
use Rattle.ng_space.proofs.Allowed.{may_merge}
use Rattle.ng_space.proofs.space.Space.take_in.Goals as goal

pub join_seat-requires : goal.join_seat-requires
join_seat-requires g c =
    let s = c.args.self.now in let words = s.words in let pages = s.range.enough in
    (c.requires.fits.0 ∙ sym s.named, c.requires.fits.1 ∙ sym s.named, c.requires.fits.2, omega arith, may_merge _ _ _ _ _ _ _ c.requires.allowed)
