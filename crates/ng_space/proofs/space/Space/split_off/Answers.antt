use Rattle.std.proofs.Common.{◌∙◌, sym, arith}
use Rattle.ng_space.proofs.Allowed.{may_split}
use Rattle.ng_space.proofs.space.Space.split_off.Goals as goal

pub split_seat-requires : goal.split_seat-requires
split_seat-requires g c =
    let s = c.args.self.now in let words = s.words in let pages = s.range.enough in
    (c.requires.fits ∙ sym s.named, omega arith, may_split _ _ _ _ _ _ (sym s.ruled) c.requires.allowed)
