use Rattle.ng_view.specs.Steps.{excuse_at, hosting, unexcused, with_excuse}
use Rattle.ng_space.proofs.space.Space.excuse_to_hand.Given as goal

-- the excuse goes out with the hand
abbrev pub ghosts-pass_excuse : goal.ghosts-pass_excuse
ghosts-pass_excuse g a = record {
  both = hosting a.lock.now.me.0 a.own.now.me.0;
  left = unexcused a.lock.now.me.0 a._number;
  right = with_excuse a.own.now.me.0 (excuse_at a._number a.lock.now.me.0.excuses);
}
