-- What holds of an image's private fields. No public clause cites this module.
use Rattle.std.specs.Prelude.{◌≡◌, ◌*◌}
use Rattle.std.specs.Mem.Slots.{slots_len, IsFull}
use Rattle.ng_space.specs.declared.image.Image.TheInside.{Inside}

pub record IsImage (image : Inside) : Type 0 where
  pub words : slots_len image.closed.words ≡ 1024 * image.pages
  pub slots : slots_len image.closed.slots ≡ 0
  pub full : IsFull image.closed.words
