-- The two writes are the image (`filled`): `fill` puts zeros at what is left of memory.
use Rattle.loader.proofs.Image.{filled}
use Rattle.loader.proofs.fill.Goals as goal

pub returns : goal.returns
returns c = filled _ _ c.requires c.copy_from_slice.ensures.after (c.fill.ensures.after (λ y e. e))
