-- The definition, opened, over what the kind of access and the two tests of W ensure.
use Rattle.paging.specs.Walk.{write_ok}
use Rattle.walk.proofs.write_ok.Goals as goal

pub returns : goal.returns
unfolding write_ok
returns c = cc
