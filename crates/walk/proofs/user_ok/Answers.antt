-- The definition, opened, over what the two tests of U ensure.
use Rattle.paging.specs.Walk.{user_ok}
use Rattle.walk.proofs.user_ok.Goals as goal

pub returns : goal.returns
unfolding user_ok
returns c = cc
