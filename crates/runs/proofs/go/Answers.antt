-- A turn hands on to `advance`, which falls in steps left (`turn_less`) and keeps the end of the run (`turn_next`); the last turn's state is where it
-- goes (`turn_last`).
use Rattle.runs.proofs.Loop.{turn_first, turn_ready, turn_fits, turn_less, turn_next, turn_last}
use mathlib.Core.Path.{refl, ◌∙◌}
use Rattle.runs.proofs.go.Goals as goal

pub loop-n-init : goal.loop-n-init
loop-n-init c =
    (refl, (refl, (refl, turn_first c.requires.0)))

pub advance-a-requires : goal.advance-a-requires
advance-a-requires c =
    (turn_ready c.requires.0 c.loop-n.invariant.1.1.1 c.loop-n-test.true, turn_fits c.requires.0 c.loop-n.invariant.1.1.1 c.loop-n-test.true c.requires.1)

pub loop-n-smaller : goal.loop-n-smaller
loop-n-smaller c =
    turn_less c.requires.0 c.loop-n.invariant.1.1.1 c.loop-n-test.true c.advance-a.ensures c.left_of-n.ensures

pub loop-n-preserved : goal.loop-n-preserved
loop-n-preserved c =
    let turn = turn_next c.requires.0 c.loop-n.invariant.1.1.1 c.loop-n-test.true c.advance-a.ensures c.left_of-n.ensures in
    (c.advance-a.auto.mem ∙ c.loop-n.invariant.0, (c.advance-a.auto.console ∙ c.loop-n.invariant.1.0, (c.advance-a.auto.tlb ∙ c.loop-n.invariant.1.1.0, turn)))

pub returns : goal.returns
returns c =
    turn_last c.requires.0 c.loop-n.invariant.1.1.1 c.loop-n-test.false
