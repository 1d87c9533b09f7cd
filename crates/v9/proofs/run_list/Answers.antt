-- The run begins (`under_start`), goes on by a key while steps are left (`under_next`), and ends as the rules' run (`under_end`).
use Rattle.v9.proofs.UnderWay.{key_fits, under_start, under_next, under_end}
use native.Mathlib.Omega.{arith}
use mathlib.Core.Path.{refl, ◌∙◌}
use Rattle.v9.proofs.run_list.Goals as goal

pub loop-g-init : goal.loop-g-init
loop-g-init g c =
    (refl, (refl, under_start (g.L.KeyList.keys c.args.keys.now) _ _ _ _ c.rising-rising.ensures c.count.ensures c.begin-g.ensures))

pub proceed-g-requires : goal.proceed-g-requires
proceed-g-requires g c =
    let key = key_fits (g.L.KeyList.keys c.args.keys.now) _ c.next_key.ensures (omega arith) in
    (c.loop-g.invariant.1.1.able c.loop-g-test.true, key)

pub loop-g-smaller : goal.loop-g-smaller
loop-g-smaller g c =
    c.proceed-g.ensures.less

pub loop-g-preserved : goal.loop-g-preserved
loop-g-preserved g c =
    let continues = under_next (g.L.KeyList.keys c.args.keys.now) _ _ _ _ c.loop-g.invariant.1.1 c.next_key.ensures c.proceed-g.ensures in
    (c.proceed-g.auto.mem ∙ c.loop-g.invariant.0, (c.proceed-g.auto.console ∙ c.loop-g.invariant.1.0, continues))

pub returns : goal.returns
returns g c =
    under_end (g.L.KeyList.keys c.args.keys.now) _ _ _ _ c.rising-rising.ensures c.count.ensures c.begin-g.ensures c.loop-g.invariant.1.1 c.loop-g-test.false
