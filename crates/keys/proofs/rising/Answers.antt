-- A turn takes one key from the rest (`rise_on`), or finds that it falls (`rise_fails`); past the last nothing falls (`rise_end`).
use Rattle.std.proofs.Common.{sym, ◌∙◌, add-one}
use native.Mathlib.Omega.{arith}
use Rattle.keys.proofs.Laws.{rise_on, rise_fails, rise_end}
use Rattle.keys.proofs.rising.Goals as goal

pub returns-then-step-last : goal.returns-then-step-last
returns-then-step-last g c =
    sym (rise_fails (g.L.KeyList.keys c.args.keys.now) c.loop-i.i c.key-step.ensures c.loop-i.last c.if-step-last.true) ∙ c.loop-i.invariant

pub loop-i-preserved : goal.loop-i-preserved
loop-i-preserved g c =
    rw add-one (sym (rise_on (g.L.KeyList.keys c.args.keys.now) c.loop-i.i c.key-step.ensures c.loop-i.last c.if-step-last.false) ∙ c.loop-i.invariant)

pub returns : goal.returns
returns g c = sym (rise_end (g.L.KeyList.keys c.args.keys.now) c.loop-i.i c.loop-i.last (omega arith)) ∙ c.loop-i.invariant
