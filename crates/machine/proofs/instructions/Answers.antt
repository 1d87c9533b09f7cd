-- The instructions of a turn and those before it make the steps of the rules (`MadeFrom`); the loop ends at its limit or at an instruction that does not end well.
-- What the bus leaves in memory and buffer the caller gets back (`rules`).
use borrow.Author.Rules.{rules}
use Rattle.contracts.proofs.Laws.{executes_same}
use Rattle.machine.proofs.InstructionLaws.{instructions_early, instructions_all, executes_beside, from_start, from_go}
use Rattle.machine.proofs.instructions.Goals as goal

pub loop-r-init : goal.loop-r-init
loop-r-init c = (search rules, from_start _ _ _ _ _ _ c.requires.0 c.requires.1)

pub returns-in_default : goal.returns-in_default
returns-in_default c =
    λ k e u v.
    rw c.ended.ensures
    (search (
      rules,
      instructions_early _ _ _ _ (c.loop-r.invariant.1 k e u v) c.loop-r-test.true c.instruction-d.ensures.bus.size
          (executes_beside u v (executes_same c.loop-r.invariant.0 c.instruction-d.ensures.executes)) c.in_default.not-Ok,
    ))

pub loop-r-preserved : goal.loop-r-preserved
loop-r-preserved c = (
  search rules,
  from_go _ _ _ _ _ _ c.loop-r.invariant.1 c.loop-r-test.true c.instruction-d.ensures.bus.size (executes_same c.loop-r.invariant.0 c.instruction-d.ensures.executes) c.in-Ok.is,
)

pub returns : goal.returns
returns c =
    λ k e u v. rw c.fine.ensures (search (rules, instructions_all _ _ _ _ (c.loop-r.invariant.1 k e u v) c.loop-r-test.false))
