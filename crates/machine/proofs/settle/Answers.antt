-- One arm for each end of an instruction, each ended by the callee's own contract.
use Rattle.contracts.proofs.Steps.{finishes_ended}
use Rattle.rules.specs.Step.{space_after, settle_tree}
use Rattle.machine.proofs.Settling.{settle_at, settle_trap, settle_refused, settle_undecoded}
use Rattle.machine.proofs.settle.Goals as goal

pub returns-in-Ok : goal.returns-in-Ok
unfolding settle_tree space_after
returns-in-Ok c =
    settle_at _ _ _ _ c.in-Ok.is (finishes_ended c.with_done.ensures c.requires)

pub returns-in-Unfetched : goal.returns-in-Unfetched
unfolding settle_tree
returns-in-Unfetched c =
    settle_at _ _ _ _ c.in-Unfetched.is (c.fault.ensures _)

pub returns-in-Trap : goal.returns-in-Trap
returns-in-Trap c =
    settle_trap _ _ _ _ c.in-Trap.is c.code_number-number.ensures c.next_pc.ensures (c.trap.ensures _)

pub returns-in-Refused : goal.returns-in-Refused
returns-in-Refused c =
    settle_refused _ _ _ _ c.in-Refused.is c.next_pc-in-Refused.ensures (c.fault-in-Refused.ensures _)

pub returns-in-System : goal.returns-in-System
unfolding settle_tree
returns-in-System c =
    settle_at _ _ _ _ c.in-System.is c.system.ensures

pub returns-in-Undecoded : goal.returns-in-Undecoded
returns-in-Undecoded c =
    settle_undecoded _ _ _ _ c.in-Undecoded.is c.code_number.ensures c.next_pc-in-Undecoded.ensures (c.trap-in-Undecoded.ensures _)
