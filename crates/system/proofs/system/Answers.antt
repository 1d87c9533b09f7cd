-- In user mode the trap FPRIV, else the instruction itself.
use Rattle.system.proofs.Rest.{system_denied, system_allowed}
use Rattle.system.proofs.system.Goals as goal

pub returns : goal.returns
returns c =
    system_allowed _ _ _ _ c.if-c.false c.privileged.ensures

pub returns-then-c : goal.returns-then-c
returns-then-c c =
    system_denied _ _ _ _ c.if-c.true c.code_number-code.ensures c.next_pc.ensures (c.trap.ensures _)
