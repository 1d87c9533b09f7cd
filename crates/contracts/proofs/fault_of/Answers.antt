-- Where the answer is an address the match tells so, and the fault is the definition's empty one.
use Rattle.contracts.proofs.fault_of.Goals as goal

pub returns-in-Ok : goal.returns-in-Ok
returns-in-Ok c = rw c.in-Ok.is
