-- The fault is the answer's, and put together anew it is itself.
use Rattle.contracts.proofs.refused.Goals as goal

pub returns : goal.returns
returns c = rw c.fault_of-f.ensures
