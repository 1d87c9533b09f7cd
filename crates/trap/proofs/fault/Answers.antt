-- A trap from the record with vadr and the cause set, which keeps the directory (`fault_trapped`).
use Rattle.trap.proofs.Delivery.{fault_trapped}
use Rattle.trap.proofs.fault.Goals as goal

pub returns : goal.returns
returns c =
    λ con. fault_trapped _ _ c.code_number-code.ensures c.with_fault.ensures (c.trap.ensures con)
