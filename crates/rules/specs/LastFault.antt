-- Document 02, item 4: the words of its laws on the record (proofs/FaultLaws.antt).
use Rattle.std.specs.Prelude.{◌≡◌, Some}
use Rattle.paging.specs.declared.Fault.{Fault}
use Rattle.rules.specs.declared.Cpu.{Cpu}

-- x has vadr and the cause of c
pub record KeepsFault (c x : Cpu) : Type 0 where
  pub vadr : x.vadr ≡ c.vadr
  pub cause : x.cause ≡ c.cause

-- x has them of the fault f
pub record HasFault (f : Fault) (x : Cpu) : Type 0 where
  pub vadr : x.vadr ≡ f.address
  pub cause : x.cause ≡ Some f.cause

-- the cause is "set whenever vadr is": after a step from c both are as they were, or both are a fault's
pub data FaultAfter (c x : Cpu) : Type 0 where
  kept : KeepsFault c x → FaultAfter c x
  set : (f : Fault) → HasFault f x → FaultAfter c x
