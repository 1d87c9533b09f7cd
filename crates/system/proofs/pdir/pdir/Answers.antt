-- Below M the page buffer is emptied and the directory set; else the fault's own contract ends the step.
use mathlib.Core.Path.{refl}
use Rattle.system.proofs.AddressSpace.{pdir_set, pdir_fault}
use Rattle.system.proofs.pdir.pdir.Goals as goal

pub returns-then-a-mem : goal.returns-then-a-mem
returns-then-a-mem c =
    λ con. pdir_set _ c.empty.ensures.0 c.empty.ensures.1 c.requires.0 c.if-a-mem.true c.requires.1 refl

pub returns : goal.returns
returns c =
    λ con. pdir_fault _ c.if-a-mem.false c.next_pc.ensures (c.fault.ensures con)
