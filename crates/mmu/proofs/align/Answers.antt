-- The match tells the size, and each arm drops the bits below it (`aligned`).
use native.Mathlib.Omega.{arith}
use mathlib.Core.Path.{refl}
use Rattle.mmu.proofs.Ways.{aligned}
use Rattle.mmu.proofs.align.Goals as goal

pub returns-in-Word : goal.returns-in-Word
returns-in-Word c = aligned _ _ c.in-Word.is refl

pub returns-in-Half : goal.returns-in-Half
returns-in-Half c = aligned _ _ c.in-Half.is refl

pub returns-in-Byte : goal.returns-in-Byte
returns-in-Byte c = aligned _ _ c.in-Byte.is (omega arith)
