-- Document 01, "Addresses": "sp, usp and ksp, set by any instruction, drop their low three bits, pc and ivec their low two".
use Prim.Native.Nat.{ℕ, ◌%◌}
use mathlib.Core.Path.{◌≡◌}
use native.Mathlib.Omega.{arith}
use Rattle.decode.specs.declared.PlainOp.TheVariants.{Ssp, Ivec, Susp}
use Rattle.rules.specs.declared.Cpu.{Cpu}
use Rattle.rules.specs.declared.Regs.{Regs}
use Rattle.rules.specs.Record.{set_pc, set_sp}
use Rattle.rules.specs.System.{computed}

pub sp_set : (x : ℕ) (r : Regs) → (set_sp x r).sp % 8 ≡ 0
sp_set x r = omega arith

pub pc_set : (x : ℕ) (r : Regs) → (set_pc x r).pc % 4 ≡ 0
pc_set x r = omega arith

-- SSP, SUSP and IVEC
pub ksp_set : (size : ℕ) (c : Cpu) → (computed size Ssp c).system.ksp % 8 ≡ 0
ksp_set size c = omega arith

pub usp_set : (size : ℕ) (c : Cpu) → (computed size Susp c).system.usp % 8 ≡ 0
usp_set size c = omega arith

pub ivec_set : (size : ℕ) (c : Cpu) → (computed size Ivec c).system.ivec % 4 ≡ 0
ivec_set size c = omega arith
