-- Document 02, items 1 and 4: the pending interrupts, vadr and the cause, which no privileged instruction that only computes changes, nor RTI where it returns.
use Rattle.std.proofs.Common.{if◌then◌else◌}
use Prim.Native.Nat.{ℕ}
use mathlib.Core.Bool.{Bool, true, false}
use mathlib.Core.Path.{◌≡◌, refl}
use lib.Dec.{eqb}
use Rattle.decode.specs.declared.PlainOp.{PlainOp}
use Rattle.decode.specs.declared.PlainOp.TheVariants.{Halt, Cli, Sti, Bin, Ssp, Ivec, Time, Lvad, Lusp, Susp, Msiz, Idle}
use Rattle.paging.specs.TrapCode.{USER}
use Rattle.paging.specs.Walk.{bit}
use Rattle.rules.specs.declared.Cpu.{Cpu}
use Rattle.rules.specs.Record.{with_timeout, with_clock}
use Rattle.rules.specs.System.{computed, back_to, returned}

pub record Kept (c x : Cpu) : Type 0 where
  pub pending : x.clock.pending ≡ c.clock.pending
  pub vadr : x.vadr ≡ c.vadr
  pub cause : x.cause ≡ c.cause

abbrev all_kept : {c x : Cpu} → x.clock.pending ≡ c.clock.pending → x.vadr ≡ c.vadr → x.cause ≡ c.cause → Kept c x
all_kept p v e = record { pending = p; vadr = v; cause = e }

-- TIME does something or nothing
time_keeps : (b : Bool) (c : Cpu) → Kept c (if b then with_clock (with_timeout c.regs.a c.clock) c else c)
time_keeps true c = all_kept refl refl refl
time_keeps false c = all_kept refl refl refl

pub computed_keeps : (size : ℕ) (op : PlainOp) (c : Cpu) → Kept c (computed size op c)
computed_keeps size Halt c = all_kept refl refl refl
computed_keeps size Cli c = all_kept refl refl refl
computed_keeps size Sti c = all_kept refl refl refl
computed_keeps size Bin c = all_kept refl refl refl
computed_keeps size Ssp c = all_kept refl refl refl
computed_keeps size Ivec c = all_kept refl refl refl
computed_keeps size (Time i) c = time_keeps (eqb i 0) c
computed_keeps size Lvad c = all_kept refl refl refl
computed_keeps size Lusp c = all_kept refl refl refl
computed_keeps size Susp c = all_kept refl refl refl
computed_keeps size Msiz c = all_kept refl refl refl
computed_keeps size Idle c = all_kept refl refl refl

-- RTI, back to user mode or not
pub returned_keeps : (c : Cpu) (code pc : ℕ) → Kept c (returned c code pc)
returned_keeps c code pc = go (bit USER code) _ (all_kept refl refl refl)
  where
    go : (b : Bool) (x : Cpu) → Kept c x → Kept c (back_to b x)
    go true x k = all_kept k.pending k.vadr k.cause
    go false x k = k
