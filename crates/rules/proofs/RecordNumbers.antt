-- Document 01, "The record and the loaded program": the record's numbers with keys taken and console bytes written are the whole record.
use Rattle.std.proofs.Common.{Option, Some, None}
use mathlib.Core.Path.{◌≡◌, refl, sym, ◌∙◌}
use mathlib.Core.Bool.{Bool, true, false}
use Rattle.paging.specs.declared.Cause.{Cause}
use Rattle.paging.specs.declared.Cause.TheVariants.{AddressBeyondMemory, DirectoryAbsent, DirectoryBeyondMemory, TableAbsent, NoUserRight, NoWriteRight, FrameBeyondMemory}
use Rattle.rules.specs.declared.Cpu.{Cpu}
use Rattle.rules.specs.declared.Stop.{Stop}
use Rattle.rules.specs.declared.Stop.TheVariants.{Running, Halted, Masked, NoFrame}
use Rattle.rules.specs.Arithmetic.{flag}
use Rattle.rules.specs.Record.{stop_number, cause_number}
use Rattle.rules.specs.Numbers.{numbers_of, flag_of, stop_of, cause_of, record_by, record_of}

pub flag_read : (b : Bool) → flag_of (flag b) ≡ b
flag_read true = refl
flag_read false = refl

stop_read : (s : Stop) → stop_of (stop_number s) ≡ s
unfolding stop_of
stop_read Running = refl
stop_read Halted = refl
stop_read Masked = refl
stop_read NoFrame = refl

cause_read : (x : Option Cause) → cause_of (cause_number x) ≡ x
unfolding cause_of
cause_read None = refl
cause_read (Some AddressBeyondMemory) = refl
cause_read (Some DirectoryAbsent) = refl
cause_read (Some DirectoryBeyondMemory) = refl
cause_read (Some TableAbsent) = refl
cause_read (Some NoUserRight) = refl
cause_read (Some NoWriteRight) = refl
cause_read (Some FrameBeyondMemory) = refl

-- the numbers of a record give it back
pub record_read : (c : Cpu) → record_of (numbers_of c) c.clock.taken c.written ≡ c
unfolding record_by
record_read c = λ i. record {
  regs = c.regs;
  clock = record {
    timer = c.clock.timer;
    timeout = c.clock.timeout;
    kbchar = c.clock.kbchar;
    taken = c.clock.taken;
    pending = record { key = flag_read c.clock.pending.key i; timer = flag_read c.clock.pending.timer i };
  };
  vadr = c.vadr;
  space = record { pdir = c.space.pdir; paging = flag_read c.space.paging i };
  system = record {
    usp = c.system.usp;
    ksp = c.system.ksp;
    ivec = c.system.ivec;
    user = flag_read c.system.user i;
    iena = flag_read c.system.iena i;
    waiting = flag_read c.system.waiting i;
  };
  cause = cause_read c.cause i;
  stop = stop_read c.stop i;
  written = c.written;
  model = record { doubles = flag_read c.model.doubles i };
  floats = c.floats;
}

-- records with the same numbers are equal
pub same_record_lem : (c d : Cpu) → numbers_of c ≡ numbers_of d → c.clock.taken ≡ d.clock.taken → c.written ≡ d.written → c ≡ d
same_record_lem c d e t w = sym (record_read c) ∙ (λ i. record_of (e i) (t i) (w i)) ∙ record_read d
