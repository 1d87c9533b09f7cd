-- Document 01, "The record and the loaded program": the record as one list of numbers, in the order of its first sentences, with document 02's marks and cause in the
-- places that its item 5 gives them, after the flags and after the stop reason. Keys taken and console bytes written stand beside the list, and the page buffer is no part of it.
use Rattle.std.specs.Prelude.{ℕ, ◌%◌, ◌^◌, Bool, List, [], ◌∷◌, eqb, get_or, if◌then◌else◌, Option, Some, None}
use Rattle.paging.specs.declared.Cause.{Cause}
use Rattle.paging.specs.declared.Cause.TheVariants.{AddressBeyondMemory, DirectoryAbsent, DirectoryBeyondMemory, TableAbsent, NoUserRight, NoWriteRight, FrameBeyondMemory}
use Rattle.rules.specs.declared.Stop.{Stop}
use Rattle.rules.specs.declared.Stop.TheVariants.{Running, Halted, Masked, NoFrame}
use Rattle.rules.specs.declared.Cpu.{Cpu}
use Rattle.rules.specs.Arithmetic.{flag}
use Rattle.rules.specs.Record.{stop_number, cause_number}

-- "Numbers: a, b, c, sp, usp, ksp, pc, ivec, pdir, vadr, timer, timeout, kbchar. Flags: user, iena, paging, waiting. Also: stop reason, step count"; "The record
-- gains two marks", of a key and of the timer; "stop reason, cause (0 none, then item 4's order) and step count"; "Item 5's
-- register block grows by the mode, f and g"
abbrev pub numbers_of : Cpu → List ℕ
numbers_of c =
    c.regs.a ∷ c.regs.b ∷ c.regs.c ∷ c.regs.sp ∷ c.system.usp ∷ c.system.ksp ∷ c.regs.pc ∷ c.system.ivec
    ∷ c.space.pdir ∷ c.vadr ∷ c.clock.timer ∷ c.clock.timeout ∷ c.clock.kbchar
    ∷ flag c.system.user ∷ flag c.system.iena ∷ flag c.space.paging ∷ flag c.system.waiting
    ∷ flag c.clock.pending.key ∷ flag c.clock.pending.timer ∷ stop_number c.stop ∷ cause_number c.cause
    ∷ c.regs.count ∷ flag c.model.doubles ∷ c.floats.f ∷ c.floats.g ∷ []

-- a flag, from its number
abbrev pub flag_of : ℕ → Bool
flag_of n = eqb n 1

-- a stop reason, from its number; each above 3 as 3
unfoldable pub stop_of : ℕ → Stop
stop_of n = if eqb n 0 then Running else (if eqb n 1 then Halted else (if eqb n 2 then Masked else NoFrame))

-- a cause, from its number; each above 7 as 7
unfoldable pub cause_of : ℕ → Option Cause
cause_of n =
    if eqb n 0 then None
    else (if eqb n 1 then Some AddressBeyondMemory
    else (if eqb n 2 then Some DirectoryAbsent
    else (if eqb n 3 then Some DirectoryBeyondMemory
    else (if eqb n 4 then Some TableAbsent
    else (if eqb n 5 then Some NoUserRight
    else (if eqb n 6 then Some NoWriteRight
    else Some FrameBeyondMemory))))))

-- a record, from its numbers; those of 32 bits are read by `word`
unfoldable pub record_by : (ℕ → ℕ) → List ℕ → (taken written : ℕ) → Cpu
record_by word l taken written = record {
  regs = record { a = word (get_or l 0 0); b = word (get_or l 1 0); c = word (get_or l 2 0); sp = word (get_or l 3 0); pc = word (get_or l 6 0); count = get_or l 21 0 };
  clock = record {
    timer = word (get_or l 10 0);
    timeout = word (get_or l 11 0);
    kbchar = word (get_or l 12 0);
    taken = taken;
    pending = record { key = flag_of (get_or l 17 0); timer = flag_of (get_or l 18 0) };
  };
  vadr = word (get_or l 9 0);
  space = record { pdir = word (get_or l 8 0); paging = flag_of (get_or l 15 0) };
  system = record {
    usp = word (get_or l 4 0);
    ksp = word (get_or l 5 0);
    ivec = word (get_or l 7 0);
    user = flag_of (get_or l 13 0);
    iena = flag_of (get_or l 14 0);
    waiting = flag_of (get_or l 16 0);
  };
  cause = cause_of (get_or l 20 0);
  stop = stop_of (get_or l 19 0);
  written = written;
  model = record { doubles = flag_of (get_or l 22 0) };
  floats = record { f = get_or l 23 0; g = get_or l 24 0 };
}

-- as they are
abbrev pub record_of : List ℕ → (taken written : ℕ) → Cpu
record_of = record_by (λ n. n)

-- as code has them: of a number above its field, what is left modulo 2^32
abbrev pub record_of_low : List ℕ → (taken written : ℕ) → Cpu
record_of_low = record_by (λ n. n % 2 ^ 32)
