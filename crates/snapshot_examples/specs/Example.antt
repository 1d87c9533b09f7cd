-- Document 02, items 5 and 7: a machine in the new mode and its file, byte by byte up to memory. Every number of the record is another, so that a wrong order or
-- width shows.
use Rattle.std.specs.Prelude.{ℕ, true, false, List, [], ◌∷◌, ◌≡◌, refl, take, drop, replicate, Some}
use Rattle.paging.specs.declared.Cause.TheVariants.{NoWriteRight}
use Rattle.rules.specs.declared.Cpu.{Cpu}
use Rattle.rules.specs.declared.Machine.{Machine}
use Rattle.rules.specs.declared.Stop.TheVariants.{Masked}
use Rattle.rules.specs.Load.{zero_entry}
use Rattle.rules.specs.Record.{with_clock, with_taken}
use Rattle.worked.specs.Start.{entry, zeros}
use Rattle.refusals.specs.View.{first_slots}
use Rattle.encoding.specs.Encoding.{little_endian, encoded}
use Rattle.encoding.specs.Entries.{encoded_entries}
use Rattle.machine_file.specs.Layout.{file_of}
use Rattle.machine_file.specs.Judged.{counts_in, cpu_in}

abbrev pub cpu : Cpu
cpu = record {
  regs = record { a = 0xa1a2a3a4; b = 0xb1; c = 0xc1; sp = 0x18; pc = 0x1c; count = 0x0102030405060708 };
  clock = record { timer = 0x71; timeout = 0x72; kbchar = 0x73; taken = 9; pending = record { key = true; timer = false } };
  vadr = 0x1004;
  space = record { pdir = 0; paging = true };
  system = record { usp = 0x28; ksp = 0x38; ivec = 0x2c; user = false; iena = true; waiting = false };
  cause = Some NoWriteRight;
  stop = Masked;
  written = 3;
  model = record { doubles = true };
  floats = record { f = 0x10f2f3f4f5f6f7f8; g = 0xe1e2e3e4e5e6e7e8 };
}

-- one entry is held; the slot after it means nothing
abbrev pub machine : Machine
machine = record { cpu = cpu; entries = entry 0xabcde 0 false true ∷ entry 7 7 true true ∷ replicate 62 zero_entry; held = 1 }

-- of this console three bytes are written
abbrev pub console : List ℕ
console = 118 ∷ 57 ∷ 10 ∷ 63 ∷ []

abbrev pub memory : List ℕ
memory = 0x23 ∷ zeros 4095

unfoldable pub file : List ℕ
unfolding little_endian encoded encoded_entries first_slots file_of
file = file_of machine memory console

-- the four bytes of a word
abbrev word : (p q r s : ℕ) → List ℕ → List ℕ
word p q r s rest = p ∷ q ∷ r ∷ s ∷ rest

pub head_shown : take 159 file
    ≡ ( -- one page, one entry, three console bytes; the offsets 28, 140, 156, 159
    word 1 0 0 0 (word 1 0 0 0 (word 3 0 0 0 (word 28 0 0 0 (word 140 0 0 0 (word 156 0 0 0 (word 159 0 0 0
    -- a, b, c, sp, usp, ksp, pc, ivec, pdir, vadr
    (word 0xa4 0xa3 0xa2 0xa1 (word 0xb1 0 0 0 (word 0xc1 0 0 0 (word 0x18 0 0 0 (word 0x28 0 0 0 (word 0x38 0 0 0 (word 0x1c 0 0 0 (word 0x2c 0 0 0
    (word 0 0 0 0 (word 4 0x10 0 0
    -- timer, timeout, kbchar; user, iena, paging, waiting
    (word 0x71 0 0 0 (word 0x72 0 0 0 (word 0x73 0 0 0 (word 0 0 0 0 (word 1 0 0 0 (word 1 0 0 0 (word 0 0 0 0
    -- the marks of key and timer, stop reason, cause, step count
    (word 1 0 0 0 (word 0 0 0 0 (word 2 0 0 0 (word 6 0 0 0 (word 8 7 6 5 (word 4 3 2 1
    -- the mode, f, g
    (word 1 0 0 0 (word 0xf8 0xf7 0xf6 0xf5 (word 0xf4 0xf3 0xf2 0x10 (word 0xe8 0xe7 0xe6 0xe5 (word 0xe4 0xe3 0xe2 0xe1
    -- the entry: page, frame, user right, write right
    (word 0xde 0xbc 0x0a 0 (word 0 0 0 0 (word 0 0 0 0 (word 1 0 0 0
    -- the console
    (118 ∷ 57 ∷ 10 ∷ []))))))))))))))))))))))))))))))))))))))))
unfolding file
head_shown = refl

-- memory is the rest
pub memory_shown : drop 159 file ≡ memory
unfolding file
memory_shown = refl

-- the registers are those of the machine, with no keys taken
pub registers_shown : cpu_in file (counts_in file) ≡ with_clock (with_taken 0 cpu.clock) cpu
unfolding file cpu_in
registers_shown = refl
