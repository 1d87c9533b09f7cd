-- Document 01, "The record and the loaded program", and document 02, items 4 and 7: what a load gives.
use Rattle.std.specs.Prelude.{ℕ, ◌-◌, false, List, ◌++◌, length, replicate, Result, Ok, Err, None}
use Rattle.executable.specs.declared.LoadRefusal.{LoadRefusal}
use Rattle.executable.specs.Executable.{load_answer, entry_of, body_of}
use Rattle.paging.specs.declared.Entry.{Entry}
use Rattle.rules.specs.declared.Cpu.{Cpu}
use Rattle.rules.specs.declared.Machine.{Machine}
use Rattle.rules.specs.declared.Stop.TheVariants.{Running}

-- "pc = entry, sp = M, kbchar = 0xFFFFFFFF, all else 0"; the cause is "none at first", the mode "0 the old one"
abbrev pub cpu_with : (sp pc kbchar : ℕ) → Cpu
cpu_with sp pc kbchar = record {
  regs = record { a = 0; b = 0; c = 0; sp = sp; pc = pc; count = 0 };
  clock = record { timer = 0; timeout = 0; kbchar = kbchar; taken = 0; pending = record { key = false; timer = false } };
  vadr = 0;
  space = record { pdir = 0; paging = false };
  system = record { usp = 0; ksp = 0; ivec = 0; user = false; iena = false; waiting = false };
  cause = None;
  stop = Running;
  written = 0;
  model = record { doubles = false };
  floats = record { f = 0; g = 0 };
}

abbrev pub fresh_cpu : (size entry : ℕ) → Cpu
fresh_cpu size entry = cpu_with size entry 0xffffffff

-- the record of a refused load
abbrev pub zero_cpu : Cpu
zero_cpu = cpu_with 0 0 0

abbrev pub zero_entry : Entry
zero_entry = record { page = 0; frame = 0; user = false; write = false }

-- "the buffer empty"; its slots are 0
abbrev pub empty_machine : Cpu → Machine
empty_machine c = record { cpu = c; entries = replicate 64 zero_entry; held = 0 }

-- "puts the body at address 0, zeros the rest"
unfoldable pub image : ℕ → List ℕ → List ℕ
image size body = body ++ replicate (size - length body) 0

pub record Loaded : Type 0 where
  pub answer : Result Unit LoadRefusal
  pub machine : Machine
  pub mem : List ℕ

-- "A refused load returns an all-zero record and leaves memory"
abbrev pub load_by : Result Unit LoadRefusal → List ℕ → List ℕ → Loaded
load_by (Ok tt) file m = record { answer = Ok tt; machine = empty_machine (fresh_cpu (length m) (entry_of file)); mem = image (length m) (body_of file) }
load_by (Err e) file m = record { answer = Err e; machine = empty_machine zero_cpu; mem = m }

unfoldable pub load : List ℕ → List ℕ → Loaded
unfolding image
load file m = load_by (load_answer (length m) file) file m
