-- What a line starts from: a record and a memory. Document 01, "The record and the loaded program".
use Rattle.std.specs.Prelude.{ℕ, zero, suc, ◌+◌, ◌-◌, ◌*◌, ◌/◌, ◌%◌, Bool, true, false, List, [], ◌∷◌, ◌++◌, length, replicate}
use Rattle.paging.specs.declared.Cause.{Cause}
use Rattle.paging.specs.declared.Entry.{Entry}
use Rattle.paging.specs.declared.TrapCode.TheVariants.{Fmem}
use Rattle.rules.specs.declared.Cpu.{Cpu}
use Rattle.rules.specs.declared.Key.{Key}
use Rattle.rules.specs.declared.Stop.{Stop}
use Rattle.rules.specs.Record.{with_b, with_c, with_sp, with_pc, with_count, with_regs, with_clock, with_pdir, with_paging, with_space, with_fault, with_floats}
use Rattle.rules.specs.Record.{with_system, with_stop, with_written, with_timer, with_timeout, with_taken, with_pending, with_usp, with_ksp, with_ivec, with_user, with_iena, with_waiting}
use Rattle.rules.specs.Load.{fresh_cpu}

-- ---- the record: fresh in 4,096 bytes with entry 0, and then with one part put in place

abbrev pub fresh : Cpu
fresh = fresh_cpu 4096 0

abbrev pub put_b : ℕ → Cpu → Cpu
put_b x c = with_regs (with_b x c.regs) c

abbrev pub put_c : ℕ → Cpu → Cpu
put_c x c = with_regs (with_c x c.regs) c

abbrev pub put_sp : ℕ → Cpu → Cpu
put_sp x c = with_regs (with_sp x c.regs) c

abbrev pub put_pc : ℕ → Cpu → Cpu
put_pc x c = with_regs (with_pc x c.regs) c

abbrev pub put_count : ℕ → Cpu → Cpu
put_count x c = with_regs (with_count x c.regs) c

abbrev pub put_timer : (timer timeout : ℕ) → Cpu → Cpu
put_timer x y c = with_clock (with_timer x (with_timeout y c.clock)) c

abbrev pub put_taken : ℕ → Cpu → Cpu
put_taken x c = with_clock (with_taken x c.clock) c

-- document 02's marks, of a key and of a timer event
abbrev pub put_pending : (key timer : Bool) → Cpu → Cpu
put_pending x y c = with_clock (with_pending (record { key = x; timer = y }) c.clock) c

abbrev pub put_written : ℕ → Cpu → Cpu
put_written x c = with_written x c

abbrev pub put_usp : ℕ → Cpu → Cpu
put_usp x c = with_system (with_usp x c.system) c

abbrev pub put_ksp : ℕ → Cpu → Cpu
put_ksp x c = with_system (with_ksp x c.system) c

abbrev pub put_ivec : ℕ → Cpu → Cpu
put_ivec x c = with_system (with_ivec x c.system) c

abbrev pub in_user : Cpu → Cpu
in_user c = with_system (with_user true c.system) c

abbrev pub enabled : Cpu → Cpu
enabled c = with_system (with_iena true c.system) c

abbrev pub at_rest : Cpu → Cpu
at_rest c = with_system (with_waiting true c.system) c

-- paging, on or off, from a directory
abbrev put_space : (paging : Bool) (pdir : ℕ) → Cpu → Cpu
put_space on x c = with_space (with_pdir x (with_paging on c.space)) c

abbrev pub put_pdir : ℕ → Cpu → Cpu
put_pdir x c = put_space false x c

-- paging on, from this directory
abbrev pub paged_from : ℕ → Cpu → Cpu
paged_from x c = put_space true x c

abbrev pub stopped_for : Stop → Cpu → Cpu
stopped_for x c = with_stop x c

-- after a fault: its cause, and its address in vadr
abbrev pub after_fault : Cause → ℕ → Cpu → Cpu
after_fault x address c = with_fault (record { code = Fmem; cause = x; address = address }) c

-- document 02, item 7: f and g; and the new mode, the one place in this crate that names every group of the record
abbrev pub put_floats : (f g : ℕ) → Cpu → Cpu
put_floats x y c = with_floats (record { f = x; g = y }) c

abbrev pub with_doubles : Cpu → Cpu
with_doubles c = record {
  regs = c.regs;
  clock = c.clock;
  vadr = c.vadr;
  space = c.space;
  system = c.system;
  cause = c.cause;
  stop = c.stop;
  written = c.written;
  model = record { doubles = true };
  floats = c.floats;
}

-- a key: its step number and its byte
abbrev pub key : (step byte : ℕ) → Key
key n x = record { step = n; byte = x }

-- an entry of the page buffer; and n entries of the pages from p on, with frame 0 and both rights
abbrev pub entry : (page frame : ℕ) (user write : Bool) → Entry
entry p f u w = record { page = p; frame = f; user = u; write = w }

abbrev pub entries : (n p : ℕ) → List Entry
entries zero p = []
entries (suc n) p = entry p 0 true true ∷ entries n (suc p)

-- ---- memory

-- the four bytes of a word, the lowest first
abbrev pub bytes_of : ℕ → List ℕ
bytes_of w = w % 256 ∷ w / 256 % 256 ∷ w / 65536 % 256 ∷ w / 16777216 ∷ []

abbrev pub bytes_of_all : List ℕ → List ℕ
bytes_of_all [] = []
bytes_of_all (w ∷ ws) = bytes_of w ++ bytes_of_all ws

abbrev pub zeros : ℕ → List ℕ
zeros n = replicate n 0

-- words that stand one after another from an address on
pub record Words : Type 0 where
  pub at : ℕ
  pub words : List ℕ

infix 70 ◌holds◌
abbrev pub ◌holds◌ : ℕ → List ℕ → Words
at holds ws = record { at = at; words = ws }

-- the bytes from an address up to a size: zeros, and words at rising addresses
abbrev pub bytes_from : ℕ → List Words → ℕ → List ℕ
bytes_from from [] size = zeros (size - from)
bytes_from from (w ∷ ws) size = zeros (w.at - from) ++ (bytes_of_all w.words ++ bytes_from (w.at + 4 * length w.words) ws size)

-- a memory of a size
abbrev pub memory : ℕ → List Words → List ℕ
memory size ws = bytes_from 0 ws size

-- 4,096 bytes that begin with these words
abbrev pub small : List ℕ → List ℕ
small ws = memory 4096 (0 holds ws ∷ [])
