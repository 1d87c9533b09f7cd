-- Document 01, "Worked lines": how a line is written. It starts from a record and a memory, runs a number of steps, and says what is found then.
use Rattle.std.specs.Prelude.{ℕ, ◌+◌, ◌*◌, List, [], ◌∷◌, get_or, eqb, MatchBool}
use Rattle.paging.specs.Translate.{Translator, buffered, reader}
use Rattle.rules.specs.declared.Cpu.{Cpu}
use Rattle.rules.specs.declared.Key.{Key}
use Rattle.rules.specs.Record.{stop_number, cause_number}
use Rattle.rules.specs.Arithmetic.{flag}
use Rattle.rules.specs.Run.{Ran, run_number, reported}
use Rattle.worked.specs.Opened.{ran_by}

-- ---- what is found after a run

-- the answer number, the reported steps, and the state at the end without what the translator holds
pub record Found : Type 0 where
  pub answer : ℕ
  pub steps : ℕ
  pub cpu : Cpu
  pub mem : List ℕ
  pub console : List ℕ

abbrev pub found : {B : Type 0} → Ran B → Found
found r = record { answer = run_number r.answer; steps = reported r; cpu = r.state.cpu; mem = r.state.mem; console = r.state.console }

abbrev pub answer : Found → ℕ
answer s = s.answer

abbrev pub steps : Found → ℕ
steps s = s.steps

abbrev pub a : Found → ℕ
a s = s.cpu.regs.a

abbrev pub b : Found → ℕ
b s = s.cpu.regs.b

abbrev pub c : Found → ℕ
c s = s.cpu.regs.c

-- document 02, item 7
abbrev pub f : Found → ℕ
f s = s.cpu.floats.f

abbrev pub g : Found → ℕ
g s = s.cpu.floats.g

abbrev pub sp : Found → ℕ
sp s = s.cpu.regs.sp

abbrev pub pc : Found → ℕ
pc s = s.cpu.regs.pc

abbrev pub count : Found → ℕ
count s = s.cpu.regs.count

abbrev pub usp : Found → ℕ
usp s = s.cpu.system.usp

abbrev pub ksp : Found → ℕ
ksp s = s.cpu.system.ksp

abbrev pub ivec : Found → ℕ
ivec s = s.cpu.system.ivec

abbrev pub pdir : Found → ℕ
pdir s = s.cpu.space.pdir

abbrev pub paging : Found → ℕ
paging s = flag s.cpu.space.paging

abbrev pub vadr : Found → ℕ
vadr s = s.cpu.vadr

-- document 02's cause, by its number
abbrev pub cause : Found → ℕ
cause s = cause_number s.cpu.cause

abbrev pub timer : Found → ℕ
timer s = s.cpu.clock.timer

abbrev pub timeout : Found → ℕ
timeout s = s.cpu.clock.timeout

abbrev pub kbchar : Found → ℕ
kbchar s = s.cpu.clock.kbchar

abbrev pub taken : Found → ℕ
taken s = s.cpu.clock.taken

-- document 02's marks, of a key and of a timer event
abbrev pub key_pending : Found → ℕ
key_pending s = flag s.cpu.clock.pending.key

abbrev pub timer_pending : Found → ℕ
timer_pending s = flag s.cpu.clock.pending.timer

abbrev pub user : Found → ℕ
user s = flag s.cpu.system.user

abbrev pub iena : Found → ℕ
iena s = flag s.cpu.system.iena

abbrev pub waiting : Found → ℕ
waiting s = flag s.cpu.system.waiting

abbrev pub stop : Found → ℕ
stop s = stop_number s.cpu.stop

-- the console count, and a byte of the console
abbrev pub written : Found → ℕ
written s = s.cpu.written

abbrev pub output : ℕ → Found → ℕ
output at s = get_or s.console at 0

-- the byte and the word at an address
abbrev pub byte : ℕ → Found → ℕ
byte at s = get_or s.mem at 0

abbrev pub word : ℕ → Found → ℕ
word at s = byte at s + 256 * byte (at + 1) s + 65536 * byte (at + 2) s + 16777216 * byte (at + 3) s

-- the eight bytes
abbrev pub long : ℕ → Found → ℕ
long at s = word at s + 4294967296 * word (at + 4) s

-- ---- a line

-- a number of what is found, and what a line says of it
pub record Fact : Type 0 where
  pub number : Found → ℕ
  pub said : ℕ

infix 70 ◌is◌
abbrev pub ◌is◌ : (Found → ℕ) → ℕ → Fact
f is n = record { number = f; said = n }

pub record Line : Type 0 where
  pub cpu : Cpu
  pub mem : List ℕ
  pub console : List ℕ
  pub keys : List Key
  pub budget : ℕ
  pub says : List Fact

-- a line with neither keys nor console; one with keys; one with a console
abbrev pub line : Cpu → List ℕ → ℕ → List Fact → Line
line cpu mem budget says = record { cpu = cpu; mem = mem; console = []; keys = []; budget = budget; says = says }

abbrev pub keyed : List Key → Cpu → List ℕ → ℕ → List Fact → Line
keyed keys cpu mem budget says = record { cpu = cpu; mem = mem; console = []; keys = keys; budget = budget; says = says }

abbrev pub shown : List ℕ → Cpu → List ℕ → ℕ → List Fact → Line
shown console cpu mem budget says = record { cpu = cpu; mem = mem; console = console; keys = []; budget = budget; says = says }

-- nothing has this type: another number is found than is said
pub data Differs : (found said : ℕ) → Type 0 where

-- every fact holds
abbrev pub All : Found → List Fact → Type 0
All s [] = Unit
All s (f ∷ fs) = MatchBool (eqb (f.number s) f.said) (All s fs) (Differs (f.number s) f.said)

module _ {B : Type 0} (tr : Translator B) (held : B) where
  -- a line holds in a machine
  unfoldable pub Holds : Line → Type 0
  unfolding ran_by
  Holds l =
      let r = ran_by tr l.keys l.budget (record { cpu = l.cpu; mem = l.mem; console = l.console; buffer = held }) in
      All (found r) l.says

-- a line holds in the machine with the page buffer and in the table reader
unfoldable pub Both : Line → Type 0
unfolding Holds
Both l = Holds buffered [] l × Holds reader tt l

-- every line of a list holds in both: one proof a line and machine, so that an error names them
infixr 10 ◌also◌
pub data Hold : List Line → Type 0 where
  done : Hold []
  ◌also◌ : {l : Line} {ls : List Line} → Both l → Hold ls → Hold (l ∷ ls)
