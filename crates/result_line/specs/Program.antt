-- Document 01, "Worked lines": what the run program prints of an executable, by the rules of a load and a run.
use Rattle.std.specs.Prelude.{ℕ, List, [], eqb, replicate, if◌then◌else◌}
use Rattle.paging.specs.declared.Entry.{Entry}
use Rattle.paging.specs.Translate.{buffered}
use Rattle.executable.specs.Executable.{load_number}
use Rattle.rules.specs.Record.{stop_number}
use Rattle.rules.specs.Load.{Loaded, load}
use Rattle.rules.specs.Step.{State}
use Rattle.rules.specs.Run.{Ran, run, reported}
use Rattle.result_line.specs.Line.{stop_line, refused_line}

-- the state after a load: "the buffer empty"
abbrev pub start_of : Loaded → List ℕ → State (List Entry)
start_of l con = record { cpu = l.machine.cpu; mem = l.mem; console = con; buffer = [] }

-- its run: "no keys", "budget 100,000"
abbrev pub run_of : Loaded → List ℕ → Ran (List Entry)
run_of l con = run buffered [] 100000 (start_of l con)

-- the line of a run
abbrev pub ran_line : Ran (List Entry) → List ℕ
ran_line r = stop_line (stop_number r.state.cpu.stop) (reported r) r.state.cpu.regs

-- the line of a load, and of its run if it is accepted
abbrev pub loaded_line : Loaded → List ℕ → List ℕ
loaded_line l con = if eqb (load_number l.answer) 0 then ran_line (run_of l con) else refused_line (load_number l.answer)

-- what is printed of a file, by a machine of memory m and console con
unfoldable pub line_of : (file m con : List ℕ) → List ℕ
line_of file m con = loaded_line (load file m) con

-- what the run program prints of a file: "a machine of 32,768 bytes, no keys, a console of 4,096 bytes, budget 100,000"
unfoldable pub program_line : List ℕ → List ℕ
unfolding line_of
program_line file = line_of file (replicate 32768 0) (replicate 4096 0)
