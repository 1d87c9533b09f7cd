-- Document 01, "Worked lines": the two lines are all: the run of an accepted load is never refused.
use Rattle.std.proofs.Common.{if◌then◌else◌, Ok, Err}
use Prim.Native.Nat.{ℕ, ◌%◌, ◌<◌, ◌≤◌}
use mathlib.Core.Bool.{Bool, true}
use mathlib.Core.List.{List}
use mathlib.Core.Path.{◌≡◌, ap}
use native.Mathlib.Omega.{arith}
use borrow.Author.Tests.{eq-eqb, lt-ltb, le-leb}
use lib.ListN.{length, length-append, length-drop, length-replicate}
use Rattle.paging.specs.Buffer.{buffer_ok, entries_ok}
use Rattle.executable.specs.Executable.{entry_of, body_of, load_answer}
use Rattle.executable.proofs.Accepted.{fit}
use Rattle.rules.specs.declared.RunRefusal.TheVariants.{BadConsole}
use Rattle.rules.specs.Load.{fresh_cpu, image, load}
use Rattle.rules.specs.Run.{run_answer, registers_ok, keys_ok, keys_rise, run}
use Rattle.result_line.specs.Program.{run_of}

length-image : (size : ℕ) (body : List ℕ) → length body ≤ size → length (image size body) ≡ size
unfolding image
length-image size body h = rw (length-append, length-replicate) (omega arith)

-- the fresh record passes
registers_fresh : (size entry : ℕ) → 0 < size → size % 4096 ≡ 0 → entry % 4 ≡ 0 → registers_ok size (fresh_cpu size entry) ≡ true
unfolding registers_ok
registers_fresh size entry s p e = rw (e, eq-eqb (size % 8) 0 (omega arith), lt-ltb 0 size s)

pub never_refused : (file m con : List ℕ) → load_answer (length m) file ≡ Ok tt → (run_of (load file m) con).answer ≡ Ok tt
unfolding load run run_answer keys_ok keys_rise buffer_ok entries_ok
never_refused file m con e =
    let f = fit (length m) file e in
    rw (e, length-image (length m) (body_of file) (rw length-drop f.body), f.ok, registers_fresh (length m) (entry_of file) f.some f.pages f.entry)
    (ap (λ (b : Bool). if b then Ok tt else Err BadConsole) (le-leb 0 (length con) (omega arith)))
