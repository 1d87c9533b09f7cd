-- Document 02, item 5: a read by what its parts ensure: the answer decides whether the file is unpacked.
use Rattle.std.specs.Result.{is_err}
use Rattle.executable.proofs.Accepted.{unrefused}
use Rattle.std.proofs.Common.{Result, Ok, Err}
use Prim.Native.Nat.{ℕ, ◌≤◌}
use native.Mathlib.Omega.{arith}
use mathlib.Core.List.{List}
use mathlib.Core.Bool.{Bool, true, false, false≢true}
use mathlib.Core.Path.{◌≡◌, refl, sym, ◌∙◌, ap}
use lib.ListN.{length}
use Rattle.rules.specs.declared.Cpu.{Cpu}
use Rattle.rules.specs.declared.Machine.{Machine}
use Rattle.rules.specs.Load.{cpu_with, zero_cpu, empty_machine}
use Rattle.machine_file.specs.declared.Counts.{Counts}
use Rattle.machine_file.specs.Layout.{header_bytes}
use Rattle.machine_file.specs.Judged.{machine_in, Counted, Held}
use Rattle.snapshot.specs.declared.ReadRefusal.{ReadRefusal}
use Rattle.snapshot.specs.declared.Restored.{Restored as RestoredResult}
use Rattle.snapshot.specs.Reading.{Restored, read_number, read_answer, read_by, read}
use Rattle.snapshot.specs.Contract.{restored_with, ReadsAs, Readable, Unpacked}
use Rattle.snapshot.proofs.Answers.{ReadAccepted, read_told}

-- ---- the whole

-- what is read by any other answer
refused_by_lem : (a : Result Unit ReadRefusal) (file mem con : List ℕ) → is_err a ≡ true
    → restored_with (record { answer = a; machine = empty_machine zero_cpu }) mem con ≡ read_by a file mem con
refused_by_lem (Ok tt) file mem con h = absurd (false≢true h)
refused_by_lem (Err e) file mem con h = refl

-- a read as the rules have it answers with their number
as_ruled : (file mem con : List ℕ) (r : RestoredResult) {mem' con' : List ℕ} → restored_with r mem' con' ≡ read file mem con → ReadsAs file mem con r mem' con'
as_ruled file mem con r e = record { number = ap (λ (s : Restored). read_number s.answer) e; same = e }

module _ (file mem con : List ℕ) {a : Result Unit ReadRefusal} {b : Bool} (p : a ≡ read_answer file (length mem) (length con)) (q : b ≡ is_err a) where
  pub refused : {c : Cpu} {m : Machine} → b ≡ true → c ≡ cpu_with 0 0 0 → m ≡ empty_machine c → ReadsAs file mem con (record { answer = a; machine = m }) mem con
  unfolding read
  refused {m = m} h d e = as_ruled file mem con (record { answer = a; machine = m }) (rw (e, d, ← p) (refused_by_lem a file mem con (sym q ∙ h)))

  module _ (z : b ≡ false) where
    accepts : ReadAccepted file mem con
    accepts = read_told file mem con (sym p ∙ unrefused a (sym q ∙ z))

    pub with_header : header_bytes ≤ length file
    with_header = accepts.header

    module _ {k : Counts} (h : Counted file k) where
      pub readable : Readable file mem con k
      readable =
          let t = accepts in
          let e = h.same in
          record {
            small = h.small;
            held = record { few = rw e t.few; within = rw e (omega (arith, t.total)) };
            console = rw e t.console;
            total = rw e (omega (arith, t.total, t.pages));
          }

      pub with_blocks : Held file k
      with_blocks = readable.held

      pub accepted : {m : Machine} {mem' con' : List ℕ} → Unpacked file k con mem' con' → m ≡ machine_in file k
          → ReadsAs file mem con (record { answer = a; machine = m }) mem' con'
      unfolding read
      accepted {m} {mem'} {con'} u e =
          as_ruled file mem con (record { answer = a; machine = m })
          (rw (← p, unrefused a (sym q ∙ z), e, u.memory, u.console, h.same))
