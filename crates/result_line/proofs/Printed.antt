-- The line of a load, and of its run.
use Rattle.std.specs.Result.{is_err}
use Rattle.std.proofs.Common.{Result, Ok, Err}
use Prim.Native.Nat.{ℕ}
use mathlib.Core.Bool.{Bool, true, false, true≢false}
use mathlib.Core.List.{List, []}
use mathlib.Core.Path.{◌≡◌, refl, sym, ◌∙◌, ap, subst}
use borrow.Author.Tests.{ne_eqb}
use lib.ListN.{length}
use Rattle.paging.specs.declared.Entry.{Entry}
use Rattle.paging.specs.Translate.{buffered}
use Rattle.executable.specs.declared.LoadRefusal.{LoadRefusal}
use Rattle.executable.specs.Executable.{load_number, load_answer}
use Rattle.executable.proofs.Accepted.{accepting, unrefused}
use Rattle.keys.specs.Packed.{unpacked}
use Rattle.rules.specs.declared.Key.{Key}
use Rattle.rules.specs.declared.Machine.{Machine}
use Rattle.rules.specs.Record.{stop_number}
use Rattle.rules.specs.Load.{Loaded, load_by, load}
use Rattle.rules.specs.Run.{Ran, run, reported}
use Rattle.rules.specs.Step.{State}
use Rattle.refusals.specs.View.{first_slots, entries_of, view_of}
use Rattle.runs.specs.declared.RunResult.{RunResult}
use Rattle.v9.specs.Contract.{RunsAs}
use Rattle.result_line.specs.Line.{stop_line, refused_line, Shows}
use Rattle.result_line.specs.Program.{start_of, run_of, ran_line, loaded_line, line_of}

-- no load gives entries
none_held : (a : Result Unit LoadRefusal) (file m : List ℕ) → entries_of (load_by a file m).machine ≡ []
unfolding first_slots
none_held (Ok tt) file m = refl
none_held (Err e) file m = refl

-- so that the record is seen as the state after the load
started : (file m con : List ℕ) → view_of (load file m).machine (load file m).mem con ≡ start_of (load file m) con
unfolding load
started file m con = ap (λ (b : List Entry). record { cpu = (load file m).machine.cpu; mem = (load file m).mem; console = con; buffer = b }) (none_held (load_answer (length m) file) file m)

no_keys : unpacked [] ≡ []
unfolding unpacked
no_keys = refl

-- the two lines, by the answer
refused_by_lem : (l : Loaded) (con : List ℕ) → is_err l.answer ≡ true → refused_line (load_number l.answer) ≡ loaded_line l con
refused_by_lem l con h = rw (ne_eqb (load_number l.answer) 0 (λ z. true≢false (sym h ∙ ap is_err (accepting l.answer z))))

ran_by_lem : (l : Loaded) (con : List ℕ) → is_err l.answer ≡ false → ran_line (run_of l con) ≡ loaded_line l con
ran_by_lem l con h = rw (unrefused l.answer h)

-- the line of a record in which a run ended
ended : (ran : Ran (List Entry)) (x : Machine) {n : ℕ} {m' con' : List ℕ} → n ≡ reported ran → view_of x m' con' ≡ ran.state
    → stop_line (stop_number x.cpu.stop) n x.cpu.regs ≡ ran_line ran
ended ran x p q = rw (p, ← q)

module _ (file m con : List ℕ) {line : List ℕ} {r : ℕ} where
  pub shown_refused : {l : Loaded} {b : Bool} {n : ℕ} → l ≡ load file m → b ≡ is_err l.answer → b ≡ true → n ≡ load_number l.answer
      → Shows (refused_line n) line r → Shows (line_of file m con) line r
  unfolding line_of
  shown_refused {l} p h z q s =
      subst (λ (t : List ℕ). Shows t line r) (ap refused_line q ∙ refused_by_lem l con (sym h ∙ z) ∙ ap (λ (k : Loaded). loaded_line k con) p) s

  pub shown_ran : {l : Loaded} {b : Bool} {t : RunResult} {m' con' : List ℕ} → l ≡ load file m → b ≡ is_err l.answer → b ≡ false
      → RunsAs (unpacked []) 100000 l.machine l.mem con t m' con'
      → Shows (stop_line (stop_number t.machine.cpu.stop) t.steps t.machine.cpu.regs) line r → Shows (line_of file m con) line r
  unfolding line_of
  shown_ran {l} {b} {t} {m'} {con'} p h z w s =
      let seen : view_of l.machine l.mem con ≡ start_of l con = subst (λ (k : Loaded). view_of k.machine k.mem con ≡ start_of k con) (sym p) (started file m con) in
      subst (λ (u : List ℕ). Shows u line r)
      (ended (run buffered (unpacked []) 100000 (view_of l.machine l.mem con)) t.machine w.steps w.state
      ∙ ap (λ (ks : List Key). ran_line (run buffered ks 100000 (view_of l.machine l.mem con))) no_keys
      ∙ ap (λ (v : State (List Entry)). ran_line (run buffered [] 100000 v)) seen
      ∙ ran_by_lem l con (sym h ∙ z)
      ∙ ap (λ (k : Loaded). loaded_line k con) p)
      s
