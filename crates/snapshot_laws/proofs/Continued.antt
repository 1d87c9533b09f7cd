-- Document 02, item 5: runs before a save and after a read: a machine that a run has left can be saved; and "A machine saved on the barge should go on in the
-- office": a run in two halves with a file between them is the whole run.
use Rattle.std.proofs.Common.{if◌then◌else◌, Result, Ok, Err}
use Prim.Native.Nat.{ℕ, ◌+◌, ◌^◌, ◌≤◌}
use native.Mathlib.Omega.{arith}
use mathlib.Core.Bool.{Bool, true}
use mathlib.Core.List.{List, []}
use mathlib.Core.Path.{◌≡◌, refl, sym, ◌∙◌, ap}
use borrow.Author.Tests.{leb-true, le-leb, lt-ltb}
use lib.Dec.{leb, ltb}
use lib.ListN.{length}
use Rattle.word.proofs.BoolLaws.{both}
use Rattle.memory.specs.Memory.{size_ok}
use Rattle.paging.specs.declared.Entry.{Entry}
use Rattle.paging.specs.Translate.{Translator, buffered}
use Rattle.rules.specs.declared.Cpu.{Cpu}
use Rattle.rules.specs.declared.Key.{Key}
use Rattle.rules.specs.declared.RunRefusal.TheVariants.{BadRegisters}
use Rattle.rules.specs.Run.{registers_ok, keys_rise, keys_ok, console_ok, budget_ok, is_accepted, run_answer, steps_of, last_of, run}
use Rattle.rules.specs.Step.{State}
use Rattle.rules.proofs.AcceptableRecord.{registers_acceptable, acceptable_registers}
use Rattle.rules.proofs.AcceptedRun.{accepted_tests}
use Rattle.rules.proofs.StepsInParts.{last_both, steps_both}
use Rattle.acceptable.proofs.AcceptableRun.{buffered_again}
use Rattle.refusals.specs.View.{view_of}
use Rattle.machine_file.specs.Layout.{memory_at, length_by, counts_of}
use Rattle.snapshot.specs.declared.SaveRefusal.{SaveRefusal}
use Rattle.snapshot.specs.Saving.{save_answer, save_by, save}
use Rattle.snapshot.proofs.Answers.{save_accepts}
use Rattle.snapshot_laws.specs.Carried.{RunSaves, GoesOn, TwoHalves}
use Rattle.snapshot_laws.proofs.ReadSaved.{save_passes}
use Rattle.snapshot_laws.proofs.Runs.{goes_on}

-- ---- steps, in two parts

module _ {B : Type 0} (tr : Translator B) (ks : List Key) where
  -- the state after n steps, or where the machine stopped
  abbrev after : ℕ → State B → State B
  after n s = last_of s (steps_of tr ks n s)

  -- n steps and then p are n + p
  after_both : (n p : ℕ) (s : State B) → after (n + p) s ≡ after p (after n s)
  after_both n p s = ap (last_of s) (steps_both tr ks n p s) ∙ last_both s (steps_of tr ks n s) (steps_of tr ks p (after n s))

-- ---- runs

-- an accepted run is its steps
run_after : (budget : ℕ) (s : State (List Entry)) → run_answer buffered [] budget s ≡ Ok tt → (run buffered [] budget s).state ≡ after buffered [] budget s
unfolding run
run_after budget s e = rw e

answer_of_lem : (ks : List Key) (budget : ℕ) (s : State (List Entry)) → (run buffered ks budget s).answer ≡ Ok tt → run_answer buffered ks budget s ≡ Ok tt
unfolding run
answer_of_lem ks budget s e = e

-- it passed every test
tests : (ks : List Key) (budget : ℕ) (s : State (List Entry)) → run_answer buffered ks budget s ≡ Ok tt
    → (size_ok (length s.mem) ≡ true) × (registers_ok (length s.mem) s.cpu ≡ true) × (buffered.accepts (length s.mem) s.buffer ≡ true)
    × (keys_ok ks s.cpu.clock.taken ≡ true) × (console_ok s.cpu.written s.console ≡ true) × (budget_ok budget ≡ true)
unfolding run_answer
tests ks budget s e =
    accepted_tests (size_ok (length s.mem)) (registers_ok (length s.mem) s.cpu) (buffered.accepts (length s.mem) s.buffer)
    (keys_ok ks s.cpu.clock.taken) (console_ok s.cpu.written s.console) (budget_ok budget) (ap is_accepted e)

-- a smaller budget passes too
budget_less : (budget less : ℕ) → less ≤ budget → budget_ok budget ≡ true → budget_ok less ≡ true
budget_less budget less l e = let b = leb-true budget 1000000 e in le-leb less 1000000 (omega (arith, b, l))

smaller : (budget less : ℕ) (s : State (List Entry)) → less ≤ budget → run_answer buffered [] budget s ≡ Ok tt → run_answer buffered [] less s ≡ Ok tt
unfolding run_answer
smaller budget less s l e = let p = tests [] budget s e in rw (p.0, p.1, p.2, p.3, p.4, budget_less budget less l p.5)

-- without keys none are taken
none_taken_lem : (budget : ℕ) (s : State (List Entry)) → run_answer buffered [] budget s ≡ Ok tt → s.cpu.clock.taken ≡ 0
unfolding keys_ok
none_taken_lem budget s e =
    omega (arith, leb-true s.cpu.clock.taken 0 (both (keys_rise 0 []) (leb s.cpu.clock.taken 0) (tests [] budget s e).3).1)

-- a second run from where an accepted one ended, its step count below 2^63
second_accepted : (ks : List Key) (first second : ℕ) (s t : State (List Entry)) → t ≡ (run buffered ks first s).state → run_answer buffered ks first s ≡ Ok tt
    → budget_ok second ≡ true → ltb t.cpu.regs.count (2 ^ 63) ≡ true → run_answer buffered ks second t ≡ Ok tt
second_accepted ks first second s t e f b c =
    ap (run_answer buffered ks second) e
    ∙ buffered_again ks first second s (ap is_accepted f) b
    ∙ ap (λ (x : Bool). if x then Ok tt else Err BadRegisters) (ap (λ (u : State (List Entry)). ltb u.cpu.regs.count (2 ^ 63)) (sym e) ∙ c)

-- the step count of a machine that is saved
count_below : (size : ℕ) (c : Cpu) → registers_ok size c ≡ true → ltb c.regs.count (2 ^ 63) ≡ true
count_below size c e =
    sym (acceptable_registers c (registers_acceptable size c.clock.taken c.written c e (omega arith) (omega arith))) ∙ e

-- ---- the claims

pub run_saves : RunSaves
unfolding RunSaves save save_answer
run_saves start ks budget e m mem con file view count room offset =
    let t = view_of m mem con in
    let p = tests ks 0 t (second_accepted ks budget 0 start t view (answer_of_lem ks budget start e) refl (lt-ltb m.cpu.regs.count (2 ^ 63) count)) in
    let k = counts_of m (length mem) in
    let a = save_passes p.0 p.1 p.2 p.4 (le-leb (length_by k) (length file) room) (lt-ltb (memory_at k) (2 ^ 32) offset) in
    ap (λ (x : Result Unit SaveRefusal). (save_by x m mem con file).answer) a

pub two_halves : TwoHalves
unfolding TwoHalves GoesOn
two_halves start first second e m mem con file view fits saved mem' con' same later =
    let whole : run_answer buffered [] (first + second) start ≡ Ok tt = answer_of_lem [] (first + second) start e in
    let half = smaller (first + second) first start (omega arith) whole in
    let budget = budget_less (first + second) second (omega arith) (tests [] (first + second) start whole).5 in
    let a = save_accepts m mem con file saved in
    let t = view_of m mem con in
    let accepted = second_accepted [] first second start t view half budget (count_below (length mem) m.cpu a.registers) in
    ap (λ (s : State (List Entry)). (run buffered [] second s).state) (goes_on m mem con file fits saved (none_taken_lem second t accepted) mem' con' same later)
    ∙ run_after second t accepted
    ∙ ap (after buffered [] second) (view ∙ run_after first start half)
    ∙ sym (after_both buffered [] first second start)
    ∙ sym (run_after (first + second) start whole)
