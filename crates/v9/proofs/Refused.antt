-- Document 01, "Numbers returned": "A refused run returns the record given and zero steps; memory and console keep their bytes", of each entry, by its
-- contract; and "accepted with zero steps and no change". Document 02, item 6: without a step no walk is reported.
use Rattle.std.proofs.Common.{Result, Ok, Err}
use Prim.Native.Nat.{ℕ}
use mathlib.Core.Path.{◌≡◌, refl, sym, ◌∙◌, ap}
use mathlib.Core.Bool.{false}
use mathlib.Core.List.{List, [], ◌∷◌}
use native.Mathlib.Omega.{arith}
use lib.ListN.{length}
use Rattle.paging.specs.declared.Entry.{Entry}
use Rattle.paging.specs.Translate.{buffered}
use Rattle.paging.specs.Counting.{walks_in}
use Rattle.rules.specs.declared.Key.{Key}
use Rattle.rules.specs.declared.Machine.{Machine}
use Rattle.rules.specs.declared.RunRefusal.{RunRefusal}
use Rattle.rules.specs.Record.{is_running}
use Rattle.rules.specs.Step.{State, Stepped}
use Rattle.rules.specs.Run.{run_number, is_accepted, run, reported}
use Rattle.rules.specs.Walks.{events_of}
use Rattle.rules.proofs.NoSteps.{NoSteps, refused_run, stopped_run, unbudgeted_run}
use Rattle.refusals.specs.View.{view_of}
use Rattle.runs.specs.declared.RunResult.{RunResult}
use Rattle.v9.specs.Contract.{RunsAs, StepsAs}

-- the record x is the one given, its slots included, and memory and console are as they were
pub record Unchanged (m : Machine) (mem con : List ℕ) (x : Machine) (mem' con' : List ℕ) : Type 0 where
  pub machine : x ≡ m
  pub memory : mem' ≡ mem
  pub console : con' ≡ con

-- an answer whose number is not 0 refuses
refusing : (a : Result Unit RunRefusal) → (run_number a ≡ 0 → ⊥) → is_accepted a ≡ false
refusing (Ok tt) h = absurd (h refl)
refusing (Err e) h = refl

-- without a step there is no walk
no_walks : {B : Type 0} (ts : List (Stepped B)) → length ts ≡ 0 → walks_in (events_of ts) ≡ 0
unfolding events_of walks_in
no_walks [] e = refl
no_walks (t ∷ ts) e = absurd (omega arith)

-- ---- `v9::run`, `v9::run_packed`

module _ {ks : List Key} {budget : ℕ} {m : Machine} {mem con : List ℕ} {g : RunResult} {mem' con' : List ℕ} (r : RunsAs ks budget m mem con g mem' con') where
  -- where the rules make no step
  unchanged : NoSteps buffered ks budget (view_of m mem con) → (g.steps ≡ 0) × Unchanged m mem con g.machine mem' con'
  unchanged o =
      let z = r.steps ∙ o.none in
      let e = r.state ∙ o.same in
      (z, record { machine = r.same z; memory = ap (λ (s : State (List Entry)). s.mem) e; console = ap (λ (s : State (List Entry)). s.console) e })

  pub refused_unchanged : (run_number g.answer ≡ 0 → ⊥) → (g.steps ≡ 0) × Unchanged m mem con g.machine mem' con'
  refused_unchanged h =
      unchanged (refused_run buffered ks budget (view_of m mem con) (refusing (run buffered ks budget (view_of m mem con)).answer (λ z. h (r.number ∙ z))))

  -- "starts stopped, or has budget 0"
  pub stopped_unchanged : is_running m.cpu.stop ≡ false → (g.steps ≡ 0) × Unchanged m mem con g.machine mem' con'
  stopped_unchanged e = unchanged (stopped_run buffered ks budget (view_of m mem con) e)

  pub unbudgeted_unchanged : budget ≡ 0 → (g.steps ≡ 0) × Unchanged m mem con g.machine mem' con'
  unbudgeted_unchanged e = unchanged (unbudgeted_run buffered ks budget (view_of m mem con) e)

  -- a refused run reports no walks, nor does an accepted one without a step
  pub unstepped_walks : g.steps ≡ 0 → g.walks ≡ 0
  unstepped_walks e = r.walks ∙ no_walks (run buffered ks budget (view_of m mem con)).steps (sym r.steps ∙ e)

  pub refused_walks : (run_number g.answer ≡ 0 → ⊥) → g.walks ≡ 0
  refused_walks h = unstepped_walks (refused_unchanged h).0

-- ---- `v9::single_step`

module _ {m : Machine} {mem con : List ℕ} {n : ℕ} {x : Machine} {mem' con' : List ℕ} where
  -- of a run of some budget, what is told to the caller of a single step
  told_unchanged : (ks : List Key) (budget : ℕ) → n ≡ run_number (run buffered ks budget (view_of m mem con)).answer
      → mem' ≡ (run buffered ks budget (view_of m mem con)).state.mem → con' ≡ (run buffered ks budget (view_of m mem con)).state.console
      → (reported (run buffered ks budget (view_of m mem con)) ≡ 0 → x ≡ m) → (n ≡ 0 → ⊥) → Unchanged m mem con x mem' con'
  told_unchanged ks budget number memory console same h =
      let o = refused_run buffered ks budget (view_of m mem con) (refusing (run buffered ks budget (view_of m mem con)).answer (λ z. h (number ∙ z))) in
      record {
        machine = same o.none;
        memory = memory ∙ ap (λ (s : State (List Entry)). s.mem) o.same;
        console = console ∙ ap (λ (s : State (List Entry)). s.console) o.same;
      }

  pub refused_step_unchanged : {ks : List Key} → StepsAs ks m mem con n x mem' con' → (n ≡ 0 → ⊥) → Unchanged m mem con x mem' con'
  refused_step_unchanged r =
      told_unchanged _ _ r.number (ap (λ (s : State (List Entry)). s.mem) r.state) (ap (λ (s : State (List Entry)). s.console) r.state) r.same
