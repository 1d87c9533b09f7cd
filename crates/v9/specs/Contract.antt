-- Document 01, "How much a contract says", and document 02, item 6: what a run's entry promises, for any input.
use Rattle.std.specs.Prelude.{ℕ, ◌≡◌, List}
use Rattle.paging.specs.Translate.{buffered}
use Rattle.rules.specs.declared.Key.{Key}
use Rattle.rules.specs.declared.Machine.{Machine}
use Rattle.rules.specs.Run.{run_number, run, reported}
use Rattle.rules.specs.Walks.{walks_of}
use Rattle.refusals.specs.View.{view_of}
use Rattle.runs.specs.declared.RunResult.{RunResult}

-- a run of the record m, with keys ks and a budget, from memory `mem` and console `con`, gave r and left mem' and con', all as the rules say. Free is only
-- what the slots past the count hold after a step
pub record RunsAs (ks : List Key) (budget : ℕ) (m : Machine) (mem con : List ℕ) (r : RunResult) (mem' con' : List ℕ) : Type 0 where
  pub number : run_number r.answer ≡ run_number (run buffered ks budget (view_of m mem con)).answer
  pub answer : r.answer ≡ (run buffered ks budget (view_of m mem con)).answer
  pub steps : r.steps ≡ reported (run buffered ks budget (view_of m mem con))
  -- "Report with each run its table walks, equal to the walks of the step rules"
  pub walks : r.walks ≡ walks_of (run buffered ks budget (view_of m mem con))
  pub state : view_of r.machine mem' con' ≡ (run buffered ks budget (view_of m mem con)).state
  -- without a step the record given comes back, slots included
  pub same : r.steps ≡ 0 → r.machine ≡ m

-- "a run of budget 1" of the caller's own record m, which became x: "returns only the answer number" n
pub record StepsAs (ks : List Key) (m : Machine) (mem con : List ℕ) (n : ℕ) (x : Machine) (mem' con' : List ℕ) : Type 0 where
  pub number : n ≡ run_number (run buffered ks 1 (view_of m mem con)).answer
  pub state : view_of x mem' con' ≡ (run buffered ks 1 (view_of m mem con)).state
  -- without a step the record stays, slots included
  pub same : reported (run buffered ks 1 (view_of m mem con)) ≡ 0 → x ≡ m
