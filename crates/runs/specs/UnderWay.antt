-- Document 01, "Numbers returned": a run under way, from its beginning to its end.
use Rattle.std.specs.Prelude.{ℕ, ◌+◌, ◌≤◌, ◌<◌, ◌^◌, ◌≡◌, Bool, true, List, length, Option}
use Rattle.paging.specs.Buffer.{buffer_ok}
use Rattle.mmu.specs.Translates.{Kept}
use Rattle.walk.specs.Directory.{Directory}
use Rattle.rules.specs.declared.Key.{Key}
use Rattle.rules.specs.declared.Machine.{Machine}
use Rattle.rules.specs.declared.Stop.TheVariants.{Running}
use Rattle.rules.specs.Clock.{next_of}
use Rattle.rules.specs.Step.{State}
use Rattle.rules.specs.Run.{allowance}
use Rattle.rules.specs.Walks.{counted_state}
use Rattle.refusals.specs.View.{entries_of, view_of}
use Rattle.refusals.specs.Refusal.{refusal_of}
use Rattle.runs.specs.declared.UnderWay.{UnderWay}
use Rattle.runs.specs.Advance.{left_of}
use Rattle.contracts.specs.Contract.{end_of}

-- how a run begins: refused, with no step left, or accepted
unfoldable pub begin_of : Machine → (size console_size : ℕ) (rising : Bool) (keys budget : ℕ) → UnderWay
unfolding left_of
begin_of m size console_size rising keys budget =
    let a = refusal_of m size console_size rising keys budget in
    record { taken = m.cpu.clock.taken; left = left_of m.cpu.stop (allowance a budget); ran = record { machine = m; answer = a; steps = 0; walks = 0 } }

-- where a run under way ends, from memory and console as they are, its walks counted on
abbrev pub outcome : List Key → UnderWay → List ℕ → List ℕ → State Kept
outcome ks g mem con = end_of ks g.left (counted_state g.ran.walks (view_of g.ran.machine mem con))

-- a run that goes on, in memory of `size` bytes
pub record Able (g : UnderWay) (size : ℕ) : Type 0 where
  pub directory : Directory size g.ran.machine.cpu.space.pdir
  pub entries : buffer_ok size (entries_of g.ran.machine) ≡ true
  pub running : g.ran.machine.cpu.stop ≡ Running
  pub taken : g.taken ≡ g.ran.machine.cpu.clock.taken
  pub some : 0 < g.left
  pub count : g.ran.machine.cpu.regs.count + g.left < 2 ^ 64
  pub steps : g.ran.steps ≤ g.ran.machine.cpu.regs.count

-- the run g went on to r, with the next key: at least one step was made, and the outcome is kept
pub record Proceeds (g : UnderWay) (next : Option Key) (mem con : List ℕ) (r : UnderWay) (mem' con' : List ℕ) : Type 0 where
  pub able : 0 < r.left → Able r (length mem')
  pub less : r.left < g.left
  pub answer : r.ran.answer ≡ g.ran.answer
  pub steps : r.ran.steps + g.ran.machine.cpu.regs.count ≡ g.ran.steps + r.ran.machine.cpu.regs.count
  pub more : 0 < r.ran.steps
  pub same : (ks : List Key) → next_of ks g.taken ≡ next → outcome ks g mem con ≡ outcome ks r mem' con'
