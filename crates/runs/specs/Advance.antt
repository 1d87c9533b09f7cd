-- Document 01, "One step": a run goes on until its next key is taken, or to its end.
use Rattle.std.specs.Prelude.{ℕ, ◌+◌, ◌≤◌, ◌<◌, ◌≡◌, List, length, if◌then◌else◌, Option}
use Rattle.mmu.specs.Good.{Good}
use Rattle.rules.specs.declared.Cpu.{Cpu}
use Rattle.rules.specs.declared.Key.{Key}
use Rattle.rules.specs.declared.Stop.{Stop}
use Rattle.rules.specs.declared.Stop.TheVariants.{Running}
use Rattle.rules.specs.Record.{is_running}
use Rattle.rules.specs.Clock.{next_of}
use Rattle.contracts.specs.Contract.{state_of, end_of}
use Rattle.machine.specs.declared.Advanced.{Advanced}

-- the steps that are left, none once the machine has stopped
unfoldable pub left_of : Stop → ℕ → ℕ
left_of s n = if is_running s then n else 0

-- the end of a run from the record c, with `left` steps and the next key, is that of the run from g: at least one step was made
pub record Goes (c : Cpu) (left : ℕ) (next : Option Key) (m con l : List ℕ) (g : Advanced) (m' con' l' : List ℕ) : Type 0 where
  pub good : Good (length m') g.cpu.space.pdir l'
  pub running : 0 < g.left → g.cpu.stop ≡ Running
  pub less : g.left < left
  pub later : c.regs.count < g.cpu.regs.count
  pub count : g.cpu.regs.count + g.left ≤ c.regs.count + left
  pub same : (ks : List Key) → next_of ks c.clock.taken ≡ next → end_of ks left (state_of c m con l) ≡ end_of ks g.left (state_of g.cpu m' con' l')
