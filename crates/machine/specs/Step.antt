-- Document 01, "One step": what `step` promises.
use Rattle.std.specs.Prelude.{ℕ, ◌≡◌, List, length, Option}
use Rattle.mmu.specs.Translates.{translator}
use Rattle.mmu.specs.Good.{Good}
use Rattle.rules.specs.declared.Key.{Key}
use Rattle.rules.specs.declared.Cpu.{Cpu}
use Rattle.rules.specs.Step.{step_by}
use Rattle.contracts.specs.Contract.{state_of}

-- from the record c, memory m, console con and buffer l, with the next key: the code answered x, with m', con' and l'
pub record Steps (c : Cpu) (next : Option Key) (m con l : List ℕ) (x : Cpu) (m' con' l' : List ℕ) : Type 0 where
  pub same : state_of x m' con' l' ≡ (step_by translator next (state_of c m con l)).state
  pub good : Good (length m') x.space.pdir l'
