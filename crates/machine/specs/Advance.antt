-- Document 01, "Numbers returned": one step or more of a run that goes on.
use Rattle.std.specs.Prelude.{ℕ, ◌+◌, ◌-◌, ◌≤◌, ◌<◌, ◌^◌, ◌≡◌, List, length, Option}
use Rattle.mmu.specs.Good.{Good}
use Rattle.rules.specs.declared.Cpu.{Cpu}
use Rattle.rules.specs.declared.Key.{Key}
use Rattle.rules.specs.declared.Stop.TheVariants.{Running}
use Rattle.rules.specs.Clock.{next_of}
use Rattle.rules.specs.Step.{settle_tree}
use Rattle.contracts.specs.declared.Done.{Done}
use Rattle.contracts.specs.declared.End.TheVariants.{Ok}
use Rattle.contracts.specs.Contract.{out_of, state_of, Finishes, end_of}
use Rattle.clock.specs.Quiet.{after_quiet, Room}
use Rattle.machine.specs.Instructions.{raise_count}
use Rattle.machine.specs.declared.Advanced.{Advanced}

-- a run that can go on, with `left` steps left
pub record Ready (c : Cpu) (left : ℕ) (m l : List ℕ) : Type 0 where
  pub good : Good (length m) c.space.pdir l
  pub running : c.stop ≡ Running
  pub some : 0 < left
  pub count : c.regs.count + left < 2 ^ 64

-- n quiet steps from c, of the `left` that are left, whose instructions ended as b says
pub record EndsWithin (c : Cpu) (left n : ℕ) (b : Done) : Type 0 where
  pub few : n ≤ left
  pub small : c.regs.count + n < 2 ^ 64
  pub later : c.regs.count ≤ b.regs.count
  pub all : b.end ≡ Ok → Room c b.regs
  pub early : (b.end ≡ Ok → ⊥) → (b.regs.count < c.regs.count + n) × Room c (raise_count b.regs)

-- where they leave the machine: an instruction that did not end well has its step finished
pub record Finished (c : Cpu) (left n : ℕ) (b : Done) (m con l : List ℕ) (g : Advanced) (m' con' l' : List ℕ) : Type 0 where
  pub all : b.end ≡ Ok → (g ≡ record { cpu = after_quiet c b.regs; left = left - n }) × ((m' ≡ m) × ((con' ≡ con) × (l' ≡ l)))
  pub early : (b.end ≡ Ok → ⊥) → (g.left ≡ left - (b.regs.count - c.regs.count) - 1)
      × Finishes (settle_tree (length m) (length con) (after_quiet c (raise_count b.regs)) (out_of b)) (after_quiet c (raise_count b.regs)) m con l g.cpu m' con' l'

-- what is left falls, and the run ends in the same state; where the machine stops on the way, steps may be left
pub record Advances (c : Cpu) (left : ℕ) (next : Option Key) (m con l : List ℕ) (g : Advanced) (m' con' l' : List ℕ) : Type 0 where
  pub good : Good (length m') g.cpu.space.pdir l'
  pub less : g.left < left
  pub count : g.cpu.regs.count + g.left ≡ c.regs.count + left
  pub size : length m' ≡ length m
  pub same : (ks : List Key) → next_of ks c.clock.taken ≡ next
      → end_of ks left (state_of c m con l)
      ≡ end_of ks g.left (state_of g.cpu m' con' l')
