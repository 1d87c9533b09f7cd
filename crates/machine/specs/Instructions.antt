-- Document 01, "One step": instructions of its table one after another, in steps in which the clock only counts.
use Rattle.std.specs.Prelude.{ℕ, ◌+◌, ◌-◌, ◌≤◌, ◌<◌, Bool, ◌≡◌, List, [], length}
use Rattle.paging.specs.declared.Space.{Space}
use Rattle.mmu.specs.Good.{Good}
use Rattle.mmu.specs.Translates.{Result, result, kept_in, translator}
use Rattle.rules.specs.declared.Regs.{Regs}
use Rattle.rules.specs.declared.Cpu.{Cpu}
use Rattle.rules.specs.declared.Key.{Key}
use Rattle.rules.specs.declared.Stop.TheVariants.{Running}
use Rattle.rules.specs.Record.{with_count}
use Rattle.rules.specs.Tree.{interpret}
use Rattle.rules.specs.Outcome.{Out}
use Rattle.rules.specs.Execute.{instruction_tree}
use Rattle.rules.specs.Clock.{next_of}
use Rattle.contracts.specs.declared.Done.{Done}
use Rattle.contracts.specs.declared.End.TheVariants.{Ok}
use Rattle.contracts.specs.Contract.{ok, out_of, made, state_of, end_of}
use Rattle.clock.specs.Quiet.{Quiet, after_quiet}
use Rattle.machine.specs.Settled.{settled}

-- "Step count rises by 1"
abbrev pub raise_count : Regs → Regs
raise_count r = with_count (r.count + 1) r

-- the instruction of the step from c
abbrev pub instruction_from : Cpu → (m l : List ℕ) → Result Out
instruction_from c m l = made (interpret translator c.space c.system.user (instruction_tree (raise_count c.regs)) m (kept_in l) [])

-- from c, memory m and buffer l, instructions up to the step count `limit` ended as b says, with memory m' and buffer l'
pub record InstructionsEnd (c : Cpu) (limit : ℕ) (m l : List ℕ) (b : Done) (m' l' : List ℕ) : Type 0 where
  pub good : Good (length m') c.space.pdir l'
  pub later : c.regs.count ≤ b.regs.count
  -- no step was made: as it was, and at the limit with no access
  pub start : b.regs.count ≡ c.regs.count → b.regs ≡ c.regs
  pub idle : limit ≡ c.regs.count → (m' ≡ m) × (l' ≡ l)
  -- a limit of one step: it is that step's instruction, whatever is due
  pub first : limit ≡ c.regs.count + 1 → (x : Cpu) (con : List ℕ)
      → settled (length m) x con (result (out_of b) m' (kept_in l')) ≡ settled (length m) x con (instruction_from c m l)
  -- all ended well: all steps up to the limit are made
  pub all : b.end ≡ Ok → (b.regs.count ≡ limit)
      × ((ks : List Key) (n : ℕ) (con : List ℕ) → c.stop ≡ Running → Quiet (next_of ks c.clock.taken) c limit
      → end_of ks (n + (limit - c.regs.count)) (state_of c m con l) ≡ end_of ks n (state_of (after_quiet c b.regs) m' con l'))
  -- one did not: it is under way, and those before it are made
  pub early : (b.end ≡ Ok → ⊥) → (b.regs.count < limit)
      × ((ks : List Key) (n : ℕ) (con : List ℕ) → c.stop ≡ Running → Quiet (next_of ks c.clock.taken) c limit
      → end_of ks (n + (limit - c.regs.count)) (state_of c m con l)
      ≡ end_of ks (n + (limit - (b.regs.count + 1))) (settled (length m) (after_quiet c (raise_count b.regs)) con (result (out_of b) m' (kept_in l'))))

-- the same for every record with registers s, in a mode and an address space
abbrev pub EndsFrom : Regs → Bool → Space → ℕ → (m l : List ℕ) → Done → (m' l' : List ℕ) → Type 0
EndsFrom s user space limit m l b m' l' =
    (c : Cpu) → c.regs ≡ s → user ≡ c.system.user → space ≡ c.space → InstructionsEnd c limit m l b m' l'

-- the same on the way: all steps up to the step count of r are made
pub record InstructionsMade (c : Cpu) (limit : ℕ) (m l : List ℕ) (r : Regs) (m' l' : List ℕ) : Type 0 where
  pub good : Good (length m') c.space.pdir l'
  pub size : length m' ≡ length m
  pub later : c.regs.count ≤ r.count
  pub within : r.count ≤ limit
  pub none : r.count ≡ c.regs.count → (r ≡ c.regs) × ((m' ≡ m) × (l' ≡ l))
  pub first : r.count ≡ c.regs.count + 1 → (x : Cpu) (con : List ℕ)
      → settled (length m) x con (result (out_of (ok r)) m' (kept_in l')) ≡ settled (length m) x con (instruction_from c m l)
  pub same : (ks : List Key) (n : ℕ) (con : List ℕ) → c.stop ≡ Running → Quiet (next_of ks c.clock.taken) c limit
      → end_of ks (n + (limit - c.regs.count)) (state_of c m con l) ≡ end_of ks (n + (limit - r.count)) (state_of (after_quiet c r) m' con l')
