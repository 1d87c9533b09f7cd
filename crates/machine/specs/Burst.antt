-- Document 01, "One step", and document 02, item 7: instructions of the machine's mode one after another, in steps in which the clock only counts.
use Rattle.std.specs.Prelude.{ℕ, ◌+◌, ◌-◌, ◌≤◌, ◌<◌, ◌≡◌, List, [], length}
use Rattle.mmu.specs.Good.{Good}
use Rattle.mmu.specs.Translates.{result, kept_in}
use Rattle.rules.specs.declared.Clock.{Clock}
use Rattle.rules.specs.declared.Cpu.{Cpu}
use Rattle.rules.specs.declared.Floats.{Floats}
use Rattle.rules.specs.declared.Key.{Key}
use Rattle.rules.specs.declared.Regs.{Regs}
use Rattle.rules.specs.declared.Stop.TheVariants.{Running}
use Rattle.rules.specs.Record.{with_regs, with_clock, with_floats}
use Rattle.rules.specs.Outcome.{floated}
use Rattle.rules.specs.Clock.{next_of}
use Rattle.contracts.specs.declared.Done.{Done}
use Rattle.contracts.specs.declared.End.TheVariants.{Ok}
use Rattle.contracts.specs.declared.FloatDone.{FloatDone}
use Rattle.contracts.specs.Contract.{out_by, out_of, state_of, end_of}
use Rattle.clock.specs.Quiet.{Quiet, after_quiet}
use Rattle.machine.specs.Settled.{completed, settled}
use Rattle.machine.specs.Instructions.{raise_count, instruction_from}

-- the record of the step from c, its count raised, with any clock
abbrev pub stepping : Clock → Cpu → Cpu
stepping t c = with_clock t (with_regs (raise_count c.regs) c)

-- the record after quiet steps from c, which left registers r, and f and g
abbrev pub reached : Cpu → Regs → Floats → Cpu
reached c r v = after_quiet (with_floats v c) r

-- from c, memory m and buffer l, instructions up to the step count `limit` ended as b says, with f and g, memory m' and buffer l'
pub record BurstEnd (c : Cpu) (limit : ℕ) (m l : List ℕ) (b : FloatDone) (m' l' : List ℕ) : Type 0 where
  pub good : Good (length m') c.space.pdir l'
  pub later : c.regs.count ≤ b.regs.count
  -- a limit of one step: it is that step's instruction, whatever is due
  pub first : limit ≡ c.regs.count + 1 → (t : Clock) (con : List ℕ)
      → completed (length m) (with_floats b.floats (stepping t c)) con (result (out_by b.regs b.end) m' (kept_in l'))
      ≡ settled (length m) (stepping t c) con (instruction_from c m l)
  -- all ended well: all steps up to the limit are made
  pub all : b.end ≡ Ok → (b.regs.count ≡ limit)
      × ((ks : List Key) (n : ℕ) (con : List ℕ) → c.stop ≡ Running → Quiet (next_of ks c.clock.taken) c limit
      → end_of ks (n + (limit - c.regs.count)) (state_of c m con l) ≡ end_of ks n (state_of (reached c b.regs b.floats) m' con l'))
  -- one did not: it is under way, and those before it are made
  pub early : (b.end ≡ Ok → ⊥) → (b.regs.count < limit)
      × ((ks : List Key) (n : ℕ) (con : List ℕ) → c.stop ≡ Running → Quiet (next_of ks c.clock.taken) c limit
      → end_of ks (n + (limit - c.regs.count)) (state_of c m con l)
      ≡ end_of ks (n + (limit - (b.regs.count + 1))) (completed (length m) (reached c (raise_count b.regs) b.floats) con (result (out_by b.regs b.end) m' (kept_in l'))))

-- the same on the way, where the instructions of document 01's table ended in b: one that did not end well is not yet looked up in the mode's table
pub record Paused (c : Cpu) (limit : ℕ) (m l : List ℕ) (b : Done) (v : Floats) (m' l' : List ℕ) : Type 0 where
  pub good : Good (length m') c.space.pdir l'
  pub size : length m' ≡ length m
  pub later : c.regs.count ≤ b.regs.count
  pub start : b.regs.count ≡ c.regs.count → (b.regs ≡ c.regs) × (v ≡ c.floats)
  pub all_first : b.end ≡ Ok → limit ≡ c.regs.count + 1 → (t : Clock) (con : List ℕ)
      → completed (length m) (stepping t c) con (result (floated b.regs v []) m' (kept_in l')) ≡ settled (length m) (stepping t c) con (instruction_from c m l)
  pub all : b.end ≡ Ok → (b.regs.count ≡ limit)
      × ((ks : List Key) (n : ℕ) (con : List ℕ) → c.stop ≡ Running → Quiet (next_of ks c.clock.taken) c limit
      → end_of ks (n + (limit - c.regs.count)) (state_of c m con l) ≡ end_of ks n (state_of (reached c b.regs v) m' con l'))
  pub early_first : (b.end ≡ Ok → ⊥) → limit ≡ c.regs.count + 1 → (t : Clock) (con : List ℕ)
      → settled (length m) (stepping t c) con (result (out_of b) m' (kept_in l')) ≡ settled (length m) (stepping t c) con (instruction_from c m l)
  pub early : (b.end ≡ Ok → ⊥) → (b.regs.count < limit)
      × ((ks : List Key) (n : ℕ) (con : List ℕ) → c.stop ≡ Running → Quiet (next_of ks c.clock.taken) c limit
      → end_of ks (n + (limit - c.regs.count)) (state_of c m con l)
      ≡ end_of ks (n + (limit - (b.regs.count + 1))) (settled (length m) (reached c (raise_count b.regs) v) con (result (out_of b) m' (kept_in l'))))
