-- Document 01, "One step", rules 1 to 3, and document 02, item 1: steps in which the clock only counts. No key comes, the timer does not fire, and nothing is due.
use Rattle.std.specs.Prelude.{ℕ, ◌+◌, ◌-◌, ◌≤◌, ◌<◌, ◌≡◌, min, false, eqb, if◌then◌else◌, Option, Some, None, IfSome}
use Rattle.rules.specs.declared.Interrupt.{Interrupt}
use Rattle.rules.specs.declared.Key.{Key}
use Rattle.rules.specs.declared.Regs.{Regs}
use Rattle.rules.specs.declared.Clock.{Clock}
use Rattle.rules.specs.declared.Cpu.{Cpu}
use Rattle.rules.specs.Record.{with_regs, with_clock, with_timer}
use Rattle.rules.specs.Clock.{due_of}

-- how many of `left` steps after the step count `count` come before the next key's
unfoldable pub before_key : Option Key → (count left : ℕ) → ℕ
before_key None count left = left
before_key (Some k) count left = min (k.step - (count + 1)) left

-- how many of `left` steps come before the timer fires
unfoldable pub before_timer : Clock → (left : ℕ) → ℕ
before_timer t left = if eqb t.timeout 0 then left else min (t.timeout - t.timer) left

-- n steps where nothing is due, and else none
abbrev pub unless_due : Option Interrupt → ℕ → ℕ
unless_due None n = n
unless_due (Some i) n = 0

-- in how many of the next `left` steps the clock only counts; none where the machine waits or an interrupt is due
unfoldable pub quiet_steps : Option Key → Cpu → (left : ℕ) → ℕ
unfolding before_key before_timer
quiet_steps next c left = if c.system.waiting then 0 else unless_due (due_of c) (before_timer c.clock (before_key next c.regs.count left))

-- from c, up to the step count `limit`, the clock only counts
pub record Quiet (next : Option Key) (c : Cpu) (limit : ℕ) : Type 0 where
  pub awake : c.system.waiting ≡ false
  pub calm : due_of c ≡ None
  pub key : IfSome next (λ k. limit < k.step)
  pub timer : (c.clock.timeout ≡ 0 → ⊥) → c.clock.timer + (limit - c.regs.count) ≤ c.clock.timeout

-- the timer at the step count n, after such steps from c
abbrev pub timer_at : Cpu → ℕ → ℕ
timer_at c n = if eqb c.clock.timeout 0 then c.clock.timer else c.clock.timer + (n - c.regs.count)

-- the record after such steps from c, which left registers and step count r
abbrev pub after_quiet : Cpu → Regs → Cpu
after_quiet c r = with_regs r (with_clock (with_timer (timer_at c r.count) c.clock) c)

-- the timer has not fired at the step count of r
pub record Room (c : Cpu) (r : Regs) : Type 0 where
  pub later : c.regs.count ≤ r.count
  pub timer : (c.clock.timeout ≡ 0 → ⊥) → c.clock.timer + (r.count - c.regs.count) ≤ c.clock.timeout
