-- Document 01, "One step", rules 1 to 3: quiet steps after quiet steps, whatever f and g are by then.
use Rattle.std.proofs.Common.{Option}
use Prim.Native.Nat.{ℕ, ◌+◌, ◌-◌, ◌≤◌}
use native.Mathlib.Omega.{arith}
use mathlib.Core.Bool.{Bool, true, false}
use mathlib.Core.Path.{◌≡◌, refl, ap}
use lib.Dec.{eqb}
use borrow.Author.Tests.{eqb-true}
use Rattle.rules.specs.declared.Key.{Key}
use Rattle.rules.specs.declared.Cpu.{Cpu}
use Rattle.rules.specs.declared.Floats.{Floats}
use Rattle.rules.specs.declared.Regs.{Regs}
use Rattle.rules.specs.Record.{with_regs, with_clock, with_timer, with_floats}
use Rattle.rules.specs.Clock.{due_of}
use Rattle.clock.specs.Quiet.{Quiet, timer_at, after_quiet}
use Rattle.machine.specs.Burst.{reached}

module _ (c : Cpu) (v : Floats) (r : Regs) (later : c.regs.count ≤ r.count) where
  -- the timer after both
  timer_again : (n : ℕ) → r.count ≤ n → timer_at (reached c r v) n ≡ timer_at c n
  timer_again n h = go (eqb c.clock.timeout 0) refl
    where
      go : (b : Bool) → eqb c.clock.timeout 0 ≡ b → timer_at (reached c r v) n ≡ timer_at c n
      go true e = rw e
      go false e = rw e (omega (arith, later, h))

  -- the record after both
  pub after_again : (r' : Regs) → r.count ≤ r'.count → after_quiet (reached c r v) r' ≡ reached c r' v
  after_again r' h = ap (λ (t : ℕ). with_regs r' (with_clock (with_timer t c.clock) (with_floats v c))) (timer_again r'.count h)

  -- the later ones are quiet if all are
  pub quiet_again : (k : Option Key) (limit : ℕ) → Quiet k c limit → r.count ≤ limit → Quiet k (reached c r v) limit
  unfolding due_of
  quiet_again k limit q h = record {
    awake = q.awake;
    calm = q.calm;
    key = q.key;
    timer = λ n. go n (eqb c.clock.timeout 0) refl;
  }
    where
      go : (c.clock.timeout ≡ 0 → ⊥) → (b : Bool) → eqb c.clock.timeout 0 ≡ b → timer_at c r.count + (limit - r.count) ≤ c.clock.timeout
      go n true e = absurd (n (eqb-true _ _ e))
      go n false e = rw e (omega (arith, q.timer n, later, h))
