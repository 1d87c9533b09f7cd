-- Document 01, "One step", rules 1 to 3, and document 02, item 1: the laws of steps in which the clock only counts.
use Rattle.std.proofs.Common.{if◌then◌else◌, Option, Some, None, IfSome, min}
use Prim.Native.Nat.{ℕ, ◌+◌, ◌-◌, ◌≤◌, ◌<◌}
use native.Mathlib.Omega.{arith}
use native.Mathlib.Nat.{not-suc-le-zero}
use mathlib.Core.Path.{◌≡◌, refl, ap, ◌∙◌}
use mathlib.Core.Bool.{Bool, true, false}
use lib.Dec.{eqb}
use borrow.Author.Tests.{eqb-false, eqb-true, lt-leb, le-ltb}
use Rattle.rules.specs.declared.Interrupt.{Interrupt}
use Rattle.rules.specs.declared.Key.{Key}
use Rattle.rules.specs.declared.Regs.{Regs}
use Rattle.rules.specs.declared.Clock.{Clock}
use Rattle.rules.specs.declared.Cpu.{Cpu}
use Rattle.rules.specs.Record.{with_count, with_clock, with_timer}
use Rattle.rules.specs.Clock.{step_counted, key_comes, keyed, timed, ticked, due_of}
use Rattle.clock.specs.Quiet.{before_key, before_timer, unless_due, quiet_steps, Quiet, timer_at, after_quiet, Room}

-- ---- how many steps are quiet

key_bounds : (k : Option Key) (count left : ℕ) → (before_key k count left ≤ left) × IfSome k (λ x. before_key k count left ≤ x.step - (count + 1))
unfolding before_key
key_bounds None count left = (omega arith, tt)
key_bounds (Some k) count left = (omega arith, omega arith)

timer_bounds : (t : Clock) (left : ℕ) → (before_timer t left ≤ left) × ((t.timeout ≡ 0 → ⊥) → before_timer t left ≤ t.timeout - t.timer)
unfolding before_timer
timer_bounds t left = go (eqb t.timeout 0) refl
  where
    go : (b : Bool) → eqb t.timeout 0 ≡ b → ((if b then left else min (t.timeout - t.timer) left) ≤ left)
        × ((t.timeout ≡ 0 → ⊥) → (if b then left else min (t.timeout - t.timer) left) ≤ t.timeout - t.timer)
    go true e = (omega arith, λ n. absurd (n (eqb-true _ _ e)))
    go false e = (omega arith, λ n. omega arith)

-- n steps or none
unless_few : (d : Option Interrupt) (n : ℕ) → unless_due d n ≤ n
unless_few None n = omega arith
unless_few (Some i) n = omega arith

pub quiet_few : (k : Option Key) (c : Cpu) (left : ℕ) → quiet_steps k c left ≤ left
unfolding quiet_steps
quiet_few k c left = go c.system.waiting
  where
    before : ℕ
    before = before_key k c.regs.count left

    n : ℕ
    n = before_timer c.clock before

    go : (b : Bool) → (if b then 0 else unless_due (due_of c) n) ≤ left
    go true = omega arith
    go false = omega (arith, unless_few (due_of c) n, (timer_bounds c.clock before).0, (key_bounds k c.regs.count left).0)

-- n steps that come before the next key's
key_after : (k : Option Key) (count left : ℕ) {n : ℕ} → 0 < n → n ≤ before_key k count left → IfSome k (λ x. count + n < x.step)
key_after None count left h b = tt
key_after (Some k) count left h b = omega (arith, h, b, (key_bounds (Some k) count left).1)

-- as many steps as `quiet_steps` says are quiet, if there is one at all
pub quiet_steps_lem : (k : Option Key) (c : Cpu) (left : ℕ) {n : ℕ} → n ≡ quiet_steps k c left → 0 < n → Quiet k c (c.regs.count + n)
unfolding quiet_steps due_of
quiet_steps_lem k c left {n} e h = go c.system.waiting refl (due_of c) refl
  where
    before : ℕ
    before = before_key k c.regs.count left

    go : (b : Bool) → c.system.waiting ≡ b → (d : Option Interrupt) → due_of c ≡ d → Quiet k c (c.regs.count + n)
    go true w d q = absurd (not-suc-le-zero (rw (e, w) at h))
    go false w (Some i) q = absurd (not-suc-le-zero (rw (e, w, q) at h))
    go false w None q =
        let t = timer_bounds c.clock before in
        let f : n ≡ before_timer c.clock before = rw (w, q) at e in
        record {
          awake = w;
          calm = q;
          key = key_after k c.regs.count left (omega arith) (omega (arith, h, f, t.0));
          timer = λ q. omega (arith, h, f, t.1 q);
        }

-- ---- the clock in such a step

no_key : (k : Option Key) (c : Cpu) {limit : ℕ} → IfSome k (λ x. limit < x.step) → c.regs.count < limit → key_comes k c ≡ false
no_key None c h below = refl
no_key (Some k) c h below = lt-leb k.step (c.regs.count + 1) (omega (arith, h, below))

-- and none is taken
unkeyed : (k : Option Key) (t : Clock) → keyed k false t ≡ t
unkeyed None t = refl
unkeyed (Some k) t = refl

module _ (k : Option Key) (c : Cpu) (limit : ℕ) (q : Quiet k c limit) (r : Regs) (later : c.regs.count ≤ r.count) (below : r.count < limit) where
  -- no key comes
  quiet_key : key_comes k (after_quiet c r) ≡ false
  quiet_key = no_key k (after_quiet c r) q.key below

  timer_below : eqb c.clock.timeout 0 ≡ false → c.clock.timer + (r.count - c.regs.count) + 1 ≤ c.clock.timeout
  timer_below e = omega (arith, q.timer (eqb-false _ _ e), later, below)

  -- the clock with the timer at the step count n
  at : ℕ → Clock
  at n = with_timer (timer_at c n) c.clock

  quiet_timed : timed (at r.count) ≡ at (r.count + 1)
  unfolding at
  quiet_timed = go (eqb c.clock.timeout 0) refl
    where
      go : (b : Bool) → eqb c.clock.timeout 0 ≡ b → timed (with_timer (timer_at c r.count) c.clock) ≡ with_timer (timer_at c (r.count + 1)) c.clock
      go true e = rw e
      go false e =
          let n : c.clock.timer + (r.count - c.regs.count) + 1 ≡ c.clock.timer + (r.count + 1 - c.regs.count) = omega (arith, later) in
          rw (e, le-ltb _ _ (timer_below e)) (ap (λ (x : ℕ). with_timer x c.clock) n)

  -- the step count rises by 1, and so does the timer where timeout is not 0; nothing else changes
  pub quiet_ticked : ticked k (after_quiet c r) ≡ after_quiet c (with_count (r.count + 1) r)
  unfolding ticked at
  quiet_ticked =
      ap (λ (b : Bool). with_clock (timed (keyed k b (at r.count))) (step_counted (after_quiet c r))) quiet_key
      ∙ ap (λ (t : Clock). with_clock (timed t) (step_counted (after_quiet c r))) (unkeyed k (at r.count))
      ∙ ap (λ (t : Clock). with_clock t (step_counted (after_quiet c r))) quiet_timed

  -- nothing is due: neither iena nor a mark has changed
  pub quiet_due : due_of (ticked k (after_quiet c r)) ≡ None
  unfolding due_of
  quiet_due = ap due_of quiet_ticked ∙ q.calm

-- before the first of such steps
pub after_none : (c : Cpu) → after_quiet c c.regs ≡ c
after_none c = ap (λ (x : ℕ). with_clock (with_timer x c.clock) c) (go (eqb c.clock.timeout 0))
  where
    go : (b : Bool) → (if b then c.clock.timer else c.clock.timer + (c.regs.count - c.regs.count)) ≡ c.clock.timer
    go true = refl
    go false = omega arith

-- up to the limit the timer has not fired
pub quiet_room : (k : Option Key) (c : Cpu) (limit : ℕ) → Quiet k c limit → (r : Regs) → c.regs.count ≤ r.count → r.count ≤ limit → Room c r
quiet_room k c limit q r h l = record { later = h; timer = λ e. omega (arith, q.timer e, h, l) }
