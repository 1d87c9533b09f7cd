-- Document 01, "Numbers returned": a run goes on by a step, by all its quiet steps, or up to an instruction that does not end well.
use Rattle.std.proofs.Common.{Option}
use Prim.Native.Nat.{ℕ, ◌+◌, ◌-◌, ◌≤◌, ◌<◌, ◌^◌}
use native.Mathlib.Omega.{arith}
use mathlib.Core.Bool.{Bool, true, false}
use mathlib.Core.List.{List}
use mathlib.Core.Path.{◌≡◌, refl, sym, ap, ◌∙◌, subst}
use lib.ListN.{length}
use Rattle.mmu.specs.Good.{Good}
use Rattle.mmu.specs.Translates.{Kept, result, kept_in, translator}
use Rattle.rules.specs.declared.Cpu.{Cpu}
use Rattle.rules.specs.declared.Regs.{Regs}
use Rattle.rules.specs.Record.{with_floats}
use Rattle.rules.specs.declared.Key.{Key}
use Rattle.rules.specs.Outcome.{Out}
use Rattle.rules.specs.Clock.{next_of}
use Rattle.rules.specs.Step.{State, settle_tree, finished, stepped_by, step_by, step}
use Rattle.contracts.specs.declared.FloatDone.{FloatDone}
use Rattle.contracts.specs.declared.End.TheVariants.{Ok}
use Rattle.contracts.specs.Contract.{bad, out_by, state_of, Finishes, end_of}
use Rattle.clock.specs.Quiet.{quiet_steps, Quiet, Room}
use Rattle.clock.proofs.QuietSteps.{quiet_few, quiet_steps_lem, quiet_room}
use Rattle.machine.specs.Settled.{completed}
use Rattle.machine.specs.Instructions.{raise_count}
use Rattle.machine.specs.Burst.{reached, BurstEnd}
use Rattle.machine.specs.Step.{Steps}
use Rattle.machine.specs.declared.Advanced.{Advanced}
use Rattle.machine.specs.Advance.{Ready, EndsWithin, Finished, Advances}
use Rattle.machine.proofs.QuietStep.{run_on}
use Rattle.machine.proofs.BurstSteps.{is_ok, is_ok_lem, not_ok_end}

-- the step count after the rest of a step
completed_count : (size : ℕ) (c : Cpu) (con m : List ℕ) (es : Kept) (o : Out) → (completed size c con (result o m es)).cpu.regs.count ≡ c.regs.count
unfolding completed
completed_count size c con m es o = refl

-- ---- the quiet steps

module _ (c : Cpu) (left : ℕ) (k : Option Key) {n : ℕ} (q : n ≡ quiet_steps k c left) where
  -- they are no more than are left
  pub few : n ≤ left
  few = subst (λ (i : ℕ). i ≤ left) (sym q) (quiet_few k c left)

  module _ (some : 0 < n) where
    quiet : Quiet k c (c.regs.count + n)
    quiet = quiet_steps_lem k c left q some

    quiet_for : (ks : List Key) → next_of ks c.clock.taken ≡ k → Quiet (next_of ks c.clock.taken) c (c.regs.count + n)
    quiet_for ks e = subst (λ (x : Option Key). Quiet x c (c.regs.count + n)) (sym e) quiet

    -- they end within those that are left, and the timer has not fired
    pub ends_within : {m l : List ℕ} {b : FloatDone} {m' l' : List ℕ} → BurstEnd c (c.regs.count + n) m l b m' l' → c.regs.count + left < 2 ^ 64
        → EndsWithin (with_floats b.floats c) left n (bad b.regs b.end)
    ends_within {b = b} h small =
        let room : (r : Regs) → c.regs.count ≤ r.count → r.count ≤ c.regs.count + n → Room (with_floats b.floats c) r = λ r x y.
        let q = quiet_room k c (c.regs.count + n) quiet r x y in
        record { later = q.later; timer = q.timer } in
        record {
          few = few;
          small = omega (arith, few, small);
          later = h.later;
          all = λ e. room b.regs h.later (omega (arith, (h.all e).0));
          early = λ e. ((h.early e).0, room (raise_count b.regs) (omega (arith, h.later)) (omega (arith, (h.early e).0)));
        }

-- ---- a run goes on

module _ (c : Cpu) (left : ℕ) (k : Option Key) {m l : List ℕ} (ready : Ready c left m l) where
  -- one step
  pub advance_step : {con : List ℕ} {x : Cpu} {m' con' l' : List ℕ} → Steps c k m con l x m' con' l' → length m' ≡ length m
      → Advances c left k m con l (record { cpu = x; left = left - 1 }) m' con' l'
  unfolding step_by stepped_by finished step
  advance_step {con} h n = record {
    good = h.good;
    less = omega (arith, ready.some);
    count = omega (arith, ready.some, ap (λ (s : State Kept). s.cpu.regs.count) h.same);
    size = n;
    same = λ ks e.
        run_on ks left (left - 1) (state_of c m con l) (omega (arith, ready.some)) ready.running
        ∙ ap (λ (q : Option Key). end_of ks (left - 1) (step_by translator q (state_of c m con l)).state) e
        ∙ ap (end_of ks (left - 1)) (sym h.same);
  }

  module _ {n : ℕ} (q : n ≡ quiet_steps k c left) (some : 0 < n) {b : FloatDone} {m' l' : List ℕ} (h : BurstEnd c (c.regs.count + n) m l b m' l') where
    -- all quiet steps
    advance_all : {con : List ℕ} {x : Cpu} → b.end ≡ Ok → x ≡ reached c b.regs b.floats → length m' ≡ length m
        → Advances c left k m con l (record { cpu = x; left = left - n }) m' con l'
    advance_all {con} {x} e f z =
        let fits = few c left k q in
        record {
          good = subst (λ (y : Cpu). Good (length m') y.space.pdir l') (sym f) h.good;
          less = omega (arith, some, fits);
          count = omega (arith, ap (λ (y : Cpu). y.regs.count) f, (h.all e).0, fits);
          size = z;
          same = λ ks u.
              ap (λ (i : ℕ). end_of ks i (state_of c m con l)) (omega (arith, fits))
              ∙ (h.all e).1 ks (left - n) con ready.running (quiet_for c left k q some ks u)
              ∙ ap (λ (y : Cpu). end_of ks (left - n) (state_of y m' con l')) (sym f);
        }

    -- up to an instruction that does not end well, and the rest of its step
    advance_early : {con : List ℕ} {y x : Cpu} {m'' con'' l'' : List ℕ} → (b.end ≡ Ok → ⊥) → y ≡ reached c (raise_count b.regs) b.floats
        → length m' ≡ length m → Finishes (settle_tree (length m') (length con) y (out_by b.regs b.end)) y m' con l' x m'' con'' l''
        → length m'' ≡ length m'
        → Advances c left k m con l (record { cpu = x; left = left - (b.regs.count - c.regs.count) - 1 }) m'' con'' l''
    unfolding completed
    advance_early {con} {y} {x} {m''} {con''} {l''} e f z s w =
        let fits = few c left k q in
        let below = (h.early e).0 in
        let after = reached c (raise_count b.regs) b.floats in
        let rest : state_of x m'' con'' l'' ≡ completed (length m) after con (result (out_by b.regs b.end) m' (kept_in l')) =
        s.same
        ∙ ap (λ (i : ℕ). completed i y con (result (out_by b.regs b.end) m' (kept_in l'))) z
        ∙ ap (λ (v : Cpu). completed (length m) v con (result (out_by b.regs b.end) m' (kept_in l'))) f in
        let count : x.regs.count ≡ b.regs.count + 1 =
        ap (λ (v : State Kept). v.cpu.regs.count) rest ∙ completed_count (length m) after con m' (kept_in l') (out_by b.regs b.end) in
        record {
          good = s.good;
          less = omega (arith, ready.some);
          count = omega (arith, count, below, fits, h.later);
          size = w ∙ z;
          same = λ ks u.
              ap (λ (i : ℕ). end_of ks i (state_of c m con l)) (omega (arith, fits))
              ∙ (h.early e).1 ks (left - n) con ready.running (quiet_for c left k q some ks u)
              ∙ ap (λ (i : ℕ). end_of ks i (completed (length m) after con (result (out_by b.regs b.end) m' (kept_in l')))) (omega (arith, below, fits, h.later))
              ∙ ap (end_of ks (left - (b.regs.count - c.regs.count) - 1)) (sym rest);
        }

    -- the end of the steps, whichever it is
    pub advance_finishes : {con : List ℕ} {g : Advanced} {m'' con'' l'' : List ℕ} → length m' ≡ length m
        → Finished (with_floats b.floats c) left n (bad b.regs b.end) m' con l' g m'' con'' l'' → length m'' ≡ length m' → Advances c left k m con l g m'' con'' l''
    advance_finishes {con} {g} {m''} {con''} {l''} z f w = go (is_ok b.end) refl
      where
        go : (o : Bool) → is_ok b.end ≡ o → Advances c left k m con l g m'' con'' l''
        go true e =
            let u = is_ok_lem b.end e in
            let t = f.all u in
            rw (t.0, t.1.0, t.1.1.0, t.1.1.1) (advance_all u refl z)
        go false e =
            let u = not_ok_end b.end e in
            let t = f.early u in
            subst (λ (i : ℕ). Advances c left k m con l (record { cpu = g.cpu; left = i }) m'' con'' l'') (sym t.0) (advance_early u refl z t.1 w)
