-- Document 01, "Numbers returned": a run under way: how it starts, goes on by a key, and ends. These are the laws of the entries' loops.
use Rattle.std.proofs.Common.{Result, Option, is_some, IsSome}
use Prim.Native.Nat.{ℕ, ◌+◌, ◌≤◌, ◌<◌, ◌^◌}
use native.Mathlib.Omega.{arith}
use native.Mathlib.Nat.{zero-add, not-suc-le-zero}
use mathlib.Core.Bool.{Bool, true, false, true≢false}
use mathlib.Core.Path.{◌≡◌, refl, sym, ◌∙◌, ap, subst}
use mathlib.Core.List.{List}
use lib.ListN.{length}
use lib.Dec.{ltb}
use borrow.Author.Tests.{ltb-true}
use Rattle.paging.specs.declared.Entry.{Entry}
use Rattle.paging.specs.Translate.{buffered}
use Rattle.paging.specs.Counting.{walks_in, raised}
use Rattle.paging.proofs.CountingLaws.{raised_walks}
use Rattle.mmu.specs.Translates.{Kept}
use Rattle.clock.specs.Taken.{KeyFits}
use Rattle.rules.specs.declared.Key.{Key}
use Rattle.rules.specs.declared.Machine.{Machine}
use Rattle.rules.specs.declared.RunRefusal.{RunRefusal}
use Rattle.rules.specs.Clock.{next_of}
use Rattle.rules.specs.Step.{State}
use Rattle.rules.specs.Run.{keys_rise, keys_ok, is_accepted, allowance, run_number, run_answer, steps_of, last_of, run, reported}
use Rattle.rules.specs.Walks.{events_of, walks_of, counted_state}
use Rattle.rules.proofs.StepCount.{run_count}
use Rattle.rules.proofs.WalkCounting.{counted_steps}
use Rattle.walk_bounds.proofs.FiveRun.{run_walks_small}
use Rattle.refusals.specs.View.{view_of}
use Rattle.refusals.specs.Refusal.{refusal_of}
use Rattle.runs.specs.declared.UnderWay.{UnderWay}
use Rattle.runs.specs.declared.RunResult.{RunResult}
use Rattle.runs.specs.Advance.{left_of}
use Rattle.runs.specs.UnderWay.{begin_of, outcome, Able, Proceeds}
use Rattle.runs.proofs.Left.{left_least, left_running, end_left}
use Rattle.v9.specs.Contract.{RunsAs, StepsAs}
use Rattle.v9.proofs.Accepted.{accepted_record, allowance_some, allowance_most}
use Rattle.contracts.specs.Contract.{end_of}

-- the state in which a run ends, its walks counted
abbrev ending : List Key → ℕ → State (List Entry) → State Kept
ending ks budget s = counted_state (raised 0 (events_of (run buffered ks budget s).steps)) (run buffered ks budget s).state

-- the run under way g, with memory mem' and console con', is one from the record m with keys ks and a budget, with mem and con
pub record Continues (ks : List Key) (budget : ℕ) (m : Machine) (mem con : List ℕ) (g : UnderWay) (mem' con' : List ℕ) : Type 0 where
  pub able : 0 < g.left → Able g (length mem')
  pub answer : g.ran.answer ≡ (run buffered ks budget (view_of m mem con)).answer
  pub steps : g.ran.machine.cpu.regs.count ≡ m.cpu.regs.count + g.ran.steps
  pub same : g.ran.steps ≡ 0 → g.ran.machine ≡ m
  pub state : outcome ks g mem' con' ≡ ending ks budget (view_of m mem con)

-- a key that is there can be counted
pub key_fits : (ks : List Key) (taken : ℕ) {k : Option Key} → k ≡ next_of ks taken → length ks < 2 ^ 64 → KeyFits k taken
unfolding next_of
key_fits ks taken q h = record { fits = λ e. go (ltb taken (length ks)) refl (ap is_some (sym q) ∙ e) }
  where
    go : (b : Bool) → ltb taken (length ks) ≡ b → IsSome (next_of ks taken) → taken + 1 < 2 ^ 64
    go true e z = let t : taken < length ks = ltb-true taken (length ks) e in omega (arith, t, h)
    go false e z = absurd (true≢false (sym (rw e at z)))

-- nothing is left
end_over : (ks : List Key) (n : ℕ) (s : State Kept) → n ≡ 0 → end_of ks n s ≡ s
unfolding steps_of last_of
end_over ks n s e = ap (λ (i : ℕ). end_of ks i s) e

module _ (ks : List Key) (budget : ℕ) (m : Machine) (mem con : List ℕ) where
  abbrev start : State (List Entry)
  start = view_of m mem con

  -- the answer, and the run as it begins
  abbrev first_answer : Result Unit RunRefusal
  first_answer = refusal_of m (length mem) (length con) (keys_rise 0 ks) (length ks) budget

  abbrev begun : UnderWay
  begun = begin_of m (length mem) (length con) (keys_rise 0 ks) (length ks) budget

  answers : first_answer ≡ run_answer buffered ks budget start
  unfolding refusal_of run_answer keys_ok
  answers = refl

  begun_able : 0 < begun.left → Able begun (length mem)
  unfolding begin_of
  begun_able h =
      let l : left_of m.cpu.stop (allowance first_answer budget) ≤ allowance first_answer budget = left_least m.cpu.stop (allowance first_answer budget) in
      let a : is_accepted first_answer ≡ true = allowance_some first_answer budget (omega (arith, h, l)) in
      let r = accepted_record m (length mem) (length con) (keys_rise 0 ks) (length ks) budget a in
      record {
        directory = r.directory;
        entries = r.entries;
        running = left_running m.cpu.stop (allowance first_answer budget) h;
        taken = refl;
        some = h;
        count = omega (arith, l, allowance_most first_answer budget, r.most, r.count);
        steps = omega arith;
      }

  begun_under : Continues ks budget m mem con begun mem con
  unfolding begin_of run
  begun_under = record {
    able = begun_able;
    answer = answers;
    steps = omega arith;
    same = λ _. refl;
    state = sym (end_left ks (allowance first_answer budget) (counted_state 0 start))
        ∙ ap (λ (a : Result Unit RunRefusal). end_of ks (allowance a budget) (counted_state 0 start)) answers
        ∙ counted_steps buffered ks (allowance (run_answer buffered ks budget start) budget) 0 start;
  }

  module _ {g : UnderWay} {mem' con' : List ℕ} (u : Continues ks budget m mem con g mem' con') where
    pub under_next : {k : Option Key} {r : UnderWay} {mem'' con'' : List ℕ} → k ≡ next_of ks g.taken → Proceeds g k mem' con' r mem'' con''
        → Continues ks budget m mem con r mem'' con''
    under_next {r = r} q p = record {
      able = p.able;
      answer = p.answer ∙ u.answer;
      steps = omega (arith, p.steps, u.steps);
      same = λ e. let z : 0 < 0 = rw e at p.more in absurd (not-suc-le-zero z);
      state = sym (p.same ks (sym q)) ∙ u.state;
    }

    pub under_last : g.left ≤ 0 → RunsAs ks budget m mem con g.ran mem' con'
    under_last e = record {
      number = ap (λ (b : Result Unit RunRefusal). run_number b) u.answer;
      answer = u.answer;
      steps = omega (arith, u.steps, counted);
      walks = walked;
      state = state;
      same = u.same;
    }
      where
        both : counted_state g.ran.walks (view_of g.ran.machine mem' con') ≡ ending ks budget start
        both = sym (end_over ks g.left (counted_state g.ran.walks (view_of g.ran.machine mem' con')) (omega (arith, e))) ∙ u.state

        state : view_of g.ran.machine mem' con' ≡ (run buffered ks budget start).state
        state = ap (λ (s : State Kept). record { cpu = s.cpu; mem = s.mem; console = s.console; buffer = s.buffer.held }) both

        -- five in a step at most, so that the counter never comes to 2^64
        walked : g.ran.walks ≡ walks_of (run buffered ks budget start)
        walked =
            let es = events_of (run buffered ks budget start).steps in
            ap (λ (s : State Kept). s.buffer.walks) both ∙ raised_walks 0 es (omega (arith, run_walks_small ks budget start)) ∙ zero-add (walks_in es)

        counted : g.ran.machine.cpu.regs.count ≡ m.cpu.regs.count + reported (run buffered ks budget start)
        counted = ap (λ (s : State (List Entry)). s.cpu.regs.count) state ∙ run_count buffered ks budget start

  -- the same of a run that the code began
  module _ {rising : Bool} {n : ℕ} (p : rising ≡ keys_rise 0 ks) (q : n ≡ length ks) {g : UnderWay} (e : g ≡ begin_of m (length mem) (length con) rising n budget) where
    as_begun : g ≡ begun
    as_begun = e ∙ ap (λ (b : Bool). begin_of m (length mem) (length con) b n budget) p ∙ ap (λ (i : ℕ). begin_of m (length mem) (length con) (keys_rise 0 ks) i budget) q

    pub first_machine : g.ran.machine ≡ m
    unfolding begin_of
    first_machine = ap (λ (x : UnderWay). x.ran.machine) as_begun

    pub under_first : Continues ks budget m mem con g mem con
    under_first = subst (λ (x : UnderWay). Continues ks budget m mem con x mem con) (sym as_begun) begun_under

-- of a run whose record stands only in its first stage g
module _ (ks : List Key) (budget : ℕ) (m : Machine) (mem con : List ℕ) {rising : Bool} {n : ℕ} (p : rising ≡ keys_rise 0 ks) (q : n ≡ length ks) {g : UnderWay}
    (e : g ≡ begin_of m (length mem) (length con) rising n budget) where
  pub under_start : Continues ks budget g.ran.machine mem con g mem con
  under_start = subst (λ (x : Machine). Continues ks budget x mem con g mem con) (sym (first_machine ks budget m mem con p q e)) (under_first ks budget m mem con p q e)

  pub under_end : {r : UnderWay} {mem' con' : List ℕ} → Continues ks budget g.ran.machine mem con r mem' con' → r.left ≤ 0
      → RunsAs ks budget m mem con r.ran mem' con'
  under_end {r} {mem'} {con'} u h =
      subst (λ (x : Machine). RunsAs ks budget x mem con r.ran mem' con') (first_machine ks budget m mem con p q e)
      (under_last ks budget g.ran.machine mem con u h)

-- the single step, from what its run gave
pub steps_once : {ks : List Key} {m : Machine} {mem con : List ℕ} {r : RunResult} {y : Machine} {i : ℕ} {mem' con' : List ℕ}
    → RunsAs ks 1 m mem con r mem' con' → y ≡ r.machine → i ≡ run_number r.answer → StepsAs ks m mem con i y mem' con'
steps_once {mem' = mem'} {con' = con'} t p q = record {
  number = q ∙ t.number;
  state = ap (λ (z : Machine). view_of z mem' con') p ∙ t.state;
  same = λ e. p ∙ t.same (t.steps ∙ e);
}
