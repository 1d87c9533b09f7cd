-- Document 01, "One step": a step in which the clock only counts is its instruction and the rest; and a run goes on by a step.
use Rattle.std.proofs.Common.{if◌then◌else◌, Option, None}
use Prim.Native.Nat.{ℕ, suc, ◌+◌, ◌≤◌, ◌<◌}
use mathlib.Core.Bool.{Bool}
use mathlib.Core.List.{List, [], ◌∷◌}
use mathlib.Core.Path.{◌≡◌, sym, ap, ◌∙◌}
use lib.ListN.{length}
use Rattle.mmu.specs.Translates.{Kept, result, kept_in, translator}
use Rattle.rules.specs.declared.Interrupt.{Interrupt}
use Rattle.rules.specs.declared.Regs.{Regs}
use Rattle.rules.specs.declared.Cpu.{Cpu}
use Rattle.rules.specs.declared.Key.{Key}
use Rattle.rules.specs.declared.Stop.{Stop}
use Rattle.rules.specs.declared.Stop.TheVariants.{Running}
use Rattle.rules.specs.Record.{is_running}
use Rattle.rules.specs.Tree.{Tree, bind, interpret}
use Rattle.rules.specs.Execute.{instruction_tree}
use Rattle.rules.specs.Trap.{Final, ended}
use Rattle.rules.specs.Clock.{ticked}
use Rattle.rules.specs.Step.{State, Stepped, executed_tree, settle_tree, due_tree, step_tree, finished, stepped_by, step_by, step}
use Rattle.rules.specs.Run.{steps_of, last_of}
use Rattle.contracts.specs.declared.Done.{Done}
use Rattle.contracts.specs.Contract.{out_of, state_of, Executes, end_of}
use Rattle.clock.specs.Quiet.{Quiet, after_quiet}
use Rattle.clock.proofs.QuietSteps.{quiet_due, quiet_ticked}
use Rattle.machine.specs.Settled.{settled}
use Rattle.machine.specs.Instructions.{raise_count}
use Rattle.machine.proofs.SettledLaws.{settled_law}

-- a run goes on by a step
pub run_on : (ks : List Key) (n n' : ℕ) (s : State Kept) → n ≡ suc n' → s.cpu.stop ≡ Running
    → end_of ks n s ≡ end_of ks n' (step translator ks s).state
unfolding steps_of last_of
run_on ks n n' s e h = ap (λ (i : ℕ). last_of s (steps_of translator ks i s)) e ∙ ap (λ (x : Stop). last_of s (if is_running x then ts else [])) h
  where
    ts : List (Stepped Kept)
    ts = step translator ks s ∷ steps_of translator ks n' (step translator ks s).state

module _ (k : Option Key) (c : Cpu) (limit : ℕ) (q : Quiet k c limit) (r : Regs) (later : c.regs.count ≤ r.count)
    (below : r.count < limit) (con : List ℕ) where
  -- the end of a step's tree
  at : List ℕ → List ℕ → Tree Final → State Kept
  at m l t = finished translator (r.count + 1) c.space c.written con (interpret translator c.space c.system.user t m (kept_in l) [])

  -- such a step
  pub step_quiet : {m l m' l' : List ℕ} {d : Done} → Executes (instruction_tree (raise_count r)) c.space c.system.user [] m l d m' l'
      → (step_by translator k (state_of (after_quiet c r) m con l)).state ≡ settled (length m) (after_quiet c (raise_count r)) con (result (out_of d) m' (kept_in l'))
  unfolding step_by step_tree stepped_by due_tree executed_tree at
  step_quiet {m} {l} {m'} {l'} {d} h =
      let x = after_quiet c (raise_count r) in
      ap (λ (o : Option Interrupt). at m l (due_tree o (length m) (length con) (ticked k (after_quiet c r)))) (quiet_due k c limit q r later below)
      ∙ ap (λ (y : Cpu). at m l (due_tree None (length m) (length con) y)) (quiet_ticked k c limit q r later below)
      ∙ ap (λ (w : Bool). at m l (if w then ended x else bind (executed_tree x) (settle_tree (length m) (length con) x))) q.awake
      ∙ settled_law (length m) x con (instruction_tree (raise_count r)) m (kept_in l)
      ∙ ap (settled (length m) x con) (sym h.same)
