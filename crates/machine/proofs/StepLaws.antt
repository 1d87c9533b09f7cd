-- Document 01, "One step", rules 4 and 5, and document 02, item 1: the three ends of a step.
use Rattle.std.proofs.Common.{if◌then◌else◌, Option, Some, None}
use Prim.Native.Nat.{ℕ, ◌+◌}
use mathlib.Core.Bool.{Bool, true, false}
use mathlib.Core.List.{List, []}
use mathlib.Core.Path.{◌≡◌, refl, sym, ap, ◌∙◌, subst}
use lib.ListN.{length}
use Rattle.paging.specs.TrapCode.{code_number}
use Rattle.mmu.specs.Good.{Good}
use Rattle.mmu.specs.Translates.{result, kept_in, translator}
use Rattle.rules.specs.declared.Key.{Key}
use Rattle.rules.specs.declared.Cpu.{Cpu}
use Rattle.rules.specs.declared.Floats.{Floats}
use Rattle.rules.specs.declared.Interrupt.{Interrupt}
use Rattle.rules.specs.declared.Pending.{Pending}
use Rattle.rules.specs.Record.{with_floats}
use Rattle.rules.specs.Tree.{bind, interpret}
use Rattle.rules.specs.Execute.{instruction_tree}
use Rattle.rules.specs.Trap.{ended, deliver_tree}
use Rattle.rules.specs.Clock.{ticked, interrupt_code, due_of, cleared}
use Rattle.rules.specs.Step.{awake, executed_tree, settle_tree, interrupt_tree, due_tree, step_tree, space_after, finished, stepped_by, step_by}
use Rattle.contracts.specs.declared.Done.{Done}
use Rattle.contracts.specs.declared.FloatDone.{FloatDone}
use Rattle.contracts.specs.Contract.{float_bad, out_by, out_of, made, state_of, Finishes}
use Rattle.contracts.proofs.Steps.{finishes_ended}
use Rattle.machine.specs.Settled.{completed, settled}
use Rattle.machine.specs.Instructions.{instruction_from}
use Rattle.machine.specs.Burst.{BurstEnd}
use Rattle.machine.specs.Step.{Steps}
use Rattle.machine.proofs.SettledLaws.{settled_law}

-- ---- the rest of a step

-- rules 1 to 3 leave the address space
module _ (k : Option Key) (c : Cpu) {t : Cpu} (f : t ≡ ticked k c) {n : ℕ} {l : List ℕ} (g : Good n c.space.pdir l) where
  pub good_ticked : Good n t.space.pdir l
  unfolding ticked
  good_ticked = subst (λ (y : Cpu). Good n y.space.pdir l) (sym f) g

  pub good_awake : {y : Cpu} → y ≡ awake t → Good n y.space.pdir l
  good_awake e = subst (λ (y : Cpu). Good n y.space.pdir l) (sym e) good_ticked

module _ (k : Option Key) (c : Cpu) {t : Cpu} (f : t ≡ ticked k c) {d : Option Interrupt} (e : d ≡ due_of t) {m con l : List ℕ} where
  -- a step by its tree, with what is due
  by_due : (o : Option Interrupt) → d ≡ o → {x : Cpu} {m' con' l' : List ℕ}
      → Finishes (due_tree o (length m) (length con) t) t m con l x m' con' l'
      → Steps c k m con l x m' con' l'
  unfolding step_by step_tree stepped_by ticked
  by_due o q {x} {m'} {con'} {l'} h =
      let h' : Finishes (due_tree (due_of (ticked k c)) (length m) (length con) (ticked k c)) (ticked k c) m con l x m' con' l' =
      subst (λ (y : Cpu). Finishes (due_tree (due_of y) (length m) (length con) y) y m con l x m' con' l') f
      (subst (λ (y : Option Interrupt). Finishes (due_tree y (length m) (length con) t) t m con l x m' con' l') (sym q ∙ e) h) in
      record { same = h'.same; good = h'.good }

  -- an interrupt is due: waiting ends, and the trap is delivered and clears its mark
  pub step_due : {i : Interrupt} {left : Pending} {code : ℕ} {y x : Cpu} {m' l' : List ℕ} → d ≡ Some i → left ≡ cleared i t.clock.pending
      → code ≡ code_number (interrupt_code i) → y ≡ awake t → Finishes (deliver_tree y left code t.regs.pc) y m con l x m' con l'
      → Steps c k m con l x m' con l'
  unfolding due_tree
  step_due {i} {left} {code} {x = x} {m'} {l'} q p r w h =
      let h₁ : Finishes (deliver_tree (awake t) left code t.regs.pc) (awake t) m con l x m' con l' =
      subst (λ (z : Cpu). Finishes (deliver_tree z left code t.regs.pc) z m con l x m' con l') w h in
      let h₂ : Finishes (deliver_tree (awake t) (cleared i t.clock.pending) code t.regs.pc) (awake t) m con l x m' con l' =
      subst (λ (z : Pending). Finishes (deliver_tree (awake t) z code t.regs.pc) (awake t) m con l x m' con l') p h₁ in
      let h₃ : Finishes (interrupt_tree i t) (awake t) m con l x m' con l' =
      subst (λ (z : ℕ). Finishes (deliver_tree (awake t) (cleared i t.clock.pending) z t.regs.pc) (awake t) m con l x m' con l') r h₂ in
      by_due (Some i) q (record { same = h₃.same; good = h₃.good })

  -- the machine waits
  pub step_waits : {x : Cpu} → d ≡ None → t.system.waiting ≡ true → x ≡ t → Good (length m) t.space.pdir l → Steps c k m con l x m con l
  unfolding due_tree space_after
  step_waits {x} q w p g =
      let tree = bind (executed_tree t) (settle_tree (length m) (length con) t) in
      by_due None q
      (subst (λ (b : Bool). Finishes (if b then ended t else tree) t m con l x m con l) (sym w) (finishes_ended {k = t} {c = t} p g))

  -- an instruction, and the rest
  pub step_executes : {b : FloatDone} {m' l' : List ℕ} {x : Cpu} {m'' con'' l'' : List ℕ} → d ≡ None → t.system.waiting ≡ false → length m' ≡ length m
      → BurstEnd c (c.regs.count + 1) m l b m' l'
      → Finishes (settle_tree (length m') (length con) (with_floats b.floats t) (out_by b.regs b.end)) (with_floats b.floats t) m' con l' x m'' con'' l''
      → Steps c k m con l x m'' con'' l''
  unfolding due_tree executed_tree completed ticked
  step_executes {b} {m'} {l'} {x} {m''} {con''} {l''} q w n h s =
      let tree = bind (executed_tree t) (settle_tree (length m) (length con) t) in
      let ran : state_of x m'' con'' l'' ≡ completed (length m) (with_floats b.floats t) con (result (out_by b.regs b.end) m' (kept_in l')) =
      s.same ∙ ap (λ (i : ℕ). completed i (with_floats b.floats t) con (result (out_by b.regs b.end) m' (kept_in l'))) n in
      let whole : state_of x m'' con'' l''
      ≡ finished translator t.regs.count t.space t.written con (interpret translator t.space t.system.user tree m (kept_in l) []) =
      ran
      ∙ ap (λ (y : Cpu). completed (length m) (with_floats b.floats y) con (result (out_by b.regs b.end) m' (kept_in l'))) f
      ∙ h.first refl (ticked k c).clock con
      ∙ ap (λ (y : Cpu). settled (length m) y con (instruction_from c m l)) (sym f)
      ∙ ap (λ (y : Cpu). settled (length m) t con (made (interpret translator y.space y.system.user (instruction_tree y.regs) m (kept_in l) []))) (sym f)
      ∙ sym (settled_law (length m) t con (instruction_tree t.regs) m (kept_in l)) in
      by_due None q
      (subst (λ (b : Bool). Finishes (if b then ended t else tree) t m con l x m'' con'' l'') (sym w) (record { same = whole; good = s.good }))

  -- the same in the old mode: f and g are the record's
  pub step_executes_old : {b : Done} {m' l' : List ℕ} {x : Cpu} {m'' con'' l'' : List ℕ} → d ≡ None → t.system.waiting ≡ false → length m' ≡ length m
      → BurstEnd c (c.regs.count + 1) m l (float_bad b.regs c.floats b.end) m' l'
      → Finishes (settle_tree (length m') (length con) t (out_of b)) t m' con l' x m'' con'' l''
      → Steps c k m con l x m'' con'' l''
  unfolding ticked
  step_executes_old {b} {m'} {l'} {x} {m''} {con''} {l''} q w n h s =
      let same : with_floats c.floats t ≡ t = ap (λ (v : Floats). with_floats v t) (sym (ap (λ (y : Cpu). y.floats) f)) in
      step_executes q w n h (subst (λ (y : Cpu). Finishes (settle_tree (length m') (length con) y (out_of b)) y m' con l' x m'' con'' l'') (sym same) s)
