-- Document 01, "One step": the rest of a step, by how its instruction ended in the code.
use Prim.Native.Nat.{ℕ}
use mathlib.Core.List.{List}
use mathlib.Core.Path.{◌≡◌, sym, subst}
use Rattle.paging.specs.declared.Fault.{Fault}
use Rattle.paging.specs.declared.TrapCode.{TrapCode}
use Rattle.paging.specs.declared.TrapCode.TheVariants.{Finst}
use Rattle.paging.specs.TrapCode.{code_number}
use Rattle.rules.specs.declared.Cpu.{Cpu}
use Rattle.rules.specs.Trap.{next_pc, trap_tree, fault_tree}
use Rattle.rules.specs.Step.{settle_tree}
use Rattle.contracts.specs.declared.Done.{Done}
use Rattle.contracts.specs.declared.End.{End}
use Rattle.contracts.specs.declared.End.TheVariants.{Trap, Refused, Undecoded}
use Rattle.contracts.specs.Contract.{out_by, out_of, Finishes}
use Rattle.system.proofs.Choices.{at_next}

module _ (size console_size : ℕ) (c : Cpu) (d : Done) {m con l : List ℕ} {x : Cpu} {m' con' l' : List ℕ} where
  -- by how the instruction ended
  pub settle_at : {e : End} → d.end ≡ e → Finishes (settle_tree size console_size c (out_by d.regs e)) c m con l x m' con' l'
      → Finishes (settle_tree size console_size c (out_of d)) c m con l x m' con' l'
  settle_at q h = subst (λ z. Finishes (settle_tree size console_size c (out_by d.regs z)) c m con l x m' con' l') (sym q) h

  -- "The pc stored is the next instruction's for faults in execution and TRAP"
  pub settle_trap : {code : TrapCode} {number n : ℕ} → d.end ≡ Trap code → number ≡ code_number code → n ≡ next_pc c → Finishes (trap_tree c number n) c m con l x m' con' l'
      → Finishes (settle_tree size console_size c (out_of d)) c m con l x m' con' l'
  unfolding settle_tree
  settle_trap {code} q e p h = settle_at q (at_next (trap_tree c (code_number code)) c p (rw e at h))

  pub settle_undecoded : {pad w number n : ℕ} → d.end ≡ Undecoded pad w → number ≡ code_number Finst → n ≡ next_pc c → Finishes (trap_tree c number n) c m con l x m' con' l'
      → Finishes (settle_tree size console_size c (out_of d)) c m con l x m' con' l'
  unfolding settle_tree
  settle_undecoded q e p h = settle_at q (at_next (trap_tree c (code_number Finst)) c p (rw e at h))

  pub settle_refused : {f : Fault} {n : ℕ} → d.end ≡ Refused f → n ≡ next_pc c → Finishes (fault_tree c f n) c m con l x m' con' l'
      → Finishes (settle_tree size console_size c (out_of d)) c m con l x m' con' l'
  unfolding settle_tree
  settle_refused {f} q p h = settle_at q (at_next (fault_tree c f) c p h)
