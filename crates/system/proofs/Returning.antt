-- Document 01, "Traps": RTI ends as its tree says. One law for each `return`.
use Rattle.std.proofs.Common.{Ok, Err}
use Prim.Native.Nat.{ℕ}
use mathlib.Core.Bool.{Bool, true, false}
use mathlib.Core.List.{List}
use mathlib.Core.Path.{◌≡◌, refl, subst, ◌∙◌}
use Rattle.word.specs.Word.{sum}
use Rattle.memory.specs.Memory.{load_n}
use Rattle.paging.specs.declared.Access.TheVariants.{Read}
use Rattle.paging.specs.Answer.{Answer}
use Rattle.paging.specs.declared.Fault.{Fault}
use Rattle.paging.specs.TrapCode.{USER}
use Rattle.paging.specs.Walk.{bit}
use Rattle.mmu.specs.Translates.{Translates}
use Rattle.rules.specs.declared.Cpu.{Cpu}
use Rattle.rules.specs.Record.{set_pc, set_sp, with_regs, with_system, with_iena}
use Rattle.rules.specs.Tree.{ask, access, requested}
use Rattle.rules.specs.Trap.{none, ended, next_pc, fault_tree}
use Rattle.rules.specs.System.{back_to, returned, or_fault, rti_tree}
use Rattle.rules.specs.Step.{space_after}
use Rattle.contracts.specs.Contract.{fault_of, Finishes}
use Rattle.contracts.proofs.Steps.{record_after, finishes_ended, finishes_denied, finishes_read}
use Rattle.system.proofs.Choices.{at_next}

-- the record after the frame has left the stack
abbrev popped : Cpu → ℕ → Cpu
popped c pc = with_regs (set_pc pc (set_sp (sum c.regs.sp 16) c.regs)) (with_system (with_iena true c.system) c)

-- RTI keeps the step count and the address space
returned_keeps : (c : Cpu) (code pc : ℕ) → returned c code pc ≡ record_after c none (returned c code pc)
unfolding space_after
returned_keeps c code pc = go (bit USER code)
  where
    go : (b : Bool) → back_to b (popped c pc) ≡ record_after c none (back_to b (popped c pc))
    go true = unfold space_after in refl
    go false = unfold space_after in refl

module _ (c : Cpu) {con m l : List ℕ} {a : Answer} {m' l' : List ℕ}
    (t : Translates c.space (requested Read 4 c.regs.sp c.system.user) m l a m' l') where
  -- the code cannot be read
  pub rti_first : {z y : Fault} {n : ℕ} {x : Cpu} {m'' l'' : List ℕ} → a ≡ Err z → y ≡ fault_of a → n ≡ next_pc c
      → Finishes (fault_tree c y n) c m' con l' x m'' con l'' → Finishes (rti_tree c) c m con l x m'' con l''
  unfolding rti_tree
  rti_first {y = y} e q p h = finishes_denied _ t e q (at_next (fault_tree c y) c p h)

  module _ {second v code : ℕ} (s : second ≡ sum c.regs.sp 8) (e : a ≡ Ok v) (i : code ≡ load_n 4 m' v) {b : Answer} {m'' l'' : List ℕ}
      (u : Translates c.space (requested Read 4 second c.system.user) m' l' b m'' l'') where
    -- the code is read
    go_on : {x : Cpu} {m''' l''' : List ℕ} → Finishes (ask (access Read 4 second) (or_fault c (λ pc. ended (returned c code pc)))) c m' con l' x m''' con l'''
        → Finishes (rti_tree c) c m con l x m''' con l'''
    unfolding rti_tree
    go_on {x} {m'''} {l'''} h =
        finishes_read _ t e i
        (subst (λ j. Finishes (ask (access Read 4 j) (or_fault c (λ pc. ended (returned c code pc)))) c m' con l' x m''' con l''') s h)

    -- pc cannot be read
    pub rti_second : {z y : Fault} {n : ℕ} {x : Cpu} {m''' l''' : List ℕ} → b ≡ Err z → y ≡ fault_of b → n ≡ next_pc c
        → Finishes (fault_tree c y n) c m'' con l'' x m''' con l''' → Finishes (rti_tree c) c m con l x m''' con l'''
    rti_second {y = y} d q p h = go_on (finishes_denied _ u d q (at_next (fault_tree c y) c p h))

    -- both are read
    pub rti_both : {w pc : ℕ} {x : Cpu} → b ≡ Ok w → pc ≡ load_n 4 m'' w → x ≡ returned c code pc → Finishes (rti_tree c) c m con l x m'' con l''
    rti_both {pc = pc} d j f = go_on (finishes_read _ u d j (finishes_ended (f ∙ returned_keeps c code pc) u.good))
