-- Document 01, "Opcodes": PDIR and SPAG end as their trees say, with the page buffer emptied.
use Prim.Native.Nat.{ℕ, ◌≤◌, ◌<◌, ◌%◌}
use native.Mathlib.Omega.{arith}
use mathlib.Core.Bool.{not}
use mathlib.Core.List.{List, []}
use mathlib.Core.Path.{◌≡◌}
use lib.ListN.{length}
use lib.Dec.{eqb}
use borrow.Author.Tests.{lt-ltb, le-ltb}
use Rattle.word.specs.Word.{cut}
use Rattle.paging.specs.declared.Cause.TheVariants.{AddressBeyondMemory}
use Rattle.paging.specs.declared.TrapCode.TheVariants.{Fmem}
use Rattle.paging.specs.Counting.{raised, counted}
use Rattle.buffer.specs.Held.{walks, lent, Buffer}
use Rattle.mmu.specs.Good.{Good}
use Rattle.mmu.specs.Translates.{space_of}
use Rattle.mmu.proofs.Laws.{good_emptied}
use Rattle.rules.specs.declared.Cpu.{Cpu}
use Rattle.rules.specs.Record.{with_space}
use Rattle.rules.specs.Trap.{next_pc, fault_tree}
use Rattle.rules.specs.System.{pdir_tree, spag_tree}
use Rattle.rules.specs.Step.{space_after}
use Rattle.contracts.specs.Contract.{Finishes}
use Rattle.contracts.proofs.Steps.{finishes_space}
use Rattle.system.specs.Moved.{moved_on}
use Rattle.system.proofs.Choices.{finishes_then, finishes_else, at_next}

module _ (c : Cpu) {m con l : List ℕ} where
  -- "PDIR: .. low twelve bits drop"
  pub pdir_set : {n x : Cpu} {l' : List ℕ} → lent l' ≡ counted [] (walks l) → Buffer l' → Good (length m) c.space.pdir l → c.regs.a < length m → n ≡ moved_on c
      → x ≡ with_space (space_of c.space.paging (cut 4096 c.regs.a)) n
      → Finishes (pdir_tree (length m) c (moved_on c)) c m con l x m con l'
  unfolding pdir_tree space_after raised
  pdir_set z b g h e f =
      let i : cut 4096 c.regs.a % 4096 ≡ 0 = omega arith in
      let j : cut 4096 c.regs.a < length m = omega (arith, h) in
      finishes_then _ _ (lt-ltb _ _ h) (finishes_space (rw e at f) z (good_emptied g i j z b))

  -- "PDIR: a not below M is FMEM with vadr = a"
  pub pdir_fault : {n : ℕ} {x : Cpu} {m' l' : List ℕ} → length m ≤ c.regs.a → n ≡ next_pc c
      → Finishes (fault_tree c (record { code = Fmem; cause = AddressBeyondMemory; address = c.regs.a }) n) c m con l x m' con l'
      → Finishes (pdir_tree (length m) c (moved_on c)) c m con l x m' con l'
  unfolding pdir_tree
  pdir_fault h p f = finishes_else _ _ (le-ltb _ _ h) (at_next (fault_tree c (record { code = Fmem; cause = AddressBeyondMemory; address = c.regs.a })) c p f)

-- "SPAG: paging = (a ≠ 0)"
pub spag_set : (n : Cpu) {m con l : List ℕ} {x : Cpu} {l' : List ℕ} → lent l' ≡ counted [] (walks l) → Buffer l' → Good (length m) n.space.pdir l
    → x ≡ with_space (space_of (not (eqb n.regs.a 0)) n.space.pdir) n
    → Finishes (spag_tree n) n m con l x m con l'
unfolding space_after raised
spag_set n z b g f = finishes_space f z (good_emptied g g.directory.aligned g.directory.below z b)
