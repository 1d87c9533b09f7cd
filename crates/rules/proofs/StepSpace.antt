-- Document 01, "Opcodes", PDIR and SPAG: a step leaves the page directory at a multiple of 4. Only these two set it.
use Rattle.std.proofs.Common.{Option}
use Prim.Native.Nat.{ℕ, ◌%◌}
use mathlib.Core.Path.{◌≡◌}
use native.Mathlib.Omega.{arith}
use Rattle.word.specs.Word.{cut}
use Rattle.paging.specs.declared.Space.{Space}
use Rattle.rules.specs.declared.Key.{Key}
use Rattle.paging.specs.TrapCode.{code_number}
use Rattle.rules.specs.declared.Cpu.{Cpu}
use Rattle.rules.specs.declared.Interrupt.{Interrupt}
use Rattle.rules.specs.declared.Pending.{Pending}
use Rattle.rules.specs.Tree.{Reply, got, denied}
use Rattle.rules.specs.Trap.{Final, framed, deliver_tree}
use Rattle.rules.specs.System.{directed}
use Rattle.rules.specs.Clock.{cleared, due_of, interrupt_code, ticked}
use Rattle.rules.specs.Step.{awake, interrupt_tree, step_tree, space_after}
use Rattle.rules.proofs.Leaves.{Leaves, at_leaf, at_ask, leaves_all}
use Rattle.rules.proofs.StepTree.{Shapes, every_step}

-- the page directory after a step from the address space s
abbrev pub DirectoryAligned : Space → Final → Type 0
DirectoryAligned s f = (space_after s f.effect).pdir % 4 ≡ 0

module _ (s : Space) (h : s.pdir % 4 ≡ 0) where
  -- a trap frame leaves the address space
  frame_aligned : (c : Cpu) (left : Pending) (code pc : ℕ) (r : Reply) → Leaves (DirectoryAligned s) (framed c left code pc r)
  unfolding space_after
  frame_aligned c left code pc (got x) = at_leaf h
  frame_aligned c left code pc (denied f) = at_leaf h

  interrupt_aligned : (i : Interrupt) (c : Cpu) → Leaves (DirectoryAligned s) (interrupt_tree i c)
  unfolding deliver_tree space_after
  interrupt_aligned i c = at_ask (frame_aligned (awake c) (cleared i c.clock.pending) (code_number (interrupt_code i)) c.regs.pc)

  -- PDIR: "low twelve bits drop"
  pdir_aligned : (c : Cpu) → Leaves (DirectoryAligned s) (directed c)
  unfolding space_after
  pdir_aligned c =
      let e : cut 4096 c.regs.a % 4 ≡ 0 = omega arith in
      at_leaf e

  aligned : (size console_size : ℕ) → Shapes size console_size (Leaves (DirectoryAligned s)) (λ c. c.space.pdir % 4 ≡ 0)
  unfolding deliver_tree space_after
  aligned size console_size = record {
    on_fault = λ c address g. g;
    on_moved = λ c g. g;
    waits = λ c g. at_leaf h;
    masks = λ c g. at_leaf h;
    computes = λ c op g. at_leaf h;
    returns = λ c code pc g. at_leaf h;
    fills = λ c g. at_leaf h;
    prints = λ c g e. at_leaf h;
    directs = λ c g e. pdir_aligned c;
    pages = λ c g. at_leaf g;
    delivers = λ c code pc g. at_ask (frame_aligned c c.clock.pending _ pc);
    reads = λ l. at_ask l;
  }

-- a whole step
pub step_aligned : (k : Option Key) (size console_size : ℕ) (c : Cpu) → c.space.pdir % 4 ≡ 0 → Leaves (DirectoryAligned c.space) (step_tree k size console_size c)
unfolding step_tree ticked space_after
step_aligned k size console_size c h =
    every_step (λ o. Unit {0}) (aligned c.space h size console_size) (λ c' r vs g o. h) (λ c' r v vs g o. h) (due_of (ticked k c)) (ticked k c) h
    (λ i e. interrupt_aligned c.space h i (ticked k c)) (leaves_all _)
