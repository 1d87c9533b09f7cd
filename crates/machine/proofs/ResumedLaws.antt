-- Document 02, item 7: instructions one after another where the first is known to be a floating one: document 01's table ends at once.
use Rattle.std.proofs.Common.{Option, Some}
use Prim.Native.Nat.{ℕ, ◌≤◌, ◌<◌}
use native.Mathlib.Omega.{arith}
use mathlib.Core.Bool.{Bool}
use mathlib.Core.List.{List}
use mathlib.Core.Path.{◌≡◌, refl, subst}
use lib.ListN.{length}
use Rattle.paging.specs.declared.Space.{Space}
use Rattle.mmu.specs.Good.{Good}
use Rattle.rules.specs.declared.Regs.{Regs}
use Rattle.contracts.specs.declared.End.TheVariants.{Undecoded}
use Rattle.contracts.specs.Contract.{ok, bad}
use Rattle.execute.specs.Ahead.{LooksAhead}
use Rattle.machine.specs.Instructions.{EndsFrom}
use Rattle.machine.proofs.BurstSteps.{not_ok_end}
use Rattle.machine.proofs.InstructionLaws.{instructions_early, instructions_all, executes_beside, from_start}

module _ (s : Regs) (user : Bool) (space : Space) (limit : ℕ) (m l : List ℕ) (g : Good (length m) space.pdir l) where
  -- below the limit it is under way
  pub floating_next : {a : Option ℕ} {w : ℕ} → LooksAhead s space user m l a → a ≡ Some w → s.count < limit → EndsFrom s user space limit m l (bad s (Undecoded 0 w)) m l
  floating_next {w = w} h e below = λ c k u v.
      instructions_early c limit m l (from_start s user space limit m l g (omega (arith, below)) c k u v) below refl (executes_beside u v (subst (LooksAhead s space user m l) e h))
      (not_ok_end (Undecoded 0 w) refl)

  -- at the limit no instruction is
  pub none_left : s.count ≤ limit → limit ≤ s.count → EndsFrom s user space limit m l (ok s) m l
  none_left within h = λ c k u v. instructions_all c limit m l (from_start s user space limit m l g within c k u v) h
