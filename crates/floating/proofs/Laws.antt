-- CDI and CDU: what the code leaves is the leaf of what was cut.
use Prim.Native.Nat.{ℕ}
use mathlib.Core.Bool.{Bool}
use mathlib.Core.List.{List}
use mathlib.Core.Path.{◌≡◌}
use lib.ListN.{length}
use Rattle.std.specs.Prelude.{Option, None, Some}
use Rattle.paging.specs.declared.Space.{Space}
use Rattle.mmu.specs.Good.{Good}
use Rattle.rules.specs.declared.Regs.{Regs}
use Rattle.rules.specs.declared.Floats.{Floats}
use Rattle.rules.specs.Tree.{Grant}
use Rattle.rules.specs.Floating.{cut_tree}
use Rattle.contracts.specs.declared.FloatDone.{FloatDone}
use Rattle.contracts.specs.Contract.{FloatExecutes}
use Rattle.contracts.proofs.FloatLaws.{floats_fine, floats_trap}
use Rattle.floating.specs.Done.{cut_done}

module _ {s : Space} {user : Bool} {gs : List Grant} {m l : List ℕ} (g : Good (length m) s.pdir l) (r : Regs) (v : Floats) {d : FloatDone} where
  pub floats_cut : (x : Option ℕ) → d ≡ cut_done x r v → FloatExecutes (cut_tree x r v) s user gs m l d m l
  unfolding cut_tree
  floats_cut None h = floats_trap g h
  floats_cut (Some n) h = floats_fine g h
