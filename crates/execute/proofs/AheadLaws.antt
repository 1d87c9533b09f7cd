-- Document 02, item 7: a fetch that a probe tells, of a floating instruction.
use Rattle.std.proofs.Common.{Ok, Option, Some}
use Prim.Native.Nat.{ℕ, ◌+◌, ◌≤◌}
use mathlib.Core.Bool.{Bool, true}
use mathlib.Core.List.{List, []}
use mathlib.Core.Path.{◌≡◌, refl, sym, subst}
use lib.ListN.{length}
use Rattle.memory.specs.declared.Size.TheVariants.{Word}
use Rattle.memory.specs.Memory.{load_n}
use Rattle.floating_decode.specs.Opcodes.{floating_decode_of}
use Rattle.floating_decode.specs.Listed.{is_listed}
use Rattle.floating_decode.proofs.Undecoded.{floating_illegal}
use Rattle.paging.specs.declared.Access.TheVariants.{Fetch}
use Rattle.paging.specs.declared.Space.{Space}
use Rattle.mmu.specs.Good.{Good}
use Rattle.mmu.specs.Translates.{Translates}
use Rattle.mmu.specs.Probes.{Probes}
use Rattle.mmu.proofs.Laws.{at_within}
use Rattle.rules.specs.declared.Regs.{Regs}
use Rattle.rules.specs.Tree.{requested}
use Rattle.rules.specs.Execute.{execute_tree, instruction_tree}
use Rattle.contracts.specs.declared.End.TheVariants.{Undecoded}
use Rattle.contracts.specs.Contract.{bad, Executes}
use Rattle.contracts.proofs.Laws.{executes_undecoded}
use Rattle.execute.proofs.Laws.{executes_fetched}

module _ (s : Space) (user : Bool) (pc : ℕ) (m l : List ℕ) {p : Option ℕ} {q : ℕ} (g : Good (length m) s.pdir l) (h : Probes s (requested Fetch 4 pc user) m l p)
    (e : p ≡ Some q) where
  told : Translates s (requested Fetch 4 pc user) m l (Ok q) m l
  told = subst (Probes s (requested Fetch 4 pc user) m l) e h

  -- the word lies in memory
  pub ahead_within : q + 4 ≤ length m
  ahead_within = at_within Word g told refl

  -- the instruction ends in it
  pub executes_ahead : (r u : Regs) {w : ℕ} → r.pc ≡ pc → w ≡ load_n 4 m q → is_listed (floating_decode_of w) ≡ true
      → Executes (instruction_tree r) s user [] m l (bad u (Undecoded 0 w)) m l
  unfolding execute_tree
  executes_ahead r u k f b =
      executes_fetched r (rw k told) refl f (sym (floating_illegal _ b)) (executes_undecoded g refl)
