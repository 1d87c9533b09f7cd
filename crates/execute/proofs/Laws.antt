-- Document 01, "Opcodes": laws of the arithmetic instructions and of the fetch.
use Rattle.std.proofs.Common.{if◌then◌else◌, Ok, Err, Some, None}
use Prim.Native.Nat.{ℕ}
use mathlib.Core.Bool.{Bool, true, false, ◌&&◌}
use mathlib.Core.List.{List}
use mathlib.Core.Path.{◌≡◌, refl}
use lib.Dec.{eqb}
use lib.ListN.{length}
use Rattle.memory.specs.Memory.{load_n}
use Rattle.decode.specs.declared.AluOp.{AluOp}
use Rattle.decode.specs.declared.Instr.{Instr}
use Rattle.decode.specs.Opcodes.{decode_of}
use Rattle.paging.specs.declared.Access.TheVariants.{Fetch}
use Rattle.paging.specs.Answer.{Answer}
use Rattle.paging.specs.declared.Fault.{Fault}
use Rattle.paging.specs.declared.Space.{Space}
use Rattle.paging.specs.declared.TrapCode.TheVariants.{Farith}
use Rattle.paging.specs.Walk.{is_write}
use Rattle.mmu.specs.Good.{Good}
use Rattle.mmu.specs.Translates.{Translates}
use Rattle.rules.specs.declared.Regs.{Regs}
use Rattle.rules.specs.Record.{with_a}
use Rattle.rules.specs.Tree.{Grant, done, requested}
use Rattle.rules.specs.Outcome.{trap, plain}
use Rattle.rules.specs.Arithmetic.{alu_of, divides, alu_tree}
use Rattle.rules.specs.Execute.{execute_tree, moved, fetched, instruction_tree}
use Rattle.operations.specs.Computed.{computed}
use Rattle.contracts.specs.declared.Done.{Done}
use Rattle.contracts.specs.declared.End.TheVariants.{Unfetched}
use Rattle.contracts.specs.Contract.{bad, fault_of, Executes}
use Rattle.contracts.proofs.Laws.{executes_fine, executes_trap, executes_unfetched, executes_not, executes_got, fault_told}
use Rattle.execute.specs.Computed.{done_by, alu_done}

-- ---- arithmetic

module _ {s : Space} {user : Bool} {gs : List Grant} {m l : List ℕ} (g : Good (length m) s.pdir l) (r : Regs) {d : Done} where
  -- by whether the divisor is 0
  executes_chosen : (b : Bool) (v : ℕ) → d ≡ done_by r (if b then None else Some v)
      → Executes (if b then done (trap Farith) else plain (with_a v r)) s user gs m l d m l
  executes_chosen true v h = executes_trap g h
  executes_chosen false v h = executes_fine g h

  -- an operation on a and y
  pub executes_alu : (op : AluOp) (y : ℕ) → d ≡ alu_done op y r → Executes (alu_tree op y r) s user gs m l d m l
  unfolding computed alu_tree
  executes_alu op y h = executes_chosen (divides op && eqb y 0) (alu_of op r.a y) h

-- ---- the fetch

module _ {s : Space} {user : Bool} {gs : List Grant} (r : Regs) {m l : List ℕ} {a : Answer} {m' l' : List ℕ}
    (t : Translates s (requested Fetch 4 r.pc user) m l a m' l') {d : Done} where
  -- a fetch that is denied
  pub executes_no_fetch : {x f : Fault} {u : Regs} → a ≡ Err x → f ≡ fault_of a → d ≡ bad u (Unfetched f) → Executes (instruction_tree r) s user gs m l d m' l'
  unfolding instruction_tree
  executes_no_fetch {u = u} e q h = executes_not t (fetched r) e (executes_unfetched t.good {r = u} (rw (← fault_told e q) h))

  -- a fetch that is granted: its word is decoded and executed
  pub executes_fetched : {p w : ℕ} {i : Instr} {m'' l'' : List ℕ} → a ≡ Ok p → w ≡ load_n 4 m' p → i ≡ decode_of w
      → Executes (execute_tree w i (moved r)) s user gs m' l' d m'' l'' → Executes (instruction_tree r) s user gs m l d m'' l''
  unfolding instruction_tree is_write
  executes_fetched e f q h = executes_got t (fetched r) refl e f (rw (← q) h)
