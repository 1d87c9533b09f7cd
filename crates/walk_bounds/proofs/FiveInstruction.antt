-- Document 02, item 6, "never more than five in a step": the translations of each instruction, a line for each. The fetch leaves four: two operands at most, and two for
-- the frame of what may follow; a privileged instruction asks for none itself, and leaves four to RTI; a word without a row leaves three to a floating instruction.
use Prim.Native.Nat.{ℕ, suc}
use mathlib.Core.Bool.{◌&&◌}
use mathlib.Core.List.{List}
use native.Mathlib.Omega.{arith}
use lib.Dec.{eqb}
use Rattle.decode.specs.Opcodes.{decode_of}
use Rattle.decode.specs.declared.AluOp.{AluOp}
use Rattle.decode.specs.declared.Operand.{Operand}
use Rattle.decode.specs.declared.Operand.TheVariants.{RegB, Imm, Stack}
use Rattle.decode.specs.declared.BlockOp.{BlockOp}
use Rattle.decode.specs.declared.BlockOp.TheVariants.{Mcpy, Mcmp, Mchr, Mset}
use Rattle.decode.specs.declared.Instr.{Instr}
use Rattle.decode.specs.declared.Instr.TheVariants.{Illegal, Nop, Trap, Cyc, Jsra, Lba, Lca, Ent, Lev, Jmp, Jmpi, Jsr, Lea, Leag, Block, Load}
use Rattle.decode.specs.declared.Instr.TheVariants.{Store, LoadImm, LoadHigh, Alu, Compare, Bz, Bnz, Branch, Push, Pshi, Pop, Sys}
use Rattle.paging.specs.declared.Access.{Access}
use Rattle.rules.specs.declared.Regs.{Regs}
use Rattle.rules.specs.Tree.{access, Reply, got, denied, Tree, ask, done}
use Rattle.rules.specs.Outcome.{Out, fine, unfetched, trap, refused, system, floated, undecoded, or_refused}
use Rattle.rules.specs.Arithmetic.{divides, alu_tree, alu_from}
use Rattle.rules.specs.Block.{byte_tree}
use Rattle.rules.specs.Execute.{execute_tree, moved, fetched, instruction_tree}
use Rattle.walk_bounds.proofs.Within.{Within, within_leaf, within_ask, within_more, within_if}

-- what the rest of the step may translate, by how the instruction ends: the two slots of a trap's frame; for a privileged one RTI's two reads too; for a word
-- without a row a floating instruction's operand too
abbrev pub rest_of : Out → ℕ
rest_of (fine r vs) = 0
rest_of (unfetched f) = 2
rest_of (trap code) = 2
rest_of (refused f) = 2
rest_of (system op) = 4
rest_of (floated r v vs) = 0
rest_of (undecoded w) = 3

-- an instruction's tree, of which at most n translations are left
abbrev pub AtMost : ℕ → Tree Out → Type 0
AtMost n t = Within rest_of n t

-- ---- the parts of instructions

-- it completes
fine_within : {n : ℕ} {r : Regs} {vs : List ℕ} → AtMost n (done (fine r vs))
fine_within {n} = within_leaf (omega arith)

-- an operand; denied, a frame has two slots
pub operand_within : {n : ℕ} {kind : Access} {size va : ℕ} {k : ℕ → Tree Out} → ((v : ℕ) → AtMost (suc (suc n)) (k v))
    → AtMost (suc (suc (suc n))) (ask (access kind size va) (or_refused k))
operand_within {n} {k = k} h = within_ask (suc (suc n)) (omega arith) go
  where
    go : (x : Reply) → AtMost (suc (suc n)) (or_refused k x)
    go (got v) = h v
    go (denied f) = within_leaf (omega arith)

-- arithmetic, with its second operand
alu_within : (op : AluOp) (y : ℕ) (r : Regs) → AtMost 3 (alu_tree op y r)
unfolding alu_tree
alu_within op y r = within_if (divides op && eqb y 0) (within_leaf (omega arith)) fine_within

from_within : (op : AluOp) (x : Operand) (r : Regs) → AtMost 4 (alu_from op x r)
unfolding alu_from
from_within op RegB r = within_more 3 4 (omega arith) (alu_within op r.b r)
from_within op (Imm i) r = within_more 3 4 (omega arith) (alu_within op i r)
from_within op (Stack i) r = operand_within (λ v. alu_within op v r)

-- one byte of a block instruction
byte_within : (op : BlockOp) (r : Regs) → AtMost 4 (byte_tree op r)
unfolding byte_tree
byte_within Mcpy r = operand_within (λ x. operand_within (λ y. fine_within))
byte_within Mcmp r = operand_within (λ x. operand_within (λ y. fine_within))
byte_within Mchr r = operand_within (λ x. fine_within)
byte_within Mset r = operand_within (λ x. fine_within)

-- ---- every instruction, fetched

execute_within : (w : ℕ) (i : Instr) (r : Regs) → AtMost 4 (execute_tree w i r)
unfolding execute_tree
execute_within w Illegal r = within_leaf (omega arith)
execute_within w Nop r = fine_within
execute_within w Trap r = within_leaf (omega arith)
execute_within w Cyc r = fine_within
execute_within w Jsra r = operand_within (λ x. fine_within)
execute_within w Lba r = fine_within
execute_within w Lca r = fine_within
execute_within w (Ent i) r = fine_within
execute_within w (Lev i) r = operand_within (λ v. fine_within)
execute_within w (Jmp i) r = fine_within
execute_within w (Jmpi i) r = fine_within
execute_within w (Jsr i) r = operand_within (λ x. fine_within)
execute_within w (Lea i) r = fine_within
execute_within w (Leag i) r = fine_within
execute_within w (Block op) r = within_if (eqb r.c 0) fine_within (byte_within op r)
execute_within w (Load d b f i) r = operand_within (λ v. fine_within)
execute_within w (Store b s i) r = operand_within (λ x. fine_within)
execute_within w (LoadImm d i) r = fine_within
execute_within w (LoadHigh d f) r = fine_within
execute_within w (Alu op x) r = from_within op x r
execute_within w (Compare t) r = fine_within
execute_within w (Bz i) r = fine_within
execute_within w (Bnz i) r = fine_within
execute_within w (Branch t i) r = fine_within
execute_within w (Push d) r = operand_within (λ x. fine_within)
execute_within w (Pshi i) r = operand_within (λ x. fine_within)
execute_within w (Pop d) r = operand_within (λ v. fine_within)
execute_within w (Sys op) r = within_leaf (omega arith)

-- the fetch, then the instruction
pub instruction_within : (r : Regs) → Within rest_of 5 (instruction_tree r)
unfolding instruction_tree
instruction_within r = within_ask 4 (omega arith) go
  where
    go : (x : Reply) → AtMost 4 (fetched r x)
    go (got w) = execute_within w (decode_of w) (moved r)
    go (denied f) = within_leaf (omega arith)
