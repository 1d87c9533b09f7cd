-- Document 01, "Addresses": "sp, usp and ksp, set by any instruction, drop their low three bits, pc and ivec their low two". From pc at a multiple of 4 and sp
-- at a multiple of 8, every instruction leaves both so, a line for each.
use Rattle.std.proofs.Common.{if◌then◌else◌}
use Prim.Native.Nat.{ℕ, ◌%◌}
use mathlib.Core.Path.{◌≡◌}
use mathlib.Core.Bool.{Bool, true, false, not, ◌&&◌}
use native.Mathlib.Omega.{arith}
use lib.Dec.{eqb}
use Rattle.word.specs.Word.{sum, difference}
use Rattle.decode.specs.Opcodes.{decode_of}
use Rattle.decode.specs.declared.AluOp.{AluOp}
use Rattle.decode.specs.declared.Operand.{Operand}
use Rattle.decode.specs.declared.Operand.TheVariants.{RegB, Imm, Stack}
use Rattle.decode.specs.declared.BlockOp.{BlockOp}
use Rattle.decode.specs.declared.BlockOp.TheVariants.{Mcpy, Mcmp, Mchr, Mset}
use Rattle.decode.specs.declared.Reg.{Reg}
use Rattle.decode.specs.declared.Reg.TheVariants as reg
use Rattle.decode.specs.declared.Instr.{Instr}
use Rattle.decode.specs.declared.Instr.TheVariants.{Illegal, Nop, Trap, Cyc, Jsra, Lba, Lca, Ent, Lev, Jmp, Jmpi, Jsr, Lea, Leag, Block, Load}
use Rattle.decode.specs.declared.Instr.TheVariants.{Store, LoadImm, LoadHigh, Alu, Compare, Bz, Bnz, Branch, Push, Pshi, Pop, Sys}
use Rattle.rules.specs.declared.Regs.{Regs}
use Rattle.rules.specs.Record.{set_pc, set_sp}
use Rattle.rules.specs.Tree.{Reply, got, denied, Tree}
use Rattle.rules.specs.Outcome.{Out, fine, unfetched, trap, refused, system, floated, undecoded, or_refused}
use Rattle.rules.specs.Arithmetic.{divides, alu_tree, alu_from, holds}
use Rattle.rules.specs.Transfer.{reg_of, put_reg, push_tree}
use Rattle.rules.specs.Jump.{target, branched, indexed}
use Rattle.rules.specs.Block.{block_end, again, byte_tree}
use Rattle.rules.specs.Execute.{execute_tree, moved, fetched, instruction_tree}
use Rattle.rules.proofs.LowBits.{sp_set, pc_set}
use Rattle.rules.proofs.Leaves.{Leaves, at_leaf, at_ask, leaves_if}

-- pc and sp, by their values: a change of another register is none of theirs
pub record Aligned (pc sp : ℕ) : Type 0 where
  pub pc_aligned : pc % 4 ≡ 0
  pub sp_aligned : sp % 8 ≡ 0

-- of some registers
abbrev pub RegsAligned : Regs → Type 0
RegsAligned r = Aligned r.pc r.sp

-- how an instruction ends
abbrev pub OutAligned : Out → Type 0
OutAligned (fine r vs) = RegsAligned r
OutAligned (unfetched f) = Unit
OutAligned (trap code) = Unit
OutAligned (refused f) = Unit
OutAligned (system op) = Unit
OutAligned (floated r v vs) = RegsAligned r
OutAligned (undecoded w) = Unit

-- every leaf of an instruction's tree
abbrev pub AllAligned : Tree Out → Type 0
AllAligned t = Leaves OutAligned t

-- ---- the parts of instructions

-- what follows a reply
pub reply_aligned : {k : ℕ → Tree Out} → ((v : ℕ) → AllAligned (k v)) → (x : Reply) → AllAligned (or_refused k x)
reply_aligned h (got v) = h v
reply_aligned h (denied f) = at_leaf tt

-- a register of a, b and c is set
put_aligned : (d : Reg) (x : ℕ) (r : Regs) → RegsAligned r → RegsAligned (put_reg d x r)
put_aligned reg.A x r h = h
put_aligned reg.B x r h = h
put_aligned reg.C x r h = h

-- "drop their low three bits"
pub sp_aligned_set : (x : ℕ) (r : Regs) → RegsAligned r → RegsAligned (set_sp x r)
sp_aligned_set x r h = record { pc_aligned = h.pc_aligned; sp_aligned = sp_set x r }

-- "their low two"
pc_aligned_set : (x : ℕ) (r : Regs) → RegsAligned r → RegsAligned (set_pc x r)
pc_aligned_set x r h = record { pc_aligned = pc_set x r; sp_aligned = h.sp_aligned }

-- a branch is taken or not
pub branch_aligned : (taken : Bool) (imm : ℕ) (r : Regs) → RegsAligned r → RegsAligned (branched taken imm r)
branch_aligned true imm r h = pc_aligned_set (target imm r) r h
branch_aligned false imm r h = h

-- arithmetic, with its second operand
alu_aligned : (op : AluOp) (y : ℕ) (r : Regs) → RegsAligned r → AllAligned (alu_tree op y r)
unfolding alu_tree
alu_aligned op y r h = leaves_if (divides op && eqb y 0) (at_leaf tt) (at_leaf h)

from_aligned : (op : AluOp) (x : Operand) (r : Regs) → RegsAligned r → AllAligned (alu_from op x r)
unfolding alu_from
from_aligned op RegB r h = alu_aligned op r.b r h
from_aligned op (Imm i) r h = alu_aligned op i r h
from_aligned op (Stack i) r h = at_ask (reply_aligned (λ v. alu_aligned op v r h))

-- a push, with what else it changes
push_aligned : (v : ℕ) (next r : Regs) → RegsAligned next → AllAligned (push_tree v next r)
unfolding push_tree
push_aligned v next r h = at_ask (reply_aligned (λ x. at_leaf (sp_aligned_set (difference r.sp 8) next h)))

-- ---- block instructions

-- "pc returns to the instruction"
again_aligned : (r : Regs) → RegsAligned r → RegsAligned (again r)
again_aligned r h = omega arith

-- c = 0
end_aligned : (op : BlockOp) (r : Regs) → RegsAligned r → RegsAligned (block_end op r)
end_aligned Mcpy r h = h
end_aligned Mcmp r h = h
end_aligned Mchr r h = h
end_aligned Mset r h = h

-- the loops that may break
loop_aligned : (b : Bool) (x y : Regs) → RegsAligned x → RegsAligned y → RegsAligned (if b then x else y)
loop_aligned true x y g h = g
loop_aligned false x y g h = h

-- one byte
byte_aligned : (op : BlockOp) (r : Regs) → RegsAligned r → AllAligned (byte_tree op r)
unfolding byte_tree
byte_aligned Mcpy r h = at_ask (reply_aligned (λ x. at_ask (reply_aligned (λ y. at_leaf (again_aligned r h)))))
byte_aligned Mcmp r h = at_ask (reply_aligned (λ x. at_ask (reply_aligned (λ y. at_leaf (loop_aligned (eqb x y) _ _ (again_aligned r h) h)))))
byte_aligned Mchr r h = at_ask (reply_aligned (λ x. at_leaf (loop_aligned (eqb x (r.b % 256)) _ _ h (again_aligned r h))))
byte_aligned Mset r h = at_ask (reply_aligned (λ x. at_leaf (again_aligned r h)))

-- ---- every instruction, with pc moved on

execute_aligned : (w : ℕ) (i : Instr) (r : Regs) → RegsAligned r → AllAligned (execute_tree w i r)
unfolding execute_tree
execute_aligned w Illegal r h = at_leaf tt
execute_aligned w Nop r h = at_leaf h
execute_aligned w Trap r h = at_leaf tt
execute_aligned w Cyc r h = at_leaf h
execute_aligned w Jsra r h = push_aligned _ _ r (pc_aligned_set _ r h)
execute_aligned w Lba r h = at_leaf h
execute_aligned w Lca r h = at_leaf h
execute_aligned w (Ent i) r h = at_leaf (sp_aligned_set (sum r.sp i) r h)
execute_aligned w (Lev i) r h = at_ask (reply_aligned (λ v. at_leaf (pc_aligned_set v (set_sp (sum r.sp (sum i 8)) r) (sp_aligned_set (sum r.sp (sum i 8)) r h))))
execute_aligned w (Jmp i) r h = at_leaf (pc_aligned_set (target i r) r h)
execute_aligned w (Jmpi i) r h = at_leaf (pc_aligned_set (indexed i r) r h)
execute_aligned w (Jsr i) r h = push_aligned _ _ r (pc_aligned_set _ r h)
execute_aligned w (Lea i) r h = at_leaf h
execute_aligned w (Leag i) r h = at_leaf h
execute_aligned w (Block op) r h = leaves_if (eqb r.c 0) (at_leaf (end_aligned op r h)) (byte_aligned op r h)
execute_aligned w (Load d b f i) r h = at_ask (reply_aligned (λ v. at_leaf (put_aligned d _ r h)))
execute_aligned w (Store b s i) r h = at_ask (reply_aligned (λ x. at_leaf h))
execute_aligned w (LoadImm d i) r h = at_leaf (put_aligned d i r h)
execute_aligned w (LoadHigh d f) r h = at_leaf (put_aligned d _ r h)
execute_aligned w (Alu op x) r h = from_aligned op x r h
execute_aligned w (Compare t) r h = at_leaf h
execute_aligned w (Bz i) r h = at_leaf (branch_aligned (eqb r.a 0) i r h)
execute_aligned w (Bnz i) r h = at_leaf (branch_aligned (not (eqb r.a 0)) i r h)
execute_aligned w (Branch t i) r h = at_leaf (branch_aligned (holds t r.a r.b) i r h)
execute_aligned w (Push d) r h = push_aligned (reg_of d r) r r h
execute_aligned w (Pshi i) r h = push_aligned i r r h
execute_aligned w (Pop d) r h = at_ask (reply_aligned (λ v. at_leaf (sp_aligned_set (sum r.sp 8) (put_reg d v r) (put_aligned d v r h))))
execute_aligned w (Sys op) r h = at_leaf tt

-- "pc moves 4 on"
pub moved_aligned : (r : Regs) → RegsAligned r → RegsAligned (moved r)
moved_aligned r h = omega arith

-- the fetch, then the instruction
pub instruction_aligned : (r : Regs) → RegsAligned r → Leaves OutAligned (instruction_tree r)
unfolding instruction_tree
instruction_aligned r h = at_ask go
  where
    go : (x : Reply) → AllAligned (fetched r x)
    go (got w) = execute_aligned w (decode_of w) (moved r) (moved_aligned r h)
    go (denied f) = at_leaf tt
