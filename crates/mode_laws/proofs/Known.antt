-- Document 02, item 7, "the old mode keeps document 01's table": how the instructions of that table end, a line for each. None ends as a floating one, and only
-- the illegal one as a word without a row.
use Prim.Native.Nat.{ℕ}
use mathlib.Core.Path.{◌≡◌, refl}
use mathlib.Core.Bool.{Bool, true, ◌&&◌}
use lib.Dec.{eqb}
use Rattle.decode.specs.Opcodes.{is_illegal}
use Rattle.decode.specs.declared.AluOp.{AluOp}
use Rattle.decode.specs.declared.Operand.{Operand}
use Rattle.decode.specs.declared.Operand.TheVariants.{RegB, Imm, Stack}
use Rattle.decode.specs.declared.BlockOp.{BlockOp}
use Rattle.decode.specs.declared.BlockOp.TheVariants.{Mcpy, Mcmp, Mchr, Mset}
use Rattle.decode.specs.declared.Instr.{Instr}
use Rattle.decode.specs.declared.Instr.TheVariants.{Illegal, Nop, Trap, Cyc, Jsra, Lba, Lca, Ent, Lev, Jmp, Jmpi, Jsr, Lea, Leag, Block, Load}
use Rattle.decode.specs.declared.Instr.TheVariants.{Store, LoadImm, LoadHigh, Alu, Compare, Bz, Bnz, Branch, Push, Pshi, Pop, Sys}
use Rattle.rules.specs.declared.Regs.{Regs}
use Rattle.rules.specs.Tree.{Reply, got, denied, Tree}
use Rattle.rules.specs.Outcome.{Out, fine, unfetched, trap, refused, system, floated, undecoded, or_refused}
use Rattle.rules.specs.Arithmetic.{divides, alu_tree, alu_from}
use Rattle.rules.specs.Block.{byte_tree}
use Rattle.rules.specs.Execute.{execute_tree}
use Rattle.rules.proofs.Leaves.{Leaves, at_leaf, at_ask, leaves_if}

-- not as a floating instruction; as a word without a row only where that is allowed
abbrev pub Known : Bool → Out → Type 0
Known illegal (fine r vs) = Unit
Known illegal (unfetched f) = Unit
Known illegal (trap code) = Unit
Known illegal (refused f) = Unit
Known illegal (system op) = Unit
Known illegal (floated r v vs) = ⊥
Known illegal (undecoded w) = illegal ≡ true

module _ (illegal : Bool) where
  -- every leaf of an instruction's tree
  abbrev AllKnown : Tree Out → Type 0
  AllKnown t = Leaves (Known illegal) t

  -- what follows a reply
  reply_known : {k : ℕ → Tree Out} → ((v : ℕ) → AllKnown (k v)) → (x : Reply) → AllKnown (or_refused k x)
  reply_known h (got v) = h v
  reply_known h (denied f) = at_leaf tt

  -- arithmetic, with its second operand
  alu_known : (op : AluOp) (y : ℕ) (r : Regs) → AllKnown (alu_tree op y r)
  unfolding alu_tree
  alu_known op y r = leaves_if (divides op && eqb y 0) (at_leaf tt) (at_leaf tt)

  from_known : (op : AluOp) (x : Operand) (r : Regs) → AllKnown (alu_from op x r)
  unfolding alu_from
  from_known op RegB r = alu_known op r.b r
  from_known op (Imm i) r = alu_known op i r
  from_known op (Stack i) r = at_ask (reply_known (λ v. alu_known op v r))

  -- one byte of a block instruction
  byte_known : (op : BlockOp) (r : Regs) → AllKnown (byte_tree op r)
  unfolding byte_tree
  byte_known Mcpy r = at_ask (reply_known (λ x. at_ask (reply_known (λ y. at_leaf tt))))
  byte_known Mcmp r = at_ask (reply_known (λ x. at_ask (reply_known (λ y. at_leaf tt))))
  byte_known Mchr r = at_ask (reply_known (λ x. at_leaf tt))
  byte_known Mset r = at_ask (reply_known (λ x. at_leaf tt))

  -- every instruction, where the illegal one is allowed or is not this one
  pub execute_known : (w : ℕ) (i : Instr) (r : Regs) → (is_illegal i ≡ true → illegal ≡ true) → Leaves (Known illegal) (execute_tree w i r)
  unfolding execute_tree
  execute_known w Illegal r h = at_leaf (h refl)
  execute_known w Nop r h = at_leaf tt
  execute_known w Trap r h = at_leaf tt
  execute_known w Cyc r h = at_leaf tt
  execute_known w Jsra r h = at_ask (reply_known (λ x. at_leaf tt))
  execute_known w Lba r h = at_leaf tt
  execute_known w Lca r h = at_leaf tt
  execute_known w (Ent i) r h = at_leaf tt
  execute_known w (Lev i) r h = at_ask (reply_known (λ v. at_leaf tt))
  execute_known w (Jmp i) r h = at_leaf tt
  execute_known w (Jmpi i) r h = at_leaf tt
  execute_known w (Jsr i) r h = at_ask (reply_known (λ x. at_leaf tt))
  execute_known w (Lea i) r h = at_leaf tt
  execute_known w (Leag i) r h = at_leaf tt
  execute_known w (Block op) r h = leaves_if (eqb r.c 0) (at_leaf tt) (byte_known op r)
  execute_known w (Load d b f i) r h = at_ask (reply_known (λ v. at_leaf tt))
  execute_known w (Store b s i) r h = at_ask (reply_known (λ x. at_leaf tt))
  execute_known w (LoadImm d i) r h = at_leaf tt
  execute_known w (LoadHigh d f) r h = at_leaf tt
  execute_known w (Alu op x) r h = from_known op x r
  execute_known w (Compare t) r h = at_leaf tt
  execute_known w (Bz i) r h = at_leaf tt
  execute_known w (Bnz i) r h = at_leaf tt
  execute_known w (Branch t i) r h = at_leaf tt
  execute_known w (Push d) r h = at_ask (reply_known (λ x. at_leaf tt))
  execute_known w (Pshi i) r h = at_ask (reply_known (λ x. at_leaf tt))
  execute_known w (Pop d) r h = at_ask (reply_known (λ v. at_leaf tt))
  execute_known w (Sys op) r h = at_leaf tt
