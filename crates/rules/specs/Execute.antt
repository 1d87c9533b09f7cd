-- Document 01, "Opcodes" and "One step", rule 5: fetch, then every kept instruction.
use Rattle.std.specs.Prelude.{ℕ, ◌%◌, ◌^◌, not, eqb}
use Rattle.word.specs.Word.{sum}
use Rattle.decode.specs.Opcodes.{decode_of}
use Rattle.decode.specs.declared.Instr.{Instr}
use Rattle.decode.specs.declared.Instr.TheVariants.{Illegal, Nop, Trap, Cyc, Jsra, Lba, Lca, Ent, Lev, Jmp, Jmpi, Jsr, Lea, Leag, Block, Load}
use Rattle.decode.specs.declared.Instr.TheVariants.{Store, LoadImm, LoadHigh, Alu, Compare, Bz, Bnz, Branch, Push, Pshi, Pop, Sys}
use Rattle.paging.specs.declared.Access.TheVariants.{Fetch}
use Rattle.paging.specs.declared.TrapCode.TheVariants.{Fsys}
use Rattle.rules.specs.declared.Regs.{Regs}
use Rattle.rules.specs.Record.{with_a, with_b, with_c, with_pc, set_sp}
use Rattle.rules.specs.Tree.{Reply, got, denied, Tree, ask, done, access}
use Rattle.rules.specs.Outcome.{Out, unfetched, trap, system, undecoded, plain}
use Rattle.rules.specs.Arithmetic.{alu_from, holds, flag}
use Rattle.rules.specs.Transfer.{reg_of, put_reg, load_tree, store_tree, high_of, push_tree, pop_tree}
use Rattle.rules.specs.Jump.{target, jumped, branched, indexed, call_tree, leave_tree}
use Rattle.rules.specs.Block.{block_tree}

-- an instruction, with pc moved on; "CYC: a = low 32 bits of step count"; w is the word that it was decoded from
unfoldable pub execute_tree : ℕ → Instr → Regs → Tree Out
unfolding alu_from load_tree store_tree push_tree pop_tree call_tree leave_tree block_tree
execute_tree w Illegal r = done (undecoded w)
execute_tree w Nop r = plain r
execute_tree w Trap r = done (trap Fsys)
execute_tree w Cyc r = plain (with_a (r.count % 2 ^ 32) r)
execute_tree w Jsra r = call_tree (sum r.pc r.a) r
execute_tree w Lba r = plain (with_b r.a r)
execute_tree w Lca r = plain (with_c r.a r)
execute_tree w (Ent i) r = plain (set_sp (sum r.sp i) r)
execute_tree w (Lev i) r = leave_tree i r
execute_tree w (Jmp i) r = plain (jumped (target i r) r)
execute_tree w (Jmpi i) r = plain (jumped (indexed i r) r)
execute_tree w (Jsr i) r = call_tree (target i r) r
execute_tree w (Lea i) r = plain (with_a (sum r.sp i) r)
execute_tree w (Leag i) r = plain (with_a (sum r.pc i) r)
execute_tree w (Block op) r = block_tree op r
execute_tree w (Load d b f i) r = load_tree d b f i r
execute_tree w (Store b s i) r = store_tree b s i r
execute_tree w (LoadImm d i) r = plain (put_reg d i r)
execute_tree w (LoadHigh d f) r = plain (put_reg d (high_of (reg_of d r) f) r)
execute_tree w (Alu op x) r = alu_from op x r
execute_tree w (Compare t) r = plain (with_a (flag (holds t r.a r.b)) r)
execute_tree w (Bz i) r = plain (branched (eqb r.a 0) i r)
execute_tree w (Bnz i) r = plain (branched (not (eqb r.a 0)) i r)
execute_tree w (Branch t i) r = plain (branched (holds t r.a r.b) i r)
execute_tree w (Push d) r = push_tree (reg_of d r) r r
execute_tree w (Pshi i) r = push_tree i r r
execute_tree w (Pop d) r = pop_tree d r
execute_tree w (Sys op) r = done (system op)

-- "pc moves 4 on"
abbrev pub moved : Regs → Regs
moved r = with_pc (sum r.pc 4) r

abbrev pub fetched : Regs → Reply → Tree Out
fetched r (got w) = execute_tree w (decode_of w) (moved r)
fetched r (denied f) = done (unfetched f)

-- "fetch at pc; pc moves 4 on; execute"
unfoldable pub instruction_tree : Regs → Tree Out
unfolding execute_tree
instruction_tree r = ask (access Fetch 4 r.pc) (fetched r)
