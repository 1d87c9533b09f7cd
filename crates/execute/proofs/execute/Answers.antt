-- The match tells the instruction, and with it the arm of `execute_tree`; an arm that asks for no access is a leaf (`executes_fine`, `executes_trap`,
-- `executes_alu`, `executes_system`, `executes_undecoded`), one that does is its function's contract.
use Rattle.rules.specs.Execute.{execute_tree}
use Rattle.contracts.proofs.Laws.{executes_fine, executes_trap, executes_system, executes_undecoded}
use Rattle.execute.proofs.Laws.{executes_alu}
use Rattle.execute.proofs.execute.Goals as goal

pub returns-in-Illegal-clause-executes : goal.returns-in-Illegal-clause-executes
unfolding execute_tree
returns-in-Illegal-clause-executes c =
    rw c.in-Illegal.is (executes_undecoded c.args.bus.now.good c.ended.ensures)

pub returns-in-Nop-clause-executes : goal.returns-in-Nop-clause-executes
unfolding execute_tree
returns-in-Nop-clause-executes c =
    rw c.in-Nop.is (executes_fine c.args.bus.now.good c.fine.ensures)

pub returns-in-Trap-clause-executes : goal.returns-in-Trap-clause-executes
unfolding execute_tree
returns-in-Trap-clause-executes c =
    rw c.in-Trap.is (executes_trap c.args.bus.now.good c.ended-in-Trap.ensures)

pub returns-in-Cyc-clause-executes : goal.returns-in-Cyc-clause-executes
unfolding execute_tree
returns-in-Cyc-clause-executes c =
    rw c.in-Cyc.is (executes_fine c.args.bus.now.good (rw (c.fine-in-Cyc.ensures, c.put.ensures)))

pub returns-in-Jsra-clause-executes : goal.returns-in-Jsra-clause-executes
unfolding execute_tree
returns-in-Jsra-clause-executes c =
    rw (c.in-Jsra.is, ← c.sum.ensures) c.push.ensures.executes

pub returns-in-Lba-clause-executes : goal.returns-in-Lba-clause-executes
unfolding execute_tree
returns-in-Lba-clause-executes c =
    rw c.in-Lba.is (executes_fine c.args.bus.now.good (rw (c.fine-in-Lba.ensures, c.put-in-Lba.ensures)))

pub returns-in-Lca-clause-executes : goal.returns-in-Lca-clause-executes
unfolding execute_tree
returns-in-Lca-clause-executes c =
    rw c.in-Lca.is (executes_fine c.args.bus.now.good (rw (c.fine-in-Lca.ensures, c.put-in-Lca.ensures)))

pub returns-in-Ent-clause-executes : goal.returns-in-Ent-clause-executes
unfolding execute_tree
returns-in-Ent-clause-executes c =
    rw c.in-Ent.is (executes_fine c.args.bus.now.good (rw (c.fine-in-Ent.ensures, c.adjust.ensures)))

pub returns-in-Lev-clause-executes : goal.returns-in-Lev-clause-executes
unfolding execute_tree
returns-in-Lev-clause-executes c =
    rw c.in-Lev.is c.leave.ensures.executes

pub returns-in-Jmp-clause-executes : goal.returns-in-Jmp-clause-executes
unfolding execute_tree
returns-in-Jmp-clause-executes c =
    rw c.in-Jmp.is (executes_fine c.args.bus.now.good (rw (c.fine-in-Jmp.ensures, c.jump.ensures, c.target.ensures)))

pub returns-in-Jmpi-clause-executes : goal.returns-in-Jmpi-clause-executes
unfolding execute_tree
returns-in-Jmpi-clause-executes c =
    rw c.in-Jmpi.is (executes_fine c.args.bus.now.good (rw (c.fine-in-Jmpi.ensures, c.jump-in-Jmpi.ensures, c.sum-in-Jmpi.ensures, c.target-in-Jmpi.ensures)))

pub returns-in-Jsr-clause-executes : goal.returns-in-Jsr-clause-executes
unfolding execute_tree
returns-in-Jsr-clause-executes c =
    rw (c.in-Jsr.is, ← c.target-in-Jsr.ensures) c.push-in-Jsr.ensures.executes

pub returns-in-Lea-clause-executes : goal.returns-in-Lea-clause-executes
unfolding execute_tree
returns-in-Lea-clause-executes c =
    rw c.in-Lea.is (executes_fine c.args.bus.now.good (rw (c.fine-in-Lea.ensures, c.put-in-Lea.ensures, c.sum-in-Lea.ensures)))

pub returns-in-Leag-clause-executes : goal.returns-in-Leag-clause-executes
unfolding execute_tree
returns-in-Leag-clause-executes c =
    rw c.in-Leag.is (executes_fine c.args.bus.now.good (rw (c.fine-in-Leag.ensures, c.put-in-Leag.ensures, c.sum-in-Leag.ensures)))

pub returns-in-Block-clause-executes : goal.returns-in-Block-clause-executes
unfolding execute_tree
returns-in-Block-clause-executes c =
    rw c.in-Block.is c.block.ensures.executes

pub returns-in-Load-clause-executes : goal.returns-in-Load-clause-executes
unfolding execute_tree
returns-in-Load-clause-executes c =
    rw c.in-Load.is c.load.ensures.executes

pub returns-in-Store-clause-executes : goal.returns-in-Store-clause-executes
unfolding execute_tree
returns-in-Store-clause-executes c =
    rw c.in-Store.is c.store.ensures.executes

pub returns-in-LoadImm-clause-executes : goal.returns-in-LoadImm-clause-executes
unfolding execute_tree
returns-in-LoadImm-clause-executes c =
    rw c.in-LoadImm.is (executes_fine c.args.bus.now.good (rw (c.fine-in-LoadImm.ensures, c.put-in-LoadImm.ensures)))

pub returns-in-LoadHigh-clause-executes : goal.returns-in-LoadHigh-clause-executes
unfolding execute_tree
returns-in-LoadHigh-clause-executes c =
    rw c.in-LoadHigh.is (executes_fine c.args.bus.now.good (rw (c.fine-in-LoadHigh.ensures, c.put-in-LoadHigh.ensures, c.high.ensures, c.reg.ensures)))

pub returns-in-RegB-clause-executes : goal.returns-in-RegB-clause-executes
unfolding execute_tree
returns-in-RegB-clause-executes c =
    rw (c.in-Alu.is, c.in-RegB.is) (executes_alu c.args.bus.now.good _ _ _ c.compute.ensures)

pub returns-in-Imm-clause-executes : goal.returns-in-Imm-clause-executes
unfolding execute_tree
returns-in-Imm-clause-executes c =
    rw (c.in-Alu.is, c.in-Imm.is) (executes_alu c.args.bus.now.good _ _ _ c.compute-in-Imm.ensures)

pub returns-in-Stack-clause-executes : goal.returns-in-Stack-clause-executes
unfolding execute_tree
returns-in-Stack-clause-executes c =
    rw (c.in-Alu.is, c.in-Stack.is) c.compute_stack.ensures.executes

pub returns-in-Compare-clause-executes : goal.returns-in-Compare-clause-executes
unfolding execute_tree
returns-in-Compare-clause-executes c =
    rw c.in-Compare.is (executes_fine c.args.bus.now.good (rw (c.fine-in-Compare.ensures, c.put-in-Compare.ensures, c.flag.ensures, c.holds.ensures)))

pub returns-in-Bz-clause-executes : goal.returns-in-Bz-clause-executes
unfolding execute_tree
returns-in-Bz-clause-executes c =
    rw c.in-Bz.is (executes_fine c.args.bus.now.good (rw (c.fine-in-Bz.ensures, c.branch-r.ensures, c.target-in-Bz.ensures)))

pub returns-in-Bnz-clause-executes : goal.returns-in-Bnz-clause-executes
unfolding execute_tree
returns-in-Bnz-clause-executes c =
    rw c.in-Bnz.is (executes_fine c.args.bus.now.good (rw (c.fine-in-Bnz.ensures, c.branch-r-in-Bnz.ensures, c.target-in-Bnz.ensures)))

pub returns-in-Branch-clause-executes : goal.returns-in-Branch-clause-executes
unfolding execute_tree
returns-in-Branch-clause-executes c =
    rw c.in-Branch.is (executes_fine c.args.bus.now.good (rw (c.fine-in-Branch.ensures, c.branch-r-in-Branch.ensures, c.target-in-Branch.ensures, c.holds-in-Branch.ensures)))

pub returns-in-Push-clause-executes : goal.returns-in-Push-clause-executes
unfolding execute_tree
returns-in-Push-clause-executes c =
    rw (c.in-Push.is, ← c.reg-in-Push.ensures) c.push-in-Push.ensures.executes

pub returns-in-Pshi-clause-executes : goal.returns-in-Pshi-clause-executes
unfolding execute_tree
returns-in-Pshi-clause-executes c =
    rw c.in-Pshi.is c.push-in-Pshi.ensures.executes

pub returns-in-Pop-clause-executes : goal.returns-in-Pop-clause-executes
unfolding execute_tree
returns-in-Pop-clause-executes c =
    rw c.in-Pop.is c.pop.ensures.executes

pub returns-in-Sys-clause-executes : goal.returns-in-Sys-clause-executes
unfolding execute_tree
returns-in-Sys-clause-executes c =
    rw c.in-Sys.is (executes_system c.args.bus.now.good c.ended-in-Sys.ensures)
