-- The match tells the instruction, and with it the arm of `float_tree`; an arm that asks for no access is a leaf (`floats_fine`, `floats_trap`, `floats_cut`),
-- one that does is its function's contract.
use Rattle.floating.proofs.Laws.{floats_cut}
use Rattle.contracts.proofs.FloatLaws.{floats_fine, floats_trap}
use Rattle.rules.specs.Floating.{float_tree}
use Rattle.floating.proofs.execute.Goals as goal

pub returns-in-Unlisted-clause-executes : goal.returns-in-Unlisted-clause-executes
unfolding float_tree
returns-in-Unlisted-clause-executes c =
    rw c.in-Unlisted.is (floats_trap c.args.bus.now.good c.ended.ensures)

pub returns-in-Double-clause-executes : goal.returns-in-Double-clause-executes
unfolding float_tree
returns-in-Double-clause-executes c =
    rw (c.in-Load.is, c.in-Double.is, ← c.base.ensures, ← c.sum-va.ensures) c.read_double.ensures.executes

pub returns-in-Single-clause-executes : goal.returns-in-Single-clause-executes
unfolding float_tree
returns-in-Single-clause-executes c =
    rw (c.in-Load.is, c.in-Single.is, ← c.base.ensures, ← c.sum-va.ensures) c.read_single.ensures.executes

pub returns-in-Double-p-clause-executes : goal.returns-in-Double-p-clause-executes
unfolding float_tree
returns-in-Double-p-clause-executes c =
    rw (c.in-Store.is, c.in-Double-p.is, ← c.base-in-Store.ensures, ← c.sum-va-in-Store.ensures) c.write_double.ensures.executes

pub returns-in-Single-p-clause-executes : goal.returns-in-Single-p-clause-executes
unfolding float_tree
returns-in-Single-p-clause-executes c =
    rw (c.in-Store.is, c.in-Single-p.is, ← c.base-in-Store.ensures, ← c.sum-va-in-Store.ensures) c.write_single.ensures.executes

pub returns-in-LoadImm-clause-executes : goal.returns-in-LoadImm-clause-executes
unfolding float_tree
returns-in-LoadImm-clause-executes c =
    rw c.in-LoadImm.is (floats_fine c.args.bus.now.good (rw (c.fine.ensures, c.put.ensures, c.of_signed.ensures)))

pub returns-in-Lbad-clause-executes : goal.returns-in-Lbad-clause-executes
unfolding float_tree
returns-in-Lbad-clause-executes c =
    rw c.in-Lbad.is (floats_fine c.args.bus.now.good (rw (c.fine-in-Lbad.ensures, c.put-in-Lbad.ensures)))

pub returns-in-Arith-clause-executes : goal.returns-in-Arith-clause-executes
unfolding float_tree
returns-in-Arith-clause-executes c =
    rw c.in-Arith.is (floats_fine c.args.bus.now.good (rw (c.fine-in-Arith.ensures, c.put-in-Arith.ensures, c.arith.ensures)))

pub returns-in-Compare-clause-executes : goal.returns-in-Compare-clause-executes
unfolding float_tree
returns-in-Compare-clause-executes c =
    rw c.in-Compare.is (floats_fine c.args.bus.now.good (rw (c.fine-in-Compare.ensures, c.put-in-Compare.ensures, c.flag.ensures, c.holds.ensures)))

pub returns-in-Bzf-clause-executes : goal.returns-in-Bzf-clause-executes
unfolding float_tree
returns-in-Bzf-clause-executes c =
    rw c.in-Bzf.is (floats_fine c.args.bus.now.good (rw (c.fine-in-Bzf.ensures, c.branch-r.ensures, c.target.ensures, c.holds-in-Bzf.ensures)))

pub returns-in-Bnzf-clause-executes : goal.returns-in-Bnzf-clause-executes
unfolding float_tree
returns-in-Bnzf-clause-executes c =
    rw c.in-Bnzf.is (floats_fine c.args.bus.now.good (rw (c.fine-in-Bnzf.ensures, c.branch-r-in-Bnzf.ensures, c.target-in-Bnzf.ensures, c.holds-in-Bnzf.ensures)))

pub returns-in-Branch-clause-executes : goal.returns-in-Branch-clause-executes
unfolding float_tree
returns-in-Branch-clause-executes c =
    rw c.in-Branch.is (floats_fine c.args.bus.now.good (rw (c.fine-in-Branch.ensures, c.branch-r-in-Branch.ensures, c.target-in-Branch.ensures, c.holds-in-Branch.ensures)))

pub returns-in-Cid-clause-executes : goal.returns-in-Cid-clause-executes
unfolding float_tree
returns-in-Cid-clause-executes c =
    rw c.in-Cid.is (floats_fine c.args.bus.now.good (rw (c.fine-in-Cid.ensures, c.put-in-Cid.ensures, c.of_signed-in-Cid.ensures)))

pub returns-in-Cud-clause-executes : goal.returns-in-Cud-clause-executes
unfolding float_tree
returns-in-Cud-clause-executes c =
    rw c.in-Cud.is (floats_fine c.args.bus.now.good (rw (c.fine-in-Cud.ensures, c.put-in-Cud.ensures, c.of_unsigned.ensures)))

pub returns-in-Cdi-clause-executes : goal.returns-in-Cdi-clause-executes
unfolding float_tree
returns-in-Cdi-clause-executes c =
    rw (c.in-Cdi.is, ← c.cut_signed.ensures) (floats_cut c.args.bus.now.good c.args.r c.args.v c.cut_signed.result c.cut.ensures)

pub returns-in-Cdu-clause-executes : goal.returns-in-Cdu-clause-executes
unfolding float_tree
returns-in-Cdu-clause-executes c =
    rw (c.in-Cdu.is, ← c.cut_unsigned.ensures) (floats_cut c.args.bus.now.good c.args.r c.args.v c.cut_unsigned.result c.cut-in-Cdu.ensures)

pub returns-in-Push-clause-executes : goal.returns-in-Push-clause-executes
unfolding float_tree
returns-in-Push-clause-executes c =
    rw (c.in-Push.is, ← c.difference-top.ensures, ← c.get.ensures) (rw (← c.regs-n.ensures) c.write_double-in-Push.ensures.executes)

pub returns-in-Pop-clause-executes : goal.returns-in-Pop-clause-executes
unfolding float_tree
returns-in-Pop-clause-executes c =
    rw (c.in-Pop.is, ← c.sum.ensures) (rw (← c.regs-n-in-Pop.ensures) c.read_double-in-Pop.ensures.executes)

pub returns-in-Fabs-clause-executes : goal.returns-in-Fabs-clause-executes
unfolding float_tree
returns-in-Fabs-clause-executes c =
    rw c.in-Fabs.is (floats_fine c.args.bus.now.good (rw (c.fine-in-Fabs.ensures, c.put-in-Fabs.ensures, c.absolute.ensures)))

pub returns-in-Flor-clause-executes : goal.returns-in-Flor-clause-executes
unfolding float_tree
returns-in-Flor-clause-executes c =
    rw c.in-Flor.is (floats_fine c.args.bus.now.good (rw (c.fine-in-Flor.ensures, c.put-in-Flor.ensures, c.floor.ensures)))

pub returns-in-Ceil-clause-executes : goal.returns-in-Ceil-clause-executes
unfolding float_tree
returns-in-Ceil-clause-executes c =
    rw c.in-Ceil.is (floats_fine c.args.bus.now.good (rw (c.fine-in-Ceil.ensures, c.put-in-Ceil.ensures, c.ceiling.ensures)))
