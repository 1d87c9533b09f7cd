-- c = 0 finishes (`executes_fine`); else the match tells the operation, and its function executes the tree of one byte.
use Rattle.contracts.proofs.Laws.{executes_fine}
use Rattle.rules.specs.Block.{block_tree}
use borrow.Author.Tests.{ne_eqb, eq-eqb}
use Rattle.block.proofs.block.Goals as goal

pub returns-then-r-eq0-clause-executes : goal.returns-then-r-eq0-clause-executes
unfolding block_tree
returns-then-r-eq0-clause-executes c =
    rw (eq-eqb _ _ c.if-r-eq0.true) (executes_fine c.args.bus.now.good (rw (c.fine.ensures, c.finish.ensures)))

pub returns-in-Mcpy-clause-executes : goal.returns-in-Mcpy-clause-executes
unfolding block_tree
returns-in-Mcpy-clause-executes c =
    rw (c.in-Mcpy.is, ne_eqb _ _ c.if-r-eq0.false) c.copy_byte.ensures.executes

pub returns-in-Mcmp-clause-executes : goal.returns-in-Mcmp-clause-executes
unfolding block_tree
returns-in-Mcmp-clause-executes c =
    rw (c.in-Mcmp.is, ne_eqb _ _ c.if-r-eq0.false) c.compare_byte.ensures.executes

pub returns-in-Mchr-clause-executes : goal.returns-in-Mchr-clause-executes
unfolding block_tree
returns-in-Mchr-clause-executes c =
    rw (c.in-Mchr.is, ne_eqb _ _ c.if-r-eq0.false) c.search_byte.ensures.executes

pub returns-in-Mset-clause-executes : goal.returns-in-Mset-clause-executes
unfolding block_tree
returns-in-Mset-clause-executes c =
    rw (c.in-Mset.is, ne_eqb _ _ c.if-r-eq0.false) c.set_byte.ensures.executes
