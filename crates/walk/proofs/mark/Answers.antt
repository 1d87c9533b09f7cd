-- A byte without the mark has room for it (`mark_fits`) and gets it (`mark_sets`); one with the mark is left (`mark_leaves`).
use native.Mathlib.Omega.{arith}
use lib.ListN.{get_or}
use Rattle.walk.proofs.Marks.{mark_positive, mark_fits, mark_sets, mark_leaves}
use Rattle.walk.proofs.mark.Goals as goal

pub nonzero_div-w : goal.nonzero_div-w
nonzero_div-w c = mark_positive _ c.requires.1

pub overflow_add-mem : goal.overflow_add-mem
overflow_add-mem c =
    let room =
    mark_fits c.args.k c.requires.1 (get_or c.args.mem.now c.args.at 0)
    (omega (arith, c.slice_known-1.given c.args.at)) c.if-w-k-eq0.true in
    omega arith

pub returns-then-w-k-eq0 : goal.returns-then-w-k-eq0
returns-then-w-k-eq0 c = mark_sets _ _ _ c.if-w-k-eq0.true

pub returns-else-w-k-eq0 : goal.returns-else-w-k-eq0
returns-else-w-k-eq0 c = mark_leaves _ _ _ c.if-w-k-eq0.false
