-- One law of `Stages` a return: the directory word is absent (`dir_absent`), its table lies beyond memory (`dir_beyond`), or the walk goes on in the
-- table (`dir_present`); where the word is present, A is set in it first.
use native.Mathlib.Omega.{arith}
use mathlib.Core.Path.{refl}
use borrow.Author.Rules.{rules}
use Rattle.walk.proofs.Stages.{dir_absent, dir_beyond, dir_present}
use Rattle.walk.proofs.walk.Goals as goal

pub returns-then-not-bit : goal.returns-then-not-bit
returns-then-not-bit c =
    dir_absent _ _ _ _ _ c.load4-dir.ensures c.bit.ensures c.if-not-bit.true c.page_fault.ensures

pub mark-requires : goal.mark-requires
mark-requires c = (search rules, refl)

pub returns-then-table-mem : goal.returns-then-table-mem
returns-then-table-mem c =
    dir_beyond _ _ _ _ _ c.load4-dir.ensures c.bit.ensures c.if-not-bit.false c.mark.ensures (omega arith)

pub returns : goal.returns
returns c =
    dir_present _ _ _ _ _ c.load4-dir.ensures c.bit.ensures c.if-not-bit.false c.mark.ensures (omega arith) c.walk_table.ensures
