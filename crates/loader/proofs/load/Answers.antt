-- `loader::load` judges the file first: a refused one leaves memory and gives the all-zero record; an accepted one is `Loadable`, so that its header can be
-- read and its sizes fit, and is loaded (`Accepted.antt`).
use lib.ListN.{length}
use Rattle.loader.specs.Loader.{Loadable}
use Rattle.loader.proofs.Accepted.{refused, accepted_file, accepted}
use native.Mathlib.Omega.{arith}
use Rattle.loader.proofs.load.Goals as goal

pub returns-then-is_err : goal.returns-then-is_err
returns-then-is_err c = search refused

pub fill-requires : goal.fill-requires
fill-requires c = search accepted_file

pub load4-entry-requires : goal.load4-entry-requires
load4-entry-requires c =
    let loadable : Loadable (length c.args.mem.now) c.args.file.now = search accepted_file in omega arith

pub overflow_cast-size : goal.overflow_cast-size
overflow_cast-size c =
    let loadable : Loadable (length c.args.mem.now) c.args.file.now = search accepted_file in omega arith

pub returns : goal.returns
returns c =
    accepted _ _ c.judge-answer.ensures c.is_err.ensures.value c.if-is_err.false c.fill.ensures c.load4-entry.ensures c.cpu_with-2.ensures
    c.empty_machine-2.ensures
