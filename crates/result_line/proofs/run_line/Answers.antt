-- The line is that of a refused load (`shown_refused`), or of the run after an accepted one (`shown_ran`).
use Rattle.result_line.proofs.Printed.{shown_refused, shown_ran}
use Rattle.result_line.proofs.run_line.Goals as goal

pub returns-then-is_err : goal.returns-then-is_err
returns-then-is_err c =
    shown_refused _ _ _ c.load-loaded.ensures.same c.is_err.ensures.value c.if-is_err.true c.load_number.ensures c.refused_line.ensures

pub stop_line-requires : goal.stop_line-requires
stop_line-requires c =
    c.requires

pub returns : goal.returns
returns c =
    shown_ran _ _ _ c.load-loaded.ensures.same c.is_err.ensures.value c.if-is_err.false c.run_packed-ran.ensures c.stop_line.ensures
