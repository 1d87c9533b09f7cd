-- The length that a save answers is within the file (`saved_within`), so that the slice written out has that length (`length-take-le`).
use native.Mathlib.Omega.{arith}
use mathlib.Core.Path.{sym}
use lib.Seq.{length-take-le}
use Rattle.snapshot.proofs.Within.{saved_within}
use Rattle.v9_save.proofs.write_machine.Goals as goal

pub slice_bounds-file-end : goal.slice_bounds-file-end
slice_bounds-file-end c =
    omega (arith, saved_within c.save-saved.ensures, c.save-saved.auto.file)

pub slice_bounds-write_all-end : goal.slice_bounds-write_all-end
slice_bounds-write_all-end c =
    sym (length-take-le _ _ (omega (arith, saved_within c.save-saved.ensures, c.save-saved.auto.file)))
