-- A is set in any case; for a write D is set after it (`mark_write`), else nothing more (`mark_read`).
use mathlib.Core.Path.{refl, sym, ◌∙◌}
use borrow.Author.Rules.{rules}
use Rattle.walk.proofs.Marks.{mark_read, mark_write}
use Rattle.walk.proofs.mark_for.Goals as goal

pub mark-requires : goal.mark-requires
mark-requires c = (search rules, refl)

pub mark-requires-then-writes : goal.mark-requires-then-writes
mark-requires-then-writes c = (search rules, refl)

pub returns-then-writes : goal.returns-then-writes
returns-then-writes c =
    mark_write _ _ _ (sym c.writes.ensures ∙ c.if-writes.true) c.mark.ensures c.mark-then-writes.ensures

pub returns-else-writes : goal.returns-else-writes
returns-else-writes c =
    mark_read _ _ _ (sym c.writes.ensures ∙ c.if-writes.false) c.mark.ensures
