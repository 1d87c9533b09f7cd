-- A floating word that the probe tells where to read is the one in which the instruction ends (`executes_ahead`).
use mathlib.Core.Path.{refl, sym, ◌∙◌}
use Rattle.execute.proofs.AheadLaws.{ahead_within, executes_ahead}
use Rattle.execute.proofs.look_ahead.Goals as goal

pub load4-w-requires : goal.load4-w-requires
load4-w-requires c =
    ahead_within _ _ _ _ _ c.requires c.probe.ensures c.in_ok-q.was

pub returns-then-is_floating : goal.returns-then-is_floating
returns-then-is_floating c =
    executes_ahead _ _ _ _ _ c.requires c.probe.ensures c.in_ok-q.was _ _ refl c.load4-w.ensures (sym c.is_floating.ensures ∙ c.if-is_floating.true)
