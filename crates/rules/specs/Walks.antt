-- Document 02, item 6: the table walks of a run.
use Rattle.std.specs.Prelude.{ℕ, List, [], ◌∷◌, ◌++◌}
use Rattle.paging.specs.Event.{Event}
use Rattle.paging.specs.Counting.{walks_in, Counted, counted}
use Rattle.rules.specs.Step.{State, Stepped}
use Rattle.rules.specs.Run.{Ran}

-- the events of steps, in the order they happened
unfoldable pub events_of : {B : Type 0} → List (Stepped B) → List Event
events_of [] = []
events_of (t ∷ ts) = t.events ++ events_of ts

-- "Report with each run its table walks": none of a refused run, which makes no step
abbrev pub walks_of : {B : Type 0} → Ran B → ℕ
walks_of r = walks_in (events_of r.steps)

-- a state of the machine that counts its walks, from n on
abbrev pub counted_state : {B : Type 0} → ℕ → State B → State (Counted B)
counted_state n s = record { cpu = s.cpu; mem = s.mem; console = s.console; buffer = counted s.buffer n }
