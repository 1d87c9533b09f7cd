-- Document 02, item 6: how an example of the bounds on table walks is written. A machine starts with no entry held and makes a step or a run, and what it
-- comes to is computed.
use Prim.Native.Nat.{ℕ, ◌+◌, ◌*◌}
use mathlib.Core.Bool.{Bool}
use mathlib.Core.List.{List, []}
use lib.ListN.{length}
use Rattle.paging.specs.declared.Entry.{Entry}
use Rattle.paging.specs.Event.{Event}
use Rattle.paging.specs.Held.{touches, touches_held, stores_held}
use Rattle.paging.specs.Counting.{walks_in}
use Rattle.rules.specs.declared.Cpu.{Cpu}
use Rattle.rules.specs.Step.{State}
use Rattle.rules.specs.Walks.{events_of}
use Rattle.walk_bounds.specs.Bounds.{entered, kept_before_walk, faulted_in, space_set, run_events}
use Rattle.worked.specs.Start.{fresh, put_pc, paged_from}
use Rattle.worked.specs.Opened.{ran_by}

-- ---- how examples are written

-- paging from 0, pc 0x1100
abbrev pub kernel : Cpu
kernel = paged_from 0 (put_pc 0x1100 fresh)

-- the machine with the page buffer, empty; and the table reader
abbrev pub machine : Cpu → List ℕ → State (List Entry)
machine cpu mem = record { cpu = cpu; mem = mem; console = []; buffer = [] }

abbrev pub table_reader : Cpu → List ℕ → State (Unit {0})
table_reader cpu mem = record { cpu = cpu; mem = mem; console = []; buffer = tt }

-- ---- what a run of the machine with the page buffer shows

pub record Shown : Type 0 where
  -- the walks; the different pages entered; the walks that ended in a fault
  pub walks : ℕ
  pub pages : ℕ
  pub faults : ℕ
  -- "twice the pages entered plus the walks that ended in a fault"
  pub bound : ℕ
  -- a PDIR or SPAG took effect; a store of the kind that demand 3 names
  pub space_was_set : Bool
  pub held_word_stored : Bool

abbrev pub shown_by : List Event → Shown
shown_by es = record {
  walks = walks_in es;
  pages = length (entered [] es);
  faults = faulted_in es;
  bound = 2 * length (entered [] es) + faulted_in es;
  space_was_set = space_set es;
  held_word_stored = stores_held [] es;
}

-- of n steps without keys; what unfolds this unfolds all that a run and its counts need
unfoldable pub shown : ℕ → State (List Entry) → Shown
unfolding ran_by events_of walks_in entered kept_before_walk faulted_in space_set touches touches_held stores_held
shown n s = shown_by (run_events [] n s)
