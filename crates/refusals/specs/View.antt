-- Document 01, "The record and the loaded program": the record as the rules see it: "its counted entries in order; slots past the count mean nothing".
use Rattle.std.specs.Prelude.{ℕ, zero, suc, List, [], ◌∷◌}
use Rattle.paging.specs.declared.Entry.{Entry}
use Rattle.rules.specs.declared.Machine.{Machine}
use Rattle.rules.specs.Load.{zero_entry}
use Rattle.rules.specs.Step.{State}

-- the first n slots, n of them whatever the slots: a count above 64 is seen as it is
unfoldable pub first_slots : ℕ → List Entry → List Entry
first_slots zero es = []
first_slots (suc n) [] = zero_entry ∷ first_slots n []
first_slots (suc n) (e ∷ es) = e ∷ first_slots n es

-- the counted entries
abbrev pub entries_of : Machine → List Entry
entries_of m = first_slots m.held m.entries

-- a record with memory and console, as a state of the machine with the page buffer
abbrev pub view_of : Machine → List ℕ → List ℕ → State (List Entry)
view_of m mem con = record { cpu = m.cpu; mem = mem; console = con; buffer = entries_of m }
