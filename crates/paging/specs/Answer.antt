-- Document 01, "Addresses", and document 02, item 7: what translation answers, "either a physical address or a fault".
use Rattle.std.specs.Prelude.{ℕ, Result}
use Rattle.paging.specs.declared.Fault.{Fault}

abbrev pub Answer : Type 0
Answer = Result ℕ Fault
