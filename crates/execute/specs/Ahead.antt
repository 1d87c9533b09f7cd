-- Document 02, item 7: what looking ahead promises. Whether it finds anything is left to the hint, which may hold anything.
use Rattle.std.specs.Prelude.{ℕ, ◌+◌, Bool, List, [], Option, Some, None}
use Rattle.paging.specs.declared.Space.{Space}
use Rattle.rules.specs.declared.Regs.{Regs}
use Rattle.rules.specs.Record.{with_count}
use Rattle.rules.specs.Execute.{instruction_tree}
use Rattle.contracts.specs.declared.End.TheVariants.{Undecoded}
use Rattle.contracts.specs.Contract.{bad, Executes}

-- a word that it found is the one in which the next instruction ends by document 01's table, and nothing is changed on the way
abbrev pub LooksAhead : Regs → Space → Bool → (m l : List ℕ) → Option ℕ → Type 0
LooksAhead r s user m l (Some w) = Executes (instruction_tree (with_count (r.count + 1) r)) s user [] m l (bad r (Undecoded 0 w)) m l
LooksAhead r s user m l None = Unit {0}
