-- Document 01, "Addresses": what a probe promises. Whether it finds anything is left to the hint, which may hold anything.
use Rattle.std.specs.Prelude.{ℕ, List, Ok, Option, Some, None}
use Rattle.paging.specs.declared.Space.{Space}
use Rattle.paging.specs.Translate.{Request}
use Rattle.mmu.specs.Translates.{Translates}

-- what it found is what translation answers, and translation then changes nothing
abbrev pub Probes : Space → Request → (m l : List ℕ) → Option ℕ → Type 0
Probes s q m l (Some p) = Translates s q m l (Ok p) m l
Probes s q m l None = Unit {0}
