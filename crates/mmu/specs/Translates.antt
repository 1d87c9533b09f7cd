-- Document 01, "Addresses", and document 02, item 6: what translation gives back, against the rules' outcome, its walks counted.
use Rattle.std.specs.Prelude.{ℕ, Bool, ◌≡◌, List, length}
use Rattle.std.proofs.Math.Option.{none}
use Rattle.memory.specs.declared.Size.{Size}
use Rattle.memory.specs.Memory.{bytes}
use Rattle.paging.specs.declared.Access.{Access}
use Rattle.paging.specs.declared.Entry.{Entry}
use Rattle.paging.specs.declared.Space.{Space}
use Rattle.paging.specs.Answer.{Answer}
use Rattle.paging.specs.Translate.{Request, Outcome, paged_by, buffered, Translator}
use Rattle.paging.specs.Counting.{Counted, counted_from, counting}
use Rattle.buffer.specs.Held.{walks, entries_in, lent, Buffer}
use Rattle.mmu.specs.Good.{Good}

-- an access
abbrev pub request : Access → Size → ℕ → Bool → Request
request kind s a u = record { kind = kind; size = bytes s; addr = a; user = u }

-- what the translator of the code holds, the translator itself, and what the lent array holds: the contracts from here up name these alone, so that what is
-- held can grow in one place
abbrev pub Kept : Type 0
Kept = Counted (List Entry)

abbrev pub translator : Translator Kept
translator = counting buffered

abbrev pub kept_in : List ℕ → Kept
kept_in l = lent l

-- an answer with memory and what is held
pub record Result (A : Type 0) : Type 0 where
  pub answer : A
  pub mem : List ℕ
  pub buffer : Kept

abbrev pub result : {A : Type 0} → A → List ℕ → Kept → Result A
result a m es = record { answer = a; mem = m; buffer = es }

-- an outcome without its events
abbrev pub seen : {A : Type 0} → Outcome Kept A → Result A
seen o = result o.answer o.mem o.buffer

-- an address space, of its parts
abbrev pub space_of : Bool → ℕ → Space
space_of paging pdir = record { pdir = pdir; paging = paging }

-- an access is translated as the rules say: from memory m and the lent buffer l to the answer a, memory m' and buffer l'
pub record Translates (s : Space) (q : Request) (m l : List ℕ) (a : Answer) (m' l' : List ℕ) : Type 0 where
  pub same : result a m' (kept_in l') ≡ seen (translator.translate s q m (kept_in l))
  pub good : Good (length m') s.pdir l'

-- an access that no entry serves is translated as the rules say: by a walk
pub record Refills (pdir : ℕ) (q : Request) (m l : List ℕ) (a : Answer) (m' l' : List ℕ) : Type 0 where
  pub same : result a m' (kept_in l') ≡ seen (counted_from (walks l) (paged_by none pdir q m (entries_in l)))
  pub buffer : Buffer l'
