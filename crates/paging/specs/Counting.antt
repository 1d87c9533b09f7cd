-- Document 02, item 6: the table walks among events, and a translator that counts them beside what it holds.
use Rattle.std.specs.Prelude.{ℕ, suc, ◌+◌, ◌%◌, ◌^◌, List, [], ◌∷◌}
use Rattle.paging.specs.Event.{Event, walked, kept, emptied, marked, stored, delivered}
use Rattle.paging.specs.Translate.{Outcome, outcome, Translator}

-- "its table walks": one for each that began, also where it ended in a fault
unfoldable pub walks_in : List Event → ℕ
walks_in [] = 0
walks_in (walked ∷ es) = suc (walks_in es)
walks_in (kept w ∷ es) = walks_in es
walks_in (emptied ∷ es) = walks_in es
walks_in (marked a ∷ es) = walks_in es
walks_in (stored a n ∷ es) = walks_in es
walks_in (delivered c ∷ es) = walks_in es

-- the same on a counter of 64 bits, which is what code has
unfoldable pub raised : ℕ → List Event → ℕ
raised n [] = n
raised n (walked ∷ es) = raised ((n + 1) % 2 ^ 64) es
raised n (kept w ∷ es) = raised n es
raised n (emptied ∷ es) = raised n es
raised n (marked a ∷ es) = raised n es
raised n (stored a b ∷ es) = raised n es
raised n (delivered c ∷ es) = raised n es

-- what a translator holds, and the counter
pub record Counted (B : Type 0) : Type 0 where
  pub held : B
  pub walks : ℕ

abbrev pub counted : {B : Type 0} → B → ℕ → Counted B
counted b n = record { held = b; walks = n }

-- an outcome, its walks counted from n on
abbrev pub counted_from : {B A : Type 0} → ℕ → Outcome B A → Outcome (Counted B) A
counted_from n o = outcome o.answer o.mem (counted o.buffer (raised n o.events)) o.events

-- the same answers, memory and events
abbrev pub counting : {B : Type 0} → Translator B → Translator (Counted B)
counting tr = record {
  translate = λ s q m b. counted_from b.walks (tr.translate s q m b.held);
  empty = λ b. counted (tr.empty b.held) (raised b.walks tr.empty_events);
  empty_events = tr.empty_events;
  accepts = λ size b. tr.accepts size b.held;
}
