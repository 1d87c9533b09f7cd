-- Document 01, "One step", rule 2: the count of keys taken.
use Rattle.std.specs.Prelude.{ℕ, ◌+◌, ◌<◌, ◌^◌, Option, IsSome}
use Rattle.rules.specs.declared.Key.{Key}

-- the count of keys taken can rise, where there is a key to take
pub record KeyFits (next : Option Key) (taken : ℕ) : Type 0 where
  pub fits : IsSome next → taken + 1 < 2 ^ 64
