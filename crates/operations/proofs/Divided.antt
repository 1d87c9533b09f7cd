-- "Zero divisor: FARITH": what the library's tests for a zero divisor give, a value or none.
use Rattle.std.proofs.Common.{◌≡◌, ℕ, zero, suc, ◌<◌, eqb, Option, Some, None, ap, refl, arith, ne_eqb, if◌then◌else◌}
use Rattle.std.specs.Prelude.{SomeIff}

pub checked : (r : Option ℕ) (y v : ℕ) → SomeIff r (0 < y) v → r ≡ (if eqb y 0 then None else Some v)
checked None zero v h = refl
checked None (suc y) v h = absurd (h (omega arith))
checked (Some x) y v h = rw (ne_eqb y 0 (λ e. omega (arith, h.0))) (ap Some h.1)
