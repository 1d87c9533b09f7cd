-- Sign and magnitude of a word by its sign bit and by a difference from 0, and a sign put back by the library's negation. Document 02, item 3.
use Rattle.std.proofs.Common.{if◌then◌else◌}
use Prim.Native.Nat.{ℕ, zero, suc, ◌+◌, ◌-◌, ◌%◌, ◌^◌, ◌≤◌, ◌<◌}
use mathlib.Core.Path.{◌≡◌, refl, sym, ap, ◌∙◌}
use mathlib.Core.Bool.{Bool, true, false}
use native.Mathlib.Nat.{zero-add, mod-eq_of_lt}
use native.Mathlib.Omega.{arith}
use borrow.Author.Tests.{lt-ltb, le-ltb, leb-true, leb-false}
use lib.Dec.{leb}
use lib.IntN.{nat_abs}
use mir.Syntax.{w32}
use mir.Facts.{to_z_pos, to_z-neg}
use Rattle.word.specs.Word.{difference}
use Rattle.word.specs.Magnitude.{magnitude, negative, with_sign}

-- a word from 2^31 on is negative
sign_by : (x : ℕ) (b : Bool) → leb 0x80000000 x ≡ b → b ≡ negative x
unfolding negative
sign_by x true e = rw (le-ltb x (2 ^ 31) (leb-true 0x80000000 x e)) refl
sign_by x false e = rw (lt-ltb x (2 ^ 31) (leb-false 0x80000000 x e)) refl

pub sign_bit : (x : ℕ) → leb 0x80000000 x ≡ negative x
sign_bit x = sign_by x (leb 0x80000000 x) refl

-- 0 less m
from_zero : (m : ℕ) → 0 < m → difference 0 m ≡ 2 ^ 32 - m
from_zero m p = let e : (2 ^ 32 - m) % 2 ^ 32 ≡ 2 ^ 32 - m = mod-eq_of_lt (omega arith) in rw (zero-add (2 ^ 32 - m)) e

-- a negative word is taken from 0
pub magnitude_of : (x : ℕ) → x < 2 ^ 32 → (b : Bool) → b ≡ negative x → (if b then difference 0 x else x) ≡ magnitude x
unfolding magnitude
magnitude_of x h true e =
    let l : 0x80000000 ≤ x = leb-true 0x80000000 x (sign_bit x ∙ sym e) in
    let k : 2 ^ 32 - suc (2 ^ 32 - suc x) ≡ x = omega arith in
    let z = rw k at (to_z-neg w32 (2 ^ 32 - suc x) (omega arith)) in
    let m : 2 ^ 32 - x ≡ suc (2 ^ 32 - suc x) = omega arith in
    from_zero x (omega arith) ∙ m ∙ sym (ap nat_abs z)
magnitude_of x h false e = sym (ap nat_abs (to_z_pos w32 (leb-false 0x80000000 x (sign_bit x ∙ sym e))))

-- the word that makes a multiple of 2^32 with m is that of the negative number
pub negated : (m : ℕ) {r : ℕ} → r < 2 ^ 32 → m < 2 ^ 32 → (r + m) % 2 ^ 32 ≡ 0 → r ≡ with_sign true m
unfolding with_sign
negated zero p q e = omega (arith, p, e)
negated (suc n) p q e = omega (arith, p, q, e)
