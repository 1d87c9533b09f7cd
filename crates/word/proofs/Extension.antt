-- Sign extension, once over the width. Document 01, "Opcodes": "S and C forms extend the sign", "The upper 24 are imm, signed".
use Rattle.std.proofs.Common.{if◌then◌else◌}
use Prim.Native.Nat.{ℕ, zero, suc, ◌+◌, ◌*◌, ◌/◌, ◌-◌, ◌%◌, ◌^◌, ◌≤◌, ◌<◌}
use mathlib.Core.Path.{◌≡◌, refl, sym, ap, ◌∙◌}
use mathlib.Core.Bool.{Bool, true, false}
use native.Mathlib.Nat.{pow-suc, add-mul, suc-mul, mul_assoc, mod-eq_of_lt, div-eq_of_eq-mul_left, mul-lt-mul_of_pos_right, mul-le-mul_right}
use native.Mathlib.Omega.{arith}
use borrow.Author.Tests.{lt-ltb, le-ltb, ltb-true, ltb-false}
use lib.Dec.{ltb}
use lib.Pow.{pow_mono, pow_pos, pow-add}
use lib.IntN.{pos, negsuc}
use lib.Signed.{shr_z}
use mir.Syntax.{w32}
use mir.Val.{to_z, of_z}
use mir.Facts.{to_z_pos, to_z-neg}
use Rattle.std.proofs.lemmas.Nat.{div-mul-add}
use Rattle.word.specs.Word.{extend}

-- a number x of n bits
module _ (n : ℕ) {x : ℕ} where
  -- the sign bit is clear
  pub extend_clear : x < 2 ^ (n - 1) → x ≡ extend n x
  unfolding extend
  extend_clear h = rw (lt-ltb x (2 ^ (n - 1)) h)

  -- the sign bit is set
  pub extend_set : 2 ^ (n - 1) ≤ x → x + (2 ^ 32 - 2 ^ n) ≡ extend n x
  unfolding extend
  extend_set h = rw (le-ltb x (2 ^ (n - 1)) h)

-- the power of the sign bit
half : (n : ℕ) → 0 < n → 2 ^ n ≡ 2 ^ (n - 1) * 2
half zero p = absurd (omega arith)
half (suc k) p = let e : suc k - 1 ≡ k = omega arith in rw e (pow-suc 2 k)

-- the halves of a product whose first factor is halved
doubled : (a u : ℕ) {b t : ℕ} → b ≡ a * 2 → b * u ≡ t → a * u + a * u ≡ t
doubled a u {b} e f =
    let m : b * u ≡ a * u * 2 = ap (λ (v : ℕ). v * u) e ∙ omega (arith, mul_assoc a 2 u, mul_assoc a u 2) in
    omega (arith, m, f)

-- what is below a product, by its last factor
rest_of : (b x u : ℕ) {t : ℕ} → x < b → 0 < u → b * u ≡ t → t - suc (x * u) ≡ (b - suc x) * u + (u - 1)
rest_of b x u h p e =
    let k : b ≡ (b - suc x) + suc x = omega (arith, h) in
    let m : b * u ≡ (b - suc x) * u + (x * u + u) = ap (λ (v : ℕ). v * u) k ∙ add-mul (b - suc x) (suc x) u ∙ ap (λ (v : ℕ). (b - suc x) * u + v) (suc-mul x u) in
    omega (arith, m, e, p)

-- a number of n bits, n from 1 to 32
module _ (n x : ℕ) (p : 0 < n) (l : n ≤ 32) (h : x < 2 ^ n) where
  -- by the sign bit
  signed_by : (b : Bool) → ltb x (2 ^ (n - 1)) ≡ b → to_z w32 (extend n x) ≡ (if b then pos x else negsuc (2 ^ n - suc x))
  signed_by true e =
      let m : 2 ^ n ≤ 2 ^ 32 = pow_mono l in
      let c = ltb-true x (2 ^ (n - 1)) e in
      rw (← extend_clear n c) (to_z_pos w32 (omega (arith, half n p)))
  signed_by false e =
      let m : 2 ^ n ≤ 2 ^ 32 = pow_mono l in
      let c = ltb-false x (2 ^ (n - 1)) e in
      let k : x + (2 ^ 32 - 2 ^ n) ≡ 2 ^ 32 - suc (2 ^ n - suc x) = omega arith in
      rw (← extend_set n c, k) (to_z-neg w32 (2 ^ n - suc x) (omega (arith, half n p)))

  -- the signed reading of the word is that of the n bits
  pub extend_signed : to_z w32 (extend n x) ≡ (if ltb x (2 ^ (n - 1)) then pos x else negsuc (2 ^ n - suc x))
  extend_signed = signed_by (ltb x (2 ^ (n - 1))) refl

  -- the n bits at the word's top, read signed and shifted back
  shifted_by : (u : ℕ) → 0 < u → 2 ^ n * u ≡ 2 ^ 32 → (b : Bool) → ltb x (2 ^ (n - 1)) ≡ b → of_z w32 (shr_z (to_z w32 (x * u)) u) ≡ extend n x
  shifted_by u up whole true e =
      let c = ltb-true x (2 ^ (n - 1)) e in
      let m : x * u < 2 ^ (n - 1) * u = mul-lt-mul_of_pos_right c up in
      let d : 2 ^ (n - 1) * u + 2 ^ (n - 1) * u ≡ 2 ^ 32 = doubled (2 ^ (n - 1)) u (half n p) whole in
      let q : x * u / u ≡ x = div-eq_of_eq-mul_left up refl in
      let z : to_z w32 (x * u) ≡ pos (x * u) = to_z_pos w32 (omega (arith, m, d)) in
      rw (z, q) (extend_clear n c)
  shifted_by u up whole false e =
      let c = ltb-false x (2 ^ (n - 1)) e in
      let m : 2 ^ (n - 1) * u ≤ x * u = mul-le-mul_right u c in
      let d : 2 ^ (n - 1) * u + 2 ^ (n - 1) * u ≡ 2 ^ 32 = doubled (2 ^ (n - 1)) u (half n p) whole in
      let f : x * u < 2 ^ n * u = mul-lt-mul_of_pos_right h up in
      let k : x * u ≡ 2 ^ 32 - suc (2 ^ 32 - suc (x * u)) = omega (arith, f, whole) in
      let z : to_z w32 (x * u) ≡ negsuc (2 ^ 32 - suc (x * u)) = ap (to_z w32) k ∙ to_z-neg w32 (2 ^ 32 - suc (x * u)) (omega (arith, m, d, f, whole)) in
      let r : 2 ^ 32 - suc (x * u) ≡ (2 ^ n - suc x) * u + (u - 1) = rest_of (2 ^ n) x u h up whole in
      let q : (2 ^ 32 - suc (x * u)) / u ≡ 2 ^ n - suc x = ap (λ (v : ℕ). v / u) r ∙ div-mul-add (2 ^ n - suc x) u (u - 1) (omega (arith, up)) in
      let t : 2 ^ n ≤ 2 ^ 32 = pow_mono l in
      let w : 2 ^ 32 - suc (2 ^ n - suc x) ≡ x + (2 ^ 32 - 2 ^ n) = omega (arith, t, h) in
      rw (z, q) (w ∙ extend_set n c)

  -- the n bits shifted to the word's top and back, the sign bit copied in
  pub extend_shifted : of_z w32 (shr_z (to_z w32 (x * 2 ^ (32 - n) % 2 ^ 32)) (2 ^ (32 - n))) ≡ extend n x
  extend_shifted =
      let k : n + (32 - n) ≡ 32 = omega arith in
      let whole : 2 ^ n * 2 ^ (32 - n) ≡ 2 ^ 32 = sym (pow-add 2 n (32 - n)) ∙ ap (λ (v : ℕ). 2 ^ v) k in
      let fits : x * 2 ^ (32 - n) < 2 ^ n * 2 ^ (32 - n) = mul-lt-mul_of_pos_right h (pow_pos (32 - n)) in
      rw (mod-eq_of_lt (rw whole at fits)) (shifted_by (2 ^ (32 - n)) (pow_pos (32 - n)) whole (ltb x (2 ^ (n - 1))) refl)
