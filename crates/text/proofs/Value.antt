-- Document 01, "Worked lines": a number's digits read back give the number, and the first is 0 only for 0.
use Rattle.std.proofs.Common.{if◌then◌else◌}
use Prim.Native.Nat.{ℕ, zero, suc, ◌+◌, ◌-◌, ◌*◌, ◌/◌, ◌%◌, ◌^◌, ◌<◌, ◌≤◌}
use mathlib.Core.Bool.{Bool, true, false}
use mathlib.Core.List.{List, [], ◌∷◌, ◌++◌}
use mathlib.Core.Path.{◌≡◌, refl, sym, ◌∙◌}
use native.Mathlib.Omega.{arith}
use borrow.Author.Tests.{ltb-false}
use lib.Dec.{ltb}
use lib.ListN.{get_or, get_or-append}
use Rattle.text.specs.Digits.{digit_of, digits, decimal_of}
use Rattle.text.proofs.Laws.{some_digit}

-- the number that digits stand for, after others whose number is v
unfoldable pub value_of : ℕ → List ℕ → ℕ
value_of v [] = v
value_of v (d ∷ ds) = value_of (10 * v + (d - 48)) ds

-- a last digit
value_last : (v : ℕ) (ds : List ℕ) (d : ℕ) → value_of v (ds ++ (d ∷ [])) ≡ 10 * value_of v ds + (d - 48)
unfolding value_of
value_last v [] d = refl
value_last v (x ∷ ds) d = value_last (10 * v + (x - 48)) ds d

value_by : (b : Bool) (k n : ℕ) → ltb n 10 ≡ b → n < 10 ^ suc k → ((j : ℕ) → k ≡ suc j → value_of 0 (digits k (n / 10)) ≡ n / 10)
    → value_of 0 (if b then digit_of n ∷ [] else digits k (n / 10) ++ (digit_of (n % 10) ∷ [])) ≡ n
unfolding value_of
value_by true k n e l h = omega arith
value_by false zero n e l h = let g : 10 ≤ n = ltb-false n 10 e in absurd (omega arith)
value_by false (suc j) n e l h = value_last 0 (digits (suc j) (n / 10)) (digit_of (n % 10)) ∙ rw (h j refl) (omega arith)

value_digits : (k n : ℕ) → n < 10 ^ suc k → value_of 0 (digits (suc k) n) ≡ n
unfolding digits
value_digits zero n l = value_by (ltb n 10) zero n refl l (λ j e. absurd (omega arith))
value_digits (suc k) n l = value_by (ltb n 10) (suc k) n refl l (λ j e. value_digits k (n / 10) (omega arith))

pub decimal_value : (n : ℕ) → n < 2 ^ 64 → value_of 0 (decimal_of n) ≡ n
decimal_value n l = value_digits 19 n (omega arith)

-- ---- no leading zero

first_by : (b : Bool) (k n : ℕ) → ltb n 10 ≡ b → n < 10 ^ suc k → ((j : ℕ) → k ≡ suc j → get_or (digits k (n / 10)) 0 0 ≡ 48 → n / 10 ≡ 0)
    → get_or (if b then digit_of n ∷ [] else digits k (n / 10) ++ (digit_of (n % 10) ∷ [])) 0 0 ≡ 48 → n ≡ 0
first_by true k n e l h z = omega arith
first_by false zero n e l h z = let g : 10 ≤ n = ltb-false n 10 e in absurd (omega arith)
first_by false (suc j) n e l h z =
    let g : 10 ≤ n = ltb-false n 10 e in
    let q : n / 10 ≡ 0 = h j refl (sym (get_or-append (digits (suc j) (n / 10)) (digit_of (n % 10) ∷ []) 0 0 (some_digit j (n / 10))) ∙ z) in
    absurd (omega arith)

first_digit : (k n : ℕ) → n < 10 ^ suc k → get_or (digits (suc k) n) 0 0 ≡ 48 → n ≡ 0
unfolding digits
first_digit zero n l = first_by (ltb n 10) zero n refl l (λ j e. absurd (omega arith))
first_digit (suc k) n l = first_by (ltb n 10) (suc k) n refl l (λ j e. first_digit k (n / 10) (omega arith))

pub no_leading_zero : (n : ℕ) → n < 2 ^ 64 → get_or (decimal_of n) 0 0 ≡ 48 → n ≡ 0
no_leading_zero n l = first_digit 19 n (omega arith)
