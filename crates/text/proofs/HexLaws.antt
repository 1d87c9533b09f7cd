-- Document 02, item 2: hexadecimal digits, over their number: a number's digits in two parts, those of a part of a line, and that the digits written read back.
use Rattle.std.proofs.Common.{if◌then◌else◌}
use Prim.Native.Nat.{ℕ, zero, suc, ◌+◌, ◌-◌, ◌*◌, ◌/◌, ◌%◌, ◌^◌, ◌<◌, ◌≤◌}
use mathlib.Core.Bool.{Bool, true, false, ◌&&◌}
use mathlib.Core.List.{List, [], ◌∷◌, ◌++◌, append_assoc, append-nil}
use mathlib.Core.Path.{◌≡◌, refl, sym, ◌∙◌, ap}
use native.Mathlib.Nat.{zero-add, suc-add, add-zero, add-suc, pow-succ', pow-le-pow_right, div-one, div-div-eq-div-mul}
use native.Mathlib.Numerals.{add-one}
use native.Mathlib.Omega.{arith}
use borrow.Author.Tests.{ltb-true, ltb-false, lt-ltb, le-ltb, le-leb}
use lib.Dec.{ltb, leb}
use lib.ListN.{length, get_or, take, drop, set, length-append, length-set, length-take, drop_of_length-le}
use lib.Seq.{append_snoc, get_or-append_seam, get_or-drop, get_or-take}
use Rattle.std.proofs.lemmas.List.{drop-set}
use Rattle.word.proofs.BoolLaws.{both}
use Rattle.text.specs.Hex.{hex_digit, hex_digits, hex_number, hex_value}

pub length-hex : (k n : ℕ) → length (hex_digits k n) ≡ k
unfolding hex_digits
length-hex zero n = refl
length-hex (suc k) n = length-append (hex_digits k (n / 16)) (hex_digit (n % 16) ∷ []) ∙ rw (length-hex k (n / 16)) (omega arith)

-- ---- in two parts

-- the digits of a number: those of its quotient, then the last b
pub hex_split : (a b n : ℕ) → hex_digits (a + b) n ≡ hex_digits a (n / 16 ^ b) ++ hex_digits b n
unfolding hex_digits
hex_split a zero n = rw (add-zero a, div-one, append-nil)
hex_split a (suc b) n =
    rw (add-suc a b, hex_split a b (n / 16), div-div-eq-div-mul, pow-succ')
    (append_assoc (hex_digits a (n / (16 * 16 ^ b))) (hex_digits b (n / 16)) (hex_digit (n % 16) ∷ []))

-- ---- what bytes stand for is small

number_by : (s t : Bool) (x : ℕ) → (leb 48 x && ltb x 58) ≡ s → (leb 97 x && ltb x 103) ≡ t → (if s then x - 48 else (if t then x - 87 else 0)) < 16
number_by true t x e f = let h = ltb-true x 58 (both (leb 48 x) (ltb x 58) e).1 in omega arith
number_by false true x e f = let h = ltb-true x 103 (both (leb 97 x) (ltb x 103) f).1 in omega arith
number_by false false x e f = omega arith

pub hex_number_below : (x : ℕ) → hex_number x < 16
hex_number_below x = number_by (leb 48 x && ltb x 58) (leb 97 x && ltb x 103) x refl refl

pub hex_value_below : (k : ℕ) (l : List ℕ) (at : ℕ) → hex_value k l at < 16 ^ k
unfolding hex_value
hex_value_below zero l at = omega arith
hex_value_below (suc k) l at = rw pow-succ' (omega (arith, hex_value_below k l at, hex_number_below (get_or l (at + k) 0)))

-- ---- digits written read back

digit_back : (b : Bool) (d : ℕ) → ltb d 10 ≡ b → d < 16 → hex_number (hex_digit d) ≡ d
digit_back true d e h =
    let l = ltb-true d 10 e in
    rw (e, le-leb 48 (48 + d) (omega arith), lt-ltb (48 + d) 58 (omega arith)) (omega arith)
digit_back false d e h =
    let l = ltb-false d 10 e in
    rw (e, le-leb 48 (87 + d) (omega arith), le-ltb (87 + d) 58 (omega arith), le-leb 97 (87 + d) (omega arith), lt-ltb (87 + d) 103 (omega arith)) (omega arith)

-- in a line, after x and before y
pub hex_back : (x y : List ℕ) (k n : ℕ) → n < 16 ^ k → hex_value k (x ++ hex_digits k n ++ y) (length x) ≡ n
unfolding hex_digits hex_value
hex_back x y zero n h = omega arith
hex_back x y (suc k) n h =
    let d = hex_digit (n % 16) in
    let rest = hex_digits k (n / 16) in
    let line = x ++ rest ++ (d ∷ y) in
    let e : x ++ (rest ++ (d ∷ [])) ++ y ≡ line = ap (λ (t : List ℕ). t ++ y) (sym (append_assoc x rest (d ∷ []))) ∙ append_snoc (x ++ rest) d y in
    let i : length x + k ≡ length (x ++ rest) = sym (length-append x rest ∙ ap (λ (j : ℕ). length x + j) (length-hex k (n / 16))) in
    let last : hex_number (get_or line (length x + k) 0) ≡ n % 16 =
    ap hex_number (ap (λ (j : ℕ). get_or line j 0) i ∙ get_or-append_seam (x ++ rest) d y 0) ∙ digit_back (ltb (n % 16) 10) (n % 16) refl (omega arith) in
    let first : hex_value k line (length x) ≡ n / 16 = hex_back x (d ∷ y) k (n / 16) (omega (arith, pow-succ' 16 k, h)) in
    ap (λ (l : List ℕ). hex_value (suc k) l (length x)) e ∙ omega (arith, first, last)

-- ---- digits read from a line, by the loop

-- one more byte, the k-th of the m from `at` on
pub value_on : (l : List ℕ) (at m k : ℕ) {v d : ℕ} → k < length (take m (drop at l)) → d ≡ hex_number (get_or (take m (drop at l)) k 0) → v ≡ hex_value k l at
    → 16 * v + d ≡ hex_value (k + 1) l at
unfolding hex_value
value_on l at m k h e f =
    let i : k < m = omega (arith, h, length-take m (drop at l)) in
    rw (add-one k, e, f, get_or-take m (drop at l) k 0 i, get_or-drop at l k 0) refl

-- of eight a word holds it with one more digit
pub value_small : (l : List ℕ) (at m k : ℕ) {v : ℕ} → m ≤ 8 → k < length (take m (drop at l)) → v ≡ hex_value k l at → 16 * v + 16 ≤ 2 ^ 32
value_small l at m k s h e =
    let p : 16 ^ suc k ≤ 16 ^ 8 = pow-le-pow_right {n = 16} (omega arith) {i = suc k} {j = 8} (omega (arith, h, length-take m (drop at l))) in
    omega (arith, e, hex_value_below k l at, pow-succ' 16 k, p)

-- ---- the digits of a word, the last first

-- those from the i-th of eight on stand, and rest is what is left of the number
pub record Filled (n i : ℕ) (l : List ℕ) (rest : ℕ) : Type 0 where
  pub left : rest ≡ n / 16 ^ (8 - i)
  pub back : drop i l ≡ hex_digits (8 - i) n
  pub size : length l ≡ 8

-- the first of some digits
first_digit : (k n : ℕ) → hex_digits (suc k) n ≡ hex_digit (n / 16 ^ k % 16) ∷ hex_digits k n
unfolding hex_digits
first_digit k n = ap (λ (j : ℕ). hex_digits j n) (ap suc (sym (zero-add k)) ∙ sym (suc-add 0 k)) ∙ hex_split 1 k n

pub filled_start : (n : ℕ) {l : List ℕ} → length l ≡ 8 → Filled n 8 l n
unfolding hex_digits
filled_start n {l} e =
    let long : length l ≤ 8 = omega arith in
    record { left = sym (div-one n); back = drop_of_length-le l long; size = e }

module _ {n i rest : ℕ} {l : List ℕ} (f : Filled n i l rest) where
  -- one more, at j
  pub filled_on : {j d : ℕ} → i ≡ suc j → i ≤ 8 → d ≡ hex_digit (rest % 16) → Filled n j (set l j d) (rest / 16)
  filled_on {j} {d} e h q =
      let m : 8 - j ≡ suc (8 - i) = omega arith in
      let a : j + 1 ≡ i = omega arith in
      record {
        left = rw (m, f.left) (div-div-eq-div-mul n (16 ^ (8 - i)) 16 ∙ ap (λ (k : ℕ). n / k) (omega (arith, pow-succ' 16 (8 - i))));
        back = drop-set l j d (omega (arith, f.size)) ∙ rw (a, f.back, m, first_digit (8 - i) n, q, f.left) refl;
        size = length-set l j d ∙ f.size;
      }

  pub filled_end : i ≡ 0 → l ≡ hex_digits 8 n
  filled_end e = rw e at f.back
