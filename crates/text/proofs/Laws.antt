-- What holds of a number's digits: at most 20, one for each step of the recursion; and of texts written one after another.
use Rattle.std.proofs.Common.{if◌then◌else◌}
use Prim.Native.Nat.{ℕ, zero, suc, ◌+◌, ◌-◌, ◌/◌, ◌%◌, ◌^◌, ◌<◌, ◌≤◌}
use mathlib.Core.Bool.{Bool, true, false}
use mathlib.Core.List.{List, [], ◌∷◌, ◌++◌, append-nil, append_assoc}
use mathlib.Core.Path.{◌≡◌, refl, sym, ◌∙◌, ap, subst}
use native.Mathlib.Nat.{zero-add}
use native.Mathlib.Omega.{arith}
use borrow.Author.Tests.{ltb-true, ltb-false, lt-ltb, le-ltb}
use borrow.Rule.Slice.PartMut.{put_mid}
use Rattle.std.proofs.lemmas.Slice.{take-put_mid, drop-put_mid}
use lib.Dec.{ltb}
use lib.ListN.{length, take, drop, length-append, length-take, length-drop}
use lib.Seq.{drop-drop}
use Rattle.text.specs.Digits.{digit_of, digits, decimal_of}
use Rattle.text.specs.Signed.{signed_of}
use Rattle.text.specs.Written.{Written}
use Rattle.text.specs.declared.Writer.{Writer}
use Rattle.text.specs.Adds.{Adds}

-- the digits by the outcome of the test
by_test : Bool → ℕ → ℕ → List ℕ
by_test b k n = if b then digit_of n ∷ [] else digits k (n / 10) ++ (digit_of (n % 10) ∷ [])

-- one or more and at most k
length-by : (b : Bool) (k n : ℕ) → length (digits k (n / 10)) ≤ k → (0 < length (by_test b k n)) × (length (by_test b k n) ≤ suc k)
unfolding by_test
length-by true k n h = (omega arith, omega arith)
length-by false k n h = (rw length-append (omega arith), rw length-append (omega arith))

pub length_digits : (k n : ℕ) → length (digits k n) ≤ k
unfolding digits by_test
length_digits zero n = omega arith
length_digits (suc k) n = (length-by (ltb n 10) k n (length_digits k (n / 10))).1

pub some_digit : (k n : ℕ) → 0 < length (digits (suc k) n)
unfolding digits by_test
some_digit k n = (length-by (ltb n 10) k n (length_digits k (n / 10))).0

-- a number below ten to the m has at most m
short_by : (b : Bool) (k m n : ℕ) → ltb n 10 ≡ b → n < 10 ^ suc m → ((j : ℕ) → m ≡ suc j → length (digits k (n / 10)) ≤ m) → length (by_test b k n) ≤ suc m
unfolding by_test
short_by true k m n e l h = omega arith
short_by false k zero n e l h = let g : 10 ≤ n = ltb-false n 10 e in absurd (omega arith)
short_by false k (suc j) n e l h = rw length-append (omega (arith, h j refl))

pub short_digits : (k m n : ℕ) → n < 10 ^ suc m → length (digits k n) ≤ suc m
unfolding digits by_test
short_digits zero m n l = omega arith
short_digits (suc k) zero n l = short_by (ltb n 10) k zero n refl l (λ j e. absurd (omega arith))
short_digits (suc k) (suc m) n l = short_by (ltb n 10) k (suc m) n refl l (λ j e. short_digits k m (n / 10) (omega arith))

-- a number below ten to the k has at most k digits: more steps give the same
enough_by : (b : Bool) (k n : ℕ) → ltb n 10 ≡ b → n < 10 ^ suc k → ((j : ℕ) → k ≡ suc j → digits (suc k) (n / 10) ≡ digits k (n / 10)) → by_test b (suc k) n ≡ by_test b k n
unfolding by_test
enough_by true k n e l h = refl
enough_by false zero n e l h = let g : 10 ≤ n = ltb-false n 10 e in absurd (omega arith)
enough_by false (suc j) n e l h = rw (h j refl)

pub enough : (k n : ℕ) → n < 10 ^ suc k → digits (suc (suc k)) n ≡ digits (suc k) n
unfolding digits by_test
enough zero n l = enough_by (ltb n 10) zero n refl l (λ j e. absurd (omega arith))
enough (suc k) n l = enough_by (ltb n 10) (suc k) n refl l (λ j e. enough k (n / 10) (omega arith))

more_by : (b : Bool) (k n : ℕ) → ltb n 10 ≡ b → 10 ≤ n → by_test b k n ≡ digits k (n / 10) ++ (digit_of (n % 10) ∷ [])
unfolding by_test
more_by true k n e h = let l : n < 10 = ltb-true n 10 e in absurd (omega arith)
more_by false k n e h = refl

one_by : (b : Bool) (k n : ℕ) → ltb n 10 ≡ b → n < 10 → by_test b k n ≡ digit_of n ∷ []
unfolding by_test
one_by true k n e l = refl
one_by false k n e l = let h : 10 ≤ n = ltb-false n 10 e in absurd (omega arith)

-- ---- a number of 64 bits

pub decimal_digit : (n : ℕ) → n < 10 → digit_of n ∷ [] ≡ decimal_of n
unfolding digits by_test
decimal_digit n l = sym (one_by (ltb n 10) 19 n refl l)

pub decimal_more : (n : ℕ) → n < 2 ^ 64 → 10 ≤ n → decimal_of (n / 10) ++ (digit_of (n % 10) ∷ []) ≡ decimal_of n
unfolding digits by_test
decimal_more n l h = ap (λ (t : List ℕ). t ++ (digit_of (n % 10) ∷ [])) (enough 18 (n / 10) (omega arith)) ∙ sym (more_by (ltb n 10) 19 n refl h)

pub quotient_short : (n : ℕ) → n < 2 ^ 64 → length (decimal_of (n / 10)) ≤ 19
quotient_short n l = rw (enough 18 (n / 10) (omega arith)) (length_digits 19 (n / 10))

-- ---- a word as a signed number

pub signed_plain : (w : ℕ) → w < 2 ^ 31 → decimal_of w ≡ signed_of w
unfolding signed_of
signed_plain w l = rw (lt-ltb w (2 ^ 31) l)

pub signed_minus : (w : ℕ) → 2 ^ 31 ≤ w → (45 ∷ []) ++ decimal_of (2 ^ 32 - w) ≡ signed_of w
unfolding signed_of
signed_minus w h = rw (le-ltb w (2 ^ 31) h)

-- ---- one text after another

pub written_then : {x y l l' l'' : List ℕ} {at r s : ℕ} → Written x l at l' r → Written y l' r l'' s → Written (x ++ y) l at l'' s
written_then {x} {y} {l} {l'} {l''} {at} {r} {s} v w = record {
  end = rw length-append (omega (arith, v.end, w.end));
  front = w.front ∙ ap (λ (t : List ℕ). t ++ y) v.front ∙ append_assoc (take at l) x y;
  rest = w.rest ∙ rw (w.end, ← drop-drop (length y) r l', ← drop-drop (length y) r l) (ap (drop (length y)) v.rest);
}

pub written_as : {x y l l' : List ℕ} {at r : ℕ} → x ≡ y → Written x l at l' r → Written y l at l' r
written_as {x} {y} {l} {l'} {at} {r} e w = subst (λ (t : List ℕ). Written t l at l' r) e w

-- ---- by a writer

-- a part of the line that a text was copied to
pub put_written : {x y l : List ℕ} {at k : ℕ} → at + length x ≤ length l → y ≡ x → k ≡ length x → Written x l at (put_mid at k l y) (at + length x)
put_written {x} {y} {l} {at} {k} room e s = record {
  end = refl;
  front = take-put_mid at k l y (at + length x) (ap (λ (t : List ℕ). at + length t) (sym e)) (omega arith) ∙ ap (λ (t : List ℕ). take at l ++ t) e;
  rest = drop-put_mid at k l y (at + length x) (omega arith) (omega arith) (ap length e ∙ sym s);
}

pub length-put_mid : (at k : ℕ) (y l : List ℕ) → at + k ≤ length l → length y ≡ k → length (put_mid at k l y) ≡ length l
length-put_mid at k y l room e =
    rw (length-append (take at l) (y ++ drop k (drop at l)), length-append y (drop k (drop at l)), length-take, length-drop, length-drop) (omega arith)

pub nothing_added : (w : Writer) → Adds [] w w
nothing_added w = record { same = refl; written = record { end = omega arith; front = sym (append-nil (take w.end w.bytes.now)); rest = refl }; size = refl }

pub adds_then : {x y : List ℕ} {w w' w'' : Writer} → Adds x w w' → Adds y w' w'' → Adds (x ++ y) w w''
adds_then a b = record { same = b.same ∙ a.same; written = written_then a.written b.written; size = b.size ∙ a.size }

pub adds_as : {x y : List ℕ} {w w' : Writer} → x ≡ y → Adds x w w' → Adds y w w'
adds_as {x} {y} {w} {w'} e a = subst (λ (t : List ℕ). Adds t w w') e a

-- from the start on; n is what the lender holds, and r the index after the last byte
pub finished : {x l n : List ℕ} {w w' : Writer} {r : ℕ} → (w.bytes.now ≡ l) × (w.end ≡ 0) → Adds x w w' → r ≡ w'.end → n ≡ w'.bytes.now → Written x l 0 n r
finished s a e f = rw (e, f) (rw (s.0, s.1) at a.written)

-- ---- a text at the start of a line

module _ {x l l' : List ℕ} {r : ℕ} (w : Written x l 0 l' r) where
  -- it has as many bytes as are counted
  pub written_counts : r ≡ length (take r l')
  written_counts = w.end ∙ zero-add (length x) ∙ sym (ap length w.front)

  -- which the line has
  pub written_within : r ≤ length l'
  written_within = omega (arith, written_counts ∙ length-take r l')
