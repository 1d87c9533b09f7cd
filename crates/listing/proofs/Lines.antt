-- Document 02, item 2: a line of a listing, by its number.
use Prim.Native.Nat.{ℕ, zero, suc, ◌+◌, ◌-◌, ◌*◌, ◌/◌, ◌^◌, ◌<◌, ◌≤◌}
use mathlib.Core.List.{List, []}
use mathlib.Core.Path.{◌≡◌, refl, sym, ◌∙◌, ap}
use native.Mathlib.Nat.{zero-add, add-zero, add-suc, suc-add, le_of_suc-le-suc, not-suc-le-zero}
use native.Mathlib.Omega.{arith}
use borrow.Author.Tests.{eq-eqb, ne_eqb, le-leb, lt-leb}
use lib.ListN.{length, get_or, length-append, length-drop}
use Rattle.executable.specs.Executable.{data_start_of}
use Rattle.text.specs.Ascii.{ascii}
use Rattle.text.specs.Written.{Written}
use Rattle.text.proofs.Laws.{length_digits, written_counts, written_within}
use Rattle.mnemonics.specs.Line.{text_line, data_line}
use Rattle.mnemonics.proofs.Columns.{text_short, data_short}
use Rattle.listing.specs.Listing.{answer_of, word_of, words_of, word_line, word_lines, refused_line, listing_of, line_of, Shown}

-- ---- by its number

pub words : (file : List ℕ) → words_of file ≡ (length file - 16 + 3) / 4
words file = rw (length-drop 16 file)

nth_within : (file : List ℕ) (k n i : ℕ) → i < k → get_or (word_lines file k n) i [] ≡ word_line file (n + i)
unfolding word_lines
nth_within file zero n i h = absurd (not-suc-le-zero h)
nth_within file (suc k) n zero h = rw (add-zero n)
nth_within file (suc k) n (suc i) h = nth_within file k (suc n) i (le_of_suc-le-suc h) ∙ ap (word_line file) (suc-add n i ∙ sym (add-suc n i))

nth_past : (file : List ℕ) (k n i : ℕ) → k ≤ i → get_or (word_lines file k n) i [] ≡ []
unfolding word_lines
nth_past file zero n i h = refl
nth_past file (suc k) n zero h = absurd (not-suc-le-zero h)
nth_past file (suc k) n (suc i) h = nth_past file k (suc n) i (le_of_suc-le-suc h)

module _ (file : List ℕ) where
  pub line_refused : {a n : ℕ} → a ≡ answer_of file → (a ≡ 0 → ⊥) → n ≡ 0 → refused_line a ≡ line_of file n
  unfolding line_of listing_of
  line_refused e z p = rw (p, ← e, ne_eqb _ 0 z)

  pub none_refused : {a : ℕ} (n : ℕ) → a ≡ answer_of file → (a ≡ 0 → ⊥) → (n ≡ 0 → ⊥) → [] ≡ line_of file n
  unfolding line_of listing_of
  none_refused zero e z p = absurd (p refl)
  none_refused (suc n) e z p = rw (← e, ne_eqb _ 0 z)

  module _ {a : ℕ} (e : a ≡ answer_of file) (z : a ≡ 0) where
    accepted_lines : (n : ℕ) → line_of file n ≡ get_or (word_lines file (words_of file) 0) n []
    unfolding line_of listing_of
    accepted_lines n = rw (eq-eqb (answer_of file) 0 (sym e ∙ z))

    pub line_within : (n : ℕ) → n < (length file - 16 + 3) / 4 → word_line file n ≡ line_of file n
    line_within n h = sym (accepted_lines n ∙ nth_within file (words_of file) 0 n (rw (words file) h) ∙ ap (word_line file) (zero-add n))

    pub line_past : (n : ℕ) → (length file - 16 + 3) / 4 ≤ n → [] ≡ line_of file n
    line_past n h = sym (accepted_lines n ∙ nth_past file (words_of file) 0 n (rw (words file) h))

-- ---- as text or as data

module _ (file : List ℕ) (n : ℕ) where
  pub line_data : data_start_of file ≤ 4 * n → data_line (4 * n) (word_of file n) ≡ word_line file n
  unfolding word_line
  line_data h = rw (le-leb _ _ h)

  pub line_text : 4 * n < data_start_of file → text_line (4 * n) (word_of file n) ≡ word_line file n
  unfolding word_line
  line_text h = rw (lt-leb _ _ h)

-- ---- what is written is shown

shown : {x l l' : List ℕ} {r : ℕ} → Written x l 0 l' r → length x ≤ 31 → Shown x l l' r
shown {x} {l} {l'} {r} w s =
    let e : r ≡ length x = w.end ∙ zero-add (length x) in
    record { end = e; front = w.front; rest = w.rest; short = omega (arith, e, s); within = written_within w; counts = written_counts w }

-- no bytes
nothing : (l : List ℕ) → Shown [] l l 0
nothing l = record { end = refl; front = refl; rest = refl; short = omega arith; within = omega arith; counts = refl }

pub shown_as : {x y l l' : List ℕ} {r : ℕ} → x ≡ y → Shown x l l' r → Shown y l l' r
shown_as e s = rw (← e) s

pub shown_nothing : {y : List ℕ} (l : List ℕ) → [] ≡ y → Shown y l l 0
shown_nothing l e = shown_as e (nothing l)

length-refused : (a : ℕ) → length (refused_line a) ≤ 28
unfolding refused_line ascii
length-refused a = rw length-append (omega (arith, length_digits 20 a))

pub shown_refused : (a : ℕ) {l l' : List ℕ} {r : ℕ} → Written (refused_line a) l 0 l' r → Shown (refused_line a) l l' r
shown_refused a w = shown w (omega (arith, length-refused a))

module _ (file : List ℕ) (n : ℕ) {a w : ℕ} (e : a ≡ 4 * n) (f : w ≡ word_of file n) (h : w < 2 ^ 32) {d : ℕ} (g : d ≡ data_start_of file) {l l' : List ℕ} {r : ℕ} where
  pub shown_data : d ≤ a → Written (data_line a w) l 0 l' r → Shown (word_line file n) l l' r
  shown_data k v = shown_as (rw (e, f) (line_data file n (rw (e, g) at k))) (shown v (data_short a w h))

  pub shown_text : a < d → Written (text_line a w) l 0 l' r → Shown (word_line file n) l l' r
  shown_text k v = shown_as (rw (e, f) (line_text file n (rw (e, g) at k))) (shown v (text_short a w h))
