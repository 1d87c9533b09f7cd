-- Document 02, item 2: "12, a line that stands in no accepted file's listing": a line stands in one exactly if it is its word's line, as text or, from address 4 on,
-- as data.
use Prim.Native.Nat.{ℕ, suc, ◌+◌, ◌-◌, ◌*◌, ◌/◌, ◌%◌, ◌^◌, ◌<◌, ◌≤◌}
use mathlib.Core.Bool.{Bool, true, false, ◌&&◌, ◌||◌}
use mathlib.Core.List.{List}
use mathlib.Core.Logic.{◌⊎◌, inl, inr, ⊎_elim}
use mathlib.Core.Path.{◌≡◌, refl, sym, ◌∙◌, ap}
use native.Mathlib.Omega.{arith}
use borrow.Author.Tests.{leb-true, leb-false, ltb-true, eqb-true, eq-eqb, lt-ltb, le-leb}
use lib.Dec.{eqb, ltb, leb}
use lib.ListN.{length}
use Rattle.word.proofs.BoolLaws.{both}
use Rattle.memory.specs.Memory.{load_n}
use Rattle.executable.specs.Executable.{load_answer, data_start_of}
use Rattle.executable.proofs.Accepted.{Fit, fit, accepting}
use Rattle.mnemonics.specs.Mnemonics.{data_form, form_of}
use Rattle.mnemonics.specs.Line.{text_line, data_line}
use Rattle.mnemonics.proofs.Columns.{Columns, columns}
use Rattle.listing.specs.Listing.{memory_size, word_of, word_line}
use Rattle.listing.specs.Listed.{Bytes, Listed}
use Rattle.listing.specs.Stands.{equal, is_line_of}
use Rattle.listing.proofs.Equal.{equal_same, equal_refl}
use Rattle.listing.proofs.Lines.{words, line_within, line_data, line_text}
use Rattle.listing.proofs.Witness.{witness, witness_bytes, witness_length, witness_start, witness_word, witness_accepted}
use Rattle.listing.proofs.Words.{load_body}

-- the line of a word at an address that the run program's memory has
pub record Stands (l : List ℕ) (a w : ℕ) : Type 0 where
  pub aligned : a % 4 ≡ 0
  pub below : a < memory_size
  pub small : w < 2 ^ 32
  pub line : (l ≡ text_line a w) ⊎ ((4 ≤ a) × (l ≡ data_line a w))

-- ---- a listed line stands

load_small : (l : List ℕ) (at : ℕ) → Bytes l → load_n 4 l at < 2 ^ 32
unfolding load_n
load_small l at b = omega (arith, b.below at, b.below (suc at), b.below (suc (suc at)), b.below (suc (suc (suc at))))

word_small : (file : List ℕ) (n : ℕ) → Bytes file → word_of file n < 2 ^ 32
word_small file n b = rw (← load_body 4 file (4 * n)) (load_small file (16 + 4 * n) b)

-- by the place of data start: in an accepted file it is 4 or more
line_by_lem : (t : Bool) (file : List ℕ) (n : ℕ) → Fit memory_size file → leb (data_start_of file) (4 * n) ≡ t
    → (word_line file n ≡ text_line (4 * n) (word_of file n)) ⊎ ((4 ≤ 4 * n) × (word_line file n ≡ data_line (4 * n) (word_of file n)))
line_by_lem true file n f e =
    let d = leb-true (data_start_of file) (4 * n) e in
    inr (omega (arith, f.text, d), sym (line_data file n d))
line_by_lem false file n f e = inl (sym (line_text file n (leb-false (data_start_of file) (4 * n) e)))

pub listed_stands : {l : List ℕ} {a w : ℕ} → Listed l a w → Stands l a w
listed_stands {l} {a} {w} x =
    let file = x.file in
    let n = x.number in
    let f : Fit memory_size file = fit memory_size file (accepting (load_answer memory_size file) x.accepted) in
    let k : n < (length file - 16 + 3) / 4 = rw (words file) at x.within in
    let e : l ≡ word_line file n = x.stands ∙ sym (line_within file refl x.accepted n k) in
    record {
      aligned = omega (arith, x.place);
      below = omega (arith, x.place, k, f.body);
      small = rw x.content (word_small file n x.bytes);
      line =
          rw (x.place, x.content)
          (⊎_elim (λ t. inl (e ∙ t)) (λ t. inr (t.0, e ∙ t.1)) (line_by_lem (leb (data_start_of file) (4 * n)) file n f refl));
    }

-- ---- a line that stands is listed

-- in the file of its word, with data start d
listed_in : (d : ℕ) {l : List ℕ} {a w : ℕ} → a % 4 ≡ 0 → a < memory_size → w < 2 ^ 32 → 4 ≤ d → d ≤ a + 4
    → ((n : ℕ) → a ≡ 4 * n → l ≡ word_line (witness d a w) n) → Listed l a w
listed_in d {l} {a} {w} m b k t s e =
    let n = a / 4 in
    let place : a ≡ 4 * n = omega arith in
    let h : d < 2 ^ 32 = omega arith in
    let len = witness_length d a w h k in
    let accepted = witness_accepted d a w h k b m t s in
    let within : n < (length (witness d a w) - 16 + 3) / 4 = omega (arith, len) in
    record {
      file = witness d a w;
      bytes = witness_bytes d a w h k;
      accepted = accepted;
      number = n;
      within = rw (words (witness d a w)) within;
      stands = e n place ∙ line_within (witness d a w) refl accepted n within;
      place = place;
      content = sym (witness_word d a w h k n place);
    }

module _ {a w : ℕ} (h : a < memory_size) (k : w < 2 ^ 32) (n : ℕ) (e : a ≡ 4 * n) where
  -- as text: data start is right after the word
  text_there : text_line a w ≡ word_line (witness (a + 4) a w) n
  text_there =
      let d : a + 4 < 2 ^ 32 = omega arith in
      let file = witness (a + 4) a w in
      let before : 4 * n < data_start_of file = rw (witness_start (a + 4) a w d k) (omega arith) in
      ap (λ (x : ℕ). text_line x w) e ∙ ap (text_line (4 * n)) (sym (witness_word (a + 4) a w d k n e)) ∙ line_text file n before

  -- as data: data start is 4
  data_there : 4 ≤ a → data_line a w ≡ word_line (witness 4 a w) n
  data_there m =
      let d : 4 < 2 ^ 32 = omega arith in
      let file = witness 4 a w in
      let after : data_start_of file ≤ 4 * n = rw (witness_start 4 a w d k) (omega arith) in
      ap (λ (x : ℕ). data_line x w) e ∙ ap (data_line (4 * n)) (sym (witness_word 4 a w d k n e)) ∙ line_data file n after

pub stands_listed : {l : List ℕ} {a w : ℕ} → Stands l a w → Listed l a w
stands_listed {l} {a} {w} s =
    ⊎_elim
    (λ t. listed_in (a + 4) s.aligned s.below s.small (omega arith) (omega arith) (λ n e. t ∙ text_there s.below s.small n e))
    (λ t. listed_in 4 s.aligned s.below s.small (omega arith) (omega arith) (λ n e. t.1 ∙ data_there s.below s.small n e t.0))
    s.line

-- ---- a line that stands says where it came from

pub stands_columns : {l : List ℕ} {a w : ℕ} → Stands l a w → Columns l a w
stands_columns {l} {a} {w} s =
    let h : a < 2 ^ 32 = omega (arith, s.below) in
    ⊎_elim
    (λ t. rw t (columns (form_of (w % 256)) a w h s.small))
    (λ t. rw t.1 (columns data_form a w h s.small))
    s.line

-- so that no two words have the same line
pub distinct : {l : List ℕ} {a w b v : ℕ} → Listed l a w → Listed l b v → (a ≡ b) × (w ≡ v)
distinct x y =
    let p = stands_columns (listed_stands x) in
    let q = stands_columns (listed_stands y) in
    (sym p.address ∙ q.address, sym p.word ∙ q.word)

-- ---- the code's test

either : (s t : Bool) → (s ≡ true) ⊎ (t ≡ true) → s || t ≡ true
either true t h = refl
either false true h = refl
either false false (inl h) = h
either false false (inr h) = h

one_of : (s t : Bool) → s || t ≡ true → (s ≡ true) ⊎ (t ≡ true)
one_of true t e = inl refl
one_of false t e = inr e

pub stands_test : {l : List ℕ} {a w : ℕ} → Stands l a w → is_line_of l a w ≡ true
unfolding is_line_of
stands_test {l} {a} {w} s =
    rw (eq-eqb (a % 4) 0 s.aligned, lt-ltb a memory_size s.below)
    (either (equal l (text_line a w)) (leb 4 a && equal l (data_line a w))
    (⊎_elim (λ t. inl (rw t (equal_refl (text_line a w)))) (λ t. inr (rw (le-leb 4 a t.0, t.1) (equal_refl (data_line a w)))) s.line))

pub test_stands : {l : List ℕ} {a w : ℕ} → w < 2 ^ 32 → is_line_of l a w ≡ true → Stands l a w
unfolding is_line_of
test_stands {l} {a} {w} k e =
    let as_text = equal l (text_line a w) in
    let as_data = equal l (data_line a w) in
    let whole = both (eqb (a % 4) 0 && ltb a memory_size) (as_text || (leb 4 a && as_data)) e in
    let place = both (eqb (a % 4) 0) (ltb a memory_size) whole.0 in
    record {
      aligned = eqb-true (a % 4) 0 place.0;
      below = ltb-true a memory_size place.1;
      small = k;
      line =
          ⊎_elim (λ t. inl (equal_same l (text_line a w) t))
          (λ t. let h = both (leb 4 a) as_data t in inr (leb-true 4 a h.0, equal_same l (data_line a w) h.1))
          (one_of as_text (leb 4 a && as_data) whole.1);
    }
