-- Document 02, item 2: a file in whose listing a given line stands: a body of zeros but for its last word, which is the line's.
use Prim.Native.Nat.{ℕ, zero, suc, ◌+◌, ◌-◌, ◌*◌, ◌/◌, ◌%◌, ◌^◌, ◌<◌, ◌≤◌}
use mathlib.Core.List.{List, [], ◌∷◌, ◌++◌}
use mathlib.Core.Path.{◌≡◌, refl, sym, ◌∙◌, ap}
use native.Mathlib.Nat.{add-zero, add-suc}
use native.Mathlib.Omega.{arith}
use borrow.Author.Tests.{le-leb, lt-ltb}
use lib.Dec.{lit<}
use lib.ListN.{length, get_or, replicate, length-append, length-replicate}
use lib.Seq.{get_or-append-add}
use Rattle.memory.specs.Memory.{load_n, size_ok}
use Rattle.executable.specs.Executable.{load_number, answer_by, load_answer, data_start_of}
use Rattle.listing.specs.Listing.{answer_of, word_of}
use Rattle.listing.specs.Listed.{Bytes}

-- ---- bytes

bytes_nil : Bytes []
bytes_nil = record { below = λ i. lit< tt }

cons_below : (x : ℕ) (l : List ℕ) → x < 256 → Bytes l → (i : ℕ) → get_or (x ∷ l) i 0 < 256
cons_below x l h b zero = h
cons_below x l h b (suc i) = b.below i

bytes_cons : {x : ℕ} {l : List ℕ} → x < 256 → Bytes l → Bytes (x ∷ l)
bytes_cons {x} {l} h b = record { below = cons_below x l h b }

bytes_zeros : (n : ℕ) {l : List ℕ} → Bytes l → Bytes (replicate n 0 ++ l)
bytes_zeros zero b = b
bytes_zeros (suc n) b = bytes_cons (lit< tt) (bytes_zeros n b)

-- the four bytes of a word, the lowest first
word_bytes : ℕ → List ℕ
word_bytes w = w % 256 ∷ w / 256 % 256 ∷ w / 65536 % 256 ∷ w / 16777216 ∷ []

bytes_word : (w : ℕ) → w < 2 ^ 32 → Bytes (word_bytes w)
unfolding word_bytes
bytes_word w h = bytes_cons (omega arith) (bytes_cons (omega arith) (bytes_cons (omega arith) (bytes_cons (omega arith) bytes_nil)))

load_word : (w : ℕ) → w < 2 ^ 32 → load_n 4 (word_bytes w) 0 ≡ w
unfolding word_bytes load_n
load_word w h = omega arith

load_after : (k : ℕ) (xs ys : List ℕ) (at : ℕ) → load_n k (xs ++ ys) (length xs + at) ≡ load_n k ys at
unfolding load_n
load_after zero xs ys at = refl
load_after (suc k) xs ys at = rw (get_or-append-add xs ys at 0, ← add-suc (length xs) at, load_after k xs ys (suc at))

-- ---- the file

-- the word w at address a, data start d, entry 0
pub witness : (d a w : ℕ) → List ℕ
witness d a w =
    0x0d ∷ 0xf0 ∷ 0xde ∷ 0xc0 ∷ 0 ∷ 0 ∷ 0 ∷ 0 ∷ 0 ∷ 0 ∷ 0 ∷ 0 ∷ d % 256 ∷ d / 256 % 256 ∷ d / 65536 % 256 ∷ d / 16777216 ∷ (replicate a 0 ++ word_bytes w)

module _ (d a w : ℕ) (h : d < 2 ^ 32) (k : w < 2 ^ 32) where
  pub witness_bytes : Bytes (witness d a w)
  unfolding witness
  witness_bytes =
      bytes_cons (lit< tt) (bytes_cons (lit< tt) (bytes_cons (lit< tt) (bytes_cons (lit< tt) (bytes_cons (lit< tt) (bytes_cons (lit< tt) (bytes_cons (lit< tt) (bytes_cons (lit< tt)
      (bytes_cons (lit< tt) (bytes_cons (lit< tt) (bytes_cons (lit< tt) (bytes_cons (lit< tt) (bytes_cons (omega arith) (bytes_cons (omega arith) (bytes_cons (omega arith)
      (bytes_cons (omega arith) (bytes_zeros a (bytes_word w k)))))))))))))))))

  pub witness_length : length (witness d a w) ≡ 16 + (a + 4)
  unfolding witness word_bytes
  witness_length = rw (length-append (replicate a 0) (word_bytes w), length-replicate) (omega arith)

  pub witness_start : data_start_of (witness d a w) ≡ d
  unfolding witness load_n
  witness_start = omega arith

  pub witness_word : (n : ℕ) → a ≡ 4 * n → word_of (witness d a w) n ≡ w
  unfolding witness
  witness_word n e =
      let zeros : List ℕ = replicate a 0 in
      let at : 4 * n ≡ length zeros + 0 = sym e ∙ sym (rw length-replicate (add-zero a)) in
      ap (load_n 4 (zeros ++ word_bytes w)) at ∙ load_after 4 zeros (word_bytes w) 0 ∙ load_word w k

accepted_by : (len d : ℕ) → 16 < len → len - 16 ≤ 32768 → d ≤ len - 16 → 4 ≤ d → load_number (answer_by 32768 len 0xc0def00d 0 d) ≡ 0
unfolding answer_by size_ok
accepted_by len d h m s t =
    rw (le-leb 16 len (omega arith), lt-ltb 0 (len - 16) (omega arith), le-leb (len - 16) 32768 m, le-leb d (len - 16) s, le-leb 4 d t)

pub witness_accepted : (d a w : ℕ) → d < 2 ^ 32 → w < 2 ^ 32 → a < 32768 → a % 4 ≡ 0 → 4 ≤ d → d ≤ a + 4 → answer_of (witness d a w) ≡ 0
unfolding load_answer answer_by witness load_n
witness_accepted d a w h k b m t s =
    let len : length (witness d a w) ≡ 16 + (a + 4) = witness_length d a w h k in
    ap (λ (x : ℕ). load_number (answer_by 32768 (length (witness d a w)) 0xc0def00d 0 x)) (witness_start d a w h k)
    ∙ accepted_by (length (witness d a w)) d (omega arith) (omega arith) (omega arith) t
