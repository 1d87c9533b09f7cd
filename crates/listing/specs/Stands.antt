-- Document 02, item 2, in the code's steps: which lines stand in a listing, by the address and word that they name.
use Rattle.std.specs.Prelude.{ℕ, ◌*◌, ◌-◌, ◌%◌, ◌<◌, ◌≤◌, Bool, true, false, ◌&&◌, ◌||◌, List, [], ◌∷◌, eqb, ltb, leb, length}
use Rattle.mnemonics.specs.Line.{text_line, data_line}
use Rattle.listing.specs.Listing.{memory_size}

-- the file has an n-th word, and is no longer than the run program's memory
pub record HasWord (file : List ℕ) (n : ℕ) : Type 0 where
  pub header : 16 ≤ length file
  pub body : length file - 16 ≤ memory_size
  pub word : 4 * n < length file - 16

-- the same bytes
unfoldable pub equal : List ℕ → List ℕ → Bool
equal [] [] = true
equal [] (y ∷ ys) = false
equal (x ∷ xs) [] = false
equal (x ∷ xs) (y ∷ ys) = eqb x y && equal xs ys

-- a line of the word at the address, as text or, from address 4 on, as data: the word at 0 is always text, by refusal 11
unfoldable pub is_line_of : List ℕ → (address word : ℕ) → Bool
is_line_of line address word =
    eqb (address % 4) 0 && ltb address memory_size && (equal line (text_line address word) || (leb 4 address && equal line (data_line address word)))
