-- Document 02, item 2: "A second entry must turn each listed line, without its newline, back into the address and word it came from";
-- "Refusals: 12, a line that stands in no accepted file's listing".
use Rattle.std.specs.Prelude.{ℕ, ◌*◌, ◌<◌, List, ◌≡◌, get_or, Result, Ok, Err}
use Rattle.listing.specs.declared.LineRefusal.{LineRefusal}
use Rattle.listing.specs.declared.LineRefusal.TheVariants.{Unlisted}
use Rattle.listing.specs.declared.LineRead.{LineRead}
use Rattle.listing.specs.Listing.{answer_of, word_of, words_of, line_of}

-- the numbers of the answers
abbrev pub line_number : Result Unit LineRefusal → ℕ
line_number (Ok tt) = 0
line_number (Err Unlisted) = 12

-- a file is of bytes
pub record Bytes (l : List ℕ) : Type 0 where
  pub below : (i : ℕ) → get_or l i 0 < 256

-- an accepted file in whose listing the line came from the word at the address
pub record Listed (line : List ℕ) (address word : ℕ) : Type 0 where
  pub file : List ℕ
  pub bytes : Bytes file
  pub accepted : answer_of file ≡ 0
  pub number : ℕ
  pub within : number < words_of file
  pub stands : line ≡ line_of file number
  pub place : address ≡ 4 * number
  pub content : word ≡ word_of file number

-- what reading a line gives, by its answer; refused, both numbers are 0
abbrev pub ReadBy : Result Unit LineRefusal → List ℕ → (address word : ℕ) → Type 0
ReadBy (Ok tt) line address word = Listed line address word
ReadBy (Err Unlisted) line address word = ((a w : ℕ) → Listed line a w → ⊥) × (address ≡ 0) × (word ≡ 0)

-- the refusal
abbrev pub no_read : LineRead
no_read = record { answer = Err Unlisted; address = 0; word = 0 }

abbrev pub Reads : List ℕ → LineRead → Type 0
Reads line r = ReadBy r.answer line r.address r.word
