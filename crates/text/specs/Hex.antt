-- Document 02, item 2: a word "as eight lower-case hexadecimal digits", written and read.
use Rattle.std.specs.Prelude.{ℕ, zero, suc, ◌+◌, ◌-◌, ◌*◌, ◌/◌, ◌%◌, ◌&&◌, List, [], ◌∷◌, ◌++◌, ltb, leb, get_or, if◌then◌else◌}

-- the byte of a digit; that of 0 is 48, that of 10 is `a`, 97
abbrev pub hex_digit : ℕ → ℕ
hex_digit d = if ltb d 10 then 48 + d else 87 + d

-- the low k digits of a number, most significant first
unfoldable pub hex_digits : ℕ → ℕ → List ℕ
hex_digits zero n = []
hex_digits (suc k) n = hex_digits k (n / 16) ++ (hex_digit (n % 16) ∷ [])

-- a word's
abbrev pub hex_of : ℕ → List ℕ
hex_of n = hex_digits 8 n

-- ---- and back

-- the number of a digit's byte; of any other byte 0
abbrev pub hex_number : ℕ → ℕ
hex_number x = if leb 48 x && ltb x 58 then x - 48 else (if leb 97 x && ltb x 103 then x - 87 else 0)

-- the number that the k bytes from `at` on stand for
unfoldable pub hex_value : ℕ → List ℕ → ℕ → ℕ
hex_value zero l at = 0
hex_value (suc k) l at = 16 * hex_value k l at + hex_number (get_or l (at + k) 0)
