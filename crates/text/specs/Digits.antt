-- Document 01, "Worked lines": "Numbers are in decimal, most significant digit first, without leading zeros". A text is its list of bytes.
use Rattle.std.specs.Prelude.{ℕ, zero, suc, ◌+◌, ◌/◌, ◌%◌, List, [], ◌∷◌, ◌++◌, ltb, if◌then◌else◌}

-- the byte of a digit; that of 0 is 48
abbrev pub digit_of : ℕ → ℕ
digit_of d = 48 + d

-- the digits of a number of at most k digits
unfoldable pub digits : ℕ → ℕ → List ℕ
digits zero n = []
digits (suc k) n = if ltb n 10 then digit_of n ∷ [] else digits k (n / 10) ++ (digit_of (n % 10) ∷ [])

-- a number of 64 bits has at most 20
abbrev pub decimal_of : ℕ → List ℕ
decimal_of n = digits 20 n
