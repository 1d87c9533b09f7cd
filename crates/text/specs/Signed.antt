-- Document 02, item 2: "signed operand in decimal".
use Rattle.std.specs.Prelude.{ℕ, ◌-◌, ◌^◌, List, ◌∷◌, ltb, if◌then◌else◌}
use Rattle.text.specs.Digits.{decimal_of}

-- a word as a signed number; the byte of the minus sign is 45
unfoldable pub signed_of : ℕ → List ℕ
signed_of w = if ltb w (2 ^ 31) then decimal_of w else 45 ∷ decimal_of (2 ^ 32 - w)
