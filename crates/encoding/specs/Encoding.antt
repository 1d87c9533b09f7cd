-- Document 02, item 5: "little-endian words"; "64 bits take eight bytes, all else a word". Numbers of both widths, one after another.
use Rattle.std.specs.Prelude.{ℕ, zero, suc, ◌+◌, ◌/◌, ◌%◌, ◌^◌, ◌<◌, List, [], ◌∷◌, ◌++◌, ◌≡◌}
use Rattle.memory.specs.Memory.{load_n}
use Rattle.encoding.specs.declared.Width.{Width}
use Rattle.encoding.specs.declared.Width.TheVariants.{Four, Eight}

-- the bytes that a number takes: eight are for 64 bits
abbrev pub width : Width → ℕ
width Four = 4
width Eight = 8

-- of numbers with these widths
unfoldable pub widths : List Width → ℕ
widths [] = 0
widths (w ∷ ls) = width w + widths ls

-- the low n bytes of a number, the lowest first
unfoldable pub little_endian : ℕ → ℕ → List ℕ
little_endian zero v = []
little_endian (suc n) v = v % 256 ∷ little_endian n (v / 256)

-- numbers as bytes, each in its width
unfoldable pub encoded : List Width → List ℕ → List ℕ
unfolding little_endian
encoded [] vs = []
encoded (w ∷ ls) [] = []
encoded (w ∷ ls) (v ∷ vs) = little_endian (width w) v ++ encoded ls vs

-- the numbers that stand in a file from a place on
unfoldable pub decoded : List Width → List ℕ → ℕ → List ℕ
unfolding load_n
decoded [] file at = []
decoded (w ∷ ls) file at = load_n (width w) file at ∷ decoded ls file (at + width w)

-- numbers that their widths hold
unfoldable pub Fitting : List Width → List ℕ → Type 0
Fitting [] vs = Unit
Fitting (w ∷ ls) [] = Unit
Fitting (w ∷ ls) (v ∷ vs) = (v < 256 ^ width w) × Fitting ls vs

-- what a reader of numbers gives
pub record Decoded (ls : List Width) (file : List ℕ) (at : ℕ) (vs : List ℕ) : Type 0 where
  pub same : vs ≡ decoded ls file at
  pub fitting : Fitting ls vs
