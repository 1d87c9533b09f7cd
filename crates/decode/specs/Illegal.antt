-- The illegal opcode bytes, written out. Document 01, "What is emulated": "Illegal is each opcode whose line in 000 names f, g, rf, rg, double
-- or float, and each byte without a line there."
use Rattle.std.specs.Prelude.{List, [], ◌∷◌, Bool, false, ◌&&◌, ◌||◌, ℕ, ◌+◌, ◌-◌, leb}

-- the bytes from `first` to `last`
pub record Range : Type 0 where
  pub first : ℕ
  pub last : ℕ

infix 70 ◌to◌
-- a range, as the lists below write it
abbrev pub ◌to◌ : ℕ → ℕ → Range
a to b = record { first = a; last = b }

-- the opcodes whose line in source 000 names f, g, rf, rg, double or float
abbrev pub floating_point : List Range
floating_point =
    0x13 to 0x14 ∷  -- LLD, LLF
    0x1a to 0x1b ∷  -- LGD, LGF
    0x21 to 0x22 ∷  -- LXD, LXF
    0x25 to 0x25 ∷  -- LIF
    0x2b to 0x2c ∷  -- LBLD, LBLF
    0x32 to 0x33 ∷  -- LBGD, LBGF
    0x39 to 0x3a ∷  -- LBXD, LBXF
    0x3d to 0x3d ∷  -- LBIF
    0x3f to 0x3f ∷  -- LBAD
    0x43 to 0x44 ∷  -- SLD, SLF
    0x48 to 0x49 ∷  -- SGD, SGF
    0x4d to 0x52 ∷  -- SXD, SXF, ADDF, SUBF, MULF, DIVF
    0x7b to 0x7b ∷  -- EQF
    0x7d to 0x7d ∷  -- NEF
    0x80 to 0x80 ∷  -- LTF
    0x83 to 0x83 ∷  -- GEF
    0x85 to 0x85 ∷  -- BZF
    0x87 to 0x87 ∷  -- BNZF
    0x89 to 0x89 ∷  -- BEF
    0x8b to 0x8b ∷  -- BNEF
    0x8e to 0x8e ∷  -- BLTF
    0x91 to 0x95 ∷  -- BGEF, CID, CUD, CDI, CDU
    0x9f to 0x9f ∷  -- PSHF
    0xa2 to 0xa2 ∷  -- POPF
    0xb1 to 0xb2 ∷  -- PSHG, POPG
    0xbc to 0xbe ∷  -- POW, ATN2, FABS
    0xc0 to 0xd0 ∷  -- ATAN, LOG, LOGT, EXP, FLOR, CEIL, HYPO, SIN, COS, TAN, ASIN, ACOS, SINH, COSH, TANH, SQRT, FMOD
    []

-- the bytes without a line in source 000
abbrev pub unassigned : List Range
unassigned = 0xb3 to 0xbb ∷ 0xbf to 0xbf ∷ 0xd2 to 0xff ∷ []

-- the number of bytes in the ranges
abbrev pub size : List Range → ℕ
size [] = 0
size (r ∷ t) = (r.last + 1 - r.first) + size t

-- whether a byte lies in one of the ranges
abbrev pub within : List Range → ℕ → Bool
within [] x = false
within (r ∷ t) x = let rest = within t x in (leb r.first x && leb x r.last) || rest

-- whether an opcode byte is illegal
unfoldable pub illegal : ℕ → Bool
illegal x = within floating_point x || within unassigned x
