-- Document 01, "Worked lines": the line that the run program prints, as its bytes.
use Rattle.std.specs.Prelude.{ℕ, ◌≤◌, ◌≡◌, List, [], ◌∷◌, ◌++◌, length, take}
use Rattle.rules.specs.declared.Regs.{Regs}
use Rattle.text.specs.Digits.{decimal_of}

-- ---- the fixed bytes

-- "stop "
abbrev pub stop_name : List ℕ
stop_name = 115 ∷ 116 ∷ 111 ∷ 112 ∷ 32 ∷ []

-- " steps "
abbrev pub steps_name : List ℕ
steps_name = 32 ∷ 115 ∷ 116 ∷ 101 ∷ 112 ∷ 115 ∷ 32 ∷ []

-- " a "
abbrev pub a_name : List ℕ
a_name = 32 ∷ 97 ∷ 32 ∷ []

-- " b "
abbrev pub b_name : List ℕ
b_name = 32 ∷ 98 ∷ 32 ∷ []

-- " c "
abbrev pub c_name : List ℕ
c_name = 32 ∷ 99 ∷ 32 ∷ []

-- " sp "
abbrev pub sp_name : List ℕ
sp_name = 32 ∷ 115 ∷ 112 ∷ 32 ∷ []

-- " pc "
abbrev pub pc_name : List ℕ
pc_name = 32 ∷ 112 ∷ 99 ∷ 32 ∷ []

-- "refused "
abbrev pub refused_name : List ℕ
refused_name = 114 ∷ 101 ∷ 102 ∷ 117 ∷ 115 ∷ 101 ∷ 100 ∷ 32 ∷ []

-- ---- the two lines

-- a name, and its number
abbrev pub named : List ℕ → ℕ → List ℕ
named name n = name ++ decimal_of n

-- `stop S steps N a A b B c C sp SP pc PC`
unfoldable pub stop_line : (stop steps : ℕ) → Regs → List ℕ
stop_line stop steps r =
    named stop_name stop
    ++ named steps_name steps
    ++ named a_name r.a
    ++ named b_name r.b
    ++ named c_name r.c
    ++ named sp_name r.sp
    ++ named pc_name r.pc

-- `refused N`
unfoldable pub refused_line : ℕ → List ℕ
refused_line n = named refused_name n

-- the first r bytes of l are a line; the last two parts follow from the others, and stand here for callers that lend those bytes on
pub record Shows (text l : List ℕ) (r : ℕ) : Type 0 where
  pub end : r ≡ length text
  pub front : take r l ≡ text
  pub within : r ≤ length l
  pub counts : r ≡ length (take r l)
