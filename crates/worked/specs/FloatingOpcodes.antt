-- Document 02, item 7: "the old mode keeps document 01's table". All 256 opcode bytes, computed, in each mode: which of them trap FINST. Memory is 64 bytes, with
-- the instruction at 0 and its frame below sp, 64.
use Rattle.std.specs.Prelude.{ℕ, zero, suc, ◌+◌, ◌-◌, ◌≡◌, refl, Bool, true, not, ◌&&◌, ◌||◌, List, [], ◌∷◌, eqb, get_or, if◌then◌else◌}
use Rattle.decode.specs.Illegal.{Range, ◌to◌, floating_point, unassigned, size, within}
use Rattle.paging.specs.declared.TrapCode.TheVariants.{Finst}
use Rattle.paging.specs.TrapCode.{code_number}
use Rattle.paging.specs.Translate.{buffered}
use Rattle.rules.specs.declared.Cpu.{Cpu}
use Rattle.worked.specs.Start.{fresh, put_sp, put_ivec, put_floats, with_doubles, enabled, ◌holds◌, memory}
use Rattle.worked.specs.Opened.{stepped}

-- ---- how it is tested

-- the lines of 000 that item 7 does not add
abbrev pub math_lines : List Range
math_lines =
    0xbc to 0xbd ∷  -- POW, ATN2
    0xc0 to 0xc3 ∷  -- ATAN, LOG, LOGT, EXP
    0xc6 to 0xd0 ∷  -- HYPO, SIN, COS, TAN, ASIN, ACOS, SINH, COSH, TANH, SQRT, FMOD
    []

abbrev same : Bool → Bool → Bool
same x y = if x then y else not y

-- f passes for every number below n
abbrev every : (ℕ → Bool) → ℕ → Bool
every f zero = true
every f (suc n) = let rest = every f n in f n && rest

-- the old mode, with bits in f and g
abbrev pub old : Cpu
old = enabled (put_ivec 32 (put_sp 64 (put_floats 3 9 fresh)))

-- a step on this word delivers FINST
unfoldable pub illegal_in : Cpu → ℕ → Bool
unfolding stepped
illegal_in c w =
    let t = stepped buffered [] (record { cpu = c; mem = memory 64 (0 holds (w ∷ []) ∷ []); console = []; buffer = [] }) in
    eqb t.state.cpu.regs.pc 32 && eqb (get_or t.state.mem 48 0) (code_number Finst)

-- ---- the tests

-- the old mode: each opcode whose line names f, g, rf, rg, double or float, and each byte without a line
pub old_mode_lem : every (λ op. same (illegal_in old op) (within floating_point op || within unassigned op)) 256 ≡ true
unfolding illegal_in
old_mode_lem = refl

-- the new mode: 17 of those lines, and each byte without one
pub new_mode : every (λ op. same (illegal_in (with_doubles old) op) (within math_lines op || within unassigned op)) 256 ≡ true
unfolding illegal_in
new_mode = refl

-- 119 bytes are illegal in the old mode, 73 in the new one, which so adds 46
pub counts : (size floating_point + size unassigned ≡ 119) × (size math_lines + size unassigned ≡ 73) × (size floating_point - size math_lines ≡ 46)
counts = (refl, refl, refl)
