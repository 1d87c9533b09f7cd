-- Document 02, item 7: arithmetic, comparisons and conversions of doubles, by their patterns. 0x3ff0000000000000 is 1, 0xbff0000000000000 -1, 0x8000000000000000 -0,
-- 0x7ff0000000000000 infinity, 0x7ff8000000000000 the NaN of results.
use Rattle.std.specs.Prelude.{ℕ, List, [], ◌∷◌}
use Rattle.rules.specs.declared.Cpu.{Cpu}
use Rattle.rules.specs.Record.{put_a}
use Rattle.worked.specs.Start.{fresh, put_sp, put_floats, with_doubles, enabled, small}
use Rattle.worked.specs.Line.{a, f, g, pc, stop, word, ◌is◌, Line, line, Both, Hold, done, ◌also◌}

-- f and g, in the new mode; sp is 0x100
abbrev floats : (f g : ℕ) → Cpu
floats x y = with_doubles (put_floats x y (put_sp 0x100 fresh))

abbrev pub arithmetic : List Line
arithmetic =
    -- "Arithmetic is IEEE 754 double, one rounding each": 0.1 + 0.2, 0.3 - 0.1, 0.1 * 0.1, 1 / 3; no other register changes
    line (floats 0x3fb999999999999a 0x3fc999999999999a) (small (0x4f ∷ [])) 1 (f is 0x3fd3333333333334 ∷ g is 0x3fc999999999999a ∷ a is 0 ∷ pc is 4 ∷ []) ∷
    line (floats 0x3fd3333333333333 0x3fb999999999999a) (small (0x50 ∷ [])) 1 (f is 0x3fc9999999999999 ∷ []) ∷
    line (floats 0x3fb999999999999a 0x3fb999999999999a) (small (0x51 ∷ [])) 1 (f is 0x3f847ae147ae147c ∷ []) ∷
    line (floats 0x3ff0000000000000 0x4008000000000000) (small (0x52 ∷ [])) 1 (f is 0x3fd5555555555555 ∷ []) ∷
    -- 2^53 + 1 is a tie, and goes to even; so does 2^53 + 3, upward
    line (floats 0x4340000000000000 0x3ff0000000000000) (small (0x4f ∷ [])) 1 (f is 0x4340000000000000 ∷ []) ∷
    line (floats 0x4340000000000000 0x4008000000000000) (small (0x4f ∷ [])) 1 (f is 0x4340000000000002 ∷ []) ∷
    -- "DIVF by zero without a fault": 1 / 0, -1 / 0, 1 / -0
    line (floats 0x3ff0000000000000 0) (small (0x52 ∷ [])) 1 (f is 0x7ff0000000000000 ∷ stop is 0 ∷ pc is 4 ∷ []) ∷
    line (floats 0xbff0000000000000 0) (small (0x52 ∷ [])) 1 (f is 0xfff0000000000000 ∷ stop is 0 ∷ []) ∷
    line (floats 0x3ff0000000000000 0x8000000000000000) (small (0x52 ∷ [])) 1 (f is 0xfff0000000000000 ∷ stop is 0 ∷ []) ∷
    -- "a NaN result .. is always 0x7FF8000000000000": 0 / 0, inf - inf, inf * 0
    line (floats 0 0) (small (0x52 ∷ [])) 1 (f is 0x7ff8000000000000 ∷ stop is 0 ∷ []) ∷
    line (floats 0x7ff0000000000000 0x7ff0000000000000) (small (0x50 ∷ [])) 1 (f is 0x7ff8000000000000 ∷ []) ∷
    line (floats 0x7ff0000000000000 0) (small (0x51 ∷ [])) 1 (f is 0x7ff8000000000000 ∷ []) ∷
    -- whatever the operands' payload and sign, signalling or not: f, g
    line (floats 0xfff0000000000001 0x3ff0000000000000) (small (0x4f ∷ [])) 1 (f is 0x7ff8000000000000 ∷ stop is 0 ∷ []) ∷
    line (floats 0x3ff0000000000000 0xfff8000000000123) (small (0x51 ∷ [])) 1 (f is 0x7ff8000000000000 ∷ g is 0xfff8000000000123 ∷ []) ∷
    -- ".. of FABS, FLOR, CEIL"
    line (floats 0xfff0000000000001 0) (small (0xbe ∷ [])) 1 (f is 0x7ff8000000000000 ∷ []) ∷
    line (floats 0xfff0000000000001 0) (small (0xc4 ∷ [])) 1 (f is 0x7ff8000000000000 ∷ []) ∷
    line (floats 0xfff0000000000001 0) (small (0xc5 ∷ [])) 1 (f is 0x7ff8000000000000 ∷ []) ∷
    -- subnormals: the least, doubled; the least, halved, is a tie and 0; the least normal, halved; the greatest subnormal and the least
    line (floats 1 1) (small (0x4f ∷ [])) 1 (f is 2 ∷ []) ∷
    line (floats 1 0x3fe0000000000000) (small (0x51 ∷ [])) 1 (f is 0 ∷ []) ∷
    line (floats 0x0010000000000000 0x3fe0000000000000) (small (0x51 ∷ [])) 1 (f is 0x0008000000000000 ∷ []) ∷
    line (floats 0x000fffffffffffff 1) (small (0x4f ∷ [])) 1 (f is 0x0010000000000000 ∷ []) ∷
    -- the greatest, doubled, is infinity; 1 - 1 is 0, and -0 + -0 is -0
    line (floats 0x7fefffffffffffff 0x7fefffffffffffff) (small (0x4f ∷ [])) 1 (f is 0x7ff0000000000000 ∷ []) ∷
    line (floats 0x3ff0000000000000 0x3ff0000000000000) (small (0x50 ∷ [])) 1 (f is 0 ∷ []) ∷
    line (floats 0x8000000000000000 0x8000000000000000) (small (0x4f ∷ [])) 1 (f is 0x8000000000000000 ∷ []) ∷
    -- FABS is of f alone: -2.5
    line (floats 0xc004000000000000 0xbff0000000000000) (small (0xbe ∷ [])) 1 (f is 0x4004000000000000 ∷ g is 0xbff0000000000000 ∷ []) ∷
    -- FLOR and CEIL: -0.5, 2.5; -0 and infinities stay
    line (floats 0xbfe0000000000000 0) (small (0xc4 ∷ [])) 1 (f is 0xbff0000000000000 ∷ []) ∷
    line (floats 0xbfe0000000000000 0) (small (0xc5 ∷ [])) 1 (f is 0x8000000000000000 ∷ []) ∷
    line (floats 0x4004000000000000 0) (small (0xc4 ∷ [])) 1 (f is 0x4000000000000000 ∷ []) ∷
    line (floats 0x4004000000000000 0) (small (0xc5 ∷ [])) 1 (f is 0x4008000000000000 ∷ []) ∷
    line (floats 0x8000000000000000 0) (small (0xc4 ∷ [])) 1 (f is 0x8000000000000000 ∷ []) ∷
    line (floats 0xfff0000000000000 0) (small (0xc5 ∷ [])) 1 (f is 0xfff0000000000000 ∷ []) ∷
    []

pub arithmetic_hold : Hold arithmetic
unfolding Both
arithmetic_hold =
    (tt, tt) also  -- ADDF of 0.1 and 0.2
    (tt, tt) also  -- SUBF of 0.3 and 0.1
    (tt, tt) also  -- MULF of 0.1 and 0.1
    (tt, tt) also  -- DIVF of 1 by 3
    (tt, tt) also  -- a tie, down
    (tt, tt) also  -- a tie, up
    (tt, tt) also  -- 1 by 0
    (tt, tt) also  -- -1 by 0
    (tt, tt) also  -- 1 by -0
    (tt, tt) also  -- 0 by 0
    (tt, tt) also  -- infinity less infinity
    (tt, tt) also  -- infinity by 0
    (tt, tt) also  -- a NaN in f
    (tt, tt) also  -- a NaN in g
    (tt, tt) also  -- FABS of a NaN
    (tt, tt) also  -- FLOR of a NaN
    (tt, tt) also  -- CEIL of a NaN
    (tt, tt) also  -- a sum of subnormals
    (tt, tt) also  -- half of the least
    (tt, tt) also  -- half of the least normal
    (tt, tt) also  -- a subnormal sum becomes normal
    (tt, tt) also  -- overflow
    (tt, tt) also  -- 1 less 1
    (tt, tt) also  -- -0 and -0
    (tt, tt) also  -- FABS
    (tt, tt) also  -- FLOR of -0.5
    (tt, tt) also  -- CEIL of -0.5
    (tt, tt) also  -- FLOR of 2.5
    (tt, tt) also  -- CEIL of 2.5
    (tt, tt) also  -- FLOR of -0
    (tt, tt) also  -- CEIL of -infinity
    done

abbrev pub comparisons : List Line
comparisons =
    -- "GEF and BGEF are ≥": equal; and GEF is not what LTF is not, of a NaN
    line (floats 0x3ff0000000000000 0x3ff0000000000000) (small (0x83 ∷ [])) 1 (a is 1 ∷ []) ∷
    line (floats 0x3ff0000000000000 0x3ff0000000000000) (small (0x1091 ∷ [])) 1 (pc is 0x14 ∷ []) ∷
    line (floats 0xbff0000000000000 0x3ff0000000000000) (small (0x83 ∷ [])) 1 (a is 0 ∷ []) ∷
    line (floats 0x7ff8000000000000 0x3ff0000000000000) (small (0x83 ∷ [])) 1 (a is 0 ∷ []) ∷
    line (floats 0x3ff0000000000000 0x7ff8000000000000) (small (0x80 ∷ [])) 1 (a is 0 ∷ []) ∷
    line (floats 0x7ff8000000000000 0x3ff0000000000000) (small (0x1091 ∷ [])) 1 (pc is 4 ∷ []) ∷
    line (floats 0x7ff8000000000000 0x3ff0000000000000) (small (0x108e ∷ [])) 1 (pc is 4 ∷ []) ∷
    -- LTF, BLTF: -1 and 1
    line (floats 0xbff0000000000000 0x3ff0000000000000) (small (0x80 ∷ [])) 1 (a is 1 ∷ []) ∷
    line (floats 0xbff0000000000000 0x3ff0000000000000) (small (0x108e ∷ [])) 1 (pc is 0x14 ∷ []) ∷
    -- a NaN differs from itself: NEF, BNEF, BNZF hold, EQF, BEF and BZF don't
    line (floats 0x7ff8000000000000 0x7ff8000000000000) (small (0x7d ∷ [])) 1 (a is 1 ∷ []) ∷
    line (floats 0x7ff8000000000000 0x7ff8000000000000) (small (0x7b ∷ [])) 1 (a is 0 ∷ []) ∷
    line (floats 0x7ff8000000000000 0x7ff8000000000000) (small (0x108b ∷ [])) 1 (pc is 0x14 ∷ []) ∷
    line (floats 0x7ff8000000000000 0x7ff8000000000000) (small (0x1089 ∷ [])) 1 (pc is 4 ∷ []) ∷
    line (floats 0x7ff8000000000000 0) (small (0x1087 ∷ [])) 1 (pc is 0x14 ∷ []) ∷
    line (floats 0x7ff8000000000000 0) (small (0x1085 ∷ [])) 1 (pc is 4 ∷ []) ∷
    -- -0 equals 0: EQF, BZF, BNZF; f and g stay
    line (floats 0x8000000000000000 0) (small (0x7b ∷ [])) 1 (a is 1 ∷ f is 0x8000000000000000 ∷ g is 0 ∷ []) ∷
    line (floats 0x8000000000000000 7) (small (0x1085 ∷ [])) 1 (pc is 0x14 ∷ []) ∷
    line (floats 0x8000000000000000 7) (small (0x1087 ∷ [])) 1 (pc is 4 ∷ []) ∷
    []

pub comparisons_hold : Hold comparisons
unfolding Both
comparisons_hold =
    (tt, tt) also  -- GEF, equal
    (tt, tt) also  -- BGEF, equal
    (tt, tt) also  -- GEF, less
    (tt, tt) also  -- GEF of a NaN
    (tt, tt) also  -- LTF of a NaN
    (tt, tt) also  -- BGEF of a NaN
    (tt, tt) also  -- BLTF of a NaN
    (tt, tt) also  -- LTF
    (tt, tt) also  -- BLTF
    (tt, tt) also  -- NEF of a NaN
    (tt, tt) also  -- EQF of a NaN
    (tt, tt) also  -- BNEF of a NaN
    (tt, tt) also  -- BEF of a NaN
    (tt, tt) also  -- BNZF of a NaN
    (tt, tt) also  -- BZF of a NaN
    (tt, tt) also  -- EQF of -0 and 0
    (tt, tt) also  -- BZF of -0
    (tt, tt) also  -- BNZF of -0
    done

abbrev pub conversions : List Line
conversions =
    -- "CDI and CDU cut toward zero": -1.9, 2.5
    line (floats 0xbffe666666666666 0) (small (0x94 ∷ [])) 1 (a is 0xffffffff ∷ f is 0xbffe666666666666 ∷ []) ∷
    line (floats 0x4004000000000000 0) (small (0x95 ∷ [])) 1 (a is 2 ∷ []) ∷
    -- ".. a value that doesn't fit afterwards": -2147483648.9, 2147483647.9, -0.9 and 4294967295.9 fit
    line (floats 0xc1e00000001ccccd 0) (small (0x94 ∷ [])) 1 (a is 0x80000000 ∷ stop is 0 ∷ []) ∷
    line (floats 0x41dffffffff9999a 0) (small (0x94 ∷ [])) 1 (a is 0x7fffffff ∷ stop is 0 ∷ []) ∷
    line (put_a 7 (floats 0xbfeccccccccccccd 0)) (small (0x95 ∷ [])) 1 (a is 0 ∷ stop is 0 ∷ []) ∷
    line (floats 0x41effffffffccccd 0) (small (0x95 ∷ [])) 1 (a is 0xffffffff ∷ stop is 0 ∷ []) ∷
    -- "NaN or a value that doesn't fit afterwards is FARITH", 6 in the frame with the next instruction's address; a, f and g stay
    line (enabled (put_a 7 (floats 0x41e0000000000000 9))) (small (0x94 ∷ [])) 1 (word 0xf0 is 6 ∷ word 0xf8 is 4 ∷ a is 7 ∷ f is 0x41e0000000000000 ∷ g is 9 ∷ []) ∷
    line (enabled (put_a 7 (floats 0xc1e0000000200000 9))) (small (0x94 ∷ [])) 1 (word 0xf0 is 6 ∷ word 0xf8 is 4 ∷ a is 7 ∷ f is 0xc1e0000000200000 ∷ g is 9 ∷ []) ∷
    line (enabled (put_a 7 (floats 0xfff8000000000001 9))) (small (0x94 ∷ [])) 1 (word 0xf0 is 6 ∷ word 0xf8 is 4 ∷ a is 7 ∷ f is 0xfff8000000000001 ∷ g is 9 ∷ []) ∷
    line (enabled (put_a 7 (floats 0x7ff0000000000000 9))) (small (0x94 ∷ [])) 1 (word 0xf0 is 6 ∷ word 0xf8 is 4 ∷ a is 7 ∷ f is 0x7ff0000000000000 ∷ g is 9 ∷ []) ∷
    line (enabled (put_a 7 (floats 0xbff0000000000000 9))) (small (0x95 ∷ [])) 1 (word 0xf0 is 6 ∷ word 0xf8 is 4 ∷ a is 7 ∷ f is 0xbff0000000000000 ∷ g is 9 ∷ []) ∷
    line (enabled (put_a 7 (floats 0x41f0000000000000 9))) (small (0x95 ∷ [])) 1 (word 0xf0 is 6 ∷ word 0xf8 is 4 ∷ a is 7 ∷ f is 0x41f0000000000000 ∷ g is 9 ∷ []) ∷
    line (enabled (put_a 7 (floats 0xfff8000000000001 9))) (small (0x95 ∷ [])) 1 (word 0xf0 is 6 ∷ word 0xf8 is 4 ∷ a is 7 ∷ f is 0xfff8000000000001 ∷ g is 9 ∷ []) ∷
    -- CID takes a as a signed word, CUD as an unsigned one: 0xffffffff
    line (put_a 0xffffffff (floats 5 9)) (small (0x92 ∷ [])) 1 (f is 0xbff0000000000000 ∷ g is 9 ∷ a is 0xffffffff ∷ []) ∷
    line (put_a 0xffffffff (floats 5 9)) (small (0x93 ∷ [])) 1 (f is 0x41efffffffe00000 ∷ g is 9 ∷ []) ∷
    -- "LIF, LBIF": f = -1; "loads to b mean g": g = 5
    line (floats 3 9) (small (0xffffff25 ∷ [])) 1 (f is 0xbff0000000000000 ∷ g is 9 ∷ []) ∷
    line (floats 3 9) (small (0x53d ∷ [])) 1 (f is 3 ∷ g is 0x4014000000000000 ∷ []) ∷
    -- LBAD: g = f, with a NaN's bits
    line (floats 0xfff0000000000001 9) (small (0x3f ∷ [])) 1 (f is 0xfff0000000000001 ∷ g is 0xfff0000000000001 ∷ []) ∷
    []

pub conversions_hold : Hold conversions
unfolding Both
conversions_hold =
    (tt, tt) also  -- CDI of -1.9
    (tt, tt) also  -- CDU of 2.5
    (tt, tt) also  -- CDI of -2147483648.9
    (tt, tt) also  -- CDI of 2147483647.9
    (tt, tt) also  -- CDU of -0.9
    (tt, tt) also  -- CDU of 4294967295.9
    (tt, tt) also  -- CDI of 2147483648
    (tt, tt) also  -- CDI of -2147483649
    (tt, tt) also  -- CDI of a NaN
    (tt, tt) also  -- CDI of infinity
    (tt, tt) also  -- CDU of -1
    (tt, tt) also  -- CDU of 2^32
    (tt, tt) also  -- CDU of a NaN
    (tt, tt) also  -- CID
    (tt, tt) also  -- CUD
    (tt, tt) also  -- LIF -1
    (tt, tt) also  -- LBIF 5
    (tt, tt) also  -- LBAD
    done
