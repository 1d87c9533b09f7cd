-- Document 02, item 7: loads, stores, pushes and pops of doubles and singles.
use Rattle.std.specs.Prelude.{ℕ, List, [], ◌∷◌}
use Rattle.rules.specs.declared.Cpu.{Cpu}
use Rattle.rules.specs.Record.{put_a}
use Rattle.worked.specs.Start.{fresh, put_b, put_sp, put_floats, with_doubles, in_user, ◌holds◌, memory, small}
use Rattle.worked.specs.Line.{a, b, f, g, sp, pc, vadr, cause, user, stop, word, long, ◌is◌, Line, line, Both, Hold, done, ◌also◌}
use Rattle.worked.specs.Pages.{kernel, tables}

-- f and g, in the new mode; sp is 0x100
abbrev floats : (f g : ℕ) → Cpu
floats x y = with_doubles (put_floats x y (put_sp 0x100 fresh))

-- f, in the new mode, with the pages of Pages
abbrev paged : (f : ℕ) → Cpu
paged x = with_doubles (put_floats x 9 kernel)

-- SLF of a double stores this single, four bytes of it, and f stays
abbrev narrows : (double single : ℕ) → Line
narrows x w = line (floats x 9) (memory 4096 (0 holds (0x44 ∷ []) ∷ 0x100 holds (0xffffffff ∷ 0xffffffff ∷ []) ∷ [])) 1 (word 0x100 is w ∷ word 0x104 is 0xffffffff ∷ f is x ∷ [])

abbrev pub loads : List Line
loads =
    -- "Loads to a .. mean f; loads to b mean g": LLD, LGD, LXD; LBLD, LBGD, LBXD. Eight bytes, a and b stay
    line (floats 3 9) (memory 4096 (0 holds (0x13 ∷ []) ∷ 0x100 holds (0x55667788 ∷ 0x11223344 ∷ []) ∷ [])) 1 (f is 0x1122334455667788 ∷ g is 9 ∷ a is 0 ∷ []) ∷
    line (floats 3 9) (memory 4096 (0 holds (0xfc1a ∷ []) ∷ 0x100 holds (0x55667788 ∷ 0x11223344 ∷ []) ∷ [])) 1 (f is 0x1122334455667788 ∷ g is 9 ∷ []) ∷
    line (put_a 0xf8 (put_b 0x300 (floats 3 9))) (memory 4096 (0 holds (0x821 ∷ []) ∷ 0x100 holds (0x55667788 ∷ 0x11223344 ∷ []) ∷ [])) 1
    (f is 0x1122334455667788 ∷ g is 9 ∷ a is 0xf8 ∷ []) ∷
    line (floats 3 9) (memory 4096 (0 holds (0x2b ∷ []) ∷ 0x100 holds (0x55667788 ∷ 0x11223344 ∷ []) ∷ [])) 1 (f is 3 ∷ g is 0x1122334455667788 ∷ []) ∷
    line (floats 3 9) (memory 4096 (0 holds (0xfc32 ∷ []) ∷ 0x100 holds (0x55667788 ∷ 0x11223344 ∷ []) ∷ [])) 1 (f is 3 ∷ g is 0x1122334455667788 ∷ []) ∷
    line (put_a 0x300 (put_b 0xf8 (floats 3 9))) (memory 4096 (0 holds (0x839 ∷ []) ∷ 0x100 holds (0x55667788 ∷ 0x11223344 ∷ []) ∷ [])) 1
    (f is 3 ∷ g is 0x1122334455667788 ∷ b is 0xf8 ∷ []) ∷
    -- a load is no result: a NaN keeps its bits
    line (floats 3 9) (memory 4096 (0 holds (0x13 ∷ []) ∷ 0x100 holds (1 ∷ 0xfff00000 ∷ []) ∷ [])) 1 (f is 0xfff0000000000001 ∷ []) ∷
    -- "Single precision is widened exactly": 1.5, the least single, -infinity; "a NaN result, .. of widening too"
    line (floats 3 9) (memory 4096 (0 holds (0x14 ∷ []) ∷ 0x100 holds (0x3fc00000 ∷ 7 ∷ []) ∷ [])) 1 (f is 0x3ff8000000000000 ∷ g is 9 ∷ []) ∷
    line (floats 3 9) (memory 4096 (0 holds (0x14 ∷ []) ∷ 0x100 holds (1 ∷ []) ∷ [])) 1 (f is 0x36a0000000000000 ∷ []) ∷
    line (floats 3 9) (memory 4096 (0 holds (0x2c ∷ []) ∷ 0x100 holds (0xff800000 ∷ []) ∷ [])) 1 (f is 3 ∷ g is 0xfff0000000000000 ∷ []) ∷
    line (floats 3 9) (memory 4096 (0 holds (0x14 ∷ []) ∷ 0x100 holds (0xff800001 ∷ []) ∷ [])) 1 (f is 0x7ff8000000000000 ∷ []) ∷
    -- "eight-byte accesses drop three address bits", those of singles two: LXD at 0x107, LXF at 0x107
    line (put_a 0x107 (floats 3 9)) (memory 4096 (0 holds (0x21 ∷ []) ∷ 0x100 holds (0x55667788 ∷ 0x11223344 ∷ []) ∷ [])) 1 (f is 0x1122334455667788 ∷ []) ∷
    line (put_a 0x107 (floats 3 9)) (memory 4096 (0 holds (0x22 ∷ []) ∷ 0x100 holds (0 ∷ 0x3f800000 ∷ []) ∷ [])) 1 (f is 0x3ff0000000000000 ∷ []) ∷
    -- a refused access: vadr is "the address asked, before low bits drop"; no register changes. LXD, SXD beyond memory
    line (put_a 0x1005 (floats 3 9)) (small (0x21 ∷ [])) 1 (stop is 2 ∷ vadr is 0x1005 ∷ cause is 1 ∷ f is 3 ∷ pc is 0 ∷ []) ∷
    line (put_b 0x1005 (floats 3 9)) (small (0x4d ∷ [])) 1 (stop is 2 ∷ vadr is 0x1005 ∷ f is 3 ∷ []) ∷
    []

pub loads_hold : Hold loads
unfolding Both
loads_hold =
    (tt, tt) also  -- LLD
    (tt, tt) also  -- LGD
    (tt, tt) also  -- LXD
    (tt, tt) also  -- LBLD
    (tt, tt) also  -- LBGD
    (tt, tt) also  -- LBXD
    (tt, tt) also  -- LLD of a NaN
    (tt, tt) also  -- LLF of 1.5
    (tt, tt) also  -- LLF of the least single
    (tt, tt) also  -- LBLF of -infinity
    (tt, tt) also  -- LLF of a NaN
    (tt, tt) also  -- LXD at an odd address
    (tt, tt) also  -- LXF at an odd address
    (tt, tt) also  -- LXD, refused
    (tt, tt) also  -- SXD, refused
    done

abbrev pub stores : List Line
stores =
    -- "Loads to a, and stores, mean f": SXD at b + imm, three bits dropped; g stays out. The bytes beside stay
    line (put_b 0x103 (floats 0x1122334455667788 9)) (memory 4096 (0 holds (0x104d ∷ []) ∷ 0x10c holds (0xffffffff ∷ 0xffffffff ∷ 0xffffffff ∷ 0xffffffff ∷ []) ∷ [])) 1
    (word 0x10c is 0xffffffff ∷ long 0x110 is 0x1122334455667788 ∷ word 0x118 is 0xffffffff ∷ f is 0x1122334455667788 ∷ g is 9 ∷ []) ∷
    -- SLD, SGD; a NaN keeps its bits
    line (floats 0xfff0000000000001 9) (small (0x43 ∷ [])) 1 (long 0x100 is 0xfff0000000000001 ∷ []) ∷
    line (floats 0x1122334455667788 9) (small (0xfc48 ∷ [])) 1 (long 0x100 is 0x1122334455667788 ∷ []) ∷
    -- ".. narrowed to nearest, ties to even": SLF of 1 + 2^-24, 1 + 3 * 2^-24; four bytes
    narrows 0x3ff0000010000000 0x3f800000 ∷
    narrows 0x3ff0000030000000 0x3f800002 ∷
    -- just above a tie; the greatest single is met up to a tie, which is infinity; the greatest double
    narrows 0x3ff0000010000001 0x3f800001 ∷
    narrows 0x47efffffefffffff 0x7f7fffff ∷
    narrows 0xc7effffff0000000 0xff800000 ∷
    narrows 0x7fefffffffffffff 0x7f800000 ∷
    -- subnormal singles: 2^-149, its half, three halves of it; -0
    narrows 0x36a0000000000000 1 ∷
    narrows 0x3690000000000000 0 ∷
    narrows 0x36a8000000000000 2 ∷
    narrows 0x8000000000000000 0x80000000 ∷
    -- "(narrowed, 0x7FC00000)"
    narrows 0xfff0000000000001 0x7fc00000 ∷
    -- "PSHF and PSHG store eight bytes": sp is 8 less; POPG then takes all of them
    line (floats 0xfff0000000000001 9) (small (0x9f ∷ 0xb2 ∷ [])) 1 (long 0xf8 is 0xfff0000000000001 ∷ sp is 0xf8 ∷ f is 0xfff0000000000001 ∷ g is 9 ∷ []) ∷
    line (floats 0xfff0000000000001 9) (small (0x9f ∷ 0xb2 ∷ [])) 2 (g is 0xfff0000000000001 ∷ f is 0xfff0000000000001 ∷ sp is 0x100 ∷ long 0xf8 is 0xfff0000000000001 ∷ []) ∷
    line (floats 3 0x1122334455667788) (small (0xb1 ∷ 0xa2 ∷ [])) 1 (long 0xf8 is 0x1122334455667788 ∷ sp is 0xf8 ∷ []) ∷
    line (floats 3 0x1122334455667788) (small (0xb1 ∷ 0xa2 ∷ [])) 2 (f is 0x1122334455667788 ∷ g is 0x1122334455667788 ∷ sp is 0x100 ∷ []) ∷
    -- a refused push or pop changes no register: sp 0, sp 0x1000
    line (put_sp 0 (floats 3 9)) (small (0x9f ∷ [])) 1 (stop is 2 ∷ sp is 0 ∷ vadr is 0xfffffff8 ∷ []) ∷
    line (put_sp 0x1000 (floats 3 9)) (small (0xa2 ∷ [])) 1 (stop is 2 ∷ sp is 0x1000 ∷ vadr is 0x1000 ∷ f is 3 ∷ []) ∷
    []

pub stores_hold : Hold stores
unfolding Both
stores_hold =
    (tt, tt) also  -- SXD
    (tt, tt) also  -- SLD of a NaN
    (tt, tt) also  -- SGD
    (tt, tt) also  -- SLF of 1 + 2^-24
    (tt, tt) also  -- SLF of 1 + 3 * 2^-24
    (tt, tt) also  -- SLF just above a tie
    (tt, tt) also  -- SLF of the greatest below the tie
    (tt, tt) also  -- SLF of the tie, negative
    (tt, tt) also  -- SLF of the greatest double
    (tt, tt) also  -- SLF of the least single
    (tt, tt) also  -- SLF of its half
    (tt, tt) also  -- SLF of three halves
    (tt, tt) also  -- SLF of -0
    (tt, tt) also  -- SLF of a NaN
    (tt, tt) also  -- PSHF
    (tt, tt) also  -- POPG
    (tt, tt) also  -- PSHG
    (tt, tt) also  -- POPF
    (tt, tt) also  -- PSHF, refused
    (tt, tt) also  -- POPF, refused
    done

abbrev pub paging : List Line
paging =
    -- an eight-byte write to page 3, at frame 0: its word at 12 gets A and D; f at 0x300
    line (put_b 0x3305 (paged 0x1122334455667788)) (tables 0 0x07 0x4d) 1 (long 0x300 is 0x1122334455667788 ∷ word 12 is 0x67 ∷ stop is 0 ∷ []) ∷
    -- without W: FWPAGE 8, with "the address asked, before low bits drop", and item 4's cause
    line (put_b 0x3305 (paged 3)) (tables 0 0x05 0x4d) 1 (word 0x1f0 is 8 ∷ word 0x1f8 is 0x1104 ∷ vadr is 0x3305 ∷ cause is 6 ∷ word 12 is 0x05 ∷ f is 3 ∷ []) ∷
    -- a read without P: FRPAGE 9
    line (put_a 0x3305 (paged 3)) (tables 0 0x06 0x21) 1 (word 0x1f0 is 9 ∷ vadr is 0x3305 ∷ cause is 4 ∷ word 12 is 0x06 ∷ f is 3 ∷ []) ∷
    -- no floating instruction is privileged: user mode, with U
    line (in_user (put_b 0x3305 (paged 0x1122334455667788))) (tables 0 0x07 0x4d) 1 (long 0x300 is 0x1122334455667788 ∷ user is 1 ∷ stop is 0 ∷ []) ∷
    []

pub paging_hold : Hold paging
unfolding Both
paging_hold =
    (tt, tt) also  -- SXD, paged
    (tt, tt) also  -- SXD, without W
    (tt, tt) also  -- LXD, without P
    (tt, tt) also  -- SXD, in user mode
    done
