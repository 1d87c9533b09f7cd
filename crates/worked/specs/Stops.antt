-- Document 01, "Numbers returned" and "Traps": the four stop reasons, "0 running, 1 halted, 2 trap while iena = 0, 3 trap frame cannot be stored".
use Rattle.std.specs.Prelude.{List, [], ◌∷◌}
use Rattle.rules.specs.declared.Stop.TheVariants.{Halted}
use Rattle.rules.specs.Record.{put_a}
use Rattle.worked.specs.Start.{fresh, put_sp, in_user, enabled, at_rest, stopped_for, key, small}
use Rattle.worked.specs.Line.{answer, steps, a, sp, pc, usp, vadr, kbchar, taken, user, iena, waiting, stop, word, ◌is◌, Line, line, keyed, Both, Hold, done, ◌also◌}

abbrev pub lines : List Line
lines =
    -- running: NOP
    line fresh (small (0x9b ∷ [])) 1 (answer is 0 ∷ steps is 1 ∷ stop is 0 ∷ pc is 4 ∷ []) ∷
    -- "HALT stops with 1, pc after it"; "until the budget is used or the machine stops"
    line fresh (small (0x00 ∷ [])) 5 (answer is 0 ∷ steps is 1 ∷ stop is 1 ∷ pc is 4 ∷ []) ∷
    -- "If iena = 0 a fault or TRAP stops with 2", and pc stays "as before the fetch"
    line fresh (small (0xa9 ∷ [])) 5 (steps is 1 ∷ stop is 2 ∷ pc is 0 ∷ sp is 4096 ∷ word 0xff0 is 0 ∷ word 0xff8 is 0 ∷ []) ∷
    -- "vadr excepted": LX 0 at 0x1003, "the address asked, before low bits drop"
    line (put_a 0x1003 fresh) (small (0x1c ∷ [])) 1 (stop is 2 ∷ pc is 0 ∷ a is 0x1003 ∷ vadr is 0x1003 ∷ []) ∷
    -- "a refusal stops with 3": sp 0, TRAP; "a refused slot doesn't set vadr"
    line (enabled (put_sp 0 fresh)) (small (0xa9 ∷ [])) 5 (steps is 1 ∷ stop is 3 ∷ pc is 0 ∷ sp is 0 ∷ iena is 1 ∷ vadr is 0 ∷ []) ∷
    -- "both translated .. before either is stored": sp 8, the first slot is at 0, the second is refused
    line (enabled (put_sp 8 fresh)) (small (0xa9 ∷ [])) 1 (stop is 3 ∷ sp is 8 ∷ word 0 is 0xa9 ∷ []) ∷
    -- stop 3 after a fault: vadr is the fault's
    line (enabled (put_sp 0 (put_a 0x1003 fresh))) (small (0x1c ∷ [])) 1 (stop is 3 ∷ pc is 0 ∷ a is 0x1003 ∷ vadr is 0x1003 ∷ []) ∷
    -- "A stop with 2 or 3 leaves registers, user, iena and pc": from user mode, ksp 0
    line (in_user (enabled fresh)) (small (0xa9 ∷ [])) 1 (stop is 3 ∷ pc is 0 ∷ sp is 4096 ∷ usp is 0 ∷ user is 1 ∷ iena is 1 ∷ []) ∷
    -- "If something is due, waiting ends and the trap is delivered": a key, and no room for its frame
    keyed (key 1 65 ∷ []) (at_rest (enabled (put_sp 0 fresh))) (small []) 1
    (stop is 3 ∷ waiting is 0 ∷ kbchar is 65 ∷ taken is 1 ∷ pc is 0 ∷ iena is 1 ∷ []) ∷
    -- "starts stopped, or has budget 0, is accepted with zero steps and no change"
    line (stopped_for Halted fresh) (small (0x9b ∷ [])) 5 (answer is 0 ∷ steps is 0 ∷ stop is 1 ∷ pc is 0 ∷ []) ∷
    line fresh (small (0x9b ∷ [])) 0 (answer is 0 ∷ steps is 0 ∷ stop is 0 ∷ pc is 0 ∷ []) ∷
    []

pub stops : Hold lines
unfolding Both
stops =
    (tt, tt) also  -- running
    (tt, tt) also  -- HALT
    (tt, tt) also  -- TRAP while iena = 0
    (tt, tt) also  -- a fault while iena = 0
    (tt, tt) also  -- TRAP without room for its frame
    (tt, tt) also  -- the second slot refused
    (tt, tt) also  -- a fault without room for its frame
    (tt, tt) also  -- the same from user mode
    (tt, tt) also  -- a key without room for its frame
    (tt, tt) also  -- starts stopped
    (tt, tt) also  -- budget 0
    done
