-- Document 02, item 1: the marks of key and timer events, set while iena = 0 and delivered later. ivec is 0x40, sp 0x100.
use Rattle.std.specs.Prelude.{ℕ, true, false, List, [], ◌∷◌}
use Rattle.rules.specs.declared.Cpu.{Cpu}
use Rattle.rules.specs.Record.{put_a}
use Rattle.worked.specs.Start.{fresh, put_sp, put_ivec, put_timer, put_pending, enabled, at_rest, key, ◌holds◌, memory, small}
use Rattle.worked.specs.Line.{steps, a, sp, pc, timer, timeout, kbchar, taken, key_pending, timer_pending, iena, waiting, stop, word, ◌is◌, Line, line, keyed, Both, Hold, done, ◌also◌}

-- iena = 0, and iena = 1
abbrev masked : Cpu
masked = put_ivec 0x40 (put_sp 0x100 fresh)

abbrev unmasked : Cpu
unmasked = enabled masked

-- BIN, STI, and NOPs; the handler at 0x40 returns by RTI
abbrev polled : List ℕ
polled = memory 4096 (0 holds (0x99 ∷ 0x97 ∷ 0x9b ∷ 0x9b ∷ []) ∷ 0x40 holds (0x98 ∷ []) ∷ [])

abbrev pub lines : List Line
lines =
    -- "a key .. event always sets its mark": while iena = 0, in the step of STI
    keyed (key 1 65 ∷ []) masked (small (0x97 ∷ 0x9b ∷ [])) 1 (key_pending is 1 ∷ timer_pending is 0 ∷ kbchar is 65 ∷ taken is 1 ∷ iena is 1 ∷ pc is 4 ∷ []) ∷
    -- the next step has iena = 1: it "is due .., and its delivery clears its mark"
    keyed (key 1 65 ∷ []) masked (small (0x97 ∷ 0x9b ∷ [])) 2 (word 0xf0 is 2 ∷ word 0xf8 is 4 ∷ pc is 0x40 ∷ key_pending is 0 ∷ iena is 0 ∷ []) ∷
    -- iena = 1 by RTI, which returns to 0x20 with sp 0x110
    keyed (key 1 65 ∷ []) masked (memory 4096 (0 holds (0x98 ∷ []) ∷ 0x108 holds (0x20 ∷ []) ∷ [])) 2
    (word 0x100 is 2 ∷ word 0x108 is 0x20 ∷ sp is 0x100 ∷ pc is 0x40 ∷ key_pending is 0 ∷ iena is 0 ∷ []) ∷
    -- a timer event while iena = 0, then STI
    line (put_timer 3 3 masked) (small (0x97 ∷ 0x9b ∷ [])) 1 (timer is 0 ∷ timer_pending is 1 ∷ key_pending is 0 ∷ pc is 4 ∷ []) ∷
    line (put_timer 3 3 masked) (small (0x97 ∷ 0x9b ∷ [])) 2 (word 0xf0 is 1 ∷ word 0xf8 is 4 ∷ pc is 0x40 ∷ timer_pending is 0 ∷ timer is 1 ∷ []) ∷
    -- both events in one step: "key before timer .., one a step"; the delivery clears "its mark" and no other
    keyed (key 1 65 ∷ []) (put_timer 5 5 unmasked) polled 1 (word 0xf0 is 2 ∷ word 0xf8 is 0 ∷ pc is 0x40 ∷ timer is 0 ∷ key_pending is 0 ∷ timer_pending is 1 ∷ []) ∷
    -- then RTI, and the timer's is delivered at the same place
    keyed (key 1 65 ∷ []) (put_timer 5 5 unmasked) polled 3 (word 0xf0 is 1 ∷ word 0xf8 is 0 ∷ pc is 0x40 ∷ timer is 2 ∷ timer_pending is 0 ∷ iena is 0 ∷ []) ∷
    -- two masked keys: one mark, the last character
    keyed (key 1 65 ∷ key 2 66 ∷ []) masked (small (0x9b ∷ 0x97 ∷ 0x9b ∷ [])) 2 (key_pending is 1 ∷ kbchar is 66 ∷ taken is 2 ∷ []) ∷
    -- one delivery: after the handler's RTI the program goes on
    keyed (key 1 65 ∷ key 1 66 ∷ []) masked polled 5 (pc is 12 ∷ iena is 1 ∷ key_pending is 0 ∷ word 0xf0 is 2 ∷ word 0xf8 is 8 ∷ []) ∷
    -- BIN clears no mark: it has read the character, and FKEYBD still comes
    keyed (key 1 65 ∷ []) masked polled 1 (a is 65 ∷ kbchar is 0xffffffff ∷ key_pending is 1 ∷ []) ∷
    keyed (key 1 65 ∷ []) masked polled 3 (word 0xf0 is 2 ∷ word 0xf8 is 8 ∷ kbchar is 0xffffffff ∷ key_pending is 0 ∷ []) ∷
    -- TIME clears none: timeout 0 stops the timer, and its mark stays
    line (put_a 0 (put_timer 3 3 masked)) (small (0xa7 ∷ 0x97 ∷ [])) 1 (timeout is 0 ∷ timer is 0 ∷ timer_pending is 1 ∷ []) ∷
    -- marks that stand in the given record: due without an event
    line (put_pending true false unmasked) (small (0x9b ∷ [])) 1 (word 0xf0 is 2 ∷ word 0xf8 is 0 ∷ pc is 0x40 ∷ key_pending is 0 ∷ []) ∷
    line (put_pending true true unmasked) (small (0x9b ∷ [])) 1 (word 0xf0 is 2 ∷ key_pending is 0 ∷ timer_pending is 1 ∷ []) ∷
    -- a machine that waits with iena = 0 waits on
    line (at_rest (put_pending true true masked)) (small (0x9b ∷ [])) 2 (steps is 2 ∷ waiting is 1 ∷ pc is 0 ∷ key_pending is 1 ∷ timer_pending is 1 ∷ []) ∷
    -- and with iena = 1 its waiting ends
    line (at_rest (put_pending false true unmasked)) (small (0x9b ∷ [])) 1 (waiting is 0 ∷ pc is 0x40 ∷ word 0xf0 is 1 ∷ timer_pending is 0 ∷ []) ∷
    -- "a stop with 3 keeps it"
    keyed (key 1 65 ∷ []) (at_rest (put_sp 0 unmasked)) (small []) 1 (stop is 3 ∷ waiting is 0 ∷ key_pending is 1 ∷ pc is 0 ∷ iena is 1 ∷ []) ∷
    -- and so does a stop with 2: TRAP while iena = 0
    line (put_pending true true masked) (small (0xa9 ∷ [])) 1 (stop is 2 ∷ key_pending is 1 ∷ timer_pending is 1 ∷ []) ∷
    []

pub interrupts : Hold lines
unfolding Both
interrupts =
    (tt, tt) also  -- a masked key
    (tt, tt) also  -- then STI
    (tt, tt) also  -- then RTI
    (tt, tt) also  -- a masked timer event
    (tt, tt) also  -- then STI, the timer
    (tt, tt) also  -- a key and the timer
    (tt, tt) also  -- the timer after the key
    (tt, tt) also  -- two masked keys
    (tt, tt) also  -- one delivery
    (tt, tt) also  -- BIN keeps the mark
    (tt, tt) also  -- BIN, then FKEYBD
    (tt, tt) also  -- TIME keeps the mark
    (tt, tt) also  -- a mark given
    (tt, tt) also  -- both marks given
    (tt, tt) also  -- waiting while masked
    (tt, tt) also  -- waiting ends
    (tt, tt) also  -- stop 3 keeps the mark
    (tt, tt) also  -- stop 2 keeps the marks
    done
