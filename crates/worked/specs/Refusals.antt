-- Document 01, "Numbers returned": a run's refusals, 1 to 6, and their edges.
use Rattle.std.specs.Prelude.{ℕ, true, false, List, [], ◌∷◌}
use Rattle.memory.specs.Memory.{size_ok}
use Rattle.paging.specs.declared.Entry.{Entry}
use Rattle.paging.specs.Translate.{buffered}
use Rattle.rules.specs.Run.{run_number, first_refusal, budget_ok}
use Rattle.worked.specs.Start.{fresh, put_sp, put_pc, put_count, put_taken, put_usp, put_ksp, put_ivec, put_pdir, put_written, key, entry, entries, memory, small}
use Rattle.worked.specs.Opened.{ran_by}
use Rattle.worked.specs.Edge.{Edge, ◌gives◌, Edges, end, ◌and◌}
use Rattle.worked.specs.Line.{answer, steps, sp, pc, stop, taken, written, ◌is◌, Fact, Line, line, keyed, Both, Hold, done, ◌also◌}

-- a refused run: the number, and "returns the record given and zero steps"
abbrev refused : ℕ → List Fact
refused n = answer is n ∷ steps is 0 ∷ stop is 0 ∷ []

-- HALT at 0
abbrev halt : List ℕ
halt = small (0x00 ∷ [])

abbrev pub lines : List Line
lines =
    -- 1: "M is 0, no multiple of 4,096"
    line fresh [] 1 (refused 1) ∷
    line fresh (memory 4095 []) 1 (refused 1) ∷
    -- 2: "pc or ivec no multiple of 4; sp, usp or ksp no multiple of 8"
    line (put_pc 2 fresh) halt 1 (pc is 2 ∷ refused 2) ∷
    line (put_ivec 2 fresh) halt 1 (refused 2) ∷
    line (put_sp 4 fresh) halt 1 (sp is 4 ∷ refused 2) ∷
    line (put_usp 4 fresh) halt 1 (refused 2) ∷
    line (put_ksp 4 fresh) halt 1 (refused 2) ∷
    -- "pdir no multiple of 4,096 or not below M"
    line (put_pdir 2048 fresh) halt 1 (refused 2) ∷
    line (put_pdir 4096 fresh) halt 1 (refused 2) ∷
    -- "step count 2^63 or more"
    line (put_count 0x7fffffffffffffff fresh) halt 1 (answer is 0 ∷ steps is 1 ∷ stop is 1 ∷ []) ∷
    line (put_count 0x8000000000000000 fresh) halt 1 (refused 2) ∷
    -- 4: "key step numbers ever fall, or keys taken exceed the list"
    keyed (key 7 65 ∷ key 7 66 ∷ []) (put_taken 2 fresh) halt 1 (answer is 0 ∷ steps is 1 ∷ taken is 2 ∷ []) ∷
    keyed (key 7 65 ∷ key 6 66 ∷ []) fresh halt 1 (taken is 0 ∷ refused 4) ∷
    keyed (key 7 65 ∷ key 7 66 ∷ []) (put_taken 3 fresh) halt 1 (taken is 3 ∷ refused 4) ∷
    -- 5: "console count exceeds the lent console"
    line (put_written 1 fresh) halt 1 (written is 1 ∷ refused 5) ∷
    -- 6: "Budget 1,000,000 passes, 1,000,001 gives 6"
    line fresh halt 1000000 (answer is 0 ∷ steps is 1 ∷ stop is 1 ∷ []) ∷
    line fresh halt 1000001 (pc is 0 ∷ refused 6) ∷
    []

pub refusals : Hold lines
unfolding Both
refusals =
    (tt, tt) also  -- M 0
    (tt, tt) also  -- M 4,095
    (tt, tt) also  -- pc 2
    (tt, tt) also  -- ivec 2
    (tt, tt) also  -- sp 4
    (tt, tt) also  -- usp 4
    (tt, tt) also  -- ksp 4
    (tt, tt) also  -- pdir 2,048
    (tt, tt) also  -- pdir M
    (tt, tt) also  -- step count 2^63 - 1
    (tt, tt) also  -- step count 2^63
    (tt, tt) also  -- equal key step numbers, all keys taken
    (tt, tt) also  -- falling key step numbers
    (tt, tt) also  -- more keys taken than there are
    (tt, tt) also  -- a console count of 1 without console
    (tt, tt) also  -- budget 1,000,000
    (tt, tt) also  -- budget 1,000,001
    done

-- ---- edges of the judgements themselves

-- the answer of a run of budget 0 with this buffer
unfoldable pub with_buffer : List Entry → ℕ
unfolding ran_by
with_buffer es = run_number (ran_by buffered [] 0 (record { cpu = fresh; mem = small []; console = []; buffer = es })).answer

unfoldable pub size_number : ℕ → ℕ
unfolding size_ok
size_number size = run_number (first_refusal (size_ok size) true true true true true)

abbrev pub edges : List Edge
edges =
    -- "M = 4,096 and 134,217,728 pass; 0, 4,095 and 134,221,824 give 1"
    size_number 4096 gives 0 ∷
    size_number 134217728 gives 0 ∷
    size_number 0 gives 1 ∷
    size_number 4095 gives 1 ∷
    size_number 134221824 gives 1 ∷
    -- 3: "count above 64"
    with_buffer (entries 64 0) gives 0 ∷
    with_buffer (entries 65 0) gives 3 ∷
    -- "page 2^20 or more, frame not below M/4,096, or a page twice"
    with_buffer (entry 1048575 0 true true ∷ []) gives 0 ∷
    with_buffer (entry 1048576 0 true true ∷ []) gives 3 ∷
    with_buffer (entry 0 1 true true ∷ []) gives 3 ∷
    with_buffer (entry 5 0 true true ∷ entry 6 0 true true ∷ entry 5 0 true true ∷ []) gives 3 ∷
    -- "Budget 1,000,000 passes, 1,000,001 gives 6"
    run_number (first_refusal true true true true true (budget_ok 1000000)) gives 0 ∷
    run_number (first_refusal true true true true true (budget_ok 1000001)) gives 6 ∷
    -- "lower number wins"
    run_number (first_refusal true true true true false false) gives 5 ∷
    run_number (first_refusal true true true false false false) gives 4 ∷
    run_number (first_refusal true true false false false false) gives 3 ∷
    run_number (first_refusal true false false false false false) gives 2 ∷
    run_number (first_refusal false false false false false false) gives 1 ∷
    []

pub edges_are_right : Edges edges
unfolding with_buffer size_number
edges_are_right =
    tt and  -- M 4,096
    tt and  -- M 134,217,728
    tt and  -- M 0
    tt and  -- M 4,095
    tt and  -- M 134,221,824
    tt and  -- 64 entries
    tt and  -- 65 entries
    tt and  -- page 2^20 - 1
    tt and  -- page 2^20
    tt and  -- frame M/4,096
    tt and  -- a page twice
    tt and  -- budget 1,000,000
    tt and  -- budget 1,000,001
    tt and  -- 5 before 6
    tt and  -- 4 before 5
    tt and  -- 3 before 4
    tt and  -- 2 before 3
    tt and  -- 1 before 2
    end
