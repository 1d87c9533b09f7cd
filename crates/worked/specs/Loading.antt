-- Document 01, "The record and the loaded program", "Numbers returned" and the run program: what a load gives, its edges, and the run of what was loaded.
use Rattle.std.specs.Prelude.{ℕ, ◌≡◌, refl, List, [], ◌∷◌, ◌++◌, take, replicate}
use Rattle.memory.specs.Memory.{load_n, size_ok}
use Rattle.executable.specs.Executable.{load_number, answer_by, load_answer}
use Rattle.paging.specs.declared.Entry.{Entry}
use Rattle.paging.specs.Translate.{buffered, reader}
use Rattle.rules.specs.Step.{State}
use Rattle.rules.specs.Load.{Loaded, load}
use Rattle.worked.specs.Start.{bytes_of_all, zeros}
use Rattle.worked.specs.Opened.{ran_by}
use Rattle.worked.specs.Line.{Found, found, Fact, ◌is◌, All, answer, steps, a, b, c, sp, pc, count}
use Rattle.worked.specs.Line.{usp, ksp, ivec, pdir, paging, vadr, cause, timer, timeout, kbchar, taken, user, iena, waiting, stop, written}
use Rattle.worked.specs.Edge.{Edge, ◌gives◌, Edges, end, ◌and◌}

-- "P1 and HALT, entry 0, bss 0, data start 12"
abbrev pub file : List ℕ
file = bytes_of_all (0xc0def00d ∷ 0 ∷ 0 ∷ 12 ∷ 0x00000023 ∷ 0x927c0024 ∷ 0x00000000 ∷ [])

-- ---- the load, into a memory of 4,096 bytes that is not zero

-- the line opens all of a load
unfoldable pub loaded : (size : ℕ) → List ℕ → Loaded
unfolding load_n size_ok answer_by load_answer load
loaded size bytes = load bytes (replicate size 0xaa)

pub answer_is_0 : load_number (loaded 4096 file).answer ≡ 0
unfolding loaded
answer_is_0 = refl

abbrev found_in : Loaded → Found
found_in l = record { answer = load_number l.answer; steps = 0; cpu = l.machine.cpu; mem = l.mem; console = [] }

-- "pc = entry, sp = M, kbchar = 0xFFFFFFFF, all else 0 and the buffer empty": every number and flag of the record
abbrev record_is : (sp pc kbchar : ℕ) → List Fact
record_is x y z =
    a is 0 ∷ b is 0 ∷ c is 0 ∷ sp is x ∷ usp is 0 ∷ ksp is 0 ∷ pc is y ∷ ivec is 0 ∷ pdir is 0 ∷ vadr is 0 ∷ timer is 0 ∷ timeout is 0 ∷ kbchar is z
    ∷ user is 0 ∷ iena is 0 ∷ paging is 0 ∷ waiting is 0 ∷ stop is 0 ∷ cause is 0 ∷ count is 0 ∷ taken is 0 ∷ written is 0 ∷ []

pub record_is_fresh : All (found_in (loaded 4096 file)) (record_is 4096 0 0xffffffff)
unfolding loaded
record_is_fresh = tt

pub buffer_is_empty : (loaded 4096 file).machine.held ≡ 0
unfolding loaded
buffer_is_empty = refl

-- "puts the body at address 0, zeros the rest"
pub memory_is_body : (loaded 4096 file).mem ≡ bytes_of_all (0x00000023 ∷ 0x927c0024 ∷ 0x00000000 ∷ []) ++ zeros 4084
unfolding loaded
memory_is_body = refl

-- entry 4: pc 4
pub entry_is_pc : All (found_in (loaded 4096 (bytes_of_all (0xc0def00d ∷ 77 ∷ 4 ∷ 8 ∷ 0x9b ∷ 0x9b ∷ [])))) (record_is 4096 4 0xffffffff)
unfolding loaded
entry_is_pc = tt

-- ---- the run of it: "a machine of 32,768 bytes, no keys, a console of 4,096 bytes, budget 100,000"

abbrev state_of : {B : Type 0} → B → Loaded → State B
state_of held l = record { cpu = l.machine.cpu; mem = l.mem; console = zeros 4096; buffer = held }

-- the counted entries
abbrev held_by : Loaded → List Entry
held_by l = take l.machine.held l.machine.entries

unfoldable pub ran : Found
unfolding loaded ran_by
ran = let l = loaded 32768 file in found (ran_by buffered [] 100000 (state_of (held_by l) l))

-- `stop 1 steps 3 a 9600000 b 0 c 0 sp 32768 pc 12`
pub run_line_lem : All ran (answer is 0 ∷ stop is 1 ∷ steps is 3 ∷ a is 9600000 ∷ b is 0 ∷ c is 0 ∷ sp is 32768 ∷ pc is 12 ∷ written is 0 ∷ [])
unfolding ran
run_line_lem = tt

unfoldable pub reader_ran : Found
unfolding loaded ran_by
reader_ran = found (ran_by reader [] 100000 (state_of tt (loaded 32768 file)))

pub reader_line : All reader_ran (answer is 0 ∷ stop is 1 ∷ steps is 3 ∷ a is 9600000 ∷ b is 0 ∷ c is 0 ∷ sp is 32768 ∷ pc is 12 ∷ written is 0 ∷ [])
unfolding reader_ran
reader_line = tt

-- ---- the edges

-- the answer's number, from M, the file's length, its magic word, entry and data start
unfoldable pub number_of : (size len magic entry data_start : ℕ) → ℕ
unfolding size_ok answer_by
number_of size len magic entry data_start = load_number (answer_by size len magic entry data_start)

abbrev magic : ℕ
magic = 0xc0def00d

abbrev pub edges : List Edge
edges =
    -- "M = 4,096 and 134,217,728 pass; 0, 4,095 and 134,221,824 give 1"
    number_of 4096 28 magic 0 12 gives 0 ∷
    number_of 134217728 28 magic 0 12 gives 0 ∷
    number_of 0 28 magic 0 12 gives 1 ∷
    number_of 4095 28 magic 0 12 gives 1 ∷
    number_of 134221824 28 magic 0 12 gives 1 ∷
    -- "lower number wins": everything is wrong
    number_of 4095 15 0 3 99 gives 1 ∷
    -- "A 16-byte file with the right magic gives 9; 15 bytes give 7"
    number_of 4096 15 magic 0 0 gives 7 ∷
    number_of 4096 16 magic 0 0 gives 9 ∷
    number_of 4096 16 0xc0def00e 0 0 gives 8 ∷
    -- 9: "body empty or longer than M"
    number_of 4096 4112 magic 0 12 gives 0 ∷
    number_of 4096 4113 magic 0 12 gives 9 ∷
    -- 10: "data start above body length"
    number_of 4096 28 magic 0 13 gives 10 ∷
    -- 11: "entry no multiple of 4, or entry + 4 (unwrapped) above data start"
    number_of 4096 28 magic 8 12 gives 0 ∷
    number_of 4096 28 magic 9 12 gives 11 ∷
    number_of 4096 28 magic 8 11 gives 11 ∷
    number_of 4096 28 magic 0xfffffffc 12 gives 11 ∷
    []

pub edges_are_right : Edges edges
unfolding number_of
edges_are_right =
    tt and  -- M 4,096
    tt and  -- M 134,217,728
    tt and  -- M 0
    tt and  -- M 4,095
    tt and  -- M 134,221,824
    tt and  -- everything wrong
    tt and  -- 15 bytes
    tt and  -- 16 bytes
    tt and  -- 16 bytes, wrong magic
    tt and  -- a body of M bytes
    tt and  -- a body of M + 1 bytes
    tt and  -- data start above body length
    tt and  -- entry + 4 = data start
    tt and  -- entry no multiple of 4
    tt and  -- entry + 4 above data start
    tt and  -- entry + 4 is 2^32
    end

-- the same from files: the first 15 bytes, and the first 16
abbrev pub files : List Edge
files =
    load_number (loaded 4096 (take 15 file)).answer gives 7 ∷
    load_number (loaded 4096 (take 16 file)).answer gives 9 ∷
    load_number (loaded 0 file).answer gives 1 ∷
    load_number (loaded 4095 file).answer gives 1 ∷
    []

pub files_are_right : Edges files
unfolding loaded
files_are_right =
    tt and  -- 15 bytes
    tt and  -- 16 bytes
    tt and  -- M 0
    tt and  -- M 4,095
    end

-- "A refused load returns an all-zero record and leaves memory"
pub refused_record : All (found_in (loaded 4096 (take 15 file))) (record_is 0 0 0)
unfolding loaded
refused_record = tt

pub refused_memory : (loaded 4096 (take 15 file)).mem ≡ replicate 4096 0xaa
unfolding loaded
refused_memory = refl
