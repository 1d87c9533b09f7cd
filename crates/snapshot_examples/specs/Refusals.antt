-- Document 02, item 5, "Refusals": the numbers that reading and saving answer, at their edges. A file is that of `Example`, changed in one place.
use Rattle.std.specs.Prelude.{ℕ, true, false, List, [], ◌∷◌, ◌++◌, set, take, replicate}
use Rattle.memory.specs.Memory.{load_n, size_ok}
use Rattle.paging.specs.Buffer.{has, buffer_ok}
use Rattle.rules.specs.declared.Machine.{Machine}
use Rattle.rules.specs.Load.{zero_entry}
use Rattle.rules.specs.Numbers.{stop_of, cause_of, record_by}
use Rattle.rules.specs.Run.{registers_ok}
use Rattle.refusals.specs.View.{first_slots}
use Rattle.worked.specs.Start.{fresh, put_pc, put_pdir, put_written, entry}
use Rattle.worked.specs.Edge.{Edge, ◌gives◌, Edges, end, ◌and◌}
use Rattle.encoding.specs.Encoding.{decoded}
use Rattle.encoding.specs.Entries.{entries_in, rights_ok}
use Rattle.machine_file.specs.Judged.{counts_ok, offsets_ok, numbers_in, cpu_in, numbers_ok, record_ok}
use Rattle.snapshot.specs.Saving.{save_number, first_save_refusal, save_answer}
use Rattle.snapshot.specs.Reading.{read_number, first_read_refusal, read_answer}
use Rattle.snapshot_examples.specs.Example.{machine, file}

-- ---- reading

-- a file read into memory and console of these sizes
unfoldable pub read_into : (size console_size : ℕ) → List ℕ → ℕ
unfolding load_n size_ok has buffer_ok stop_of cause_of record_by registers_ok decoded entries_in rights_ok counts_ok offsets_ok numbers_in cpu_in numbers_ok record_ok read_answer
read_into size console_size f = read_number (read_answer f size console_size)

-- into 4,096 and 4 bytes
unfoldable pub read_as : List ℕ → ℕ
unfolding read_into
read_as f = read_into 4096 4 f

-- the file with one byte put in place
unfoldable pub changed : (at byte : ℕ) → List ℕ
unfolding file
changed at byte = set file at byte

abbrev pub reading : List Edge
reading =
    read_as file gives 0 ∷
    -- 1: M comes first
    read_into 4095 4 (take 27 file) gives 1 ∷
    read_into 0 4 [] gives 1 ∷
    -- 13: "file shorter than its header"
    read_as [] gives 13 ∷
    read_as (take 27 file) gives 13 ∷
    read_as (take 28 file) gives 15 ∷
    -- 14: "pages unlike the lent memory, more than 64 entries, or more console bytes than the lent console"
    read_into 8192 4 file gives 14 ∷
    read_as (changed 2 16) gives 14 ∷
    read_as (changed 4 65) gives 14 ∷
    read_as (changed 4 64) gives 15 ∷
    read_into 4096 3 file gives 0 ∷
    read_into 4096 2 file gives 14 ∷
    -- 15: "an offset or length that doesn't follow from the counts"
    read_as (changed 12 29) gives 15 ∷
    read_as (changed 16 120) gives 15 ∷
    read_as (changed 23 1) gives 15 ∷
    read_as (changed 24 160) gives 15 ∷
    read_as (take 4254 file) gives 15 ∷
    read_as (file ++ (0 ∷ [])) gives 15 ∷
    -- 16: "registers .. that document 01's 2 .. would refuse": sp, pc, pdir, step count
    read_as (changed 40 4) gives 16 ∷
    read_as (changed 52 2) gives 16 ∷
    read_as (changed 61 16) gives 16 ∷
    read_as (changed 119 0x7f) gives 0 ∷
    read_as (changed 119 0x80) gives 16 ∷
    -- "a flag, mark .. not 0 or 1": user, waiting; the marks
    read_as (changed 80 1) gives 0 ∷
    read_as (changed 80 2) gives 16 ∷
    read_as (changed 95 1) gives 16 ∷
    read_as (changed 96 2) gives 16 ∷
    read_as (changed 100 2) gives 16 ∷
    -- "a stop reason above 3 or cause without a meaning"
    read_as (changed 104 3) gives 0 ∷
    read_as (changed 104 4) gives 16 ∷
    read_as (changed 108 7) gives 0 ∷
    read_as (changed 108 8) gives 16 ∷
    -- item 7's mode, a flag too; any f and g
    read_as (changed 120 0) gives 0 ∷
    read_as (changed 120 2) gives 16 ∷
    read_as (changed 123 1) gives 16 ∷
    read_as (changed 131 0x7f) gives 0 ∷
    read_as (changed 139 0xff) gives 0 ∷
    -- "entries that document 01's .. 3 would refuse": page 2^20, frame M/4,096; a right
    read_as (changed 142 0x10) gives 16 ∷
    read_as (changed 144 1) gives 16 ∷
    read_as (changed 148 2) gives 16 ∷
    read_as (changed 152 2) gives 16 ∷
    -- "lower wins"
    read_number (first_read_refusal true true true false false) gives 15 ∷
    read_number (first_read_refusal true true false false false) gives 14 ∷
    read_number (first_read_refusal true false false false false) gives 13 ∷
    read_number (first_read_refusal false false false false false) gives 1 ∷
    []

pub reading_shown : Edges reading
unfolding read_as changed
reading_shown =
    tt and  -- as it was saved, in the new mode
    tt and  -- M 4,095, 27 bytes
    tt and  -- M 0, no byte
    tt and  -- no byte
    tt and  -- 27 bytes
    tt and  -- 28 bytes
    tt and  -- M 8,192
    tt and  -- 2^20 + 1 pages: the same modulo 2^32 bytes
    tt and  -- 65 entries
    tt and  -- 64 entries, offsets of one
    tt and  -- a console of three bytes
    tt and  -- of two
    tt and  -- registers at 29
    tt and  -- entries at 120, where they stood before item 7
    tt and  -- console 2^24 too high
    tt and  -- memory at 160
    tt and  -- a byte short
    tt and  -- a byte long
    tt and  -- sp 4
    tt and  -- pc 2
    tt and  -- pdir 4,096
    tt and  -- step count below 2^63
    tt and  -- step count above 2^63
    tt and  -- user 1
    tt and  -- user 2
    tt and  -- waiting 2^24
    tt and  -- key mark 2
    tt and  -- timer mark 2
    tt and  -- stop 3
    tt and  -- stop 4
    tt and  -- cause 7
    tt and  -- cause 8
    tt and  -- the old mode
    tt and  -- mode 2
    tt and  -- mode 2^24 and 1
    tt and  -- f a NaN
    tt and  -- g's high byte 255
    tt and  -- page 2^20 and more
    tt and  -- frame 1
    tt and  -- user right 2
    tt and  -- write right 2
    tt and  -- 15 before 16
    tt and  -- 14 before 15
    tt and  -- 13 before 14
    tt and  -- 1 before 13
    end

-- ---- saving

-- a machine saved with memory, console and file of these sizes
unfoldable pub saved_into : Machine → (size console_size file_size : ℕ) → ℕ
unfolding size_ok has buffer_ok registers_ok first_slots save_answer
saved_into m size console_size file_size = save_number (save_answer m size console_size file_size)

-- a fresh machine with one part changed
abbrev with : Machine → ℕ
with m = saved_into m 4096 4 8192

abbrev pub saving : List Edge
saving =
    saved_into machine 4096 4 4255 gives 0 ∷
    -- 13: "on saving than the result"
    saved_into machine 4096 4 4254 gives 13 ∷
    -- 1, 2, 3 and 5 come first
    saved_into machine 4095 4 0 gives 1 ∷
    with (record { cpu = put_pc 2 fresh; entries = replicate 64 zero_entry; held = 0 }) gives 2 ∷
    with (record { cpu = put_pdir 4096 fresh; entries = replicate 64 zero_entry; held = 65 }) gives 2 ∷
    with (record { cpu = put_written 5 fresh; entries = replicate 64 zero_entry; held = 65 }) gives 3 ∷
    with (record { cpu = fresh; entries = entry 5 0 true true ∷ entry 5 0 true true ∷ replicate 62 zero_entry; held = 2 }) gives 3 ∷
    with (record { cpu = put_written 5 fresh; entries = replicate 64 zero_entry; held = 0 }) gives 5 ∷
    with (record { cpu = put_written 4 fresh; entries = replicate 64 zero_entry; held = 0 }) gives 0 ∷
    -- 15: "on saving an offset of 2^32 or more": 140 bytes and the console
    saved_into (record { cpu = put_written 0xffffff73 fresh; entries = replicate 64 zero_entry; held = 0 }) 4096 0x100000000 0x200000000 gives 0 ∷
    saved_into (record { cpu = put_written 0xffffff74 fresh; entries = replicate 64 zero_entry; held = 0 }) 4096 0x100000000 0x200000000 gives 15 ∷
    -- "lower wins"
    save_number (first_save_refusal true true true true false false) gives 13 ∷
    save_number (first_save_refusal true true true false false false) gives 5 ∷
    []

pub saving_shown : Edges saving
unfolding saved_into
saving_shown =
    tt and  -- a file of exactly its length
    tt and  -- a byte shorter
    tt and  -- M 4,095, no byte
    tt and  -- pc 2
    tt and  -- pdir 4,096; 65 entries
    tt and  -- 65 entries; five bytes written of four
    tt and  -- a page twice
    tt and  -- five bytes written of four
    tt and  -- four of four
    tt and  -- memory's offset 2^32 - 1
    tt and  -- memory's offset 2^32
    tt and  -- 13 before 15
    tt and  -- 5 before 13
    end
