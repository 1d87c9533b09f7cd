-- Document 01, "Worked lines": "P1 and HALT .. prints whole: `stop 1 steps 3 a 9600000 b 0 c 0 sp 32768 pc 12`".
use Prim.Native.Nat.{ℕ}
use mathlib.Core.Path.{◌≡◌, refl}
use mathlib.Core.List.{List, [], ◌∷◌}
use Rattle.word.specs.Word.{extend}
use Rattle.memory.specs.Memory.{load_n, size_ok}
use Rattle.executable.specs.Executable.{answer_by, load_answer}
use Rattle.decode.specs.Opcodes.{table, opcode_of, decode_of}
use Rattle.paging.specs.Walk.{is_write}
use Rattle.paging.specs.Buffer.{buffer_ok}
use Rattle.paging.specs.Translate.{direct, translate_by, read_by}
use Rattle.rules.specs.Clock.{next_of, ticked, due_of}
use Rattle.rules.specs.Tree.{bind, store_all, store_events, answered, interpret}
use Rattle.rules.specs.Step.{step}
use Rattle.rules.specs.Run.{registers_ok, keys_ok, run}
use Rattle.rules.specs.Load.{load}
use Rattle.text.specs.Digits.{digits}
use Rattle.result_line.specs.Line.{stop_line, refused_line}
use Rattle.result_line.specs.Program.{program_line}

-- "P1 and HALT, entry 0, bss 0, data start 12": four words, and the body's three
abbrev p1_file : List ℕ
p1_file =
    0x0d ∷ 0xf0 ∷ 0xde ∷ 0xc0 ∷ 0 ∷ 0 ∷ 0 ∷ 0 ∷ 0 ∷ 0 ∷ 0 ∷ 0 ∷ 12 ∷ 0 ∷ 0 ∷ 0 ∷
    0x23 ∷ 0 ∷ 0 ∷ 0 ∷ 0x24 ∷ 0 ∷ 0x7c ∷ 0x92 ∷ 0 ∷ 0 ∷ 0 ∷ 0 ∷ []

abbrev p1_bytes : List ℕ
p1_bytes =
    115 ∷ 116 ∷ 111 ∷ 112 ∷ 32 ∷ 49 ∷ 32 ∷ 115 ∷ 116 ∷ 101 ∷ 112 ∷ 115 ∷ 32 ∷ 51 ∷ 32 ∷ 97 ∷ 32 ∷ 57 ∷ 54 ∷ 48 ∷ 48 ∷ 48 ∷ 48 ∷ 48 ∷
    32 ∷ 98 ∷ 32 ∷ 48 ∷ 32 ∷ 99 ∷ 32 ∷ 48 ∷ 32 ∷ 115 ∷ 112 ∷ 32 ∷ 51 ∷ 50 ∷ 55 ∷ 54 ∷ 56 ∷ 32 ∷ 112 ∷ 99 ∷ 32 ∷ 49 ∷ 50 ∷ []

-- the load, the run and the bytes, computed as one
pub p1_line : program_line p1_file ≡ p1_bytes
unfolding extend load_n size_ok table opcode_of decode_of is_write direct translate_by read_by buffer_ok next_of ticked due_of bind store_all store_events answered interpret
    step registers_ok keys_ok run answer_by load_answer load stop_line digits program_line
p1_line = refl

-- "refused 7"
pub refused_line_lem : refused_line 7 ≡ 114 ∷ 101 ∷ 102 ∷ 117 ∷ 115 ∷ 101 ∷ 100 ∷ 32 ∷ 55 ∷ []
unfolding refused_line digits
refused_line_lem = refl
