-- Demand 3's exception is needed: a program that stores into a word of an entry held. Both machines agree after that step; one step later they differ.
use Prim.Native.Nat.{ℕ}
use mathlib.Core.Path.{◌≡◌, refl}
use mathlib.Core.Bool.{true}
use mathlib.Core.List.{List, [], ◌∷◌, map}
use lib.ListN.{replicate}
use Rattle.paging.specs.Held.{stores_held, touches_held, touches}
use Rattle.paging.specs.Translate.{buffered, reader}
use Rattle.paging.specs.Translate.{translate_by, paged, read_by}
use Rattle.paging.specs.Walk.{bit, mark, mark_for, mark_events, dir_at, tab_at, allows, walk}
use Rattle.paging.specs.Buffer.{serves, hit, has, place, fits, after_walk, walk_events, buffer_ok}
use Rattle.paging.specs.TrapCode.{page_fault}
use Rattle.memory.specs.Memory.{load_n, store_n, size_ok}
use Rattle.decode.specs.Opcodes.{decode_of, opcode_of, table}
use Rattle.word.specs.Word.{extend}
use Rattle.rules.specs.Clock.{next_of, ticked, due_of}
use Rattle.rules.specs.Record.{stop_number, with_pc, with_regs, with_paging, with_space}
use Rattle.rules.specs.Load.{zero_cpu}
use Rattle.rules.specs.Tree.{bind, store_all, store_events, answered, interpret}
use Rattle.rules.specs.Step.{step}
use Rattle.rules.specs.Run.{Ran, run, registers_ok, keys_ok}
use Rattle.agreement.specs.Agreement.{Shown, started}

-- page 0 is frame 0, with its directory word and its table word both at 0. At 4 stands SX 0, at 8 HALT
pub memory : List ℕ
memory = 7 ∷ 0 ∷ 0 ∷ 0 ∷ 0x4a ∷ replicate 4091 0

-- a and b are 0: SX at 4 stores 0 into the word at 0
pub begin : Shown
begin = record { cpu = with_space (with_paging true zero_cpu.space) (with_regs (with_pc 4 zero_cpu.regs) zero_cpu); mem = memory; console = [] }

-- the stop reason after each step of a run
pub stops : {B : Type 0} → Ran B → List ℕ
unfolding run size_ok registers_ok buffer_ok keys_ok next_of ticked due_of step interpret bind answered decode_of opcode_of table extend store_all store_events translate_by
    paged read_by hit serves walk load_n store_n dir_at tab_at allows bit mark mark_for mark_events page_fault has place fits after_walk walk_events
stops r = map (λ t. stop_number t.state.cpu.stop) r.steps

-- the first step makes a store of demand 3's kind
pub store_counts : stores_held [] (step buffered [] (started begin [])).events ≡ true
unfolding stops begin memory touches touches_held stores_held
store_counts = refl

-- the entry still serves the fetch of HALT
pub buffer_halts : stops (run buffered [] 2 (started begin [])) ≡ 0 ∷ 1 ∷ []
unfolding stops begin memory
buffer_halts = refl

-- the table reader finds no directory word any more
pub reader_stops : stops (run reader [] 2 (started begin tt)) ≡ 0 ∷ 2 ∷ []
unfolding stops begin memory
reader_stops = refl
