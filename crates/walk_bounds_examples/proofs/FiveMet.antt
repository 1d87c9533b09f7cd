-- Document 02, item 6, "never more than five in a step": steps that make five.
use Prim.Native.Nat.{ℕ}
use mathlib.Core.Path.{◌≡◌, refl}
use mathlib.Core.List.{List, [], ◌∷◌}
use Rattle.paging.specs.Translate.{buffered, reader}
use Rattle.paging.specs.Counting.{walks_in}
use Rattle.rules.specs.declared.Cpu.{Cpu}
use Rattle.rules.specs.Record.{put_a}
use Rattle.rules.specs.Step.{step}
use Rattle.worked.specs.Start.{put_b, put_c, put_sp, put_ivec, enabled, ◌holds◌, memory}
use Rattle.worked.specs.Opened.{stepped}
use Rattle.walk_bounds_examples.proofs.Example.{kernel, machine, table_reader}

-- ---- MCPY (0x0a): the fetch on page 1, the read on page 2, the write on page 3, which has no W; then the slots of the frame on pages 5 and 4

abbrev copying : Cpu
copying = enabled (put_ivec 0x1180 (put_sp 0x5008 (put_a 0x3300 (put_b 0x2300 (put_c 1 kernel)))))

-- the directory is its own table; page 5 is frame 1, the others are frame 0
abbrev copied : List ℕ
copied = memory 8192 (0 holds (0x07 ∷ 0x07 ∷ 0x07 ∷ 0x05 ∷ 0x07 ∷ 0x1007 ∷ []) ∷ 0x100 holds (0x0a ∷ []) ∷ [])

pub five_met : walks_in (step buffered [] (machine copying copied)).events ≡ 5
unfolding stepped walks_in
five_met = refl

pub five_met_reader : walks_in (step reader [] (table_reader copying copied)).events ≡ 5
unfolding stepped walks_in
five_met_reader = refl

-- ---- RTI (0x98): the fetch, the code on page 2, the pc on page 3, which is absent; then both slots of the frame on page 2

abbrev returning : Cpu
returning = enabled (put_ivec 0x1180 (put_sp 0x2ff8 kernel))

abbrev returned : List ℕ
returned = memory 4096 (0 holds (0x07 ∷ 0x07 ∷ 0x07 ∷ 0x06 ∷ []) ∷ 0x100 holds (0x98 ∷ []) ∷ [])

pub five_by_return : walks_in (step reader [] (table_reader returning returned)).events ≡ 5
unfolding stepped walks_in
five_by_return = refl

-- the page buffer serves the second slot: the first one's walk has kept page 2 with write right
pub four_by_return : walks_in (step buffered [] (machine returning returned)).events ≡ 4
unfolding stepped walks_in
four_by_return = refl
