-- The entries are packed one by one into the array (`packed_next`, `all_packed`), `go` runs over it, and they are unpacked in place (`unpacked_turn`,
-- `unpacked_last`): then the run proceeds as the rules say (`proceeds_in_place`).
use Rattle.runs.proofs.Whole.{able_key, able_ready, proceeds_in_place}
use Rattle.runs.proofs.Entries.{held_few, held_passes, all_packed, unpacked_turn, unpacked_last}
use Rattle.buffer.proofs.Packed.{page_fits, frame_fits, packed_next}
use lib.ListN.{length, length-set}
use mathlib.Core.Path.{◌≡◌, refl, ◌∙◌}
use native.Mathlib.Omega.{arith}
use Rattle.runs.proofs.proceed.Goals as goal

pub loop-i-init : goal.loop-i-init
loop-i-init c =
    let slots : length c.args.g.ran.machine.entries ≡ 64 = c.well_formed.0.1.1.1.1.0.1.1.0.1.1.1.0.1.0.1 in
    (held_few _ _ _ slots c.requires.0.entries, slots, refl, refl)

pub pack-requires : goal.pack-requires
pack-requires c =
    let passes = held_passes _ _ _ c.loop-i.invariant.1 c.requires.0.entries in
    frame_fits _ _ _ _ c.requires.0.directory.small passes c.loop-i-test.true

pub loop-i-preserved : goal.loop-i-preserved
loop-i-preserved c =
    let size = length-set c.loop-i.tlb c.loop-i.i c.pack.result ∙ c.loop-i.invariant.2 in
    let packed = packed_next _ _ c.loop-i.invariant.1 c.loop-i.invariant.0 _ _ _ c.loop-i.invariant.2 c.loop-i-test.true c.loop-i.invariant.3 c.pack.ensures in
    (c.loop-i.invariant.0, c.loop-i.invariant.1, size, packed)

pub go-a-requires : goal.go-a-requires
go-a-requires c =
    let packed = all_packed _ _ _ c.loop-i.invariant.1 c.requires.0.entries _ _ _ c.recount.ensures
    c.loop-i.invariant.2 (omega arith) c.loop-i-test.false c.loop-i.invariant.3 in
    (able_ready c.requires.0 packed.0 packed.1, able_key c.requires.0 c.requires.1)

pub loop-j-init : goal.loop-j-init
loop-j-init c =
    (omega (arith, c.count-count.ensures, c.go-a.ensures.good.buffer.few), refl, refl, c.loop-i.invariant.1, refl)

pub unpack-requires : goal.unpack-requires
unpack-requires c =
    page_fits _ _ _ c.go-a.ensures.good.buffer c.go-a.ensures.good.entries (omega (arith, c.loop-j-test.true, c.count-count.ensures))

pub loop-j-preserved : goal.loop-j-preserved
loop-j-preserved c =
    let size = length-set c.loop-j.n.entries c.loop-j.j c.unpack.result ∙ c.loop-j.invariant.3 in
    let unpacked = unpacked_turn c.go-a.ensures.good.buffer c.count-count.ensures _ _ c.loop-j.invariant.4 c.loop-j.invariant.3 c.loop-j-test.true c.unpack.ensures in
    (c.loop-j.invariant.0, c.loop-j.invariant.1, c.loop-j.invariant.2, size, unpacked)

pub returns : goal.returns
returns c =
    let packed = all_packed _ _ _ c.loop-i.invariant.1 c.requires.0.entries _ _ _ c.recount.ensures
    c.loop-i.invariant.2 (omega arith) c.loop-i-test.false c.loop-i.invariant.3 in
    let unpacked = unpacked_last c.go-a.ensures.good.buffer c.count-count.ensures _ _ c.loop-j.invariant.4 (omega arith) c.loop-j-test.false in
    proceeds_in_place c.requires.0 packed.0 packed.1 c.go-a.ensures _ unpacked c.count-count.ensures c.walks-walks.ensures _ refl c.loop-j.invariant.1 c.loop-j.invariant.2
