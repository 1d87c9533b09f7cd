-- One law of `Order` a return: the tests before it passed and its own failed, so that its number is the lowest; after all six the save is accepted.
use Rattle.snapshot.proofs.Order.{passed, failed, save_size, save_registers, save_buffer, save_console, save_small, save_room, save_offset, save_accepted}
use Rattle.snapshot.proofs.judge_save.Goals as goal

pub returns-then-not-size_ok : goal.returns-then-not-size_ok
returns-then-not-size_ok c = search (save_size, failed)

pub returns-then-not-registers_ok : goal.returns-then-not-registers_ok
returns-then-not-registers_ok c = search (save_registers, passed, failed)

pub returns-then-not-slots_ok : goal.returns-then-not-slots_ok
returns-then-not-slots_ok c = search (save_buffer, passed, failed)

pub returns-then-capacity-m : goal.returns-then-capacity-m
returns-then-capacity-m c = search (save_console, passed)

pub length_by-requires : goal.length_by-requires
length_by-requires c =
    let size = passed c.size_ok.ensures c.if-not-size_ok.false in
    let slots = passed c.slots_ok.ensures c.if-not-slots_ok.false in
    save_small c.args.m _ _ c.counts_of-k.ensures size slots c.if-capacity-m.false c.requires

pub returns-then-room-length_by : goal.returns-then-room-length_by
returns-then-room-length_by c = search (save_room, passed)

pub memory_at-requires : goal.memory_at-requires
memory_at-requires c =
    let size = passed c.size_ok.ensures c.if-not-size_ok.false in
    let slots = passed c.slots_ok.ensures c.if-not-slots_ok.false in
    save_small c.args.m _ _ c.counts_of-k.ensures size slots c.if-capacity-m.false c.requires

pub returns-then-memory_at-ge4294967296 : goal.returns-then-memory_at-ge4294967296
returns-then-memory_at-ge4294967296 c = search (save_offset, passed)

pub returns : goal.returns
returns c = search (save_accepted, passed)
