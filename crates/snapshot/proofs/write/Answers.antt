-- The blocks are written one after another, each where the one before it ends, with room for the rest (`Saving.antt`).
use Rattle.snapshot.proofs.Saving.{header_room, registers_room, entries_room, console_room, memory_room, all_added}
use Rattle.text.proofs.Laws.{finished}
use borrow.Author.Rules.{rules}
use Rattle.snapshot.proofs.write.Goals as goal

pub put_header-requires : goal.put_header-requires
put_header-requires c = header_room c.requires c.counts_of.ensures c.new-out.result c.new-out.ensures.start

pub put_registers-requires : goal.put_registers-requires
put_registers-requires c = registers_room c.requires c.counts_of.ensures c.new-out.result c.new-out.ensures.start c.put_header.ensures

pub put_entries-requires : goal.put_entries-requires
put_entries-requires c =
    entries_room c.requires c.counts_of.ensures c.new-out.result c.new-out.ensures.start c.put_header.ensures c.put_registers.ensures

pub put-requires : goal.put-requires
put-requires c =
    console_room c.requires c.counts_of.ensures c.new-out.result c.new-out.ensures.start c.put_header.ensures c.put_registers.ensures (search rules)
    c.put_entries.ensures

pub put-requires-2 : goal.put-requires-2
put-requires-2 c =
    memory_room c.requires c.counts_of.ensures c.new-out.result c.new-out.ensures.start c.put_header.ensures c.put_registers.ensures (search rules)
    c.put_entries.ensures c.put.ensures

pub returns : goal.returns
returns c =
    finished c.new-out.ensures.start
    (all_added c.requires c.counts_of.ensures c.new-out.result c.new-out.ensures.start c.put_header.ensures c.put_registers.ensures (search rules)
    c.put_entries.ensures c.put.ensures c.put-2.ensures)
    c.end.ensures (search rules)
