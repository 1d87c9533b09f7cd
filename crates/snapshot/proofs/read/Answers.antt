-- `read` judges the file first: a refused one leaves memory and console and gives the all-zero record; an accepted one is `Readable`, and is unpacked
-- (`Reading.antt`).
use Rattle.snapshot.proofs.Reading.{refused, with_header, readable, with_blocks, accepted}
use Rattle.snapshot.proofs.read.Goals as goal

pub returns-then-is_err : goal.returns-then-is_err
returns-then-is_err c = search refused

pub counts_at-k-requires : goal.counts_at-k-requires
counts_at-k-requires c = search with_header

pub unpack-requires : goal.unpack-requires
unpack-requires c = search readable

pub machine_at-requires : goal.machine_at-requires
machine_at-requires c = search with_blocks

pub returns : goal.returns
returns c =
    accepted _ _ _ c.judge_read-answer.ensures c.is_err.ensures.value c.if-is_err.false c.counts_at-k.ensures c.unpack.ensures c.machine_at.ensures
