-- One law of `Order` a return: the tests before it passed and its own failed, so that its number is the lowest; after all five the read is accepted.
use Rattle.snapshot.proofs.Order.{passed, failed, read_size, read_header, read_counts, read_offsets, read_held, read_record, read_accepted}
use Rattle.snapshot.proofs.judge_read.Goals as goal

pub returns-then-not-size_ok : goal.returns-then-not-size_ok
returns-then-not-size_ok c = search (read_size, failed)

pub returns-then-file-lt-HEADER : goal.returns-then-file-lt-HEADER
returns-then-file-lt-HEADER c = search (read_header, passed)

pub returns-then-not-counts_ok : goal.returns-then-not-counts_ok
returns-then-not-counts_ok c = search (read_counts, passed)

pub returns-then-not-offsets_ok-length_ok : goal.returns-then-not-offsets_ok-length_ok
returns-then-not-offsets_ok-length_ok c = search (read_offsets, passed)

pub record_ok-requires : goal.record_ok-requires
record_ok-requires c =
    read_held _ _ _ _ c.counts_ok.ensures c.if-not-counts_ok.false c.offsets_ok.ensures c.length_ok.ensures c.if-not-offsets_ok-length_ok.false

pub returns-then-not-record_ok : goal.returns-then-not-record_ok
returns-then-not-record_ok c = search (read_record, passed)

pub returns : goal.returns
returns c = search (read_accepted, passed)
