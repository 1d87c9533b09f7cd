-- The rule of both cuts, with CDU's limits and word (`unsigned_cut`).
use Rattle.double.proofs.Cuts.{unsigned_cut, cut_large, cut_over, cut_fits, cut_word}
use Rattle.double.proofs.cut_unsigned.Goals as goal

pub returns-then-m-ge-TWO_52 : goal.returns-then-m-ge-TWO_52
returns-then-m-ge-TWO_52 c = cut_large unsigned_cut _ c.if-m-ge-TWO_52.true

pub returns-then-limit-n : goal.returns-then-limit-n
returns-then-limit-n c = cut_over unsigned_cut _ c.if-m-ge-TWO_52.false c.whole-n.ensures c.limit.ensures c.if-limit-n.true

pub overflow_cast-result : goal.overflow_cast-result
overflow_cast-result c =
    record { fits = cut_word unsigned_cut _ c.if-m-ge-TWO_52.false c.whole-n.ensures c.limit.ensures c.if-limit-n.false }

pub returns : goal.returns
returns c = cut_fits unsigned_cut _ c.if-m-ge-TWO_52.false c.whole-n.ensures c.limit.ensures c.if-limit-n.false
