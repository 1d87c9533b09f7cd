-- The rule of both cuts, with CDI's limits and word (`signed_cut`).
use Rattle.std.proofs.Common.{ap, ◌∙◌}
use Rattle.std.specs.Prelude.{Some}
use Rattle.double.proofs.Cuts.{signed_cut, cut_large, cut_over, cut_fits, cut_word}
use Rattle.double.proofs.cut_signed.Goals as goal

pub returns-then-m-ge-TWO_52 : goal.returns-then-m-ge-TWO_52
returns-then-m-ge-TWO_52 c = cut_large signed_cut _ c.if-m-ge-TWO_52.true

pub returns-then-limit-n : goal.returns-then-limit-n
returns-then-limit-n c = cut_over signed_cut _ c.if-m-ge-TWO_52.false c.whole-n.ensures c.limit.ensures c.if-limit-n.true

pub overflow_cast-n : goal.overflow_cast-n
overflow_cast-n c =
    record { fits = cut_word signed_cut _ c.if-m-ge-TWO_52.false c.whole-n.ensures c.limit.ensures c.if-limit-n.false }

pub returns : goal.returns
returns c =
    ap Some c.with_sign.ensures ∙ cut_fits signed_cut _ c.if-m-ge-TWO_52.false c.whole-n.ensures c.limit.ensures c.if-limit-n.false
