-- A right is at most 1 (`bool_le`), so that no sum leaves u64; the number unpacks to the entry (`pack_is`).
use Rattle.std.proofs.Common.{arith}
use Rattle.buffer.proofs.Packing.{bool_le, pack_is}
use Rattle.buffer.proofs.pack.Goals as goal

pub overflow_mul-result-3 : goal.overflow_mul-result-3
overflow_mul-result-3 c = omega (arith, bool_le c.args.user, bool_le c.args.write)

pub overflow_add-result : goal.overflow_add-result
overflow_add-result c = omega (arith, bool_le c.args.user, bool_le c.args.write)

pub overflow_add-result-2 : goal.overflow_add-result-2
overflow_add-result-2 c = omega (arith, bool_le c.args.user, bool_le c.args.write)

pub overflow_add-result-3 : goal.overflow_add-result-3
overflow_add-result-3 c = omega (arith, bool_le c.args.user, bool_le c.args.write)

pub returns : goal.returns
returns c = pack_is _ _ _ _ c.requires
