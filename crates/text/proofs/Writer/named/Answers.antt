-- The name, and the number after it, of at most 20 digits (`length_digits`).
use native.Mathlib.Omega.{arith}
use Rattle.text.proofs.Laws.{length_digits, adds_then}
use Rattle.text.proofs.Writer.named.Goals as goal

pub returns : goal.returns
returns c = record {
  adds = adds_then c.put.ensures c.decimal.ensures;
  room = omega (arith, c.put.ensures.written.end, c.decimal.ensures.written.end, length_digits 20 c.args.n);
}
