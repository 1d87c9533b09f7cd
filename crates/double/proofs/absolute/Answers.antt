-- What is below the sign bit is the pattern without its sign (`without_sign_lem`).
use Rattle.std.proofs.Common.{sym, ap, ◌∙◌}
use Rattle.double.specs.Arithmetic.{pattern_of, absolute_of}
use Rattle.double.proofs.Signs.{without_sign_lem}
use Rattle.double.proofs.absolute.Goals as goal

pub returns : goal.returns
unfolding absolute_of
returns c = c.canonical.ensures ∙ sym (ap pattern_of (without_sign_lem c.args.x))
