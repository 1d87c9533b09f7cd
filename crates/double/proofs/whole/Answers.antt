-- Below 2^52 a magnitude is in the range of the cast (`small`).
use Rattle.std.proofs.Common.{◌∙◌}
use lib.Ieee.{binary64}
use lib.Ieee.Bits.{nan_bits_is}
use Rattle.double.proofs.Nan.{no_nan}
use Rattle.double.proofs.Magnitudes.{small, small_number, small_above, small_below}
use Rattle.double.proofs.whole.Goals as goal

pub float_from_bits-m : goal.float_from_bits-m
float_from_bits-m c = no_nan (nan_bits_is binary64 c.args.m ∙ small_number (small c.args.m c.requires))

pub truncating_f64_to_u64-requires : goal.truncating_f64_to_u64-requires
truncating_f64_to_u64-requires c = let k = small c.args.m c.requires in record { lower_bound = small_above k; upper_bound = small_below k }
