-- The part that is copied is the text (`put_written`), and the lent bytes are as many as before (`length-put_mid`).
use Prim.Native.Nat.{◌+◌, ◌-◌}
use mathlib.Core.Path.{refl}
use lib.ListN.{length}
use native.Mathlib.Omega.{arith}
use Rattle.text.proofs.Laws.{put_written, length-put_mid}
use Rattle.text.proofs.Writer.put.Goals as goal

pub returns : goal.returns
returns c = record {
  same = refl;
  written = put_written c.requires c.copy_from_slice.ensures.after (omega arith);
  size = length-put_mid c.args.self.now.end (c.args.self.now.end + length c.args.bytes.now - c.args.self.now.end) c.copy_from_slice.new.self c.args.self.now.bytes.now (omega arith) (omega arith);
}
