-- The frame lies beyond memory (`frame_beyond`), or is mapped with the rights that both words give (`frame_mapped`).
use native.Mathlib.Omega.{arith}
use Rattle.walk.proofs.Stages.{frame_beyond, frame_mapped}
use Rattle.walk.proofs.walk_frame.Goals as goal

pub returns-then-table-mem : goal.returns-then-table-mem
returns-then-table-mem c =
    frame_beyond c.args.mem.now c.args.dir c.args.table c.args.at (omega arith)

pub returns : goal.returns
returns c =
    frame_mapped c.args.mem.now c.args.dir c.args.table c.args.at (omega arith) c.load4-marked.ensures (cc) (cc)
