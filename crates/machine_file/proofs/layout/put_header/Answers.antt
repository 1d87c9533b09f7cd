-- The numbers written are the header's, with the offsets as they were computed (`header_added`).
use Rattle.machine_file.proofs.Parts.{header_added}
use Rattle.encoding.specs.Encoding.{widths}
use mathlib.Core.Path.{refl}
use Rattle.machine_file.proofs.layout.put_header.Goals as goal

pub put_numbers-requires : goal.put_numbers-requires
unfolding widths
put_numbers-requires c = (refl, c.requires.1)

pub returns : goal.returns
returns c = header_added _ c.console_at.ensures c.memory_at.ensures c.put_numbers.ensures
