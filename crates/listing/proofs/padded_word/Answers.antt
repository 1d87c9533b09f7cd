-- Four bytes are a word (`four_bytes`).
use Rattle.listing.proofs.Words.{four_bytes}
use Rattle.listing.proofs.padded_word.Goals as goal

pub returns : goal.returns
returns c =
    four_bytes _ _ c.byte.ensures c.byte-2.ensures c.byte-3.ensures c.byte-4.ensures c.from_le_bytes.ensures
