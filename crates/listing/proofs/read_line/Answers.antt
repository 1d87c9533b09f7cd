-- A line shorter than address and word, one that is its word's, or another (`read_short`, `read_line_lem`, `read_other`).
use Rattle.listing.proofs.Reading.{read_short, read_line_lem, read_other}
use Rattle.listing.proofs.read_line.Goals as goal

pub returns-then-line-lt17 : goal.returns-then-line-lt17
returns-then-line-lt17 c =
    read_short _ c.unlisted.ensures c.if-line-lt17.true

pub returns-then-is_line_of : goal.returns-then-is_line_of
returns-then-is_line_of c =
    read_line_lem _ c.read8-address.ensures c.read8-word.ensures c.is_line_of.ensures c.if-is_line_of.true

pub returns : goal.returns
returns c =
    read_other _ c.read8-address.ensures c.read8-word.ensures c.is_line_of.ensures c.unlisted-2.ensures c.if-is_line_of.false
