-- The bytes are the low ones of the number: four, or eight (`short_put`, `long_put`).
use Rattle.encoding.proofs.Numbers.{long_put, short_put}
use Rattle.encoding.proofs.put_number.Goals as goal

pub returns-in-Four : goal.returns-in-Four
returns-in-Four c = short_put _ _ c.in-Four.is c.to_le_bytes.ensures c.put.ensures

pub returns-in-Eight : goal.returns-in-Eight
returns-in-Eight c = long_put _ _ c.in-Eight.is c.to_le_bytes-in-Eight.ensures c.put-in-Eight.ensures
