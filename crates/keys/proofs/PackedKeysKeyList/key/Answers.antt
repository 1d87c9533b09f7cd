-- The key is read from its nine bytes (`nth_unpacked`).
use Rattle.keys.proofs.Packed.{nth_unpacked}
use Rattle.keys.specs.Packed.{key_at}
use Rattle.keys.proofs.PackedKeysKeyList.key.Goals as goal

pub returns : goal.returns
unfolding key_at
returns c = rw (nth_unpacked _ _ c.requires, c.load8.ensures)
