-- With room the byte and the count are the leaf's; without, only a changes.
use mathlib.Core.Path.{refl}
use Rattle.system.proofs.Rest.{bout_room, bout_full}
use Rattle.system.proofs.bout.Goals as goal

pub returns-then-c-console : goal.returns-then-c-console
returns-then-c-console c = λ m l g. bout_room _ g c.if-c-console.true refl refl refl

pub returns : goal.returns
returns c = λ m l g. bout_full _ g c.if-c-console.false refl
