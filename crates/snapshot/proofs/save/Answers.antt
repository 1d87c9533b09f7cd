-- `save` judges the machine first: a refused one leaves the file; an accepted one is `Savable`, and is written (`Saving.antt`).
use Rattle.snapshot.proofs.Saving.{refused, savable, accepted}
use Rattle.snapshot.proofs.save.Goals as goal

pub returns-then-is_err : goal.returns-then-is_err
returns-then-is_err c = search refused

pub write-length-requires : goal.write-length-requires
write-length-requires c = search savable

pub returns : goal.returns
returns c = search accepted
