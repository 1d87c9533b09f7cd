-- The match tells the kind of access, and its fault is the definition's at that kind.
use mathlib.Core.Path.{sym, ap}
use Rattle.paging.specs.TrapCode.{page_fault}
use Rattle.walk.proofs.page_fault.Goals as goal

pub returns-in-Fetch : goal.returns-in-Fetch
unfolding page_fault
returns-in-Fetch c = sym (ap page_fault c.in-Fetch.is)

pub returns-in-Read : goal.returns-in-Read
unfolding page_fault
returns-in-Read c = sym (ap page_fault c.in-Read.is)

pub returns-in-Write : goal.returns-in-Write
unfolding page_fault
returns-in-Write c = sym (ap page_fault c.in-Write.is)
