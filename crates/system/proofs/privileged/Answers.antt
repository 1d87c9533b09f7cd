-- Each arm's callee ends as the tree of its instruction says; BOUT and SPAG are told of the record with pc moved on (`from_moved`), the others of the one before.
use Rattle.rules.specs.System.{bout_tree, spag_tree, privileged_tree}
use Rattle.system.proofs.Rest.{privileged_at, plain_ends}
use Rattle.system.proofs.Choices.{moved_good, from_moved}
use Rattle.system.proofs.privileged.Goals as goal

pub returns-in-Plain : goal.returns-in-Plain
returns-in-Plain c =
    privileged_at _ _ _ _ c.in-Plain.is (plain_ends _ _ _ _ c.requires c.moved-n.ensures c.computed.ensures)

pub returns-in-Rti : goal.returns-in-Rti
unfolding privileged_tree
returns-in-Rti c =
    privileged_at _ _ _ _ c.in-Rti.is (c.rti.ensures _)

pub returns-in-Bout : goal.returns-in-Bout
unfolding privileged_tree
returns-in-Bout c =
    privileged_at _ _ _ _ c.in-Bout.is (from_moved _ c.moved-n.ensures (bout_tree _) (c.bout.ensures _ _ (moved_good _ c.moved-n.ensures c.requires)))

pub returns-in-Pdir : goal.returns-in-Pdir
unfolding privileged_tree
returns-in-Pdir c =
    privileged_at _ _ _ _ c.in-Pdir.is (c.pdir.ensures _)

pub returns-in-Spag : goal.returns-in-Spag
unfolding privileged_tree
returns-in-Spag c =
    privileged_at _ _ _ _ c.in-Spag.is (from_moved _ c.moved-n.ensures spag_tree (c.spag.ensures _ _ (moved_good _ c.moved-n.ensures c.requires)))
