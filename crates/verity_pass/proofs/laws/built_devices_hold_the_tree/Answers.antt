use Rattle.verity_pass.proofs.{BesideTree.tree-byte, PutTree.put-holds}
use Rattle.verity_pass.proofs.laws.built_devices_hold_the_tree.Goals as goal

pub returns-clause-holds : goal.returns-clause-holds
returns-clause-holds c = put-holds

pub returns-clause-beside : goal.returns-clause-beside
returns-clause-beside c = tree-byte
