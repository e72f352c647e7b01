use Rattle.verity_c_api.proofs.LoopEndLemmas.{end-loop-ends, join-loop-ends, loop-ends, part-loop-ends, tree-loop-ends}
use Rattle.verity_c_api.proofs.laws.building_loops_end.Goals as goal

pub returns-clause-tree : goal.returns-clause-tree
returns-clause-tree c = loop-ends

pub returns-clause-part : goal.returns-clause-part
returns-clause-part c = part-loop-ends

pub returns-clause-join : goal.returns-clause-join
returns-clause-join c = join-loop-ends

pub returns-clause-file_tree : goal.returns-clause-file_tree
returns-clause-file_tree c = tree-loop-ends

pub returns-clause-file_end : goal.returns-clause-file_end
returns-clause-file_end c = end-loop-ends
