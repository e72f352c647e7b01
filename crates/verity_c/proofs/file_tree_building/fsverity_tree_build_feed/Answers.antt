use Rattle.verity_c_api.proofs.AnswerLemmas.{says-of_file}
use Rattle.verity_c.proofs.FileTreeLemmas.{HandsOutOfFile-by, IsFedTreeTo-at, IsFedTreeTo-of, TakesFilePiece-by}
use Rattle.verity_c.proofs.file_tree_building.fsverity_tree_build_feed.Goals as goal

pub returns-in-Ok-feed-clause-takes : goal.returns-in-Ok-feed-clause-takes
returns-in-Ok-feed-clause-takes c = λ _. rw c.in-Ok.ensures.made
    (TakesFilePiece-by c.in-Ok.tree.now c.args.build.now c.feed.new.self _ c.in-Ok-feed.answer c.fed_of_file.result
    c.fed_of_file.ensures.value c.fed_of_file.ensures.some c.in-Ok-feed.ensures.takes)

pub returns-in-Ok-feed-clause-fed : goal.returns-in-Ok-feed-clause-fed
returns-in-Ok-feed-clause-fed c = λ bytes h _.
    let tree = c.in-Ok.tree.now in
    let said = says-of_file tree c.in-Ok-feed.answer c.fed_of_file.result c.fed_of_file.ensures.value
    c.fed_of_file.ensures.some in
    let fed = IsFedTreeTo-at c.args.params.now tree c.args.build.now _ bytes c.in-Ok.ensures.made h in
    rw said.taken_is (IsFedTreeTo-of c.args.params.now tree c.feed.new.self c.feed.new.memory _ c.in-Ok.ensures.made
    c.in-Ok-feed.ensures.settings (c.in-Ok-feed.ensures.fed bytes fed).is_fed)

pub returns-in-Ok-feed-clause-block : goal.returns-in-Ok-feed-clause-block
returns-in-Ok-feed-clause-block c = λ bytes h _.
    let tree = c.in-Ok.tree.now in
    let said = says-of_file tree c.in-Ok-feed.answer c.fed_of_file.result c.fed_of_file.ensures.value
    c.fed_of_file.ensures.some in
    let fed = IsFedTreeTo-at c.args.params.now tree c.args.build.now _ bytes c.in-Ok.ensures.made h in
    rw c.in-Ok.ensures.made
    (HandsOutOfFile-by tree c.args.build.now c.feed.new.self bytes _ _ c.in-Ok-feed.answer c.fed_of_file.result
    c.fed_of_file.ensures.value c.fed_of_file.ensures.some
    (rw (← said.taken_is) at (c.in-Ok-feed.ensures.fed bytes fed)))
