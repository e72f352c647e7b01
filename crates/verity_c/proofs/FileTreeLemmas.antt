-- What a builder of a file's tree has answered is what the library for C says of it.
use Rattle.std.proofs.Common.{◌≡◌, ◌<◌, ◌≤◌, ◌+◌, ◌*◌, ℕ, true, List, ◌++◌, Option, Some, None, Result, Ok, Err, arith, ap, refl, rules, subst}
use Rattle.{verity_plan.specs.{PlanCounts.most_level_count, Settings.TreeSettingsFields}, std.proofs.lemmas.Bool.Decides.nat_tests}
use Rattle.{verity_builders.specs.FileTrees.{FeedsFile, IsFedFileTree, TakesOfFile, given_of_file, last_block_fault}, std.specs.Prelude.◌==◌}
use Rattle.verity_builders.specs.declared.{feed_fault.FeedFault.FeedFault, file_tree_builder.{FileFed.FileFed, FileHashBlock.FileHashBlock}}
use Rattle.verity_builders.specs.declared.file_tree_builder.FileTreeBuilder.{FileTreeBuilder}
use Rattle.verity_c_api.specs.FileTrees.{HandsOutOfFile, IsFedTreeTo, TakesFilePiece, fed_by_file, fed_of_file, file_block_of, tree_builder_of}
use Rattle.verity_c_api.specs.{FileTrees.with_last_block, Parameters.fsverity_tree_of, Statuses.fault_of_feed, declared.build.VerityBuild.VerityBuild}
use Rattle.verity_c_api.specs.declared.{build.VerityFed.VerityFed, fault.Fault.Fault, parameters.FsverityParams.FsverityParams}
use Rattle.verity_c_api.proofs.{AnswerLemmas.{list-said, says-of_file, within-said}, ParameterLemmas.one_value}

-- a builder is that of its settings and its two numbers
tree_builder_of-parts : (s : TreeSettingsFields) (b : FileTreeBuilder) → b.settings ≡ s
    → b ≡ tree_builder_of s (record { fed = b.fed; closed = b.closed })
tree_builder_of-parts s b is =
    ap (λ (t : TreeSettingsFields). tree_builder_of t (record { fed = b.fed; closed = b.closed })) is

-- what was fed to the tree of parameters was fed to the builder of the settings that they make, and the other way round
pub IsFedTreeTo-at : (params : FsverityParams) (s : TreeSettingsFields) (build : VerityBuild) (memory fed : List ℕ)
    → fsverity_tree_of params ≡ Ok s
    → IsFedTreeTo params build memory fed → IsFedFileTree (tree_builder_of s build) memory fed
IsFedTreeTo-at params s build memory fed made h =
    let same : h.tree ≡ s = one_value (fsverity_tree_of params) h.tree s h.made made in
    subst (λ (t : TreeSettingsFields). IsFedFileTree (tree_builder_of t build) memory fed) same h.is_fed

pub IsFedTreeTo-of : (params : FsverityParams) (s : TreeSettingsFields) (b : FileTreeBuilder) (memory fed : List ℕ)
    → fsverity_tree_of params ≡ Ok s → b.settings ≡ s → IsFedFileTree b memory fed
    → IsFedTreeTo params (record { fed = b.fed; closed = b.closed }) memory fed
IsFedTreeTo-of params s b memory fed made is h = record {
  tree = s;
  made = made;
  is_fed = subst (λ (a : FileTreeBuilder). IsFedFileTree a memory fed) (tree_builder_of-parts s b is) h;
}

-- how much of a piece was taken, in the numbers of the struct
pub TakesFilePiece-by : (s : TreeSettingsFields) (before : VerityBuild) (after : FileTreeBuilder) (count : ℕ)
    (answer : FileFed) (fed : VerityFed) → fed ≡ fed_of_file s answer → 0 < s.hash_block
    → TakesOfFile (tree_builder_of s before) after count answer
    → TakesFilePiece s before (record { fed = after.fed; closed = after.closed }) count fed
TakesFilePiece-by s before after count answer fed is some h =
    let said = says-of_file s answer fed is some in
    let within : fed.block_at + fed.block_length ≤ most_level_count s * s.hash_block =
    within-said fed.block_level (most_level_count s) said
    (λ block. let placed = h.placed (file_block_of fed) (said.some block) in (placed.level_below, placed.at_is)) in
    let start : fed.block_start ≡ 0 = no_start answer.hash_block is in
    let nothing : count ≡ 0 → record { fed = after.fed; closed = after.closed } ≡ before =
    λ zero. ap (λ (b : FileTreeBuilder). record { fed = b.fed; closed = b.closed }) (h.nothing zero) in
    let before_end = h.before_end (file_block_of fed) in
    let rises = h.rises (file_block_of fed) in
    search (rules, said.taken_is, said.none, said.some, h.all, h.none_waits, nothing, h.placed, before_end, rises)
  where
    no_start : (named : Option FileHashBlock) → fed ≡ fed_by_file s.hash_block answer.taken named → fed.block_start ≡ 0
    no_start None is = ap (λ (f : VerityFed). f.block_start) is
    no_start (Some block) is = ap (λ (f : VerityFed). f.block_start) is

-- the hash block that is handed out, in the numbers of the struct
pub HandsOutOfFile-by : (s : TreeSettingsFields) (before : VerityBuild) (after : FileTreeBuilder)
    (bytes more memory : List ℕ) (answer : FileFed) (fed : VerityFed) → fed ≡ fed_of_file s answer → 0 < s.hash_block
    → FeedsFile (tree_builder_of s before) after bytes more memory answer.hash_block
    → HandsOutOfFile s before (record { fed = after.fed; closed = after.closed }) (bytes ++ more) memory fed
HandsOutOfFile-by s before after bytes more memory answer fed is some h =
    let said = says-of_file s answer fed is some in
    search (rules, list-said given_of_file said refl refl, said.some, h.order, h.stands (file_block_of fed))

-- settings whose tree has the level, or the fault of the builder
pub with_last_block-ok : (made : Result TreeSettingsFields Fault) (s : TreeSettingsFields) (build : VerityBuild)
    (level room : ℕ) → made ≡ Ok s → room ≡ s.hash_block → last_block_fault (tree_builder_of s build) level ≡ None
    → with_last_block made build level room ≡ Ok s
with_last_block-ok made s build level room is fits none =
    let is_room : (room == s.hash_block) ≡ true = grind (arith, nat_tests, fits) in
    rw (is, is_room, none) refl

pub with_last_block-fault : (made : Result TreeSettingsFields Fault) (s : TreeSettingsFields) (build : VerityBuild)
    (level room : ℕ) (fault : FeedFault) → made ≡ Ok s → room ≡ s.hash_block
    → last_block_fault (tree_builder_of s build) level ≡ Some fault
    → with_last_block made build level room ≡ Err (fault_of_feed fault)
with_last_block-fault made s build level room fault is fits some =
    let is_room : (room == s.hash_block) ≡ true = grind (arith, nat_tests, fits) in
    rw (is, is_room, some) refl
