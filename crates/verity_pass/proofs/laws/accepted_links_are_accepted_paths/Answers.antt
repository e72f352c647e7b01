use Rattle.{std.proofs.Common.{◌≡◌, suc, ◌+◌, arith}, verity_pass.proofs.Paths.AcceptedLinks.{AreHashBlocks, accepted-linked, linked-accepted}}
use Rattle.verity_pass.proofs.laws.accepted_links_are_accepted_paths.Goals as goal

pub returns : goal.returns
returns c = λ p i blocks root each.
    let hash_blocks : AreHashBlocks p blocks = λ l low.
    let e : suc l ≡ l + 1 = omega arith in rw e (each l low) in
    (linked-accepted p i blocks root hash_blocks, accepted-linked p i blocks root hash_blocks)
