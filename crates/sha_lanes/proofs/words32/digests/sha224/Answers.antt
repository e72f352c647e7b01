use Rattle.sha_lanes.proofs.{LaneWise.first_cases, Hash32.sha224_is}
use Rattle.sha_lanes.proofs.words32.digests.sha224.Goals as goal

pub returns : goal.returns
returns c =
    first_cases _ c.requires.most
    (λ lt. sha224_is _ c.leftmost_224.ensures c.hash_bytes.ensures (c.hash_values.ensures 0 lt))
    (λ lt. sha224_is _ c.leftmost_224-2.ensures c.hash_bytes-2.ensures (c.hash_values.ensures 1 lt))
    (λ lt. sha224_is _ c.leftmost_224-3.ensures c.hash_bytes-3.ensures (c.hash_values.ensures 2 lt))
    (λ lt. sha224_is _ c.leftmost_224-4.ensures c.hash_bytes-4.ensures (c.hash_values.ensures 3 lt))
    (λ lt. sha224_is _ c.leftmost_224-5.ensures c.hash_bytes-5.ensures (c.hash_values.ensures 4 lt))
    (λ lt. sha224_is _ c.leftmost_224-6.ensures c.hash_bytes-6.ensures (c.hash_values.ensures 5 lt))
    (λ lt. sha224_is _ c.leftmost_224-7.ensures c.hash_bytes-7.ensures (c.hash_values.ensures 6 lt))
    (λ lt. sha224_is _ c.leftmost_224-8.ensures c.hash_bytes-8.ensures (c.hash_values.ensures 7 lt))
