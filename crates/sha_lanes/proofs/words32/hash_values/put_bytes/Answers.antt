use Rattle.std.proofs.{Common.{◌≡◌, ◌+◌, ◌-◌, ◌*◌, length, slice_index, ap, sym, ◌∙◌, arith}, lemmas.{List.take_all, Slice.take-put_mid}}
use Rattle.{std.specs.Int.{w32, to_be_bytes}, sha_lanes.proofs.Hash32.{digest_start, digest_more}}
use Rattle.sha2.specs.Sha256 as S256
use Rattle.sha_lanes.proofs.words32.hash_values.put_bytes.Goals as goal

pub loop-i-init : goal.loop-i-init
loop-i-init c = digest_start _

pub loop-i-preserved : goal.loop-i-preserved
loop-i-preserved c =
    let i = c.loop-i.i in
    let written = c.copy_from_slice.new.self in
    let word : written ≡ to_be_bytes w32 (slice_index c.args.words.now i) = c.copy_from_slice.ensures.after ∙ c.to_be_bytes.ensures in
    let size : length written ≡ 4 = ap length word in
    take-put_mid (4 * i) (4 * i + 4 - 4 * i) c.loop-i.bytes written (4 * (i + 1)) (omega arith) (omega arith)
    ∙ digest_more c.args.words.now i c.loop-i.invariant word

pub returns : goal.returns
returns c =
    let end : c.loop-i.i ≡ length c.args.words.now = omega arith in
    sym (take_all (4 * c.loop-i.i) c.loop-i.bytes (omega arith))
    ∙ (c.loop-i.invariant ∙ ap (S256.digest_bytes c.args.words.now) end)
