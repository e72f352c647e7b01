use Rattle.std.proofs.{Common.{◌≡◌, ◌+◌, ◌-◌, ◌*◌, length, slice_index, refl, ap, sym, ◌∙◌, arith, rules}, lemmas.List.take_all}
use Rattle.{std.{proofs.lemmas.Slice.{take-put_mid, overwrites}, specs.Int.{w64, to_be_bytes}}, sha_lanes.proofs.Hash64.{digest_start, digest_more}}
use Rattle.sha2.specs.Sha512 as S512
use Rattle.sha_lanes.proofs.words64.hash_values.hash_bytes.Goals as goal

pub loop-i-init : goal.loop-i-init
loop-i-init c = record { long = refl; bytes = digest_start _ }

pub loop-i-preserved : goal.loop-i-preserved
loop-i-preserved c =
    let i = c.loop-i.i in
    let written = c.copy_from_slice.new.self in
    let word : written ≡ to_be_bytes w64 (slice_index c.args.words.now i) = c.copy_from_slice.ensures.after ∙ c.to_be_bytes.ensures in
    let size : length written ≡ 8 = ap length word in
    record {
      long = search (rules, overwrites);
      bytes = take-put_mid (8 * i) (8 * i + 8 - 8 * i) c.loop-i.bytes written (8 * (i + 1)) (omega arith) (omega (arith, c.loop-i.invariant.long))
          ∙ digest_more c.args.words.now i c.loop-i.invariant.bytes word;
    }

pub returns : goal.returns
returns c =
    let end : c.loop-i.i ≡ 8 = omega arith in
    sym (take_all (8 * c.loop-i.i) c.loop-i.bytes (omega (arith, c.loop-i.invariant.long)))
    ∙ (c.loop-i.invariant.bytes ∙ ap (S512.digest_bytes c.args.words.now) end)
