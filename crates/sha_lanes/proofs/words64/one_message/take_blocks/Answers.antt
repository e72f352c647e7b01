use Rattle.std.proofs.Common.{◌≡◌, ◌+◌, ◌*◌, ◌<◌, ◌++◌, length, take, drop, refl, ap, sym, subst, ◌∙◌, arith, rules}
use Rattle.std.proofs.lemmas.List.{length-take-le}
use Rattle.sha_lanes.{specs.Words64.{AddsConstants, block_count}, proofs.{Groups.{first_hold, holds_padded}, Hash64.hash_more, OneMessage.schedule_at64}}
use Rattle.sha_lanes.proofs.words64.one_message.take_blocks.Goals.{in-Some, in-None}
use Rattle.sha2.specs.Sha512 as S512
use Rattle.sha_lanes.proofs.words64.one_message.take_blocks.Goals as goal

pub loop-j-init : goal.loop-j-init
loop-j-init c h is = is ∙ ap (S512.hash_after h (S512.padded_message (c.args.first.now ++ c.args.second.now ++ c.args.third.now))) (omega arith)

pub loop-j-preserved : goal.loop-j-preserved
loop-j-preserved c h is =
    let first = c.args.first.now in
    let second = c.args.second.now in
    let third = c.args.third.now in
    let m = first ++ second ++ third in
    let p = S512.padded_message m in
    let k = c.args.k in
    let j = c.loop-j.j in
    let kw = c.match-rest_in.kw in
    let block = take 128 (drop ((k + j) * 128) p) in
    let below : j < 4 = omega arith in
    let inside : k + j < block_count (length first + length second + length third) = omega arith in
    let words : AddsConstants kw j (S512.schedule block 64) = elim c.match-rest_in.branch [
      | in-Some s ↦
          let rest = s.in-Some.rest.now in
          let found = s.in-Some.ensures.bytes in
          let long : length (take 512 rest) ≡ 512 = length-take-le 512 rest found.0 in
          subst (λ z. AddsConstants z j (S512.schedule block 64)) (sym s.kw-is)
          (subst (AddsConstants s.set_words.new.kw j)
          (schedule_at64 first second third k j _ below inside (first_hold 512 rest p (k * 128) (holds_padded rest m _ (k * 128) found.2 found.1) found.0 long) long)
          (s.set_words.ensures j below))
      | in-None s ↦
          subst (λ z. AddsConstants z j (S512.schedule block 64)) (sym s.kw-is)
          (subst (AddsConstants s.set_words-in-None.new.kw j)
          (schedule_at64 first second third k j s.padded_row.result below inside s.padded_row.ensures (search rules))
          (s.set_words-in-None.ensures j below))
    ] in
    hash_more h p (k + j) (c.loop-j.invariant h is) refl (c.compress.ensures block words)
    ∙ ap (S512.hash_after h p) (omega arith)

pub returns : goal.returns
returns c h is =
    let end : c.loop-j.j ≡ c.args.count = omega arith in
    c.loop-j.invariant h is ∙ ap (λ z. S512.hash_after h (S512.padded_message (c.args.first.now ++ c.args.second.now ++ c.args.third.now)) (c.args.k + z)) end
