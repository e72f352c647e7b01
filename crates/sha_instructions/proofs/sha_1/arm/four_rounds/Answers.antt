use Rattle.sha_instructions.proofs.Rounds1.{arm_four, e_after, four_choose, four_last, four_majority, four_parity}
use Rattle.sha_instructions.proofs.sha_1.arm.four_rounds.Goals.{then-t-lt20, else-t-lt20, then-t-lt40, else-t-lt40, then-t-lt60, else-t-lt60}
use Rattle.std.{proofs.Common.{ap, ◌∙◌, arith, slice_index}, specs.Int.{rotate_left, w32}}
use Rattle.sha1.specs.Sha1 as S1
use Rattle.sha_instructions.proofs.sha_1.arm.four_rounds.Goals as goal

pub returns : goal.returns
returns c s w has words =
    let t = c.args.t in
    let e = c.args.v.e in (
      elim c.if-t-lt20.branch [
        | then-t-lt20 b ↦ b.abcd-is ∙ arm_four e S1.ch 0x5A827999 s w t (four_choose s w t (omega arith)) has.0 has.1 words b.add.ensures b.sha1c-abcd.ensures
        | else-t-lt20 b ↦ b.abcd-is ∙ elim b.if-t-lt40.branch [
          | then-t-lt40 d ↦ d.abcd-is ∙ arm_four e S1.parity 0x6ED9EBA1 s w t (four_parity s w t (omega arith) (omega arith)) has.0 has.1 words d.add-then-t-lt40.ensures d.sha1p.ensures
          | else-t-lt40 d ↦ d.abcd-is ∙ elim d.if-t-lt60.branch [
            | then-t-lt60 f ↦ f.abcd-is ∙ arm_four e S1.maj 0x8F1BBCDC s w t (four_majority s w t (omega arith) (omega arith)) has.0 has.1 words f.add-then-t-lt60.ensures f.sha1m.ensures
            | else-t-lt60 f ↦ f.abcd-is ∙ arm_four e S1.parity 0xCA62C1D6 s w t (four_last s w t (omega arith)) has.0 has.1 words f.add-else-t-lt60.ensures f.sha1p-else-t-lt60.ensures
          ]
        ]
      ],
      ap (λ z. slice_index z 0) c.sha1h-e.ensures ∙ (ap (λ z. rotate_left w32 (slice_index z 0) 30) has.0 ∙ e_after s w t),
    )
