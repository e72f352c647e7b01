use Rattle.{std.proofs.Common.refl, verity_blocks.specs.TreeWriting.device_with}
use Rattle.verity_pass.{specs.Steps.OnClosed.{KeepsAny, StopsWriting, WritesAll, is_unwritten, effects}, proofs.Passes.OnePass.stops-next}
use Rattle.verity_pass.proofs.building.build.Goals as goal

pub returns-in-Ok-clause-stands : goal.returns-in-Ok-clause-stands
unfolding device_with
returns-in-Ok-clause-stands g c = λ tells told. c.in-Ok.ensures.run.leaves tells told refl

pub returns-in-Short-clause-stands : goal.returns-in-Short-clause-stands
unfolding device_with
returns-in-Short-clause-stands g c = λ tells told.
    let h = c.in-Err-InData.ensures.run.leaves tells told refl in
    rw c.in-Err-InData.field-0-is at h

pub returns-in-Failed-clause-stands : goal.returns-in-Failed-clause-stands
unfolding device_with
returns-in-Failed-clause-stands g c = λ tells told.
    let h = c.in-Err-InData.ensures.run.leaves tells told refl in
    rw c.in-Err-InData.field-0-is at h

pub returns-in-Err-AtBlock-clause-stands : goal.returns-in-Err-AtBlock-clause-stands
unfolding device_with
returns-in-Err-AtBlock-clause-stands g c = λ tells told.
    let h = c.in-Err-AtBlock.ensures.run.leaves tells told refl in
    let stops = (rw c.in-Err-AtBlock.field-0-is at h) in
    record {
      done = stops.done;
      next = stops-next (effects is_unwritten KeepsAny WritesAll StopsWriting) c.args.plan.now _ c.in-Err-AtBlock.field-0-0 _ _ stops;
      spoiled = stops.stopped;
    }
