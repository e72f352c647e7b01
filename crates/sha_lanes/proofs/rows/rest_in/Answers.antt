use Rattle.std.proofs.{Common.{[], ◌++◌, refl}, lemmas.{List.{append-nil, append_assoc, length-append}, Option.IfSome_then}}
use Rattle.sha_lanes.proofs.Groups.{rest_of_piece}
use Rattle.sha_lanes.proofs.rows.rest_in.Goals as goal

pub returns-in-Some-clause-bytes : goal.returns-in-Some-clause-bytes
returns-in-Some-clause-bytes c =
    rest_of_piece c.args.size c.args.first.now c.args.second.now c.args.third.now _ c.args.at _ refl c.in-Some.ensures.bytes

pub returns-in-Some-rest_of-clause-bytes : goal.returns-in-Some-rest_of-clause-bytes
returns-in-Some-rest_of-clause-bytes c =
    let front = c.args.first.now ++ c.args.second.now in
    rw (← append-nil (front ++ c.args.third.now))
    (rest_of_piece c.args.size front c.args.third.now [] _ c.args.at _ (length-append c.args.first.now c.args.second.now) c.in-Some-rest_of.ensures.bytes)

pub returns-in-None-rest_of-clause-bytes : goal.returns-in-None-rest_of-clause-bytes
returns-in-None-rest_of-clause-bytes c =
    let rest = c.args.second.now ++ c.args.third.now in
    IfSome_then c.rest_of-in-None-rest_of.result c.rest_of-in-None-rest_of.ensures.bytes
    (λ bytes found. rw (append_assoc c.args.first.now c.args.second.now c.args.third.now)
    (rest_of_piece c.args.size [] c.args.first.now rest 0 c.args.at bytes.now refl found))
