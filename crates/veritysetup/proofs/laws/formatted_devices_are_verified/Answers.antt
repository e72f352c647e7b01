use Rattle.veritysetup.proofs.AcceptedLemmas.{accepted-back, done-back, superblock-back, verified-back}
use Rattle.veritysetup.proofs.laws.formatted_devices_are_verified.Goals as goal

pub returns-clause-superblock : goal.returns-clause-superblock
returns-clause-superblock c = λ s path source rest before after out out_after planned agree uuid has formatted.
    superblock-back s source before after (record { planned = planned; agree = agree; uuid = uuid }) formatted.stands has

pub returns-clause-verified : goal.returns-clause-verified
returns-clause-verified c =
    λ s path source rest before after bytes out out_after input planned agree uuid formatted given same.
    verified-back s input source bytes before after (record { planned = planned; agree = agree; uuid = uuid })
    formatted.stands given same

pub returns-clause-accepted : goal.returns-clause-accepted
returns-clause-accepted c =
    λ s path source rest before after bytes left out out_after input outcome planned agree uuid formatted given same
    verifies.
    accepted-back s source bytes before after left input outcome
    (record { planned = planned; agree = agree; uuid = uuid }) formatted.stands given same verifies

pub returns-clause-done : goal.returns-clause-done
returns-clause-done c =
    λ s path source rest before after bytes left out out_after input outcome planned agree uuid formatted given same
    verifies.
    done-back s source bytes before after left input outcome
    (record { planned = planned; agree = agree; uuid = uuid }) formatted.stands given same verifies
