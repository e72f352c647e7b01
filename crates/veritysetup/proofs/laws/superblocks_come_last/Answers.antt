use Rattle.{std.proofs.Common.{subst, sym}, veritysetup.proofs.ResumedLemmas.{begun-unread, unread-refused}}
use Rattle.veritysetup.{specs.Runs.Formatted.IsFormattedDevice, proofs.{FormattedLemmas.written-formatted, SettingsLemmas.AreValid}}
use Rattle.veritysetup.proofs.laws.superblocks_come_last.Goals as goal

pub returns-clause-unread : goal.returns-clause-unread
returns-clause-unread c = λ s source left between cause v planned agree uuid has early read stands.
    begun-unread s source left between cause (record { planned = planned; agree = agree; uuid = uuid }) has early read
    stands v

pub returns-clause-refused : goal.returns-clause-refused
returns-clause-refused c =
    λ s source left between bytes rest cause input outcome planned agree uuid has early read stands there verifies
    called.
    unread-refused s.offset input between bytes rest outcome
    (begun-unread s source left between cause (record { planned = planned; agree = agree; uuid = uuid }) has early read
    stands)
    there verifies called

pub returns-clause-reported : goal.returns-clause-reported
returns-clause-reported c = λ s source left before between cause planned agree uuid read stands.
    let valid : AreValid s = record { planned = planned; agree = agree; uuid = uuid } in
    subst (IsFormattedDevice s source before) (sym stands) (written-formatted s source before valid read.enough)
