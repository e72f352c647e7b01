use Rattle.{std.proofs.Common.{subst, sym}, verity_blocks.specs.Levels.data_blocks, veritysetup.proofs.SettingsLemmas.AreValid}
use Rattle.veritysetup.{specs.Runs.{Format.formatted_device, Formatted.IsFormattedDevice}, proofs.FormattedLemmas.{formatted-same, written-formatted}}
use Rattle.veritysetup.proofs.laws.formatted_devices_are_written.Goals as goal

pub returns : goal.returns
returns c = λ s source before after planned agree uuid enough.
    let valid : AreValid s = record { planned = planned; agree = agree; uuid = uuid } in
    let written = written-formatted s source before valid enough in (
      λ same. subst (IsFormattedDevice s source before) (sym same) written,
      λ formatted. formatted-same s source before after
          (formatted_device s (data_blocks s.plan source) before) valid formatted written,
    )
