use Rattle.{std.proofs.Common.{◌≡◌, ◌⊎◌, Bool, List, Option, ap, cond, false, inl, inr, refl, subst, sym, true, ◌∙◌, ℕ}, hex.specs.Hex.encode_lower}
use Rattle.{verity_blocks.specs.Levels.data_blocks, veritysetup.proofs.ResumedLemmas.{begun-formatted, keeps-refl}}
use Rattle.veritysetup.{proofs.SettingsLemmas.AreValid, specs.Options.{Choices.settings_of, OptionTexts.superblock_uuid, Settings.SettingsFields}}
use Rattle.veritysetup.specs.{Options.PrintedOptions.{printed_options, report_of_options, without_root}, Runs.Resumed.KeepsOthers}
use Rattle.veritysetup.specs.Runs.{Formatted.{IsFormattedDevice, root_above}, HashDevice.{superblock_at, superblock_for}}
use Rattle.veritysetup.{specs.Texts.Reports.{no_uuid_text, report_text, uuid_text}, proofs.AcceptedLemmas.{root-back, superblock-back}}
use Rattle.veritysetup.proofs.{ChoiceLemmas.one-chosen, FormattedLemmas.formatted-same, PrintedOptionLemmas.{printed-back, verified-options}}
use Rattle.verity_format.{specs.Superblocks.{SuperblockFields, superblock_bytes}, proofs.SuperblockLemmas.one-superblock}
use Rattle.veritysetup.proofs.laws.printed_options_give_the_settings.Goals as goal

-- a device is formatted whatever root hash the settings have
with-root : (s : SettingsFields) (source before after : List ℕ) → IsFormattedDevice (without_root s) source before after
    → IsFormattedDevice s source before after
with-root s source before after formatted = record {
  tree = formatted.tree;
  superblock = λ has. formatted.superblock has
      ∙ ap (λ (uuid : List ℕ). superblock_bytes (record {
        hash_type = s.hash_type;
        tree = s.plan.settings;
        uuid = uuid;
        blocks = s.plan.blocks;
      })) (ap (λ (b : Bool). superblock_uuid b s.uuid) has);
  others = formatted.others;
  no_shorter = formatted.no_shorter;
  no_longer = formatted.no_longer;
}

-- the device before, and what formatting it leaves, are as before beside what is written
either-keeps : (s : SettingsFields) (source before after between : List ℕ) → IsFormattedDevice s source before after
    → (between ≡ before) ⊎ (between ≡ after) → KeepsOthers s before between
either-keeps s source before after between formatted (inl same) =
    subst (KeepsOthers s before) (sym same) (keeps-refl s before)
either-keeps s source before after between formatted (inr same) = subst (KeepsOthers s before) (sym same) (record {
  others = formatted.others;
  no_shorter = formatted.no_shorter;
  no_longer = formatted.no_longer;
})

by-options : (path : List ℕ) (v : SuperblockFields) (offset : ℕ) (superblock same_file : Bool) (root : Option (List ℕ))
    → report_text path (cond superblock (uuid_text v.uuid) no_uuid_text) v root
    ≡ report_of_options path (printed_options v offset superblock same_file) root
unfolding report_text
by-options path v offset true same_file root = refl
by-options path v offset false same_file root = refl

pub returns-clause-printed : goal.returns-clause-printed
returns-clause-printed c = by-options

pub returns-clause-settings : goal.returns-clause-settings
returns-clause-settings c = λ s same_file size random planned agree long uuid salt apart.
    printed-back s same_file size random (record { planned = planned; agree = agree; uuid = long }) uuid salt apart

pub returns-clause-dumped : goal.returns-clause-dumped
returns-clause-dumped c =
    λ s again v same_file size random source before after between last planned agree long uuid salt apart has formatted
    read chosen base formatted_again.
    let valid : AreValid s = record { planned = planned; agree = agree; uuid = long } in
    let one : v ≡ superblock_for s =
    one-superblock (superblock_at s.offset after) v (superblock_for s) read
    (superblock-back s source before after valid formatted has) in
    let same : again ≡ without_root s =
    one-chosen again (without_root s)
    (sym chosen
    ∙ ap (λ (w : SuperblockFields). settings_of (printed_options w s.offset true same_file) size random) one
    ∙ ap (λ (b : Bool). settings_of (printed_options (superblock_for s) s.offset b same_file) size random) (sym has)
    ∙ printed-back s same_file size random valid uuid salt apart) in
    formatted-same s source before last after valid
    (begun-formatted s source before between last (either-keeps s source before after between formatted base)
    (with-root s source between last
    (subst (λ (t : SettingsFields). IsFormattedDevice t source between last) same formatted_again)))
    formatted

pub returns-clause-verified : goal.returns-clause-verified
returns-clause-verified c = λ s texts size last blocks random source planned agree salt chosen given.
    let digest = root_above s source in
    let made = verified-options texts size last blocks random s (encode_lower digest) digest planned agree salt
    (root-back s.plan.settings (data_blocks s.plan source)) chosen given in
    (made.0, made.1.0, made.1.1.0, made.1.1.1)
