use Rattle.{std.proofs.{Common.{◌≡◌, ℕ, ◌+◌, ◌*◌, ◌%◌, ◌<◌, ◌≤◌, arith, ◌∙◌}, lemmas.Nat.mod_below}, verity_plan.proofs.FanLemmas.fan-some}
use Rattle.{verity_pass.proofs.Devices.StoredBlocks.digest-room, verity_plan.specs.Settings.{TreeSettingsFields, digest_len, fan, slot_width}}
use Rattle.verity_pass.proofs.link.check_link.Goals as goal

-- the digest of a block is within the hash block above it
digest-within : (s : TreeSettingsFields) (index f size : ℕ) → f ≡ fan s → size ≡ s.hash_block
    → fan s * slot_width s ≤ s.hash_block → index % f * slot_width s + digest_len s ≤ size
digest-within s index f size f_is size_is fits =
    let below : index % f < fan s = omega (arith, mod_below index f (omega (arith, fan-some s, f_is)), f_is) in
    omega (arith, digest-room s (index % f) below fits, size_is)

pub has_digest-requires : goal.has_digest-requires
has_digest-requires c =
    digest-within c.args.plan.now.settings _ c.fan.result _ c.fan.ensures.value
    (c.if-above-hash_block.false ∙ c.hash_block.ensures) c.fan.ensures.fits
