-- The parts of an opener each of whose sources fails one call; this project's own.
use Rattle.std.specs.Prelude.{◌≡◌, ℕ}
use Rattle.verity_io.specs.{Fusing.{fused_call, fused_calls}, declared.fused.Fused.Fused}
use Rattle.fsverity.specs.declared.openers.fused_opener.FusedOpener.{FusedOpener}

-- the inner opener
abbrev pub opener_within : {O : Type 0} → FusedOpener O → O
opener_within o = o.inner

-- the number of the call that fails, from 1
abbrev pub opener_call : {O : Type 0} → FusedOpener O → ℕ
opener_call o = o.call

-- how many calls failed
abbrev pub opener_failures : {O : Type 0} → FusedOpener O → ℕ
opener_failures o = o.failures

-- a source that was not called yet, and that fails this call
abbrev pub StartsFused : {T : Type 0} → ℕ → Fused T → Type 0
StartsFused call source = (fused_call source ≡ call) × (fused_calls source ≡ 0)
