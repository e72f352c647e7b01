-- Which errors of a sync say that a file is of a kind that can't be synced (fsync(2), `EINVAL` and `EROFS`; a system
-- without the call answers that it is unsupported).
-- For the private functions; not needed to read a public contract.
use Rattle.std.specs.Prelude.{Bool, true, false}
use Rattle.std.specs.declared.io.ErrorKind.{ErrorKind, TheVariants.{InvalidInput, Unsupported, ReadOnlyFilesystem}}

abbrev pub cannot_sync : ErrorKind → Bool
cannot_sync InvalidInput = true
cannot_sync Unsupported = true
cannot_sync ReadOnlyFilesystem = true
cannot_sync _ = false
