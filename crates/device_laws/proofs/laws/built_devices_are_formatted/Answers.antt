use Rattle.device_laws.proofs.BuiltDevices.{device-formatted, device-verified, device-written}
use Rattle.device_laws.proofs.laws.built_devices_are_formatted.Goals as goal

pub returns-clause-written : goal.returns-clause-written
returns-clause-written g c = device-written

pub returns-clause-formatted : goal.returns-clause-formatted
returns-clause-formatted g c = device-formatted

pub returns-clause-verified : goal.returns-clause-verified
returns-clause-verified g c =
    λ params s bytes before tree input status source source_after device device_after msgs msgs_after.
    device-verified params s bytes before tree input status _ _ msgs msgs_after
