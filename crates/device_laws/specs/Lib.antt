pub mod BuiltDevices
