pub mod Watching
pub mod Octets
pub mod Devices
