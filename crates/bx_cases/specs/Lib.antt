pub mod FailingDevice
