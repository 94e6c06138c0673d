pub mod Plain
pub mod Bars
pub mod Hours
pub mod Frames
pub mod Barless
pub mod Clear
pub mod Sheets
pub mod Charts
