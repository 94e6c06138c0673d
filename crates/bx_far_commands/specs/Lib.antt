pub mod Days
pub mod CapturedDays
pub mod FarRefusals
pub mod Kept
pub mod LineDays
pub mod LineRefusals
pub mod LineInside
