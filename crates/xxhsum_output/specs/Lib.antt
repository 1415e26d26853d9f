pub mod Messages
pub mod Shown
pub mod Visible
pub mod WholeLines
