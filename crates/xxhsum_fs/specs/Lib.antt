pub mod Below
pub mod Calls
pub mod Entries
pub mod Folders
pub mod Memory
pub mod Rules
pub mod System
pub mod Uninterrupted
