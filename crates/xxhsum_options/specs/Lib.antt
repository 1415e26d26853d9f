pub mod Exclude
pub mod Letters
pub mod Name
pub mod Number
pub mod Options
pub mod Table
