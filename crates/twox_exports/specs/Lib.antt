pub mod Number
pub mod StateValue
