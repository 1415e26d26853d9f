pub mod Rules
pub mod ProductFacts
