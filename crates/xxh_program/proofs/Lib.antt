pub mod BlockFacts
pub mod ValueFacts
