pub mod Prelude
pub mod LackFacts
pub mod EscapeFacts
pub mod PartFacts
pub mod EntryFacts
pub mod ShownFacts
pub mod PrintedFacts
