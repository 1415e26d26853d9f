pub mod ListFacts
pub mod NameFacts
pub mod NumberFacts
pub mod LetterFacts
pub mod ExcludeFacts
