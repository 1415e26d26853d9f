pub mod EntryFacts
