pub mod CheckFacts
pub mod EachFacts
mod GoodListFacts
pub mod HashFacts
mod LineEndFacts
mod LineFacts
mod OkFacts
pub mod OrderFacts
mod OutcomeFacts
mod Prelude
mod PrintedIsGoodFacts
mod PrintedListFacts
mod ProgressFacts
mod ListMessageFacts
mod StopFacts
pub mod EprintFacts
pub mod ProgressReaderFacts
