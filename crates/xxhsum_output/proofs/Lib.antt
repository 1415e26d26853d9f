pub mod MessagesFacts
mod ShownFacts
pub mod WholeLinesFacts
