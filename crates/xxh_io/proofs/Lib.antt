pub mod HexPlace
pub mod HexValue
pub mod HexVectors
pub mod MemoryFacts
pub mod MemoryPieces
pub mod PieceFacts
pub mod ProcessFacts
pub mod WriteFacts
