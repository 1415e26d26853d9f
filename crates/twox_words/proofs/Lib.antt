pub mod ChunksFront
pub mod CopyFacts
pub mod OneToOne
pub mod OutsideVectors
pub mod Rotations
pub mod WordFacts
pub mod WordLaws
