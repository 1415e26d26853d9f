pub mod GeneratedSecret
pub mod Hash128
pub mod State3
pub mod State32
pub mod State64
