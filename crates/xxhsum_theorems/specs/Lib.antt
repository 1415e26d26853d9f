pub mod Headline
pub mod LineLaws
