mod HeadlineFacts
mod TreeFacts
mod LineFacts
