mod FindFacts
pub mod GoodAuditFacts
mod JoinFacts
mod OnceFacts
mod Prelude
mod ReportFacts
mod RowFacts
mod ReadListFacts
mod VisitFacts
mod ProgressTextFacts
