pub mod SourceNodes
pub mod Numbering
pub mod SourceEvidences
pub mod Comparing
pub mod SourceLaws
pub mod SourceText
