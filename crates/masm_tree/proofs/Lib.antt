pub mod KeywordLemmas
pub mod Mirror
pub mod TerminalLocals
pub mod TerminalForms
pub mod TerminalPositions
