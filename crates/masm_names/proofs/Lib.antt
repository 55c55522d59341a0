pub mod DoubleAnswers
pub mod DoubleLemmas
pub mod LeastLemmas
pub mod NameLemmas
pub mod TimesAmong
pub mod UsesOnly
