pub mod FormLaws
pub mod ObeyLemmas
