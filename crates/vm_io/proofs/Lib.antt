pub mod HeldLemmas
pub mod LawLemmas
pub mod ShelfLemmas
