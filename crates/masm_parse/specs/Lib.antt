pub mod Machine
pub mod Views
pub mod Grammar
pub mod Refusals
pub mod Order
pub mod Laws
