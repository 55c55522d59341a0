pub mod Dangling
pub mod Plans
pub mod UseOrders
