pub mod Digests
pub mod Nodes
pub mod Places
