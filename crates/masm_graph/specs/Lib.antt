pub mod Dynexecs
pub mod Links
pub mod Users
