pub mod LibraryNames
