pub mod Gnu
pub mod Sysv
pub mod Paths
pub mod Listed
pub mod Hashes
