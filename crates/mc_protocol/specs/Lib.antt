pub mod Words
pub mod Numbers
pub mod Lones
pub mod Commands
pub mod Plain
pub mod Rows
pub mod Laws
pub mod Purge
