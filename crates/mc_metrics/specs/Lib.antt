pub mod Access
pub mod Pages
pub mod Places
pub mod Scrapes
pub mod Sums
