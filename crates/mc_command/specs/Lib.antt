pub mod Accounts
pub mod Items
pub mod Steps
