pub mod Hash
pub mod Cells
pub mod Links
pub mod Tables
pub mod Contents
