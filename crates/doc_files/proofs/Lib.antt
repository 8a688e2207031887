pub mod Blame
pub mod Counts
pub mod NamesRead
pub mod Written
