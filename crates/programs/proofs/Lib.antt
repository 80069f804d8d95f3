pub mod Taken
pub mod Faultless
pub mod CommandLines
