pub mod Lists
pub mod Answering
pub mod OrderedValues
pub mod Negating
mod NumberKeys
pub mod ToldValues
pub mod Nearest
pub mod Appending
pub mod Texts
pub mod Keys
pub mod KeptPlaces
pub mod AllParameters
