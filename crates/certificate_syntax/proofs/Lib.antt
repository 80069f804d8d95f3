mod Sequences
mod Digits
mod Lists
mod Paths
mod Plans
mod Lines
