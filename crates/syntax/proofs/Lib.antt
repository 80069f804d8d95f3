mod KeptLists
mod Lines
mod Places
mod Scripts
mod Stops
