pub mod Words
pub mod Line
pub mod Read
pub mod Ascii
pub mod Command
pub mod Text
pub mod Sentences
