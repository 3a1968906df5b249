pub mod WordsLaws
pub mod ReadLaws
pub mod CommandLaws
pub mod TextLaws
pub mod SentencesLaws
pub mod LengthLaws
