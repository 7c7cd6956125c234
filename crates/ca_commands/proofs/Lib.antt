pub mod Equals
pub mod Spelling
pub mod PartTexts
pub mod OneMeaning
pub mod AtMostOnce
pub mod Verbs
