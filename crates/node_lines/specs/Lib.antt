pub mod ElementReading
pub mod ElementTexts
pub mod Laws
pub mod ListLines
pub mod NodeLines
