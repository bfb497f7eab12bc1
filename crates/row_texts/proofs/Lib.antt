mod Ascii
mod Printed
mod RecordTexts
mod BodyTexts
pub mod Again
