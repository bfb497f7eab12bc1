pub mod Stops
pub mod Answer
pub mod AnswerCut
pub mod Done
pub mod Play
pub mod PlayCut
pub mod Settle
pub mod ByProvider
