pub mod AtAllTimes
