pub mod SetupFiles
