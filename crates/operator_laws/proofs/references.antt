pub mod OneStart
