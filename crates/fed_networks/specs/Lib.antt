pub mod Laws
pub mod Lives
pub mod Fed
