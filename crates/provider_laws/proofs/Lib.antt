pub mod events
pub mod replies
pub mod held
pub mod commands
pub mod references
pub mod nodes
pub mod standing
