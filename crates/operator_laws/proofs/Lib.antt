pub mod events
pub mod nodes
pub mod references
pub mod replies
pub mod reservations
pub mod results
pub mod standing
pub mod sessions
