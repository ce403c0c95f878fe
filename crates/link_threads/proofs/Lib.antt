pub mod Crosses
pub mod LifeCrosses
pub mod LifeStops
pub mod Sends
mod Stops
pub mod Takes
