pub mod FirstPlan
pub mod Turns
pub mod Cheapest
pub mod Tried
pub mod Finished
pub mod ClusterTurns
pub mod WithoutServers
