pub mod Turns
pub mod LayerLoads
pub mod Serves
