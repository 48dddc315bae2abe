pub mod Cut
pub mod Lattice
pub mod ByCuts
pub mod Keyless
pub mod Intersection
pub mod Unions
pub mod Touching
pub mod Factored
