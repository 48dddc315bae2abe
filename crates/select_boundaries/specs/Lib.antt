pub mod AnchorsFound
