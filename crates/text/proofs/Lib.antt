-- The proofs of the promises, and what the loops keep.
pub mod Glyph
pub mod Decimal
pub mod Hex
pub mod Puts
