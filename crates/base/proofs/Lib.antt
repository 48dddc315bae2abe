pub mod StableSort
pub mod SortLaws
pub mod SortMore
pub mod StableSortLaws
pub mod Outcome
