pub mod SubtractCalls
pub mod Found
pub mod SubtractLaws
pub mod SubtractExamples
