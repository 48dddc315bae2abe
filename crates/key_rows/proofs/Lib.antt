pub mod KeyParts
pub mod RowLaws
pub mod HeadLaws
pub mod HeadExits
