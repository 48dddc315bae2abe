pub mod RowExits
