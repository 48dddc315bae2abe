pub mod SupplyExits
