pub mod ItemsFound
pub mod BoundsFound
pub mod Used
pub mod PartsLeft
pub mod KeysFound
pub mod SortFound
