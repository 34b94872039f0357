pub mod Keys
mod KeysFound
mod ShardsFound
