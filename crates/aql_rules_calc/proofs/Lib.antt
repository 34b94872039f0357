mod Taken
mod Chains
