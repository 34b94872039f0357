pub mod MergedOrder
