-- Definitions that contracts of private functions speak of. No public contract names one, and none is needed to read
-- one.
pub mod Parts
pub mod FedTrees
