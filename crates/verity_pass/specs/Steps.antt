-- Definitions that contracts of private functions speak of. No public contract names one, and none is needed to read
-- one.
pub mod DataBlocks
pub mod OnClosed
pub mod OnePass
pub mod PassFaults
