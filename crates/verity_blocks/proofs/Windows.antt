pub mod RowsOfWindow
pub mod BytesToWindow
pub mod LastByte
