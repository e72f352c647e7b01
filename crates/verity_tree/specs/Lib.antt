pub mod FirstDifferences
