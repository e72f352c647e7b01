-- The command line, and how its words are read.
pub mod CommandLines
