-- From the words of a command line to a line.
pub mod CommandLines
pub mod RawWords
