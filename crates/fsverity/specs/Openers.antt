-- The files of a run, and how they are opened.
pub mod Opening
pub mod FusedOpeners
