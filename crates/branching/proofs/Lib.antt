mod Evidence
mod Emptied
mod Answering
mod Openings
mod Points
mod Best
mod Translating
mod LeastVersion
mod Proved
pub mod Overall
mod Finished
mod Added
mod Judged
