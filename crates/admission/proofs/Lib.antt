pub mod Judged
mod Euclid
mod Numbered
mod Cycles
mod Lateness
mod Demands
mod Admitted
