mod Scans
mod Ranks
mod Shifts
mod Tables
