mod LineLemmas
mod Marks
mod Free
mod Rows
mod One
mod Turns
