mod Passing
mod Marked
mod Arguments
mod Rows
mod Free
mod Findings
mod Laws
mod Worked
