mod Chained
mod Kept
mod Recovered
mod Within
mod Written
mod Finished
