mod Ascending
mod Variables
