mod Places
mod Sorting
