mod Pieces
mod Steps
