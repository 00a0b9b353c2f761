mod Moments
mod Folders
mod Runs
mod MemoryFolders
