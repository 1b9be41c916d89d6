mod Follow
mod Texts
