-- Laws of the entry points.
mod Telling
