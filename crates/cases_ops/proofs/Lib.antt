mod Declared
mod Operators
