mod Answering
mod Multiples
mod Choosing
mod Growing
