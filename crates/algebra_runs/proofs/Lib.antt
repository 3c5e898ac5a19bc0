pub mod LemmaLines
