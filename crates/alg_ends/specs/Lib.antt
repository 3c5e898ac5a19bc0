pub mod CommonEnd
