-- A text as bytes (Text), a number in decimal (Decimal), a name or a line with a number (Line), and how bytes come into a buffer (Printed, Digits).
pub mod Text
pub mod Decimal
pub mod Printed
pub mod Digits
pub mod Line
pub mod Grown
