pub mod FunctionTexts
pub mod Views
pub mod Tables
pub mod EventLines
pub mod RaceLines
pub mod Examples
