pub mod Texts
pub mod NameLaws
pub mod LimitLaws
pub mod TypeNames
pub mod UnitLaws
pub mod ParsedLaws
pub mod FunctionLaws
