pub mod FunctionLaws
pub mod HeadLaws
pub mod ItemNames
pub mod ParamLists
pub mod UnitLaws
pub mod UnitRows
