mod TableLists
mod FunctionLists
mod DeclaredNames
mod SourcesTold
mod Examples
