mod PhdrLaws
mod ScriptLaws
mod CallsLaws
mod WrittenLaws
mod KeptLaws
