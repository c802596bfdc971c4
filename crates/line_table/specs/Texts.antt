-- The texts of the causes.
use Rattle.std.specs.Prelude.{ℕ, List, codes}
use Rattle.line_table.specs.declared.faults.LineWhy.{LineWhy}
use Rattle.line_table.specs.declared.faults.LineWhy.TheVariants.{Cut, Form, Version, Ops, Header, Range, Address}

-- the text under which a cause is shown
unfoldable pub cause_text : LineWhy → List ℕ
cause_text Cut = codes "cut"
cause_text Form = codes "form"
cause_text Version = codes "version"
cause_text Ops = codes "operations"
cause_text Header = codes "header"
cause_text Range = codes "range"
cause_text Address = codes "address"
