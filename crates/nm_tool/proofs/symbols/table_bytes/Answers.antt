use Rattle.nm_tool.proofs.symbols.table_bytes.Goals as goal

pub returns : goal.returns
returns g c =
    record { table = c.in_ok-symbols.ensures; names = c.in_ok-strings.ensures.strings }
