-- What the greatest self test shows.
use Rattle.std.specs.Prelude.{ℕ, List, ◌++◌, codes}

abbrev pub greatest_lines : List ℕ
greatest_lines =
    codes "sections 60004\nsymbols 60001\nbytes 6398160\n"
    ++ codes "value sum 9000150000\nfound 60000\n"
