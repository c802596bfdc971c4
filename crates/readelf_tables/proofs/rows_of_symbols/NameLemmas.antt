-- The names of what a symbol is are short, and the columns that they stand in.
use Rattle.std.proofs.Common.{◌≡◌, ℕ, List, Option, refl, ap, ◌∙◌}
use Rattle.elf_types.specs.Names.{symbol_type_names, symbol_type_name_of, binding_names, binding_name_of, visibility_names, visibility_name_of}
use Rattle.readelf_rows.specs.Fields.{name_column}
use Rattle.readelf_rows.proofs.ShortNames.{IsShort, short_in}

pub type_short : (n : ℕ) → IsShort (symbol_type_name_of n)
unfolding symbol_type_name_of symbol_type_names
type_short n = short_in symbol_type_names n refl

pub binding_short : (n : ℕ) → IsShort (binding_name_of n)
unfolding binding_name_of binding_names
binding_short n = short_in binding_names n refl

pub visibility_short : (n : ℕ) → IsShort (visibility_name_of n)
unfolding visibility_name_of visibility_names
visibility_short n = short_in visibility_names n refl

-- the column of a number by its name
pub column_is : (title : List ℕ) (of : ℕ → Option (List ℕ)) (name : Option (List ℕ)) (n wide stated : ℕ)
    → name ≡ of n → n ≡ stated → wide ≡ n → name_column title name wide ≡ name_column title (of stated) stated
column_is title of name n wide stated is same widened =
    ap (λ (o : Option (List ℕ)). name_column title o wide) (is ∙ ap of same)
    ∙ ap (λ (m : ℕ). name_column title (of stated) m) (widened ∙ same)
