-- The name field of a member's header, 16 bytes, in the form of System V and GNU: a short name, one
-- of the three special names, or a place in the table of long names.
use Rattle.std.specs.Prelude.{ℕ, ◌-◌, ◌==◌, Bool, List, [], ◌∷◌, length, take, drop, Option, Some, None, codes, nat_eq, if◌then◌else◌}
use Rattle.std.specs.List.{suffix_len, before_first, starts_with}
use Rattle.std.specs.Option.{option_map}
use Rattle.std.specs.Str.{bytes_eq}
use Rattle.ar_members.specs.declared.names.NameKind.{NameKind}
use Rattle.ar_members.specs.declared.names.NameKind.TheVariants.{Symbols, LongNames, Symbols64, Long, Short}
use Rattle.ar_members.specs.Numbers.{is_space, number_of}

-- a field without its trailing spaces
unfoldable pub trimmed_of : List ℕ → List ℕ
trimmed_of field = take (length field - suffix_len is_space field) field

-- the kind of a name without its trailing spaces, or None where it begins with a slash and is none
abbrev pub kind_of_text : List ℕ → Option NameKind
kind_of_text name =
    if bytes_eq name (codes "/") then Some Symbols
    else if bytes_eq name (codes "//") then Some LongNames
    else if bytes_eq name (codes "/SYM64/") then Some Symbols64
    else if starts_with nat_eq name (codes "/") then option_map Long (number_of 10 (drop 1 name))
    else Some Short

-- the kind of the name of a field
unfoldable pub kind_of_name : List ℕ → Option NameKind
kind_of_name field = kind_of_text (trimmed_of field)

-- the name of a field that is short: up to its first slash, but whole where it begins with #1/
abbrev pub short_of_text : List ℕ → List ℕ
short_of_text name =
    if starts_with nat_eq name (codes "#1/") then name else before_first (λ b. b == 47) name

unfoldable pub short_name_of : List ℕ → List ℕ
short_name_of field = short_of_text (trimmed_of field)

-- the text begins with the slash and the newline that end a long name
unfoldable pub ends_name : List ℕ → Bool
ends_name text = starts_with nat_eq text (codes "/\n")

-- what stands before the first end of a name, or None where there is none
abbrev pub up_to_end : List ℕ → Option (List ℕ)
up_to_end [] = None
up_to_end (b ∷ bs) =
    if ends_name (b ∷ bs) then Some [] else option_map (λ name. b ∷ name) (up_to_end bs)

-- the long name at an offset in the table of long names, or None where it does not end in it
unfoldable pub long_name_of : List ℕ → ℕ → Option (List ℕ)
long_name_of names from = up_to_end (drop from names)
