-- The names under which a tool reports.
use Rattle.std.specs.Prelude.{◌++◌, ℕ, List, Option, Some, None, codes}

-- a file, or a member of an archive; neither name need be text
pub record Name : Type 0 where
  pub file : List ℕ
  pub member : Option (List ℕ)

abbrev pub file_name : List ℕ → Name
file_name file = record { file = file; member = None }

abbrev pub member_name : List ℕ → List ℕ → Name
member_name archive member = record { file = archive; member = Some member }

-- `FILE`, or `LIB[MEMBER]`
unfoldable pub shown_name : Name → List ℕ
shown_name name = by_member name.member
  where
    by_member : Option (List ℕ) → List ℕ
    by_member (Some member) = name.file ++ codes "[" ++ member ++ codes "]"
    by_member None = name.file

-- `FILE`, or `MEMBER (ex LIB)`
unfoldable pub name_ex : Name → List ℕ
name_ex name = by_member name.member
  where
    by_member : Option (List ℕ) → List ℕ
    by_member (Some member) = member ++ codes " (ex " ++ name.file ++ codes ")"
    by_member None = name.file
