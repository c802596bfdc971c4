-- Reading the tables of directories and of files, one item after the other.
use Rattle.std.proofs.Common.{◌≡◌, ℕ, ◌<◌, true, false, eqb, List, [], ◌∷◌, ◌++◌, length, Some, None, Ok, Err, IfSome, refl, ap, arith}
use Rattle.std.proofs.lemmas.Bool.{eqb-true}
use Rattle.line_table.specs.declared.faults.LineWhy.{LineWhy}
use Rattle.line_table.specs.declared.faults.UnitFault.{UnitFault}
use Rattle.line_table.specs.declared.faults.UnitFault.TheVariants.{Memory, Why}
use Rattle.elf_types.specs.Answers.{◌>>=◌}
use Rattle.line_table.specs.Reading.{string_at, Listed, list_at}
use Rattle.line_table.specs.Header.{unless_empty, directory_at, named_file_at, files_at}
use Rattle.line_table.specs.Outcomes.{why_of}
use Rattle.line_table.proofs.Lists.{Left, left_more, left_end, left_refused}

abbrev Listing : Type 0
Listing = Listed (List ℕ) LineWhy

unless_nothing : (text : List ℕ) → eqb (length text) 0 ≡ true → unless_empty text ≡ None
unless_nothing [] e = refl
unless_nothing (b ∷ text) e = absurd (omega (arith, eqb-true (length (b ∷ text)) 0 e))

unless_text : (text : List ℕ) → eqb (length text) 0 ≡ false → unless_empty text ≡ Some text
unless_text [] e = absurd cc
unless_text (b ∷ text) e = refl

-- some directories were passed, and the others are left
abbrev pub Passed : List ℕ → Listing → Type 0
Passed bytes whole = (front : List (List ℕ)) × Left directory_at bytes front whole

pub passed_more : (bytes text rest : List ℕ) (whole : Listing) → Passed bytes whole → string_at bytes ≡ Ok (text, rest) → length rest < length bytes → eqb (length text) 0 ≡ false → Passed rest whole
unfolding directory_at
passed_more bytes text rest whole p e shorter full =
    let one : directory_at bytes ≡ Ok (Some text, rest) = rw (e, unless_text text full) refl in
    (p.0 ++ text ∷ [], left_more directory_at bytes p.0 whole text rest p.1 one shorter)

pub passed_end : (bytes text rest : List ℕ) (whole : Listing) → Passed bytes whole → string_at bytes ≡ Ok (text, rest) → eqb (length text) 0 ≡ true → whole.after ≡ Ok rest
unfolding directory_at
passed_end bytes text rest whole p e empty =
    let one : directory_at bytes ≡ Ok (None, rest) = rw (e, unless_nothing text empty) refl in
    ap (λ (l : Listing). l.after) (left_end directory_at bytes p.0 whole rest p.1 one)

pub passed_refused : (e : UnitFault) (bytes : List ℕ) (whole : Listing) → Passed bytes whole → IfSome (why_of e) (λ w. string_at bytes ≡ Err w) → IfSome (why_of e) (λ w. whole.after ≡ Err w)
unfolding directory_at
passed_refused Memory bytes whole p h = tt
passed_refused (Why why) bytes whole p h =
    let one : directory_at bytes ≡ Err why = rw h refl in
    ap (λ (l : Listing). l.after) (left_refused directory_at bytes p.0 whole why p.1 one)

pub files_end : (bytes all rest : List ℕ) (names : List (List ℕ)) → Left named_file_at bytes names (list_at named_file_at all) → named_file_at bytes ≡ Ok (None, rest) → files_at all ≡ Ok (names, rest)
unfolding files_at
files_end bytes all rest names l e =
    ap (λ (l : Listing). l.after >>= λ after. Ok (l.items, after)) (left_end named_file_at bytes names (list_at named_file_at all) rest l e)

pub files_refused : (e : UnitFault) (bytes all : List ℕ) (names : List (List ℕ)) → Left named_file_at bytes names (list_at named_file_at all) → IfSome (why_of e) (λ w. named_file_at bytes ≡ Err w) → IfSome (why_of e) (λ w. files_at all ≡ Err w)
unfolding files_at
files_refused Memory bytes all names l h = tt
files_refused (Why why) bytes all names l h =
    ap (λ (l : Listing). l.after >>= λ after. Ok (l.items, after)) (left_refused named_file_at bytes names (list_at named_file_at all) why l h)
