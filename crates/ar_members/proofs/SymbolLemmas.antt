-- The symbols of a table, read one after another, and those of an archive by its first header.
use Rattle.std.proofs.Common.{◌≡◌, ℕ, suc, ◌+◌, ◌-◌, ◌*◌, ◌<◌, ◌≤◌, List, [], ◌∷◌, ◌++◌, length, take, drop, position, Some, None, Result, Ok, Err, refl, sym, ap, ◌∙◌, subst, append_assoc, arith}
use Rattle.std.proofs.lemmas.List.{drop-drop}
use Rattle.std.proofs.lemmas.Bool.{le-leb, lt-leb}
use Rattle.elf_types.specs.declared.errors.ElfError.{ElfError}
use Rattle.elf_types.specs.Answers.{or_refused, stated_refusal, Follows, ◌>>=◌}
use Rattle.elf_types.proofs.AnswerLemmas.{refused_then}
use Rattle.ar_members.specs.declared.headers.Header.{Header}
use Rattle.ar_members.specs.declared.symbols.ArSym.{ArSym}
use Rattle.ar_members.specs.Names.{kind_of_name}
use Rattle.ar_members.specs.Headers.{header_at, name_field}
use Rattle.ar_members.specs.Symbols.{be_word, is_nul, bad_table, symbols_from, first_symbols, arsyms, table_asks, symbols_due_by, symbols_due}

abbrev Read : Type 0
Read = Result (List ArSym) ElfError

-- symbols before those that were read
abbrev behind : List ArSym → Read → Read
behind front read = read >>= λ more. Ok (front ++ more)

abbrev pushed : ArSym → Read → Read
pushed s read = read >>= λ more. Ok (s ∷ more)

-- the symbols of all offsets are those so far and those of the offsets and names that are left
pub record SymbolsFrom (count : ℕ) (offsets names : List ℕ) (symbols : List ArSym) (i : ℕ) (rest : List ℕ) : Type 0 where
  pub split : symbols_from count offsets names ≡ (symbols_from (count - i) (drop (4 * i) offsets) rest >>= λ more. Ok (symbols ++ more))

behind_more : (front : List ArSym) (s : ArSym) (read : Read) → behind front (pushed s read) ≡ behind (front ++ s ∷ []) read
behind_more front s (Ok more) = ap (λ (l : List ArSym). Ok l) (sym (append_assoc front (s ∷ []) more))
behind_more front s (Err e) = refl

-- the symbol whose name ends there
abbrev symbol_of : List ℕ → List ℕ → ℕ → ArSym
symbol_of offsets names end = record { at = be_word offsets; name = take end names }

-- what is left, at the end of the next name
step : (count i end : ℕ) (offsets rest : List ℕ) → i < count → Some end ≡ position is_nul rest
    → symbols_from (count - i) (drop (4 * i) offsets) rest ≡ pushed (symbol_of (drop (4 * i) offsets) rest end) (symbols_from (count - (i + 1)) (drop (4 * (i + 1)) offsets) (drop (end + 1) rest))
step count i end offsets rest within found =
    let left : count - i ≡ suc (count - (i + 1)) = omega arith in
    let here = drop (4 * i) offsets in
    let next : drop 4 here ≡ drop (4 * (i + 1)) offsets = drop-drop 4 (4 * i) offsets ∙ ap (λ n. drop n offsets) (omega arith) in
    ap (λ n. symbols_from n here rest) left
    ∙ ap (λ o. or_refused o bad_table >>= λ e. pushed (symbol_of here rest e) (symbols_from (count - (i + 1)) (drop 4 here) (drop (e + 1) rest))) (sym found)
    ∙ ap (λ l. pushed (symbol_of here rest end) (symbols_from (count - (i + 1)) l (drop (end + 1) rest))) next

-- a symbol more
pub symbols_more : (count i end at : ℕ) (offsets names rest name left : List ℕ) (symbols now : List ArSym) → i < count → Some end ≡ position is_nul rest → at ≡ be_word (drop (4 * i) offsets) → name ≡ take end rest
    → now ≡ symbols ++ record { at = at; name = name } ∷ [] → left ≡ drop (end + 1) rest → SymbolsFrom count offsets names symbols i rest → SymbolsFrom count offsets names now (i + 1) left
symbols_more count i end at offsets names rest name left symbols now within found at_is name_is now_is left_is so_far =
    let tail : List ℕ → Read = symbols_from (count - (i + 1)) (drop (4 * (i + 1)) offsets) in
    record {
      split = so_far.split
          ∙ ap (behind symbols) (step count i end offsets rest within found)
          ∙ ap (λ n. behind symbols (pushed (record { at = n; name = take end rest }) (tail (drop (end + 1) rest)))) (sym at_is)
          ∙ ap (λ n. behind symbols (pushed (record { at = at; name = n }) (tail (drop (end + 1) rest)))) (sym name_is)
          ∙ behind_more symbols (record { at = at; name = name }) (tail (drop (end + 1) rest))
          ∙ ap (λ ss. behind ss (tail (drop (end + 1) rest))) (sym now_is)
          ∙ ap (λ l. behind now (tail l)) (sym left_is);
    }

-- a name without an end
pub symbols_bad : (count i : ℕ) (offsets names rest : List ℕ) (symbols : List ArSym) → i < count → None ≡ position is_nul rest → SymbolsFrom count offsets names symbols i rest → symbols_from count offsets names ≡ Err bad_table
symbols_bad count i offsets names rest symbols within none so_far =
    let left : count - i ≡ suc (count - (i + 1)) = omega arith in
    let here = drop (4 * i) offsets in
    so_far.split
    ∙ ap (λ n. behind symbols (symbols_from n here rest)) left
    ∙ ap (λ o. behind symbols (or_refused o bad_table >>= λ e. pushed (symbol_of here rest e) (symbols_from (count - (i + 1)) (drop 4 here) (drop (e + 1) rest)))) (sym none)

-- an archive without a byte after its first line
pub arsyms_none : (bytes : List ℕ) → length bytes ≤ 8 → arsyms bytes ≡ Ok []
unfolding arsyms
arsyms_none bytes short = rw (le-leb (length bytes) 8 short) refl

-- an archive with one
module _ (bytes : List ℕ) (some : 8 < length bytes) where
  first : arsyms bytes ≡ (header_at bytes 8 >>= first_symbols bytes)
  unfolding arsyms
  first = rw (lt-leb (length bytes) 8 some) refl

  -- what refuses its first header refuses its symbols
  pub arsyms_refused : (e : ElfError) → Follows {T = Header} (Err e) (header_at bytes 8) → Follows {T = List ArSym} (Err e) (arsyms bytes)
  arsyms_refused e h = rw first (refused_then (λ (x : Header). x) (λ (x : List ArSym). x) stated_refusal e (header_at bytes 8) (first_symbols bytes) h)

  -- they are those of its first header
  pub arsyms_with : (header : Header) → header_at bytes 8 ≡ Ok header → arsyms bytes ≡ first_symbols bytes header
  arsyms_with header is = first ∙ ap (λ h. h >>= first_symbols bytes) is

  due_first : symbols_due bytes ≡ symbols_due_by (header_at bytes 8)
  unfolding symbols_due
  due_first = rw (lt-leb (length bytes) 8 some) refl

  pub due_with : (header : Header) → header_at bytes 8 ≡ Ok header → symbols_due bytes ≡ 60 + table_asks (kind_of_name (name_field header)) header.numbers.size
  due_with header is = due_first ∙ ap symbols_due_by is

  -- the first header is always among what is asked for
  pub due_low : 60 ≤ symbols_due bytes
  due_low = subst (λ n. 60 ≤ n) (sym due_first) (low (header_at bytes 8))
    where
      low : (found : Result Header ElfError) → 60 ≤ symbols_due_by found
      low (Ok header) = omega arith
      low (Err e) = omega arith
