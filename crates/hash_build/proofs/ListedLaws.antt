-- The hashes of listed symbols, one by one.
use Rattle.std.proofs.Common.{◌≡◌, ◌==◌, ◌&&◌, ◌+◌, ◌<◌, ◌≤◌, ◌⊎◌, ℕ, zero, suc, zero-add, Bool, true, false, not, List, [], ◌∷◌, ◌++◌, length, get_or, take, map, Option, Some, None, Result, Ok, Err, refl, sym, ap, ◌∙◌, subst, inl, inr, true≢false, arith}
use Rattle.std.specs.Prelude.{IsTrue, IfOk, OnOk, slice_get, if◌then◌else◌}
use Rattle.std.specs.Option.{option_map}
use Rattle.std.specs.List.{enumerate_from}
use Rattle.std.proofs.lemmas.List.{length-map, get_or-map, get_or_past, take_more, take_all, length_push}
use Rattle.std.proofs.lemmas.List.FromFn.{length-enumerate_from, get_or-enumerate_from}
use Rattle.std.proofs.lemmas.Option.{slice_get_cases, slice_get_within, get_or_from_slice_get}
use Rattle.elf_types.specs.declared.errors.ElfError.{ElfError}
use Rattle.elf_types.specs.declared.errors.ElfError.TheVariants.{Memory, Read, NoEntry}
use Rattle.elf_types.specs.declared.records.Kind.TheVariants as kinds
use Rattle.elf_types.specs.declared.records.Sym.{Sym}
use Rattle.elf_types.specs.Answers.{Follows}
use Rattle.symbol_lookup.specs.elf_object.Words.{Wants, Answers, AnswersRead, Refusals}
use Rattle.symbol_lookup.specs.elf_object.Object.{Object}
use Rattle.symbol_lookup.specs.elf_object.Answers.{items_at, syms_of, lend_refusal, entry_answer}
use Rattle.symbol_lookup.specs.elf_object.Calls.{sym_answer}
use Rattle.symbol_lookup.specs.elf_object.Strings.{readable, string_answer, symbol_name}
use Rattle.symbol_lookup.proofs.elf_object.AnswerLaws.{sym_value}
use Rattle.symbol_lookup.specs.elf_descriptor.State.{State}
use Rattle.symbol_lookup.specs.hash_model.Listed.{is_defined_global, listed_name, listed_names, not_empty}
use Rattle.symbol_lookup.specs.Lookups.{link_of}
use Rattle.hash_build.specs.declared.hashing.Hashing.{Hashing}
use Rattle.hash_build.specs.Hashed.{hash_with, listed_hashes}
use Rattle.hash_build.specs.Reading.{no_hash}

pub no_hash_other : (e : ElfError) → (e ≡ Memory → ⊥) → (e ≡ Read → ⊥) → no_hash e ≡ Ok None
unfolding no_hash
no_hash_other Memory memory read = absurd (memory refl)
no_hash_other Read memory read = absurd (read refl)
no_hash_other e memory read = refl

pub no_hash_none : (e : ElfError) → IfOk (no_hash e) (λ hash. hash ≡ None)
unfolding no_hash
no_hash_none Memory = tt
no_hash_none Read = tt
no_hash_none e = refl

-- ---- The name of a symbol

-- the hash of a name that may be none
abbrev pub name_hash : Hashing → Option (List ℕ) → Option ℕ
name_hash by name = option_map (hash_with by) name

-- the hash of a name that an answer gives
abbrev pub of_answer : Hashing → Result (List ℕ) ElfError → Result (Option ℕ) ElfError
of_answer by r = Ok (name_hash by (not_empty (readable r)))

pub string_hashed : (by : Hashing) (stated : Result (List ℕ) ElfError) (name : List ℕ)
    (hash : Option ℕ) → hash ≡ name_hash by (not_empty (Some name)) → stated ≡ Ok name
    → Follows {T = Option ℕ} (Ok hash) (of_answer by stated)
string_hashed by stated name hash is came =
    ap (of_answer by) came ∙ ap (λ (h : Option ℕ). Ok h) (sym is)

pub string_unhashed : (by : Hashing) (told : Bool) (wants : Wants) (refusals : Refusals)
    (stated : Result (List ℕ) ElfError) (e : ElfError) → IsTrue told
    → AnswersRead told wants refusals (Err e) stated
    → Follows {T = Option ℕ} (no_hash e) (of_answer by stated)
unfolding no_hash
string_unhashed by told wants refusals stated Memory tells came = tt
string_unhashed by told wants refusals stated Read tells came = tt
string_unhashed by told wants refusals stated e tells (inl early) = ap (of_answer by) early.1
string_unhashed by told wants refusals stated e tells (inr late) =
    ap (of_answer by) (late.2 tells)

module _ (by : Hashing) (b : Bool) (name : Option (List ℕ)) where
  pub listed_when : (q : Result (Option ℕ) ElfError) → b ≡ true
      → Follows q (Ok (name_hash by name))
      → Follows q (Ok (name_hash by (if b then name else None)))
  listed_when q is follows =
      subst (λ (t : Bool). Follows q (Ok (name_hash by (if t then name else None)))) (sym is)
      follows

  pub listed_not : b ≡ false
      → Follows {T = Option ℕ} (Ok None) (Ok (name_hash by (if b then name else None)))
  listed_not is = ap (λ (t : Bool). Ok (name_hash by (if t then name else None))) is

-- the zero symbol is not listed
pub first_unlisted : (i : ℕ) (b defined : Bool) → i ≡ 0 → b ≡ (not (i == 0) && defined)
    → b ≡ true → ⊥
first_unlisted i b defined first is so =
    true≢false (sym so ∙ is ∙ ap (λ (k : ℕ). not (k == 0) && defined) first)

-- ---- A symbol

pub option_at : {A B : Type 0} (f : A → B) (l : List (Option A)) (i : ℕ)
    → get_or (map (option_map f) l) i None ≡ option_map f (get_or l i None)
option_at f [] i = refl
option_at f (x ∷ l) zero = refl
option_at f (x ∷ l) (suc i) = option_at f l i

pub hashes_long : (by : Hashing) (o : Object) (s : ℕ)
    → length (listed_hashes by o s) ≡ length (listed_names o s)
unfolding listed_hashes
hashes_long by o s = length-map (listed_names o s) (option_map (hash_with by))

pub names_long : (o : Object) (s : ℕ)
    → length (listed_names o s) ≡ length (syms_of (items_at o s 0))
unfolding listed_names
names_long o s =
    length-map (enumerate_from 0 (syms_of (items_at o s 0)))
    (λ row. listed_name o s row.0 row.1)
    ∙ length-enumerate_from 0 (syms_of (items_at o s 0))

module _ (o : Object) (s i : ℕ) where
  pub name_at : (x : Sym) → slice_get (syms_of (items_at o s 0)) i ≡ Some x
      → get_or (listed_names o s) i None ≡ listed_name o s i x
  unfolding listed_names
  name_at x there =
      let syms = syms_of (items_at o s 0) in
      let below = slice_get_within syms i x there in
      let count = length-enumerate_from 0 syms in
      get_or-map (λ row. listed_name o s row.0 row.1) (enumerate_from 0 syms) i (0, x) None
      (omega (arith, below, count))
      ∙ ap (λ (row : ℕ × Sym). listed_name o s row.0 row.1)
      (get_or-enumerate_from 0 syms i (0, x) below)
      ∙ ap (λ (k : ℕ). listed_name o s k (get_or syms i x)) (zero-add i)
      ∙ ap (listed_name o s i) (get_or_from_slice_get syms i x x there)

  pub hash_at : (by : Hashing) (x : Sym) → slice_get (syms_of (items_at o s 0)) i ≡ Some x
      → get_or (listed_hashes by o s) i None ≡ name_hash by (listed_name o s i x)
  unfolding listed_hashes
  hash_at by x there =
      option_at (hash_with by) (listed_names o s) i ∙ ap (name_hash by) (name_at x there)

  hash_gone : (by : Hashing) → length (syms_of (items_at o s 0)) ≤ i
      → get_or (listed_hashes by o s) i None ≡ None
  hash_gone by past =
      get_or_past (listed_hashes by o s) i None
      (omega (arith, past, hashes_long by o s, names_long o s))

  slice_get_none : {A : Type 0} (l : List A) → slice_get l i ≡ None → length l ≤ i
  slice_get_none {A} l is = by_case (slice_get_cases l i).1
    where
      by_case : ((x : A) × (i < length l) × (slice_get l i ≡ Some x) × (get_or l i x ≡ x))
          ⊎ ((length l ≤ i) × (slice_get l i ≡ None)) → length l ≤ i
      by_case (inl (x, below, there, at)) = let never = sym is ∙ there in cc
      by_case (inr (past, none)) = past

  pub symbol_unhashed : (by : Hashing) (told : Bool) (wants : Wants) (e : ElfError)
      → lend_refusal o kinds.Sym s 0 ≡ None
      → Answers told wants (Err e) (sym_answer o s 0 i)
      → Follows {T = Option ℕ} (no_hash e) (Ok (get_or (listed_hashes by o s) i None))
  unfolding sym_answer no_hash
  symbol_unhashed by told wants e passed came =
      by_error e (subst (λ (r : Option ElfError).
      Answers told wants (Err e) (entry_answer r (syms_of (items_at o s 0)) i)) passed came)
    where
      gone : (e : ElfError) (there : Option Sym)
          → slice_get (syms_of (items_at o s 0)) i ≡ there
          → ◌≡◌ {A = Result Sym ElfError} (elim there [
            | None ↦ Err (NoEntry i (length (syms_of (items_at o s 0))))
            | Some x ↦ Ok x
          ]) (Err e) → get_or (listed_hashes by o s) i None ≡ None
      gone e None known is = hash_gone by (slice_get_none (syms_of (items_at o s 0)) known)
      gone e (Some x) known is = cc

      by_error : (e : ElfError)
          → Answers told wants (Err e) (entry_answer None (syms_of (items_at o s 0)) i)
          → Follows {T = Option ℕ} (no_hash e) (Ok (get_or (listed_hashes by o s) i None))
      by_error Memory came = tt
      by_error Read came = tt
      by_error e came =
          ap (λ (h : Option ℕ). Ok h) (gone e (slice_get (syms_of (items_at o s 0)) i) refl came)

-- a symbol that came, and then its name
pub symbol_hashed : {S : Type 0} (old mid : State S) (s i strings : ℕ) (x : Sym) (by : Hashing)
    (q : Result (Option ℕ) ElfError) → mid.o ≡ old.o → mid.told ≡ old.told
    → strings ≡ link_of old.o s → IsTrue old.told → sym_answer old.o s 0 i ≡ Ok x
    → (IsTrue mid.told → Follows q (Ok (name_hash by (if not (i == 0) && is_defined_global x
    then not_empty (readable (string_answer mid.o strings x.name)) else None))))
    → Follows q (Ok (get_or (listed_hashes by old.o s) i None))
unfolding listed_name symbol_name
symbol_hashed old mid s i strings x by q same same_told link told came later =
    let value : Object → ℕ → Result (Option ℕ) ElfError = λ o t. Ok (name_hash by
    (if not (i == 0) && is_defined_global x then not_empty (readable (string_answer o t x.name))
    else None)) in
    let named = subst (λ (o : Object). Follows q (value o strings)) same
    (later (same_told ∙ told)) in
    let here = subst (λ (t : ℕ). Follows q (value old.o t)) link named in
    subst (λ (h : Option ℕ). Follows q (Ok h))
    (sym (hash_at old.o s i by x (sym_value old.o s 0 i x came).1)) here

-- ---- All symbols

pub pushed_told : (r : Result (Unit {0}) ElfError) (old new : List (Option ℕ)) (x y : Option ℕ)
    → ◌≡◌ {A = Result (Option ℕ) ElfError} (Ok y) (Ok x) → OnOk r (new ≡ old ++ x ∷ [])
    → OnOk r (new ≡ old ++ y ∷ [])
pushed_told (Ok u) old new x y is pushed =
    let same : x ≡ y = cc in pushed ∙ ap (λ (h : Option ℕ). old ++ h ∷ []) same
pushed_told (Err e) old new x y is pushed = tt

pub pushed_long : (r : Result (Unit {0}) ElfError) (old new : List (Option ℕ)) (x : Option ℕ)
    → OnOk r (new ≡ old ++ x ∷ []) → OnOk r (length new ≡ length old + 1)
pushed_long (Ok u) old new x pushed =
    ap (λ (l : List (Option ℕ)). length l) pushed ∙ length_push old x
pushed_long (Err e) old new x pushed = tt

pub pushed_first : (r : Result (Unit {0}) ElfError) (old new : List (Option ℕ)) (x : Option ℕ)
    (i : ℕ) → (i ≡ 0 → x ≡ None) → i ≡ length old → get_or old 0 None ≡ None
    → OnOk r (new ≡ old ++ x ∷ []) → OnOk r (get_or new 0 None ≡ None)
pushed_first (Err e) old new x i unlisted last none pushed = tt
pushed_first (Ok u) [] new x i unlisted last none pushed =
    ap (λ (l : List (Option ℕ)). get_or l 0 None) pushed ∙ unlisted last
pushed_first (Ok u) (y ∷ old) new x i unlisted last none pushed =
    ap (λ (l : List (Option ℕ)). get_or l 0 None) pushed ∙ none

pub filled_more : (hashes old new : List (Option ℕ)) (i : ℕ) → i < length hashes
    → old ≡ take i hashes → new ≡ old ++ get_or hashes i None ∷ []
    → new ≡ take (i + 1) hashes
filled_more hashes old new i below so_far is =
    is ∙ ap (λ (l : List (Option ℕ)). l ++ get_or hashes i None ∷ []) so_far
    ∙ sym (take_more hashes i None below)

pub filled_all : (hashes l : List (Option ℕ)) (i : ℕ) → length hashes ≤ i → l ≡ take i hashes
    → l ≡ hashes
filled_all hashes l i past so_far = so_far ∙ take_all i hashes past
