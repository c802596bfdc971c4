-- What a round adds to the sum.
use Rattle.std.proofs.Common.{◌≡◌, ℕ, List, [], ◌∷◌, ◌∙◌, ap, sym, ◌+◌, ◌≤◌, length, take, drop, Option, Some, None, ⊎_elim}
use Rattle.std.proofs.Math.Seq.{drop-cons, take-add}
use Rattle.std.proofs.lemmas.List.{append-nil, drop_all}
use Rattle.std.proofs.lemmas.Option.{slice_get_within, slice_get_cases, get_or_from_slice_get, none-some}
use Rattle.std.proofs.lemmas.Grind.{flat_map-append}
use Rattle.std.proofs.lemmas.List.Concat.{flat_map-cons}
use Rattle.std.specs.List.{flat_map, slice_get}
use Rattle.elf_types.specs.declared.records.Sym.{Sym}
use Rattle.elf_xlate.specs.declared.content.Items.{Items}
use Rattle.bench_translation.specs.Sums.{sum_with_number, with_all, symbol_field_values, with_symbols, symbols_of_items}
use Rattle.bench_translation.proofs.Sums.{with_some_more}

-- the item at a place
one_there : {X : Type 0} (xs : List X) (i : ℕ) (x : X) → slice_get xs i ≡ Some x → take 1 (drop i xs) ≡ x ∷ []
one_there xs i x there =
    ap (take 1) (drop-cons xs i x (slice_get_within xs i x there)) ∙ ap (λ y. y ∷ []) (get_or_from_slice_get xs i x x there)

-- a place past the end
one_past : {X : Type 0} (xs : List X) (i : ℕ) → slice_get xs i ≡ None → take 1 (drop i xs) ≡ []
one_past xs i past =
    ⊎_elim
    (λ there. absurd (none-some there.0 (sym past ∙ there.2)))
    (λ (beyond : (length xs ≤ i) × (slice_get xs i ≡ None)). ap (take 1) (drop_all i xs beyond.0))
    (slice_get_cases xs i).1

pub symbol_there : (sum place new : ℕ) (xs : List Sym) (x : Sym) → slice_get xs place ≡ Some x → new ≡ with_all sum (symbol_field_values x) → new ≡ with_symbols sum (take 1 (drop place xs))
symbol_there sum place new xs x there is =
    is ∙ ap (with_all sum) (sym (ap (flat_map symbol_field_values) (one_there xs place x there) ∙ flat_map-cons symbol_field_values x [] ∙ append-nil (symbol_field_values x)))

pub symbol_past : (sum place : ℕ) (xs : List Sym) → slice_get xs place ≡ None → sum ≡ with_symbols sum (take 1 (drop place xs))
unfolding with_all
symbol_past sum place xs past = sym (ap (with_symbols sum) (one_past xs place past))

pub byte_there : (sum place new : ℕ) (xs : List ℕ) (x : ℕ) → slice_get xs place ≡ Some x → new ≡ sum_with_number sum x → new ≡ with_all sum (take 1 (drop place xs))
unfolding with_all
byte_there sum place new xs x there is = is ∙ sym (ap (with_all sum) (one_there xs place x there))

pub byte_past : (sum place : ℕ) (xs : List ℕ) → slice_get xs place ≡ None → sum ≡ with_all sum (take 1 (drop place xs))
unfolding with_all
byte_past sum place xs past = sym (ap (with_all sum) (one_past xs place past))

-- a round of encoding
pub encoded_round : (first sum new i : ℕ) (xs : List ℕ) → sum ≡ with_all first (take i xs) → new ≡ with_all sum (take 1 (drop i xs)) → new ≡ with_all first (take (i + 1) xs)
encoded_round first sum new i xs h is =
    is ∙ with_some_more first sum (take i xs) (take 1 (drop i xs)) h ∙ ap (with_all first) (sym (take-add i 1 xs))

-- a round of decoding
pub decoded_round : (first sum new i : ℕ) (stated : Option Items) (items : Items) → stated ≡ Some items → sum ≡ with_symbols first (take i (symbols_of_items stated)) → new ≡ with_symbols sum (take 1 (drop i (symbols_of_items (Some items)))) → new ≡ with_symbols first (take (i + 1) (symbols_of_items stated))
decoded_round first sum new i stated items found h is =
    let xs = symbols_of_items stated in
    let same = is ∙ sym (ap (λ (o : Option Items). with_symbols sum (take 1 (drop i (symbols_of_items o)))) found) in
    let longer = ap (flat_map symbol_field_values) (take-add i 1 xs) ∙ flat_map-append symbol_field_values (take i xs) (take 1 (drop i xs)) in
    same ∙ with_some_more first sum (flat_map symbol_field_values (take i xs)) (flat_map symbol_field_values (take 1 (drop i xs))) h ∙ ap (with_all first) (sym longer)
