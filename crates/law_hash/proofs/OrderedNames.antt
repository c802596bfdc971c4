-- Symbols in the order that GNU's hash section needs: each name finds an equal symbol, and each
-- relocation names an equal one.
use Rattle.std.proofs.Common.{◌≡◌, ◌%◌, ◌<◌, ◌≤◌, ℕ, zero, suc, ◌==◌, ◌&&◌, Bool, true, not, List, [], ◌∷◌, ◌++◌, length, get_or, map, Option, Some, None, refl, sym, ap, ◌∙◌, subst, arith}
use Rattle.std.specs.Prelude.{slice_get, if◌then◌else◌}
use Rattle.std.specs.Option.{option_map}
use Rattle.std.specs.List.{position, range_with_len}
use Rattle.std.proofs.lemmas.Bool.{ne_eqb, le-leb}
use Rattle.std.proofs.lemmas.List.{ext_get_or, length-map, get_or-map}
use Rattle.std.proofs.lemmas.List.Elements.{All-get_or}
use Rattle.std.proofs.lemmas.List.FromFn.{fill_by_all}
use Rattle.std.proofs.lemmas.Option.{slice_get-get_or, slice_get-map}
use Rattle.elf_types.specs.declared.constants.TheConstants.{SHT_REL, SHT_RELA, SHT_DYNSYM}
use Rattle.elf_types.specs.declared.records.Kind.TheVariants as kinds
use Rattle.elf_types.specs.declared.records.Rel.{Rel}
use Rattle.elf_types.specs.declared.records.Rela.{Rela}
use Rattle.elf_types.specs.declared.records.Sym.{Sym}
use Rattle.elf_xlate.specs.declared.content.Items.{Items}
use Rattle.elf_xlate.specs.declared.content.Items.TheVariants as items
use Rattle.elf_layout.specs.Meeting.{inserted_by, sorted_by}
use Rattle.rebuild_model.specs.elf_object.Object.{Object}
use Rattle.rebuild_model.specs.elf_object.Answers.{items_at, syms_of, rels_of, relas_of}
use Rattle.rebuild_model.specs.elf_object.Strings.{is_name, symbol_name}
use Rattle.rebuild_model.specs.hash_model.Hashes.{gnu_hash}
use Rattle.rebuild_model.specs.elf_object.Sections.{header_at}
use Rattle.rebuild_model.specs.hash_model.Listed.{not_empty, is_defined_global, listed_name, listed_names}
use Rattle.rebuild_model.specs.Laws.{rel_symbol, rela_symbol}
use Rattle.rebuild_model.specs.hash_model.BuiltHashes.{buckets_of, order_key, gnu_order_of}
use Rattle.rebuild_model.specs.hash_model.Reordered.{in_order, new_index, with_rel, with_rela, items_by_symbols, reordered, reorder_refusal}
use Rattle.law_files.proofs.commands.SortedLemmas.{sorted_from}
use Rattle.symbol_lookup.proofs.LeastLaws.{found_name_is}
use Rattle.hash_build.specs.Rows.{IsOrder}
use Rattle.hash_build.proofs.ListedLaws.{name_at, names_long, option_at}
use Rattle.hash_build.proofs.OrderLaws.{whole_order}
use Rattle.law_hash.proofs.NameLaws.{zero_unlisted}
use Rattle.law_hash.proofs.SameLaws.{listed_same}
use Rattle.law_hash.proofs.StableLaws.{place_moves, new_there}
use Rattle.law_hash.proofs.RenumberedLaws.{IsRenumbered}
use Rattle.law_hash.proofs.ReorderedLaws.{reordered_strings, reordered_symbols, reordered_lent, reordered_items, symbols_lent}

-- ---- Items in an order

-- those at places that are there
in_order_is : {X : Type 0} (l : List X) (d : X) (order : List ℕ)
    → ((k : ℕ) → k < length order → get_or order k 0 < length l)
    → in_order order l ≡ map (λ i. get_or l i d) order
unfolding in_order
in_order_is l d [] within = refl
in_order_is {X} l d (i ∷ order) within =
    ap (λ (x : Option X). (elim x [ None ↦ [] | Some y ↦ y ∷ [] ]) ++ in_order order l)
    (slice_get-get_or l i d (within 0 (omega arith)))
    ∙ ap (λ (m : List X). get_or l i d ∷ m)
    (in_order_is l d order (λ k below. within (suc k) (omega (arith, below))))

-- relocations
rels_in_order : (order : List ℕ) (left : Items)
    → rels_of (items_by_symbols order left) ≡ map (with_rel order) (rels_of left)
rels_in_order order items.Empty = refl
rels_in_order order (items.Bytes l) = refl
rels_in_order order (items.Half l) = refl
rels_in_order order (items.Word l) = refl
rels_in_order order (items.Addr l) = refl
rels_in_order order (items.Sym l) = refl
rels_in_order order (items.Rel l) = refl
rels_in_order order (items.Rela l) = refl
rels_in_order order (items.Dyn l) = refl

relas_in_order : (order : List ℕ) (left : Items)
    → relas_of (items_by_symbols order left) ≡ map (with_rela order) (relas_of left)
relas_in_order order items.Empty = refl
relas_in_order order (items.Bytes l) = refl
relas_in_order order (items.Half l) = refl
relas_in_order order (items.Word l) = refl
relas_in_order order (items.Addr l) = refl
relas_in_order order (items.Sym l) = refl
relas_in_order order (items.Rel l) = refl
relas_in_order order (items.Rela l) = refl
relas_in_order order (items.Dyn l) = refl

rel_named : (order : List ℕ) (x : Option Rel)
    → ◌≡◌ {A = Option ℕ}
    (elim (option_map (with_rel order) x) [ None ↦ None | Some r ↦ Some r.sym ])
    (option_map (new_index order) (elim x [ None ↦ None | Some r ↦ Some r.sym ]))
rel_named order None = refl
rel_named order (Some r) = refl

rela_named : (order : List ℕ) (x : Option Rela)
    → ◌≡◌ {A = Option ℕ}
    (elim (option_map (with_rela order) x) [ None ↦ None | Some r ↦ Some r.sym ])
    (option_map (new_index order) (elim x [ None ↦ None | Some r ↦ Some r.sym ]))
rela_named order None = refl
rela_named order (Some r) = refl

-- ---- An order that begins with 0

module _ (key : ℕ → ℕ) (least : key 0 ≡ 0) where
  kept_first : (l : List ℕ) → inserted_by key 0 l ≡ 0 ∷ l
  kept_first [] = refl
  kept_first (y ∷ ys) =
      ap (λ (b : Bool). if b then 0 ∷ y ∷ ys else y ∷ inserted_by key 0 ys)
      (le-leb (key 0) (key y) (omega (arith, least)))

  -- 0 stands there at place 0 alone
  zero_alone : (n k : ℕ) → k < length (sorted_by key (range_with_len 0 n))
      → (k == 0) ≡ (get_or (sorted_by key (range_with_len 0 n)) k 0 == 0)
  zero_alone zero k below = absurd (omega (arith, below))
  zero_alone (suc n) k below =
      let whole : sorted_by key (range_with_len 0 (suc n))
      ≡ 0 ∷ sorted_by key (range_with_len 1 n) =
      kept_first (sorted_by key (range_with_len 1 n)) in
      by k (subst (λ (l : List ℕ). k < length l) whole below)
      ∙ ap (λ (l : List ℕ). get_or l k 0 == 0) (sym whole)
    where
      by : (k : ℕ) → k < length (0 ∷ sorted_by key (range_with_len 1 n))
          → (k == 0) ≡ (get_or (0 ∷ sorted_by key (range_with_len 1 n)) k 0 == 0)
      by zero below = refl
      by (suc j) below =
          let above : 1 ≤ get_or (sorted_by key (range_with_len 1 n)) j 0 =
          All-get_or (λ x. 1 ≤ x) (sorted_by key (range_with_len 1 n)) j 0 (omega (arith, below))
          (sorted_from key 1 1 n (omega arith)) in
          ne_eqb (suc j) 0 (λ is. absurd (omega (arith, is)))
          ∙ sym (ne_eqb (get_or (sorted_by key (range_with_len 1 n)) j 0) 0
          (λ is. absurd (omega (arith, is, above))))

-- ---- The symbols in their new order

abbrev no_sym : Sym
no_sym = record { name = 0; info = 0; other = 0; shndx = 0; value = 0; size = 0 }

module _ (o : Object) (s nbuckets : ℕ) (is_table : (header_at o s).stype ≡ SHT_DYNSYM)
    (passed : reorder_refusal o s ≡ None) where
  abbrev names : List (Option (List ℕ))
  names = listed_names o s

  abbrev n : ℕ
  n = length names

  abbrev symbols : List Sym
  symbols = syms_of (items_at o s 0)

  abbrev bucket_of : List ℕ → ℕ
  bucket_of name = gnu_hash name % nbuckets

  abbrev buckets : List (Option ℕ)
  buckets = buckets_of gnu_hash nbuckets names

  abbrev key : ℕ → ℕ
  key i = order_key (get_or buckets i None)

  abbrev order : List ℕ
  order = sorted_by key (range_with_len 0 n)

  abbrev name_of : ℕ → Option (List ℕ)
  name_of i = get_or names i None

  abbrev symbol_of : ℕ → Sym
  symbol_of i = get_or symbols i no_sym

  bucket_at : (i : ℕ) → get_or buckets i None ≡ option_map bucket_of (name_of i)
  unfolding buckets_of
  bucket_at i = option_at bucket_of names i

  abbrev key_of : Option (List ℕ) → ℕ
  key_of name = order_key (option_map bucket_of name)

  key_at : (i : ℕ) → key i ≡ key_of (name_of i)
  key_at i = ap order_key (bucket_at i)

  first_key : key 0 ≡ 0
  first_key =
      key_at 0 ∙ ap key_of (zero_unlisted o s)

  whole : IsOrder order n
  whole = whole_order key n first_key

  count : n ≡ length symbols
  count = names_long o s

  alike : (name : List ℕ) (x y : ℕ) → is_name name (name_of x) ≡ true
      → is_name name (name_of y) ≡ true → key x ≡ key y
  alike name x y one other =
      key_at x
      ∙ ap key_of (found_name_is name (name_of x) one ∙ sym (found_name_is name (name_of y) other))
      ∙ sym (key_at y)

  -- ---- In what is made

  abbrev made : Object
  made = reordered o s order

  moved : syms_of (items_at made s 0) ≡ map symbol_of order
  moved =
      ap syms_of (reordered_symbols o s order is_table passed)
      ∙ in_order_is symbols no_sym order
      (λ k below. omega (arith, count, whole.below k (omega (arith, below, whole.long))))

  moved_long : length (listed_names made s) ≡ length order
  moved_long =
      names_long made s ∙ ap (λ (l : List Sym). length l) moved ∙ length-map order symbol_of

  zeros_alike : (i j : ℕ) (x : Sym) → (j == 0) ≡ (i == 0)
      → listed_name o s j x ≡ listed_name o s i x
  unfolding listed_name
  zeros_alike i j x same =
      ap (λ (b : Bool).
      if not b && is_defined_global x then not_empty (symbol_name o s x) else None)
      same

  name_moved : (k : ℕ) → k < length order
      → get_or (listed_names made s) k None ≡ name_of (get_or order k 0)
  name_moved k below =
      let i : ℕ = get_or order k 0 in
      let within : get_or order k 0 < length symbols =
      omega (arith, count, whole.below k (omega (arith, below, whole.long))) in
      let here : slice_get (syms_of (items_at made s 0)) k ≡ Some (symbol_of (get_or order k 0)) =
      ap (λ (l : List Sym). slice_get l k) moved
      ∙ slice_get-get_or (map symbol_of order) k no_sym
      (omega (arith, below, length-map order symbol_of))
      ∙ ap Some (get_or-map symbol_of order k 0 no_sym below) in
      let there : slice_get symbols (get_or order k 0) ≡ Some (symbol_of (get_or order k 0)) =
      slice_get-get_or symbols (get_or order k 0) no_sym within in
      name_at made s k (symbol_of i) here
      ∙ listed_same o made (reordered_strings o s order is_table passed) s k (symbol_of i)
      ∙ zeros_alike i k (symbol_of i) (zero_alone key first_key n k below)
      ∙ sym (name_at o s i (symbol_of i) there)

  names_moved : listed_names made s ≡ map name_of order
  names_moved =
      ext_get_or None (listed_names made s) (map name_of order)
      (moved_long ∙ sym (length-map order name_of))
      (λ k below. name_moved k (omega (arith, below, moved_long))
      ∙ sym (get_or-map name_of order k 0 None (omega (arith, below, moved_long))))

  names_there : map name_of (range_with_len 0 n) ≡ names
  names_there = sym (fill_by_all name_of names n None refl (λ k below. refl))

  name_found : (name : List ℕ) → position (is_name name) (listed_names made s)
      ≡ option_map (new_index order) (position (is_name name) names)
  name_found name =
      ap (position (is_name name)) names_moved
      ∙ place_moves name_of (is_name name) key n (alike name) whole.long
      ∙ ap (λ (l : List (Option (List ℕ))).
      option_map (new_index order) (position (is_name name) l))
      names_there

  symbol_found : (i : ℕ) → i < length symbols
      → slice_get (syms_of (items_at made s 0)) (new_index order i) ≡ slice_get symbols i
  symbol_found i below =
      ap (λ (l : List Sym). slice_get l (new_index order i)) moved
      ∙ slice_get-map symbol_of order (new_index order i)
      ∙ ap (option_map symbol_of) (new_there key n i (omega (arith, below, count)) whole.long)
      ∙ sym (slice_get-get_or symbols i no_sym below)

  rel_moved : (k i : ℕ) → (header_at o k).stype ≡ SHT_REL → (header_at o k).link ≡ s
      → rel_symbol made k i ≡ option_map (new_index order) (rel_symbol o k i)
  rel_moved k i is link =
      ap (λ (l : List Rel). elim (slice_get l i) [ None ↦ None | Some r ↦ Some r.sym ])
      (ap rels_of (reordered_items o s order is_table passed k SHT_REL kinds.Rel is link refl refl
      refl refl)
      ∙ rels_in_order order (items_at o k 0))
      ∙ ap (λ (x : Option Rel). elim x [ None ↦ None | Some r ↦ Some r.sym ])
      (slice_get-map (with_rel order) (rels_of (items_at o k 0)) i)
      ∙ rel_named order (slice_get (rels_of (items_at o k 0)) i)

  rela_moved : (k i : ℕ) → (header_at o k).stype ≡ SHT_RELA → (header_at o k).link ≡ s
      → rela_symbol made k i ≡ option_map (new_index order) (rela_symbol o k i)
  rela_moved k i is link =
      ap (λ (l : List Rela). elim (slice_get l i) [ None ↦ None | Some r ↦ Some r.sym ])
      (ap relas_of (reordered_items o s order is_table passed k SHT_RELA kinds.Rela is link refl
      refl refl refl)
      ∙ relas_in_order order (items_at o k 0))
      ∙ ap (λ (x : Option Rela). elim x [ None ↦ None | Some r ↦ Some r.sym ])
      (slice_get-map (with_rela order) (relas_of (items_at o k 0)) i)
      ∙ rela_named order (slice_get (relas_of (items_at o k 0)) i)

  pub order_long : length (gnu_order_of nbuckets (listed_names o s)) ≡ length (listed_names o s)
  unfolding gnu_order_of
  order_long = whole.long

  pub reordered_renumbers : IsRenumbered o
      (reordered o s (gnu_order_of nbuckets (listed_names o s))) s
      (new_index (gnu_order_of nbuckets (listed_names o s)))
  unfolding gnu_order_of
  reordered_renumbers = record {
    lent = reordered_lent o s order is_table passed ∙ sym (symbols_lent o s order is_table passed);
    found = name_found;
    symbols = symbol_found;
    rels = rel_moved;
    relas = rela_moved;
  }
