-- Symbols of two images that are the same but for places: their sections, and what the lookups of
-- a name find.
use Rattle.std.proofs.Common.{◌≡◌, ℕ, zero, suc, ◌+◌, ◌<◌, ◌≤◌, Bool, false, not, ◌==◌, ◌&&◌, cond, List, [], ◌∷◌, length, map, get_or, Option, Some, None, Result, Ok, Err, refl, sym, ap, ◌∙◌, arith}
use Rattle.std.specs.Prelude.{nat_lt, slice_index_or, if◌then◌else◌}
use Rattle.std.specs.List.{position, position_from, enumerate_from}
use Rattle.std.proofs.lemmas.Bool.{and_left}
use Rattle.std.proofs.lemmas.Iterator.Adapters.{position_from-zero}
use Rattle.elf_types.specs.Answers.{refused_if, first_refusal, answered, ◌>>=◌}
use Rattle.elf_types.specs.declared.constants.TheConstants.{SHN_LORESERVE, SHT_SYMTAB_SHNDX}
use Rattle.elf_types.specs.declared.records.Class.{Class}
use Rattle.elf_types.specs.declared.records.Order.{Order}
use Rattle.elf_types.specs.declared.records.Kind.{Kind}
use Rattle.elf_types.specs.declared.records.Kind.TheVariants as kinds
use Rattle.elf_types.specs.declared.records.Sym.{Sym}
use Rattle.elf_types.specs.declared.errors.ElfError.{ElfError}
use Rattle.elf_types.specs.declared.errors.ElfError.TheVariants.{NoEntry, WrongKind, OutOfFile, Ragged}
use Rattle.elf_xlate.specs.declared.content.Items.{Items}
use Rattle.elf_xlate.specs.declared.content.Items.TheVariants as items
use Rattle.elf_xlate.specs.Translation.{decoded, items_kind, items_count}
use Rattle.elf_object.specs.Object.{Object, Section, Piece, absent_section, section_at, piece_at}
use Rattle.elf_object.specs.Answers.{content, or_empty, items_at, kind_at, count_at, same_kind, no_section, no_data, wrong_kind, no_content, lend_refusal, bytes_of, words_of, syms_of}
use Rattle.elf_object.specs.Calls.{sym_answer, word_answer}
use Rattle.elf_object.specs.Sections.{header_at}
use Rattle.elf_object.specs.Strings.{string_answer, readable, symbol_name, is_name}
use Rattle.elf_object.specs.SymbolSections.{shndx_table, extended_index, is_extended, place_of_symbol}
use Rattle.elf_object.specs.Words.{result_map}
use Rattle.hash_model.specs.Hashes.{elf_hash, gnu_hash}
use Rattle.hash_model.specs.Listed.{not_empty, is_defined_global, listed_name, listed_names, find_linear_answer}
use Rattle.symbol_lookup.specs.declared.walks.Links.{Links}
use Rattle.symbol_lookup.specs.declared.walks.Links.TheVariants as links
use Rattle.symbol_lookup.specs.declared.walks.WalkStart.{WalkStart}
use Rattle.symbol_lookup.specs.declared.walks.WalkStep.{WalkStep}
use Rattle.symbol_lookup.specs.Walks.{sysv_start, sysv_next, gnu_start, gnu_next, walk_from, least_of}
use Rattle.symbol_lookup.specs.Lookups.{link_of, is_match, next_on, found_from, linked_refusal, sysv_refusal, gnu_refusal, sysv_found, gnu_found, find_sysv_answer, find_gnu_answer}
use Rattle.law_split.proofs.AlikeSections.{IsAlike, HasNoItems}
use Rattle.law_split.proofs.Getters.{items_same, lend_same, string_same, word_same, sym_same}

-- ---- Steps and lists, element by element

bind_same : {A B E : Type 0} (r : Result A E) (f g : A → Result B E) → ((x : A) → f x ≡ g x)
    → (r >>= f) ≡ (r >>= g)
bind_same (Ok x) f g each = each x
bind_same (Err e) f g each = refl

map_same : {X Y : Type 0} (f g : X → Y) → ((x : X) → f x ≡ g x) → (l : List X)
    → map f l ≡ map g l
map_same f g each [] = refl
map_same f g each (x ∷ l) =
    ap (λ y. y ∷ map f l) (each x) ∙ ap (λ m. g x ∷ m) (map_same f g each l)

module _ (test : Section → Bool) where
  from_same : (n : ℕ) (l m : List Section) → length l ≡ length m
      → ((i : ℕ) → i < length l
      → test (get_or l i absent_section) ≡ test (get_or m i absent_section))
      → position_from test n l ≡ position_from test n m
  from_same n [] [] count each = refl
  from_same n [] (y ∷ m) count each = absurd (omega (arith, count))
  from_same n (x ∷ l) [] count each = absurd (omega (arith, count))
  from_same n (x ∷ l) (y ∷ m) count each =
      ap (λ (b : Bool). cond b (Some n) (position_from test (n + 1) l)) (each 0 (omega arith))
      ∙ ap (λ (r : Option ℕ). cond (test y) (Some n) r)
      (from_same (n + 1) l m (omega (arith, count))
      (λ i below. each (suc i) (omega (arith, below))))

  -- the first section that passes stands at the same place
  first_same : (l m : List Section) → length l ≡ length m
      → ((i : ℕ) → i < length l
      → test (get_or l i absent_section) ≡ test (get_or m i absent_section))
      → position test l ≡ position test m
  first_same l m count each =
      position_from-zero test l ∙ from_same 0 l m count each ∙ sym (position_from-zero test m)

-- ---- Section 0, which has no items

module _ (o : Object) (none : HasNoItems (section_at o 0)) where
  zeroth_items : items_at o 0 0 ≡ items.Empty
  unfolding items_at content piece_at decoded
  zeroth_items =
      let class = o.header.class in
      let order = o.header.order in
      let raw = (section_at o 0).raw in
      let found : Bool → Kind → Items = λ out kind.
      or_empty (if out then Err (OutOfFile 0)
      else (elim (decoded kind class order raw) [
        | None ↦ Err (Ragged 0)
        | Some items ↦ Ok items
      ])) in
      ap (λ (p : Piece). elim (p.own) [ None ↦ or_empty (content o 0) | Some items ↦ items ])
      none.piece
      ∙ ap (λ (b : Bool). found b (section_at o 0).home.kind) none.inside
      ∙ ap (λ (k : Kind). found false k) none.kind

  zeroth_kind : kind_at o 0 0 ≡ kinds.Empty
  unfolding kind_at piece_at
  zeroth_kind =
      ap (λ (p : Piece). elim (p.own) [
        | None ↦ (section_at o 0).home.kind
        | Some items ↦ items_kind items
      ]) none.piece
      ∙ none.kind

  third_refused : (first second last : Option ElfError) (e : ElfError)
      → (d : ElfError) × (first_refusal (first ∷ second ∷ Some e ∷ last ∷ []) ≡ Some d)
  third_refused (Some d) second last e = (d, refl)
  third_refused None (Some d) last e = (d, refl)
  third_refused None None last e = (e, refl)

  -- so its items of no kind are lent
  zeroth_refused : (kind : Kind) → same_kind kinds.Empty kind ≡ false
      → (d : ElfError) × (lend_refusal o kind 0 0 ≡ Some d)
  unfolding lend_refusal
  zeroth_refused kind other =
      let wrong : wrong_kind o kind 0 0 ≡ Some (WrongKind (kind_at o 0 0)) =
      ap (λ (k : Kind). refused_if (not (same_kind k kind)) (WrongKind (kind_at o 0 0)))
      zeroth_kind
      ∙ ap (λ (b : Bool). refused_if (not b) (WrongKind (kind_at o 0 0))) other in
      let found = third_refused (no_section o 0) (no_data o 0 0) (no_content o 0 0)
      (WrongKind (kind_at o 0 0)) in (
        found.0,
        ap (λ (r : Option ElfError).
            first_refusal (no_section o 0 ∷ no_data o 0 0 ∷ r ∷ no_content o 0 0 ∷ [])) wrong
            ∙ found.1,
      )

-- ---- Two objects whose sections are alike, and link alike

pub record AreAlike (a b : Object) : Type 0 where
  pub section : (s : ℕ) → IsAlike a b s
  pub link : (s : ℕ) → 1 ≤ s → (header_at a s).link ≡ (header_at b s).link
  pub none_a : HasNoItems (section_at a 0)
  pub none_b : HasNoItems (section_at b 0)
  pub null : (header_at b 0).stype ≡ 0

module _ (a b : Object) (alike : AreAlike a b) where
  -- ---- The section of a symbol

  abbrev is_table : ℕ → Section → Bool
  is_table s c = c.header.stype == SHT_SYMTAB_SHNDX && c.header.link == s

  same_type : (i : ℕ) → (header_at a i).stype ≡ (header_at b i).stype
  same_type i = ap (λ (c : Section). c.header.stype) (alike.section i).section

  is_table_same : (s i : ℕ) → is_table s (section_at a i) ≡ is_table s (section_at b i)
  is_table_same s zero =
      let fails : (o : Object) → (header_at o 0).stype ≡ 0
      → is_table s (section_at o 0) ≡ false =
      λ o null. and_left ((header_at o 0).stype == SHT_SYMTAB_SHNDX) ((header_at o 0).link == s)
      (ap (λ (n : ℕ). n == SHT_SYMTAB_SHNDX) null) in
      fails a (same_type 0 ∙ alike.null) ∙ sym (fails b alike.null)
  is_table_same s (suc i) =
      ap (λ (n : ℕ). n == SHT_SYMTAB_SHNDX && (header_at a (suc i)).link == s)
      (same_type (suc i))
      ∙ ap (λ (n : ℕ). (header_at b (suc i)).stype == SHT_SYMTAB_SHNDX && n == s)
      (alike.link (suc i) (omega arith))

  table_same : (s : ℕ) → shndx_table a s ≡ shndx_table b s
  unfolding shndx_table section_at
  table_same s =
      first_same (is_table s) a.sections b.sections (alike.section 0).count
      (λ i below. is_table_same s i)

  extended_same : (s i : ℕ) → extended_index a s i ≡ extended_index b s i
  unfolding extended_index
  extended_same s i =
      let index : Option ℕ → Result ℕ ElfError = λ t.
      elim t [ None ↦ Err (NoEntry i 0) | Some x ↦ word_answer a x 0 i ] in
      ap index (table_same s) ∙ by_table (shndx_table b s)
    where
      by_table : (t : Option ℕ)
          → ◌≡◌ {A = Result ℕ ElfError}
          (elim t [ None ↦ Err (NoEntry i 0) | Some x ↦ word_answer a x 0 i ])
          (elim t [ None ↦ Err (NoEntry i 0) | Some x ↦ word_answer b x 0 i ])
      by_table None = refl
      by_table (Some x) = word_same a b x (alike.section x) 0 i

  pub place_same : {A : Type 0} (special numbered : ℕ → A) (s p i : ℕ)
      → (sym_answer a s p i >>= λ x. place_of_symbol special numbered a s i x)
      ≡ (sym_answer b s p i >>= λ x. place_of_symbol special numbered b s i x)
  unfolding place_of_symbol
  place_same {A} special numbered s p i =
      let place : Sym → Result ℕ ElfError → Result A ElfError = λ x index.
      if nat_lt x.shndx SHN_LORESERVE then Ok (numbered x.shndx)
      else (if is_extended x then result_map numbered index else Ok (special x.shndx)) in
      ap (λ (r : Result Sym ElfError). r >>= λ x. place x (extended_index a s i))
      (sym_same a b s (alike.section s) p i)
      ∙ bind_same (sym_answer b s p i) (λ x. place x (extended_index a s i))
      (λ x. place x (extended_index b s i)) (λ x. ap (place x) (extended_same s i))

  -- ---- Listed names

  linked_name : (s : ℕ) (x : Sym) → 1 ≤ s → symbol_name a s x ≡ symbol_name b s x
  unfolding symbol_name
  linked_name s x from =
      let table = (header_at b s).link in
      ap (λ (t : ℕ). readable (string_answer a t x.name)) (alike.link s from)
      ∙ ap readable (string_same a b table (alike.section table) x.name)

  listed_same : (s i : ℕ) (x : Sym) → 1 ≤ s → listed_name a s i x ≡ listed_name b s i x
  unfolding listed_name
  listed_same s i x from =
      ap (λ (name : Option (List ℕ)).
      if not (i == 0) && is_defined_global x then not_empty name else None)
      (linked_name s x from)

  abbrev names_in : Object → ℕ → Items → List (Option (List ℕ))
  names_in o s l = map (λ row. listed_name o s row.0 row.1) (enumerate_from 0 (syms_of l))

  names_same : (s : ℕ) → listed_names a s ≡ listed_names b s
  unfolding listed_names
  names_same zero =
      ap (λ (l : Items). names_in a 0 l) (zeroth_items a alike.none_a)
      ∙ sym (ap (λ (l : Items). names_in b 0 l) (zeroth_items b alike.none_b))
  names_same (suc s) =
      ap (λ (l : Items). names_in a (suc s) l) (items_same a b (suc s) (alike.section (suc s)) 0)
      ∙ map_same (λ row. listed_name a (suc s) row.0 row.1)
      (λ row. listed_name b (suc s) row.0 row.1)
      (λ row. listed_same (suc s) row.0 row.1 (omega arith))
      (enumerate_from 0 (syms_of (items_at b (suc s) 0)))

  pub linear_same : (s : ℕ) (name : List ℕ)
      → find_linear_answer a s name ≡ find_linear_answer b s name
  unfolding find_linear_answer
  linear_same s name =
      ap (λ (r : Option ElfError). answered r (position (is_name name) (listed_names a s)))
      (lend_same a b s (alike.section s) kinds.Sym 0)
      ∙ ap (λ (l : List (Option (List ℕ))).
      answered (lend_refusal b kinds.Sym s 0) (position (is_name name) l)) (names_same s)

  -- ---- On a chain

  next_same : (h : ℕ) (l : Links) (i : ℕ) → next_on a h l i ≡ next_on b h l i
  unfolding next_on
  next_same h (links.Sysv nbucket nchain) i =
      ap (λ (l : Items). sysv_next (words_of l) nbucket nchain i)
      (items_same a b h (alike.section h) 0)
  next_same h (links.Gnu symoffset chains) i =
      ap (λ (l : Items). gnu_next a.header.order (bytes_of l) symoffset chains i)
      (items_same a b h (alike.section h) 0)
      ∙ ap (λ (o : Order). gnu_next o (bytes_of (items_at b h 0)) symoffset chains i)
      (alike.section h).order

  walk_same : (h : ℕ) (l : Links) (n at i : ℕ)
      → walk_from (next_on a h l) n at i ≡ walk_from (next_on b h l) n at i
  unfolding walk_from
  walk_same h l n at zero = refl
  walk_same h l zero at (suc i) = refl
  walk_same h l (suc n) at (suc i) =
      let rest : Object → WalkStep → Result (List ℕ) ElfError = λ o step.
      result_map (λ later. suc i ∷ later) (walk_from (next_on o h l) n step.at step.symbol) in
      ap (λ (r : Result WalkStep ElfError). r >>= rest a) (next_same h l (suc i))
      ∙ bind_same (next_on b h l (suc i)) (rest a) (rest b)
      (λ step. ap (result_map (λ (later : List ℕ). suc i ∷ later))
      (walk_same h l n step.at step.symbol))

  count_same : (s : ℕ) → count_at a s 0 ≡ count_at b s 0
  unfolding count_at
  count_same s = ap items_count (items_same a b s (alike.section s) 0)

  found_same : (h s : ℕ) (name : List ℕ) (start : WalkStart)
      → found_from a h s name start ≡ found_from b h s name start
  unfolding found_from is_match
  found_same h s name start =
      let found : List (Option (List ℕ)) → Result (List ℕ) ElfError
      → Result (Option ℕ) ElfError =
      λ names. result_map (least_of (λ i. is_name name (slice_index_or names i None))) in
      let walked : Object → ℕ → Result (List ℕ) ElfError =
      λ o n. walk_from (next_on o h start.links) n start.step.at start.step.symbol in
      ap (λ (l : List (Option (List ℕ))). found l (walked a (count_at a s 0))) (names_same s)
      ∙ ap (λ (n : ℕ). found (listed_names b s) (walked a n)) (count_same s)
      ∙ ap (found (listed_names b s))
      (walk_same h start.links (count_at b s 0) start.step.at start.step.symbol)

  -- ---- By a hash section

  linked_found : (h : ℕ) (name : List ℕ) (start : WalkStart) → 1 ≤ h
      → found_from a h (link_of a h) name start ≡ found_from b h (link_of b h) name start
  linked_found h name start from =
      ap (λ (s : ℕ). found_from a h s name start) (alike.link h from)
      ∙ found_same h (link_of b h) name start

  linked_same : (h : ℕ) → 1 ≤ h → linked_refusal a h ≡ linked_refusal b h
  linked_same h from =
      ap (λ (s : ℕ). lend_refusal a kinds.Sym s 0) (alike.link h from)
      ∙ lend_same a b (link_of b h) (alike.section (link_of b h)) kinds.Sym 0

  -- two tests that refuse alike
  refusals_same : (h : ℕ) (kind : Kind) → 1 ≤ h
      → first_refusal (lend_refusal a kind h 0 ∷ linked_refusal a h ∷ [])
      ≡ first_refusal (lend_refusal b kind h 0 ∷ linked_refusal b h ∷ [])
  refusals_same h kind from =
      ap (λ (r : Option ElfError). first_refusal (r ∷ linked_refusal a h ∷ []))
      (lend_same a b h (alike.section h) kind 0)
      ∙ ap (λ (r : Option ElfError). first_refusal (lend_refusal b kind h 0 ∷ r ∷ []))
      (linked_same h from)

  -- section 0 is refused as the lend of its items, whatever it links to
  zeroth_lookup : {A : Type 0} (kind : Kind) (r d : Option ElfError) (one other : Result A ElfError)
      → same_kind kinds.Empty kind ≡ false
      → (answered (first_refusal (lend_refusal a kind 0 0 ∷ r ∷ [])) (tt {0}) >>= λ _. one)
      ≡ (answered (first_refusal (lend_refusal b kind 0 0 ∷ d ∷ [])) (tt {0}) >>= λ _. other)
  zeroth_lookup {A} kind r d one other is =
      let refused = zeroth_refused b alike.none_b kind is in
      let ended : Option ElfError → Option ElfError → Result A ElfError → Result A ElfError =
      λ x y value. answered (first_refusal (x ∷ y ∷ [])) (tt {0}) >>= λ _. value in
      ap (λ (x : Option ElfError). ended x r one)
      (lend_same a b 0 (alike.section 0) kind 0 ∙ refused.1)
      ∙ sym (ap (λ (x : Option ElfError). ended x d other) refused.1)

  sysv_same : (h : ℕ) (name : List ℕ) → 1 ≤ h → sysv_found a h name ≡ sysv_found b h name
  unfolding sysv_found
  sysv_same h name from =
      ap (λ (l : Items). sysv_start (words_of l) (elf_hash name)
      >>= found_from a h (link_of a h) name) (items_same a b h (alike.section h) 0)
      ∙ bind_same (sysv_start (words_of (items_at b h 0)) (elf_hash name))
      (found_from a h (link_of a h) name) (found_from b h (link_of b h) name)
      (λ start. linked_found h name start from)

  gnu_same : (h : ℕ) (name : List ℕ) → 1 ≤ h → gnu_found a h name ≡ gnu_found b h name
  unfolding gnu_found
  gnu_same h name from =
      let start : Class → Order → Items → Result WalkStart ElfError =
      λ class order l. gnu_start class order (bytes_of l) (gnu_hash name) in
      let next = found_from a h (link_of a h) name in
      ap (λ (c : Class). start c a.header.order (items_at a h 0) >>= next)
      (alike.section h).class
      ∙ ap (λ (o : Order). start b.header.class o (items_at a h 0) >>= next)
      (alike.section h).order
      ∙ ap (λ (l : Items). start b.header.class b.header.order l >>= next)
      (items_same a b h (alike.section h) 0)
      ∙ bind_same (start b.header.class b.header.order (items_at b h 0)) next
      (found_from b h (link_of b h) name) (λ begins. linked_found h name begins from)

  pub find_sysv_same : (h : ℕ) (name : List ℕ)
      → find_sysv_answer a h name ≡ find_sysv_answer b h name
  unfolding find_sysv_answer sysv_refusal
  find_sysv_same zero name =
      zeroth_lookup kinds.Word (linked_refusal a 0) (linked_refusal b 0) (sysv_found a 0 name)
      (sysv_found b 0 name) refl
  find_sysv_same (suc h) name =
      ap (λ (r : Option ElfError). answered r (tt {0}) >>= λ _. sysv_found a (suc h) name)
      (refusals_same (suc h) kinds.Word (omega arith))
      ∙ ap (λ (r : Result (Option ℕ) ElfError).
      answered (sysv_refusal b (suc h)) (tt {0}) >>= λ _. r)
      (sysv_same (suc h) name (omega arith))

  pub find_gnu_same : (h : ℕ) (name : List ℕ)
      → find_gnu_answer a h name ≡ find_gnu_answer b h name
  unfolding find_gnu_answer gnu_refusal
  find_gnu_same zero name =
      zeroth_lookup kinds.Bytes (linked_refusal a 0) (linked_refusal b 0) (gnu_found a 0 name)
      (gnu_found b 0 name) refl
  find_gnu_same (suc h) name =
      ap (λ (r : Option ElfError). answered r (tt {0}) >>= λ _. gnu_found a (suc h) name)
      (refusals_same (suc h) kinds.Bytes (omega arith))
      ∙ ap (λ (r : Result (Option ℕ) ElfError).
      answered (gnu_refusal b (suc h)) (tt {0}) >>= λ _. r)
      (gnu_same (suc h) name (omega arith))
