-- A name that does not stand in the bytes at hand is not the string there.
use Rattle.std.proofs.Common.{◌≡◌, ◌≢◌, ℕ, suc, ◌+◌, ◌-◌, ◌*◌, ◌/◌, ◌%◌, ◌<◌, ◌≤◌, Bool, true, false, not, ◌&&◌, List, [], ◌∷◌, ◌++◌, length, take, drop, get_or, map, Option, Some, None, Result, Ok, Err, refl, sym, ap, ◌∙◌, subst, cond, below_more, arith}
use Rattle.std.specs.Prelude.{IsTrue, ◌||◌, take_while, nat_eq, nat_le, nat_lt, slice_get, filter, ◌==◌, if◌then◌else◌}
use Rattle.std.specs.List.{prefix_len, starts_with}
use Rattle.std.specs.Str.{bytes_eq}
use Rattle.std.proofs.lemmas.Bool.{and_from, le-leb, lt-ltb, eqb-true, leb-false}
use Rattle.std.proofs.lemmas.Slice.Eq.{bytes_eq-Decides, starts_is}
use Rattle.std.proofs.lemmas.Bool.Decides.{Decides-eqb}
use Rattle.std.proofs.lemmas.List.{length-append, length-drop, take_all}
use Rattle.std.proofs.Math.Seq.{get_or-append_seam}
use Rattle.elf_types.specs.declared.records.Class.{Class}
use Rattle.elf_types.specs.declared.records.Order.{Order}
use Rattle.elf_types.specs.declared.errors.ElfError.{ElfError}
use Rattle.elf_types.specs.declared.errors.ElfError.TheVariants.{Unended, OutOfFile, Ragged}
use Rattle.elf_types.specs.Answers.{refused_if, first_refusal, answered, err_of}
use Rattle.hash_model.specs.elf_xlate.declared.content.Items.{Items}
use Rattle.hash_model.specs.elf_xlate.Translation.{encoded}
use Rattle.hash_model.specs.elf_layout.Layout.{rounded_up}
use Rattle.hash_model.specs.strtab_build.Table.{string_at}
use Rattle.hash_model.proofs.elf_object.RunningEnds.{first_place}
use Rattle.hash_model.specs.elf_object.Blocks.{Block, block_end, block_covers, stacked}
use Rattle.hash_model.specs.elf_object.Object.{Object, Piece, section_at, piece_at, home_piece}
use Rattle.hash_model.specs.elf_object.Answers.{no_section, no_data, piece_count, piece_refusal}
use Rattle.hash_model.specs.elf_object.Joined.{piece_bytes, aligned_pieces, piece_blocks}
use Rattle.hash_model.specs.elf_object.Strings.{piece_over, has_nul, bytes_from, string_refusal_unread, string_refusal, string_answer, readable, is_name}
use Rattle.hash_model.proofs.elf_object.PassedLaws.{none_first, none_rest, not_refused}
use Rattle.elf_types.specs.declared.records.Kind.{Kind}
use Rattle.elf_types.specs.declared.records.Kind.TheVariants as kinds
use Rattle.elf_types.specs.declared.records.Sym.{Sym}
use Rattle.hash_model.specs.elf_xlate.declared.content.Items.TheVariants as items
use Rattle.hash_model.specs.elf_xlate.Items.{item_size, sym_of}
use Rattle.hash_model.specs.elf_xlate.Translation.{decoded, items_kind}
use Rattle.hash_model.proofs.elf_xlate.ListedItems.{sym_decoded}
use Rattle.gelf_view.specs.section_data.Held.{or_empty, items_of_bytes}
use Rattle.gelf_view.proofs.section_data.Items.{entry_there, whole_kind}
use Rattle.hash_model.specs.elf_object.Answers as answers
use Rattle.hash_model.specs.elf_object.Answers.{content, items_at, kind_at, no_content, lend_refusal, syms_of}
use Rattle.hash_model.specs.elf_object.Strings.{symbol_name}
use Rattle.hash_model.proofs.elf_object.AnswerLaws.{entry_value, lend_passed}
use Rattle.gelf_view.specs.elf_descriptor.State.{State}
use Rattle.hash_model.specs.Listed.{is_defined_global, listed_name, not_empty}
use Rattle.symbol_lookup.specs.Lookups.{is_match, link_of}
use Rattle.symbol_lookup.specs.Searches.{LacksName, LacksSymbol, LacksWhenListed, StandsAtHand}
use Rattle.symbol_lookup.proofs.CallLaws.{symbol_is}

-- ---- A string and its NUL

abbrev pub is_inner : ℕ → Bool
is_inner b = not (b == 0)

-- a string whose first byte is b, or that ends before it
abbrev front_of : ℕ → List ℕ → Bool → List ℕ
front_of b l ended = take (cond (not ended) (1 + prefix_len is_inner l) 0) (b ∷ l)

-- where a NUL follows, it stands behind the string
pub nul_behind : (l : List ℕ) → IsTrue (has_nul l) → (rest : List ℕ) × (l ≡ take_while is_inner l ++ (0 ∷ rest))
nul_behind [] ended = cc
nul_behind (b ∷ l) ended = by_zero (b == 0) refl (nul_behind l)
  where
    by_zero : (z : Bool) → (b == 0) ≡ z → (IsTrue (has_nul l) → (rest : List ℕ) × (l ≡ take_while is_inner l ++ (0 ∷ rest)))
        → (rest : List ℕ) × (b ∷ l ≡ take_while is_inner (b ∷ l) ++ (0 ∷ rest))
    by_zero true is later = (l, ap (λ (x : ℕ). x ∷ l) (eqb-true b 0 is) ∙ ap (λ (z : Bool). front_of b l z ++ (0 ∷ l)) (sym is))
    by_zero false is later =
        let behind = later (subst (λ (z : Bool). IsTrue (z || has_nul l)) is ended) in
        let one_more : suc (prefix_len is_inner l) ≡ 1 + prefix_len is_inner l = omega arith in
        (behind.0, ap (λ (x : List ℕ). b ∷ x) behind.1 ∙ ap (λ (n : ℕ). take n (b ∷ l) ++ (0 ∷ behind.0)) one_more ∙ ap (λ (z : Bool). front_of b l z ++ (0 ∷ behind.0)) (sym is))

-- a string with its NUL stands at a place only where there is room, the NUL, and the string
module _ (bytes : List ℕ) (offset : ℕ) (name l : List ℕ) (from : l ≡ drop offset bytes) (within : offset < length bytes) where
  pub no_room : length l ≤ length name → LacksName bytes offset name
  no_room short = record {
    within = within;
    other = λ rest same. absurd (omega (arith, short, ap length (from ∙ same), length-append name (0 ∷ rest)));
  }

  pub other_end : get_or l (length name) 0 ≢ 0 → LacksName bytes offset name
  other_end other = record {
    within = within;
    other = λ rest same. other (ap (λ (l : List ℕ). get_or l (length name) 0) (from ∙ same) ∙ get_or-append_seam name 0 rest 0);
  }

  pub other_front : (found : Bool) → found ≡ starts_with nat_eq l name → not found ≡ true → LacksName bytes offset name
  other_front true is none = cc
  other_front false is none = record {
    within = within;
    other = λ rest same. let starts = (starts_is Decides-eqb l name false is).1 (0 ∷ rest) (from ∙ same) in cc;
  }

-- bytes from a place on
pub rest_is : (bytes : List ℕ) (offset : ℕ) → take (length bytes - offset) (drop offset bytes) ≡ drop offset bytes
rest_is bytes offset = take_all (length bytes - offset) (drop offset bytes) (omega (arith, length-drop offset bytes))

-- ---- The first piece of a section

module _ (raw : List ℕ) (offset : ℕ) (below : offset < length raw) where
  abbrev covers : ℕ → List ℕ → Bool
  covers at bytes = nat_le at offset && nat_lt offset (at + length bytes)

  abbrev block_of : ℕ → List ℕ → Block
  block_of at bytes = record { at = at; bytes = bytes }

  over_block : (at : ℕ) (bytes : List ℕ) (rest : List Block) → at ≡ 0 → bytes ≡ raw → slice_get (cond (covers at bytes) (block_of at bytes ∷ rest) rest) 0 ≡ Some (block_of 0 raw)
  over_block at bytes rest zero_is raw_is =
      let there : covers 0 raw ≡ true = and_from (nat_le 0 offset) (nat_lt offset (0 + length raw)) (le-leb 0 offset (omega arith)) (lt-ltb offset (0 + length raw) (omega arith)) in
      ap (λ (n : ℕ). slice_get (cond (covers n bytes) (block_of n bytes ∷ rest) rest) 0) zero_is
      ∙ ap (λ (l : List ℕ). slice_get (cond (covers 0 l) (block_of 0 l ∷ rest) rest) 0) raw_is
      ∙ ap (λ (b : Bool). slice_get (cond b (block_of 0 raw ∷ rest) rest) 0) there

  first_over : (class : Class) (order : Order) (pieces : List Piece) → 0 < length pieces → (get_or pieces 0 home_piece).own ≡ None
      → slice_get (filter (λ b. block_covers b offset) (stacked 0 (map (λ p. (p.align, piece_bytes class order raw p)) pieces))) 0 ≡ Some (block_of 0 raw)
  unfolding stacked block_covers block_end piece_bytes
  first_over class order [] there clean = absurd (omega arith)
  first_over class order (p ∷ ps) there clean = over_block (rounded_up 0 p.align) (piece_bytes class order raw p) _ (first_place p.align)
      (ap (λ (own : Option Items). elim own [ None ↦ raw | Some items ↦ encoded class order items ]) clean)

-- ---- The string of a section

pub piece_there : (o : Object) (s : ℕ) → piece_refusal o s 0 ≡ None → 0 < piece_count o s
unfolding piece_refusal
piece_there o s passed = leb-false (piece_count o s) 0 (not_refused _ _ (none_first (no_data o s 0) [] (none_rest (no_section o s) (no_data o s 0 ∷ []) passed)))

module _ (raw : List ℕ) (offset : ℕ) (name : List ℕ) (lacks : LacksName raw offset name) where
  abbrev unended_at : Option Block → Option ElfError
  unended_at over = elim over [ None ↦ None | Some b ↦ refused_if (not (has_nul (bytes_from b offset))) (Unended offset) ]

  abbrev string_over : Option Block → List ℕ
  string_over over = elim over [ None ↦ [] | Some b ↦ take_while is_inner (drop (offset - b.at) b.bytes) ]

  other_string : (l : List ℕ) → l ≡ drop offset raw → IsTrue (has_nul l) → bytes_eq (take_while is_inner l) name ≡ false
  other_string l is ended = by_test (bytes_eq (take_while is_inner l) name) refl
    where
      by_test : (t : Bool) → bytes_eq (take_while is_inner l) name ≡ t → t ≡ false
      by_test false known = refl
      by_test true known =
          let behind = nul_behind l ended in
          let same = (bytes_eq-Decides (take_while is_inner l) name).0 known in
          absurd (lacks.other behind.0 (sym is ∙ behind.1 ∙ ap (λ (x : List ℕ). x ++ (0 ∷ behind.0)) same))

  by_ended : (l : List ℕ) (t : Bool) → has_nul l ≡ t → l ≡ drop offset raw → is_name name (readable (answered (first_refusal (None ∷ refused_if (not t) (Unended offset) ∷ [])) (take_while is_inner l))) ≡ false
  by_ended l true known is = other_string l is known
  by_ended l false known is = refl

  by_unread : (unread : Option ElfError) → is_name name (readable (answered (first_refusal (unread ∷ unended_at (Some (record { at = 0; bytes = raw })) ∷ [])) (string_over (Some (record { at = 0; bytes = raw }))))) ≡ false
  by_unread (Some e) = refl
  by_unread None =
      let l = drop (offset - 0) raw in
      let whole : offset - 0 ≡ offset = omega arith in
      by_ended l (has_nul l) refl (ap (λ (n : ℕ). drop n raw) whole)

module _ (o : Object) (s offset : ℕ) (name : List ℕ) (there : 0 < piece_count o s) (clean : (piece_at o s 0).own ≡ None) (lacks : LacksName (section_at o s).raw offset name) where
  over_is : piece_over o s offset ≡ Some (record { at = 0; bytes = (section_at o s).raw })
  unfolding piece_over piece_blocks aligned_pieces piece_at piece_count
  over_is = first_over (section_at o s).raw offset lacks.within o.header.class o.header.order (section_at o s).pieces there clean

  pub no_string : is_name name (readable (string_answer o s offset)) ≡ false
  unfolding string_answer string_refusal string_at
  no_string =
      ap (λ (over : Option Block). is_name name (readable (answered (first_refusal (string_refusal_unread o s offset ∷ unended_at (section_at o s).raw offset name lacks over ∷ [])) (string_over (section_at o s).raw offset name lacks over)))) over_is
      ∙ by_unread (section_at o s).raw offset name lacks (string_refusal_unread o s offset)

-- ---- A symbol in bytes

pub not_global : (strings name : List ℕ) (x y : Sym) (found : Bool) → x ≡ y → found ≡ is_defined_global x → found ≡ false → LacksWhenListed strings name y
not_global strings name x y found same is none =
    subst (λ (z : Sym). LacksWhenListed strings name z) same (λ listed. let never : false ≡ true = sym none ∙ is ∙ listed in cc)

pub lacks_when : (strings name : List ℕ) (x y : Sym) → x ≡ y → LacksName strings x.name name → LacksWhenListed strings name y
lacks_when strings name x y same lacks = subst (λ (z : Sym). LacksWhenListed strings name z) same (λ listed. lacks)

pub lacks_item : (class : Class) (order : Order) (symbols strings name : List ℕ) (i size : ℕ) (bytes : List ℕ) → size ≡ item_size kinds.Sym class → bytes ≡ take size (drop (i * size) symbols)
    → i < length symbols / size → length symbols % size ≡ 0 → LacksWhenListed strings name (sym_of class order bytes) → LacksSymbol class order symbols strings name i
lacks_item class order symbols strings name i size bytes size_is there inside whole lacks = record {
  whole = subst (λ (n : ℕ). length symbols % n ≡ 0) size_is whole;
  inside = subst (λ (n : ℕ). i < length symbols / n) size_is inside;
  lacks = subst (λ (l : List ℕ). LacksWhenListed strings name (sym_of class order l)) (there ∙ ap (λ (n : ℕ). take n (drop (i * n) symbols)) size_is) lacks;
}

-- one symbol more
pub one_more : (P : ℕ → Type 0) (from i : ℕ) → ((j : ℕ) → from ≤ j → j < i → P j) → P i → (j : ℕ) → from ≤ j → j < i + 1 → P j
one_more P from i before here j above below = below_more (λ (k : ℕ). from ≤ k → P k) i (λ k under over. before k over under) (λ _. here) j below above

-- ---- The symbols of a clean home piece

abbrev content_by : ℕ → Bool → Option Items → Result Items ElfError
content_by s out made = if out then Err (OutOfFile s) else (elim made [ None ↦ Err (Ragged s) | Some items ↦ Ok items ])

by_content : (s : ℕ) (out : Bool) (made : Option Items) → err_of (content_by s out made) ≡ None → answers.or_empty (content_by s out made) ≡ or_empty made
by_content s true made passed = cc
by_content s false None passed = cc
by_content s false (Some items) passed = refl

module _ (o : Object) (s : ℕ) (passed : lend_refusal o kinds.Sym s 0 ≡ None) (clean : (piece_at o s 0).own ≡ None) where
  abbrev raw_of : List ℕ
  raw_of = (section_at o s).raw

  home_kind : (section_at o s).home.kind ≡ kinds.Sym
  unfolding kind_at
  home_kind =
      sym (ap (λ (own : Option Items). elim own [ None ↦ (section_at o s).home.kind | Some items ↦ items_kind items ]) clean)
      ∙ (lend_passed o kinds.Sym s 0 passed).2

  clean_items : items_at o s 0 ≡ items_of_bytes kinds.Sym o.header.class o.header.order raw_of
  unfolding items_at no_content content
  clean_items =
      let made = decoded (section_at o s).home.kind o.header.class o.header.order raw_of in
      let there : err_of (content_by s (section_at o s).home.out made) ≡ None =
      sym (ap (λ (own : Option Items). elim own [ None ↦ err_of (content o s) | Some items ↦ None ]) clean) ∙ (lend_passed o kinds.Sym s 0 passed).3 in
      ap (λ (own : Option Items). elim own [ None ↦ answers.or_empty (content o s) | Some items ↦ items ]) clean
      ∙ by_content s (section_at o s).home.out made there
      ∙ ap (λ (k : Kind). items_of_bytes k o.header.class o.header.order raw_of) home_kind

  symbol_at : (i : ℕ) → length raw_of % item_size kinds.Sym o.header.class ≡ 0 → i < length raw_of / item_size kinds.Sym o.header.class
      → slice_get (syms_of (items_at o s 0)) i ≡ Some (sym_of o.header.class o.header.order (take (item_size kinds.Sym o.header.class) (drop (i * item_size kinds.Sym o.header.class) raw_of)))
  symbol_at i whole inside =
      let class = o.header.class in
      let order = o.header.order in
      let there = entry_there items.Sym syms_of (λ l. refl) (sym_of class order) (item_size kinds.Sym class) i raw_of kinds.Sym class order (sym_decoded class order raw_of)
      (whole_kind kinds.Sym class (length raw_of) whole) inside in
      ap (λ (l : Items). slice_get (syms_of l) i) clean_items
      ∙ (entry_value None (syms_of (items_of_bytes kinds.Sym class order raw_of)) i (sym_of class order (take (item_size kinds.Sym class) (drop (i * item_size kinds.Sym class) raw_of))) there).1

-- a symbol whose name is surely another one is not listed by the name
right_of : (a b : Bool) → (a && b) ≡ true → b ≡ true
right_of true b both = both
right_of false b both = cc

still_other : (name : List ℕ) (r : Option (List ℕ)) → is_name name r ≡ false → is_name name (not_empty r) ≡ false
still_other name None other = refl
still_other name (Some []) other = refl
still_other name (Some (b ∷ bs)) other = other

module _ (o : Object) (s i : ℕ) (name : List ℕ) (x : Sym) (there : 0 < piece_count o (link_of o s)) (clean : (piece_at o (link_of o s) 0).own ≡ None)
    (lacks : LacksWhenListed (section_at o (link_of o s)).raw name x) where
  abbrev listed_by : Bool → Option (List ℕ)
  listed_by b = if b then not_empty (readable (string_answer o (link_of o s) x.name)) else None

  by_listed : (b : Bool) → (not (i == 0) && is_defined_global x) ≡ b → is_name name (listed_by (not (i == 0) && is_defined_global x)) ≡ false
  by_listed false known = ap (λ (b : Bool). is_name name (listed_by b)) known
  by_listed true known =
      let other = no_string o (link_of o s) x.name name there clean (lacks (right_of (not (i == 0)) (is_defined_global x) known)) in
      ap (λ (b : Bool). is_name name (listed_by b)) known ∙ still_other name (readable (string_answer o (link_of o s) x.name)) other

  not_named : is_name name (listed_name o s i x) ≡ false
  unfolding listed_name symbol_name
  not_named = by_listed (not (i == 0) && is_defined_global x) refl

module _ {S : Type 0} (state : State S) (s strings : ℕ) (class : Class) (order : Order) (symbols bytes name : List ℕ) (passed : lend_refusal state.o kinds.Sym s 0 ≡ None) (link : strings ≡ link_of state.o s)
    (class_is : class ≡ state.o.header.class) (order_is : order ≡ state.o.header.order) (table : StandsAtHand state s symbols) (names : StandsAtHand state strings bytes) where
  pub not_listed : IsTrue state.told → (i : ℕ) → LacksSymbol class order symbols bytes name i → is_match state.o s name i ≡ false
  not_listed told i lacks =
      let o = state.o in
      let by_class = subst (λ (c : Class). LacksSymbol c order symbols bytes name i) class_is lacks in
      let by_order = subst (λ (d : Order). LacksSymbol o.header.class d symbols bytes name i) order_is by_class in
      let by_symbols = subst (λ (l : List ℕ). LacksSymbol o.header.class o.header.order l bytes name i) (table.exact told) by_order in
      let by_bytes : LacksSymbol o.header.class o.header.order (section_at o s).raw (section_at o strings).raw name i =
      subst (λ (l : List ℕ). LacksSymbol o.header.class o.header.order (section_at o s).raw l name i) (names.exact told) by_symbols in
      let by_link : LacksSymbol o.header.class o.header.order (section_at o s).raw (section_at o (link_of o s)).raw name i =
      subst (λ (t : ℕ). LacksSymbol o.header.class o.header.order (section_at o s).raw (section_at o t).raw name i) link by_bytes in
      let there : 0 < piece_count o (link_of o s) = subst (λ (t : ℕ). 0 < piece_count o t) link names.there in
      let clean : (piece_at o (link_of o s) 0).own ≡ None = subst (λ (t : ℕ). (piece_at o t 0).own ≡ None) link names.clean in
      symbol_is o s i _ name (symbol_at o s passed table.clean i by_link.whole by_link.inside) ∙ not_named o s i name _ there clean by_link.lacks
