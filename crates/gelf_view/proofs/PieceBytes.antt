-- Pieces of bytes: how a lend of them is refused, and what they are.
use Rattle.std.proofs.Common.{◌≡◌, ℕ, Bool, true, false, List, [], ◌∷◌, length, Option, Some, None, Result, Ok, Err, refl, sym, ap, ◌∙◌, subst}
use Rattle.std.specs.Prelude.{◌%◌, if◌then◌else◌}
use Rattle.std.proofs.lemmas.List.{length-map}
use Rattle.elf_types.specs.declared.records.Class.{Class}
use Rattle.elf_types.specs.declared.records.Order.{Order}
use Rattle.elf_types.specs.declared.records.Kind.{Kind}
use Rattle.elf_types.specs.declared.records.Kind.TheVariants as kinds
use Rattle.elf_types.specs.declared.errors.ElfError.{ElfError}
use Rattle.elf_types.specs.declared.errors.ElfError.TheVariants.{OutOfFile, Ragged}
use Rattle.elf_types.specs.Answers.{refused_if, first_refusal, err_of}
use Rattle.elf_descriptor.specs.elf_xlate.declared.content.Items.{Items}
use Rattle.elf_descriptor.specs.elf_xlate.declared.content.Items.TheVariants as items
use Rattle.elf_descriptor.specs.elf_xlate.Translation.{decoded, encoded, items_kind, items_count}
use Rattle.elf_descriptor.proofs.elf_xlate.Bytes.{lowest_same}
use Rattle.elf_descriptor.specs.elf_object.Object.{Object, section_at, piece_at}
use Rattle.elf_descriptor.specs.elf_object.Answers.{content, or_empty, items_at, kind_at, count_at, bytes_of, no_section, no_data, wrong_kind, no_content, out_of_file, piece_refusal, lend_refusal}
use Rattle.elf_types.specs.Lists.{AreBytes}
use Rattle.elf_descriptor.specs.elf_object.Joined.{piece_bytes}
use Rattle.elf_descriptor.proofs.elf_object.AnswerLaws.{lend_kind, lend_passed}
use Rattle.gelf_view.specs.Calls.{kind_refusal}
use Rattle.gelf_view.specs.Strings.{bytes_in}

-- three tests and then one
three_then : {E : Type 0} (a b c d : Option E) → first_refusal (a ∷ b ∷ c ∷ d ∷ []) ≡ first_refusal (first_refusal (a ∷ b ∷ c ∷ []) ∷ d ∷ [])
three_then (Some e) b c d = refl
three_then None (Some e) c d = refl
three_then None None (Some e) d = refl
three_then None None None d = refl

-- the content of a home of bytes
content_of : Class → Order → ℕ → Kind → Bool → List ℕ → Result Items ElfError
content_of class order s kind out raw =
    if out then Err (OutOfFile s)
    else (elim (decoded kind class order raw) [ None ↦ Err (Ragged s) | Some items ↦ Ok items ])

bytes_err : (class : Class) (order : Order) (s : ℕ) (out : Bool) (raw : List ℕ) → err_of (content_of class order s kinds.Bytes out raw) ≡ refused_if out (OutOfFile s)
unfolding content_of decoded
bytes_err class order s true raw = refl
bytes_err class order s false raw = refl

bytes_ok : (class : Class) (order : Order) (s : ℕ) (out : Bool) (raw : List ℕ) → refused_if out (OutOfFile s) ≡ None → or_empty (content_of class order s kinds.Bytes out raw) ≡ items.Bytes raw
unfolding content_of decoded
bytes_ok class order s true raw passed = cc
bytes_ok class order s false raw passed = refl

module _ (o : Object) (s p : ℕ) where
  pub lend_then : lend_refusal o kinds.Bytes s p ≡ first_refusal (kind_refusal o kinds.Bytes s p ∷ no_content o s p ∷ [])
  unfolding lend_refusal kind_refusal
  lend_then = three_then (no_section o s) (no_data o s p) (wrong_kind o kinds.Bytes s p) (no_content o s p)

  clean_kind : (piece_at o s p).own ≡ None → kind_at o s p ≡ (section_at o s).home.kind
  unfolding kind_at
  clean_kind clean = ap (λ (own : Option Items). elim own [ None ↦ (section_at o s).home.kind | Some items ↦ items_kind items ]) clean

  pub clean_content : (piece_at o s p).own ≡ None → kind_at o s p ≡ kinds.Bytes → no_content o s p ≡ out_of_file o s
  unfolding no_content content content_of
  clean_content clean kind =
      ap (λ (own : Option Items). elim own [ None ↦ err_of (content o s) | Some items ↦ None ]) clean
      ∙ ap (λ (k : Kind). err_of (content_of o.header.class o.header.order s k (section_at o s).home.out (section_at o s).raw)) (sym (clean_kind clean) ∙ kind)
      ∙ bytes_err o.header.class o.header.order s (section_at o s).home.out (section_at o s).raw

  pub own_content : (items : Items) → (piece_at o s p).own ≡ Some items → no_content o s p ≡ None
  unfolding no_content
  own_content items own = ap (λ (own : Option Items). elim own [ None ↦ err_of (content o s) | Some items ↦ None ]) own

  -- the bytes of a clean piece are those of its home
  pub clean_bytes : (piece_at o s p).own ≡ None → kind_at o s p ≡ kinds.Bytes → no_content o s p ≡ None → items_at o s p ≡ items.Bytes (section_at o s).raw
  unfolding items_at content content_of
  clean_bytes clean kind passed =
      ap (λ (own : Option Items). elim own [ None ↦ or_empty (content o s) | Some items ↦ items ]) clean
      ∙ ap (λ (k : Kind). or_empty (content_of o.header.class o.header.order s k (section_at o s).home.out (section_at o s).raw)) (sym (clean_kind clean) ∙ kind)
      ∙ bytes_ok o.header.class o.header.order s (section_at o s).home.out (section_at o s).raw (sym (clean_content clean kind) ∙ passed)

  pub own_bytes_are : (items : Items) → (piece_at o s p).own ≡ Some items → items_at o s p ≡ items
  unfolding items_at
  own_bytes_are items own = ap (λ (own : Option Items). elim own [ None ↦ or_empty (content o s) | Some items ↦ items ]) own

  pub own_kind : (items : Items) → (piece_at o s p).own ≡ Some items → kind_at o s p ≡ items_kind items
  unfolding kind_at
  own_kind items own = ap (λ (own : Option Items). elim own [ None ↦ (section_at o s).home.kind | Some items ↦ items_kind items ]) own

-- ---- As many as are counted

-- as many bytes as items are counted
count_of_bytes : (content : Items) → items_kind content ≡ kinds.Bytes → length (bytes_of content) ≡ items_count content
count_of_bytes items.Empty is = cc
count_of_bytes (items.Bytes l) is = refl
count_of_bytes (items.Half l) is = cc
count_of_bytes (items.Word l) is = cc
count_of_bytes (items.Addr l) is = cc
count_of_bytes (items.Sym l) is = cc
count_of_bytes (items.Rel l) is = cc
count_of_bytes (items.Rela l) is = cc
count_of_bytes (items.Dyn l) is = cc

pub bytes_count : (o : Object) (s p : ℕ) → lend_refusal o kinds.Bytes s p ≡ None → length (bytes_of (items_at o s p)) ≡ count_at o s p
unfolding count_at
bytes_count o s p passed = count_of_bytes (items_at o s p) (lend_kind o kinds.Bytes s p passed)

-- ---- What is held of a piece that may be lent

module _ (o : Object) (s p : ℕ) (passed : lend_refusal o kinds.Bytes s p ≡ None) where
  -- it is there
  pub piece_there : piece_refusal o s p ≡ None
  unfolding piece_refusal
  piece_there =
      let past = lend_passed o kinds.Bytes s p passed in
      ap (λ (r : Option ElfError). first_refusal (r ∷ no_data o s p ∷ [])) past.0 ∙ ap (λ (r : Option ElfError). first_refusal (r ∷ [])) past.1

  -- own items
  pub own_of_bytes : (items : Items) → (piece_at o s p).own ≡ Some items → items_kind items ≡ kinds.Bytes
  own_of_bytes items own = sym (own_kind o s p items own) ∙ (lend_passed o kinds.Bytes s p passed).2

  pub own_exact : (items : Items) → (piece_at o s p).own ≡ Some items → bytes_of items ≡ bytes_of (items_at o s p)
  own_exact items own = ap bytes_of (sym (own_bytes_are o s p items own))

  -- a home's bytes
  pub raw_exact : (piece_at o s p).own ≡ None → (section_at o s).raw ≡ bytes_of (items_at o s p)
  raw_exact clean =
      let past = lend_passed o kinds.Bytes s p passed in
      ap bytes_of (sym (clean_bytes o s p clean past.2 past.3))

-- ---- The file form

encoded_count : (class : Class) (order : Order) (content : Items) → items_kind content ≡ kinds.Bytes → length (encoded class order content) ≡ items_count content
unfolding encoded
encoded_count class order items.Empty is = cc
encoded_count class order (items.Bytes l) is = length-map l (λ n. n % 256)
encoded_count class order (items.Half l) is = cc
encoded_count class order (items.Word l) is = cc
encoded_count class order (items.Addr l) is = cc
encoded_count class order (items.Sym l) is = cc
encoded_count class order (items.Rel l) is = cc
encoded_count class order (items.Rela l) is = cc
encoded_count class order (items.Dyn l) is = cc

encoded_same : (class : Class) (order : Order) (content : Items) → items_kind content ≡ kinds.Bytes → AreBytes (bytes_of content) → encoded class order content ≡ bytes_of content
unfolding encoded
encoded_same class order items.Empty is are = cc
encoded_same class order (items.Bytes l) is are = lowest_same l are
encoded_same class order (items.Half l) is are = cc
encoded_same class order (items.Word l) is are = cc
encoded_same class order (items.Addr l) is are = cc
encoded_same class order (items.Sym l) is are = cc
encoded_same class order (items.Rel l) is are = cc
encoded_same class order (items.Rela l) is are = cc
encoded_same class order (items.Dyn l) is are = cc

module _ (o : Object) (s p : ℕ) where
  abbrev form : Option Items → List ℕ
  form own = elim own [ None ↦ (section_at o s).raw | Some items ↦ encoded o.header.class o.header.order items ]

  pub clean_file : (piece_at o s p).own ≡ None → bytes_in o s p ≡ (section_at o s).raw
  unfolding bytes_in piece_bytes
  clean_file clean = ap form clean

  own_file : (items : Items) → (piece_at o s p).own ≡ Some items → bytes_in o s p ≡ encoded o.header.class o.header.order items
  unfolding bytes_in piece_bytes
  own_file items own = ap form own

  -- as many bytes as items
  pub own_file_count : (items : Items) → (piece_at o s p).own ≡ Some items → kind_at o s p ≡ kinds.Bytes → items_count items ≡ length (bytes_in o s p)
  own_file_count items own kind = sym (ap length (own_file items own) ∙ encoded_count o.header.class o.header.order items (sym (own_kind o s p items own) ∙ kind))

  -- of a piece that may be lent they are the bytes themselves
  file_is : lend_refusal o kinds.Bytes s p ≡ None → AreBytes (bytes_of (items_at o s p)) → bytes_in o s p ≡ bytes_of (items_at o s p)
  file_is passed are = by_own (piece_at o s p).own refl
    where
      by_own : (own : Option Items) → (piece_at o s p).own ≡ own → bytes_in o s p ≡ bytes_of (items_at o s p)
      by_own None clean = clean_file clean ∙ raw_exact o s p passed clean
      by_own (Some items) own =
          let exact = own_exact o s p passed items own in
          own_file items own
          ∙ encoded_same o.header.class o.header.order items (own_of_bytes o s p passed items own) (subst AreBytes (sym exact) are)
          ∙ exact

  -- and those that are told of it
  pub file_same : (l : List ℕ) → lend_refusal o kinds.Bytes s p ≡ None → l ≡ bytes_of (items_at o s p) → AreBytes l → l ≡ bytes_in o s p
  file_same l passed told are = told ∙ sym (file_is passed (subst AreBytes told are))

  pub file_count : lend_refusal o kinds.Bytes s p ≡ None → length (bytes_in o s p) ≡ count_at o s p
  file_count passed = by_own (piece_at o s p).own refl ∙ bytes_count o s p passed
    where
      by_own : (own : Option Items) → (piece_at o s p).own ≡ own → length (bytes_in o s p) ≡ length (bytes_of (items_at o s p))
      by_own None clean = ap length (clean_file clean ∙ raw_exact o s p passed clean)
      by_own (Some items) own =
          ap length (own_file items own)
          ∙ encoded_count o.header.class o.header.order items (own_of_bytes o s p passed items own)
          ∙ sym (count_of_bytes items (own_of_bytes o s p passed items own))
          ∙ ap length (own_exact o s p passed items own)
