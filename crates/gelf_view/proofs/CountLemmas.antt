-- How many items a piece holds, and how a lend of them is refused, without a look at its bytes.
use Rattle.std.proofs.Common.{◌≡◌, ◌≢◌, ℕ, ◌<◌, ◌/◌, ◌%◌, Bool, true, false, [], ◌∷◌, length, Option, Some, None, Result, Ok, Err, refl, sym, ap, ◌∙◌}
use Rattle.std.specs.Prelude.{not, if◌then◌else◌}
use Rattle.elf_types.specs.declared.records.Kind.{Kind}
use Rattle.elf_types.specs.declared.errors.ElfError.{ElfError}
use Rattle.elf_types.specs.declared.errors.ElfError.TheVariants.{WrongKind, OutOfFile, Ragged}
use Rattle.elf_types.specs.Answers.{answered, refused_if, first_refusal, err_of, IsRefusal}
use Rattle.elf_descriptor.specs.elf_xlate.declared.content.Items.{Items}
use Rattle.elf_descriptor.specs.elf_xlate.Items.{item_size}
use Rattle.elf_descriptor.specs.elf_xlate.Translation.{decoded, items_kind, items_count, is_whole}
use Rattle.elf_descriptor.proofs.elf_xlate.Decoded as forms
use Rattle.elf_descriptor.specs.elf_object.Words.{result_map}
use Rattle.elf_descriptor.specs.elf_object.Object.{Object, section_at, piece_at}
use Rattle.elf_descriptor.specs.elf_object.Answers.{content, or_empty, items_at, count_at, kind_at, same_kind, no_section, no_data, wrong_kind, no_content, piece_refusal, lend_refusal}
use Rattle.elf_descriptor.specs.elf_object.Calls.{piece_kind_answer}
use Rattle.elf_descriptor.specs.elf_object.Valid.{IsObject}
use Rattle.elf_descriptor.proofs.elf_object.StepLaws.{same_kind-true, same_kind-same}
use Rattle.elf_descriptor.proofs.elf_object.AnswerLaws.{answered_value, answered_refusal}
use Rattle.elf_descriptor.proofs.law_object.KeepLaws.{section_at_is}
use Rattle.elf_descriptor.proofs.section_data.Items.{kind_whole, whole_kind}
use Rattle.gelf_view.proofs.FetchLemmas.{piece_is_refusal}

-- ---- A home

module _ (o : Object) (s : ℕ) where
  abbrev content_by : Bool → Option Items → Result Items ElfError
  content_by out made =
      if out then Err (OutOfFile s) else (elim made [ None ↦ Err (Ragged s) | Some items ↦ Ok items ])

  pub home_outside : (section_at o s).home.out ≡ true → Err (OutOfFile s) ≡ result_map items_count (content o s)
  unfolding content
  home_outside out =
      let c = section_at o s in
      ap (λ (t : Bool). result_map items_count (content_by t (decoded c.home.kind o.header.class o.header.order c.raw))) (sym out)

  module _ (kind : Kind) (len : ℕ) (ok : IsObject o) (of_kind : (section_at o s).home.kind ≡ kind)
      (inside : (section_at o s).home.out ≡ false) (is : len ≡ (section_at o s).home.len) (some : 0 < item_size kind o.header.class) where
    long : length (section_at o s).raw ≡ len
    long = (section_at_is o s ok).home.inside inside ∙ sym is

    in_file : (made : Option Items) → decoded kind o.header.class o.header.order (section_at o s).raw ≡ made → content o s ≡ content_by false made
    unfolding content
    in_file made known =
        let c = section_at o s in
        ap (λ (t : Bool). content_by t (decoded c.home.kind o.header.class o.header.order c.raw)) inside
        ∙ ap (λ (k : Kind). content_by false (decoded k o.header.class o.header.order c.raw)) of_kind
        ∙ ap (content_by false) known

    not_whole : (whole : Bool) → is_whole kind o.header.class len ≡ whole → len % item_size kind o.header.class ≢ 0 → whole ≡ false
    not_whole true known odd = absurd (odd (kind_whole kind o.header.class len some known))
    not_whole false known odd = refl

    pub home_is_ragged : len % item_size kind o.header.class ≢ 0 → Err (Ragged s) ≡ result_map items_count (content o s)
    home_is_ragged odd =
        let ragged = ap (λ (n : ℕ). is_whole kind o.header.class n) long ∙ not_whole (is_whole kind o.header.class len) refl odd in
        ap (result_map items_count) (sym (in_file None (forms.ragged_is kind o.header.class o.header.order (section_at o s).raw ragged)))

    whole_count : (made : Option Items) → decoded kind o.header.class o.header.order (section_at o s).raw ≡ made → is_whole kind o.header.class (length (section_at o s).raw) ≡ true
        → Ok (len / item_size kind o.header.class) ≡ result_map items_count (content_by false made)
    whole_count None known whole = let here = forms.whole_is kind o.header.class o.header.order (section_at o s).raw in cc
    whole_count (Some items) known whole =
        ap Ok (sym (forms.items_count kind o.header.class o.header.order (section_at o s).raw items known ∙ ap (λ (n : ℕ). n / item_size kind o.header.class) long))

    pub home_is_whole : len % item_size kind o.header.class ≡ 0 → Ok (len / item_size kind o.header.class) ≡ result_map items_count (content o s)
    home_is_whole even =
        let made = decoded kind o.header.class o.header.order (section_at o s).raw in
        whole_count made refl (ap (λ (n : ℕ). is_whole kind o.header.class n) long ∙ whole_kind kind o.header.class len even)
        ∙ ap (result_map items_count) (sym (in_file made refl))

-- ---- A piece

counted_by : (r : Result Items ElfError) → result_map items_count r ≡ answered (err_of r) (items_count (or_empty r))
counted_by (Ok items) = refl
counted_by (Err e) = refl

module _ (o : Object) (s p : ℕ) where
  abbrev answer_by : Option Items → Result ℕ ElfError
  answer_by own =
      answered (elim own [ None ↦ err_of (content o s) | Some items ↦ None ])
      (items_count (elim own [ None ↦ or_empty (content o s) | Some items ↦ items ]))

  pub own_counted : (items : Items) → (piece_at o s p).own ≡ Some items → Ok (items_count items) ≡ answered (no_content o s p) (count_at o s p)
  unfolding no_content count_at items_at
  own_counted items own = sym (ap answer_by own)

  pub clean_counted : (piece_at o s p).own ≡ None → result_map items_count (content o s) ≡ answered (no_content o s p) (count_at o s p)
  unfolding no_content count_at items_at
  clean_counted clean = counted_by (content o s) ∙ sym (ap answer_by clean)

  pub clean_of_kind : (piece_at o s p).own ≡ None → (section_at o s).home.kind ≡ kind_at o s p
  unfolding kind_at
  clean_of_kind clean = sym (ap (λ (own : Option Items). elim own [ None ↦ (section_at o s).home.kind | Some items ↦ items_kind items ]) clean)

  pub section_there : piece_refusal o s p ≡ None → no_section o s ≡ None
  unfolding piece_refusal
  section_there passed = first_passed (no_section o s) (no_data o s p) passed
    where
      first_passed : (a b : Option ElfError) → first_refusal (a ∷ b ∷ []) ≡ None → a ≡ None
      first_passed None b h = refl
      first_passed (Some e) b h = cc

-- ---- The tests before

four_as : {E : Type 0} (a b c d : Option E) → first_refusal (a ∷ b ∷ c ∷ d ∷ []) ≡ first_refusal (first_refusal (a ∷ b ∷ []) ∷ c ∷ d ∷ [])
four_as (Some e) b c d = refl
four_as None (Some e) c d = refl
four_as None None c d = refl

alone : {E : Type 0} (r : Option E) → first_refusal (r ∷ []) ≡ r
alone None = refl
alone (Some e) = refl

other_kind : (a b : Kind) → a ≢ b → same_kind a b ≡ false
other_kind a b other = by_test (same_kind a b) refl
  where
    by_test : (t : Bool) → same_kind a b ≡ t → t ≡ false
    by_test true is = absurd (other (same_kind-true a b is))
    by_test false is = refl

module _ (o : Object) (kind : Kind) (s p n : ℕ) where
  lend_by : lend_refusal o kind s p ≡ first_refusal (piece_refusal o s p ∷ wrong_kind o kind s p ∷ no_content o s p ∷ [])
  unfolding lend_refusal piece_refusal
  lend_by = four_as (no_section o s) (no_data o s p) (wrong_kind o kind s p) (no_content o s p)

  -- the piece is not there
  pub count_missing : (e : ElfError) → Err e ≡ piece_kind_answer o s p → (Err e ≡ answered (lend_refusal o kind s p) n) × IsRefusal e
  unfolding piece_kind_answer
  count_missing e came =
      let refused = answered_refusal (piece_refusal o s p) (kind_at o s p) e (sym came) in (
        sym (ap (λ (r : Option ElfError). answered r n) (lend_by ∙ ap (λ (r : Option ElfError). first_refusal (r ∷ wrong_kind o kind s p ∷ no_content o s p ∷ [])) refused)),
        piece_is_refusal o s p e refused,
      )

  -- it holds another kind
  pub count_other : (held : Kind) → Ok held ≡ piece_kind_answer o s p → held ≢ kind → Err (WrongKind held) ≡ answered (lend_refusal o kind s p) n
  unfolding piece_kind_answer
  count_other held came other =
      let value = answered_value (piece_refusal o s p) (kind_at o s p) held (sym came) in
      sym (ap (λ (r : Option ElfError). answered r n) (lend_by ∙ ap (λ (r : Option ElfError). first_refusal (r ∷ wrong_kind o kind s p ∷ no_content o s p ∷ [])) value.0)
      ∙ ap (λ (k : Kind). answered (first_refusal (refused_if (not (same_kind k kind)) (WrongKind k) ∷ no_content o s p ∷ [])) n) (sym value.1)
      ∙ ap (λ (t : Bool). answered (first_refusal (refused_if (not t) (WrongKind held) ∷ no_content o s p ∷ [])) n) (other_kind held kind other))

  -- it holds that kind
  pub count_same : (held : Kind) → Ok held ≡ piece_kind_answer o s p → held ≡ kind
      → (piece_refusal o s p ≡ None) × (kind_at o s p ≡ kind) × (answered (no_content o s p) n ≡ answered (lend_refusal o kind s p) n)
  unfolding piece_kind_answer
  count_same held came same =
      let value = answered_value (piece_refusal o s p) (kind_at o s p) held (sym came) in
      let here : kind_at o s p ≡ kind = sym value.1 ∙ same in (
        value.0,
        here,
        sym (ap (λ (r : Option ElfError). answered r n) (lend_by ∙ ap (λ (r : Option ElfError). first_refusal (r ∷ wrong_kind o kind s p ∷ no_content o s p ∷ [])) value.0)
            ∙ ap (λ (t : Bool). answered (first_refusal (refused_if (not t) (WrongKind (kind_at o s p)) ∷ no_content o s p ∷ [])) n) (same_kind-same (kind_at o s p) kind here)
            ∙ ap (λ (r : Option ElfError). answered r n) (alone (no_content o s p))),
      )
