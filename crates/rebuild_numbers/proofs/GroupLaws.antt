-- The members of a group, one after another.
use Rattle.std.proofs.Common.{◌≡◌, ◌+◌, ◌<◌, ◌≤◌, ℕ, zero, suc, Bool, true, false, List, [], ◌∷◌, ◌++◌, length, take, take_all, append-nil, refl, sym, ap, ◌∙◌, arith}
use Rattle.std.specs.Prelude.{slice_index_or, if◌then◌else◌}
use Rattle.std.specs.List.{flat_map}
use Rattle.std.proofs.lemmas.List.{take_more}
use Rattle.std.proofs.lemmas.Grind.{flat_map-append}
use Rattle.std.proofs.lemmas.Bool.{eq-eqb, ne_eqb}
use Rattle.rebuild_select.specs.rebuild_model.Followed.{Renumbering, followed_group, followed_member, is_section_number, renumbered}
use Rattle.rebuild_numbers.specs.Rows.{renumbered_members, added_word}

pub none_added : (l : List ℕ) → l ≡ l ++ []
none_added l = sym (append-nil l)

module _ (m : Renumbering) where
  pub member_follows : (n : ℕ) → is_section_number m n ≡ true
      → renumbered_members (renumbered m n) ≡ followed_member m n
  member_follows n is =
      sym (ap (λ (b : Bool). if b then renumbered_members (renumbered m n) else n ∷ []) is)

  pub member_stays : (n : ℕ) → is_section_number m n ≡ false → n ∷ [] ≡ followed_member m n
  member_stays n is =
      sym (ap (λ (b : Bool). if b then renumbered_members (renumbered m n) else n ∷ []) is)

  pub word_first : (i word : ℕ) → i ≡ 0 → word ∷ [] ≡ added_word m i word
  word_first i word is =
      sym (ap (λ (b : Bool). if b then word ∷ [] else followed_member m word) (eq-eqb i 0 is))

  pub word_later : (i word : ℕ) → (i ≡ 0 → ⊥) → followed_member m word ≡ added_word m i word
  word_later i word other =
      sym (ap (λ (b : Bool). if b then word ∷ [] else followed_member m word) (ne_eqb i 0 other))

  members_more : (l : List ℕ) (k d : ℕ) → k < length l
      → flat_map (followed_member m) (take (k + 1) l)
      ≡ flat_map (followed_member m) (take k l) ++ followed_member m (slice_index_or l k d)
  members_more l k d below =
      ap (flat_map (followed_member m)) (take_more l k d below)
      ∙ flat_map-append (followed_member m) (take k l) (slice_index_or l k d ∷ [])
      ∙ ap (λ (t : List ℕ). flat_map (followed_member m) (take k l) ++ t)
      (append-nil (followed_member m (slice_index_or l k d)))

  pub group_none : (words made : List ℕ) → made ≡ [] → made ≡ followed_group m (take 0 words)
  unfolding followed_group
  group_none words made is = is

  -- the flags
  group_flags : (words made : List ℕ) (d : ℕ) → 0 < length words → made ≡ []
      → made ++ slice_index_or words 0 d ∷ [] ≡ followed_group m (take 1 words)
  unfolding followed_group
  group_flags [] made d below is = absurd (omega arith)
  group_flags (w ∷ words) made d below is = ap (λ (t : List ℕ). t ++ w ∷ []) is

  -- a member
  group_member : (words made : List ℕ) (k d : ℕ) → suc k < length words
      → made ≡ followed_group m (take (suc k) words)
      → made ++ followed_member m (slice_index_or words (suc k) d)
      ≡ followed_group m (take (suc (k + 1)) words)
  unfolding followed_group
  group_member [] made k d below is = absurd (omega arith)
  group_member (w ∷ words) made k d below is =
      let below_later : k < length words = omega arith in
      ap (λ (t : List ℕ). t ++ followed_member m (slice_index_or words k d)) is
      ∙ ap (λ (t : List ℕ). w ∷ t) (sym (members_more words k d below_later))

  -- the word at an index
  group_at : (words made : List ℕ) (i d : ℕ) → i < length words
      → made ≡ followed_group m (take i words)
      → made ++ added_word m i (slice_index_or words i d) ≡ followed_group m (take (i + 1) words)
  group_at words made zero d below is =
      ap (λ (t : List ℕ). made ++ t) (sym (word_first 0 (slice_index_or words 0 d) refl))
      ∙ group_flags words made d below (is ∙ sym (group_none words [] refl))
  group_at words made (suc k) d below is =
      ap (λ (t : List ℕ). made ++ t)
      (sym (word_later (suc k) (slice_index_or words (suc k) d) (λ same. omega (arith, same))))
      ∙ group_member words made k d below is
      ∙ ap (λ (n : ℕ). followed_group m (take n words))
      (let next : suc (k + 1) ≡ suc k + 1 = omega arith in next)

  -- a word more
  pub group_step : (words made next : List ℕ) (i d : ℕ) → i < length words
      → made ≡ followed_group m (take i words)
      → next ≡ made ++ added_word m i (slice_index_or words i d)
      → next ≡ followed_group m (take (i + 1) words)
  group_step words made next i d below is more = more ∙ group_at words made i d below is

  pub group_all : (words made : List ℕ) (i : ℕ) → length words ≤ i
      → made ≡ followed_group m (take i words) → made ≡ followed_group m words
  group_all words made i le is = is ∙ ap (followed_group m) (take_all i words le)
