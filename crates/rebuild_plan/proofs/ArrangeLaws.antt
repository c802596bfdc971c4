-- Listed headers that are arranged behind a tail, where there is one.
use Rattle.std.proofs.Common.{◌≡◌, ◌⊎◌, inl, inr, ◌<◌, ◌==◌, ℕ, Bool, true, false, List, [], length, map, Option, Some, None, Result, Ok, Err, if◌then◌else◌, refl, sym, ap, ◌∙◌, subst, arith}
use Rattle.std.specs.Prelude.{IfOk, IfErr}
use Rattle.std.specs.List.{enumerate_from}
use Rattle.std.proofs.lemmas.Bool.{eq-eqb, eqb-true, eqb-false}
use Rattle.elf_types.specs.Answers.{refused_if}
use Rattle.elf_types.specs.declared.errors.ElfError.{ElfError}
use Rattle.elf_types.specs.declared.errors.ElfError.TheVariants.{Memory, TooLarge}
use Rattle.elf_layout.specs.declared.parts.PartAt.{PartAt}
use Rattle.elf_layout.specs.Layout.{in_order_from, some_above, limit_of}
use Rattle.law_rebuild.specs.elf_object.Object.{Object}
use Rattle.law_rebuild.specs.elf_object.Steps.{with_ehdr}
use Rattle.law_rebuild.specs.rebuild_model.Arranged.{movable, parts_from, section_from, table_place_from, placed_from, tail_refusal}
use Rattle.rebuild_tables.specs.rebuild_image.declared.listed.listed.HeaderListing.{HeaderListing}
use Rattle.rebuild_tables.specs.rebuild_image.Listed.Listing.{IsHeaderListing}
use Rattle.rebuild_tables.specs.rebuild_image.Arranging.{IsArrangedBehind, IsRefusedBehind}
use Rattle.rebuild_plan.specs.Plans.{IsArrangedTo, ArrangesTo}

-- ---- An object without sections

module _ (p : Object) (tail : ℕ) (none : length p.sections ≡ 0) where
  no_parts : parts_from p tail ≡ []
  unfolding parts_from movable in_order_from
  no_parts = rw none refl

  none_refused : tail_refusal p tail ≡ None
  unfolding tail_refusal some_above
  none_refused =
      ap (λ (l : List PartAt). refused_if (some_above (limit_of p.header.class) l) TooLarge)
      no_parts

  none_placed : placed_from p tail ≡ p
  unfolding placed_from
  none_placed =
      ap (λ (b : Bool). if b then p else with_ehdr
      (record p {
        sections = map (λ row. section_from p tail row.0 row.1) (enumerate_from 0 p.sections);
      })
      (record p.header { shoff = table_place_from p tail })) (eq-eqb (length p.sections) 0 none)

empty_arranged : (p : Object) (x : HeaderListing) (tail : Option ℕ) → length x.headers ≡ 0
    → IsHeaderListing p x → IsArrangedTo p tail x
empty_arranged p x None none is = record { passed = refl; listed = is }
empty_arranged p x (Some n) none is =
    let count = is.count in
    let there : length p.sections ≡ 0 = sym count ∙ none in
    record {
      passed = none_refused p n there;
      listed = subst (λ (q : Object). IsHeaderListing q x) (sym (none_placed p n there)) is;
    }

pub none_arranges : (x : HeaderListing) (tail : Option ℕ) (empty : Bool)
    → length x.sizes ≡ length x.headers → empty ≡ (length x.headers == 0) → empty ≡ true
    → ArrangesTo x tail (Ok x)
none_arranges x tail empty same told is = record {
  ok = λ p listed.
      empty_arranged p x tail (eqb-true (length x.headers) 0 (sym told ∙ is)) listed;
  count = refl;
  sizes = same;
  err = tt;
}

-- ---- One with sections

pub some_listed : (x : HeaderListing) (empty : Bool) → empty ≡ (length x.headers == 0) → empty ≡ false
    → 0 < length x.headers
some_listed x empty told is =
    omega (arith, eqb-false (length x.headers) 0 (sym told ∙ is))

pub as_they_are : (x : HeaderListing) → length x.sizes ≡ length x.headers → ArrangesTo x None (Ok x)
as_they_are x same = record {
  ok = λ p listed. record { passed = refl; listed = listed };
  count = refl;
  sizes = same;
  err = tt;
}

pub behind_arranges : (x : HeaderListing) (tail : ℕ) (r : Result HeaderListing ElfError)
    → length x.sizes ≡ length x.headers
    → IfOk r (λ next. (o : Object) → IsHeaderListing o x → IsArrangedBehind o tail next)
    → IfOk r (λ next. length next.headers ≡ length x.headers)
    → IfOk r (λ next. next.sizes ≡ x.sizes)
    → IfErr r (λ e. (e ≡ Memory) ⊎ IsRefusedBehind x tail e) → ArrangesTo x (Some tail) r
behind_arranges x tail (Ok next) same ok count sizes err = record {
  ok = λ p listed. let is = ok p listed in record { passed = is.passed; listed = is.listed };
  count = count;
  sizes = ap (λ (l : List ℕ). length l) sizes ∙ same;
  err = tt;
}
behind_arranges x tail (Err e) same ok count sizes err = by err
  where
    by : (e ≡ Memory) ⊎ IsRefusedBehind x tail e → ArrangesTo x (Some tail) (Err e)
    by (inl want) = record { ok = tt; count = tt; sizes = tt; err = inl want }
    by (inr is) = record {
      ok = tt;
      count = tt;
      sizes = tt;
      err = inr (record { error = is.error; behind = refl; refused = is.refused });
    }
