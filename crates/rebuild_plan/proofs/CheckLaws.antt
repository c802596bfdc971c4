-- What is refused before the places are given, by a keeper.
use Rattle.std.proofs.Common.{◌≡◌, ◌==◌, ◌&&◌, inl, inr, ℕ, Bool, true, false, not, List, ◌∷◌, [], length, Option, Some, None, Result, Ok, Err, refl, sym, ap, ◌∙◌, subst}
use Rattle.std.specs.Prelude.{IfSome, nat_le}
use Rattle.elf_types.specs.declared.records.Part.TheVariants as part
use Rattle.elf_types.specs.declared.errors.ElfError.{ElfError}
use Rattle.elf_types.specs.declared.errors.ElfError.TheVariants.{NoSection, TooLarge, Unfit}
use Rattle.elf_types.specs.Answers.{refused_if, first_refusal, IsRefusal}
use Rattle.elf_outside.specs.Asks.{ReadRose}
use Rattle.elf_outside.proofs.AskLemmas.{read_rose_refused}
use Rattle.elf_xlate.specs.Headers.{ehdr_fits}
use Rattle.law_rebuild.specs.elf_object.Object.{Object, Section}
use Rattle.law_rebuild.specs.elf_object.Calls.{update_ehdr_refusal}
use Rattle.law_rebuild.specs.elf_object.Steps.{stored_ehdr}
use Rattle.law_rebuild.specs.elf_object.Valid.{IsObject}
use Rattle.law_rebuild.specs.rebuild_model.Rebuilt.{index_refusal}
use Rattle.rebuild_tables.specs.rebuild_keep.declared.naming.Names.{Names}
use Rattle.rebuild_tables.specs.rebuild_keep.declared.naming.Names.TheVariants as names
use Rattle.rebuild_tables.specs.rebuild_keep.Answers.{ChecksNames}
use Rattle.rebuild_plan.specs.Checks.{index_beyond, ChecksLast}

pub last_checked : (names : Names) (s count : ℕ) (r : Result (Unit {0}) ElfError)
    → index_beyond s count ≡ None → ChecksNames names r → ChecksLast names s count r
last_checked names s count (Ok x) passed checks = (passed, checks)
last_checked names s count (Err e) passed checks = inr (passed, checks)

-- ---- The string index of an object

first_alone : (r : Option ElfError) → first_refusal (r ∷ None ∷ []) ≡ r
first_alone None = refl
first_alone (Some e) = refl

stored_fits : (o : Object) (sections : List Section) (index : ℕ)
    → ehdr_fits (stored_ehdr (record o.header { shnum = length sections })
    (record o.header { shstrndx = index })) ≡ ehdr_fits o.header
unfolding ehdr_fits stored_ehdr
stored_fits o sections index = refl

-- the header fits, since it is an object's
pub index_is : (o : Object) (sections : List Section) (index : ℕ) → IsObject o
    → index_refusal o sections index ≡ index_beyond index (length sections)
unfolding index_refusal update_ehdr_refusal
index_is o sections index is =
    ap (λ (b : Bool). first_refusal
    (refused_if (not (index == 0) && nat_le (length sections) index)
    (NoSection index (length sections))
    ∷ refused_if (not b) (Unfit part.Header 0) ∷ []))
    (stored_fits o sections index ∙ is.fitting)
    ∙ first_alone (index_beyond index (length sections))

pub index_states : (s count : ℕ) → IfSome (index_beyond s count) IsRefusal
index_states s count = by (not (s == 0) && nat_le count s)
  where
    by : (b : Bool) → IfSome (refused_if b (NoSection s count)) IsRefusal
    by true = tt
    by false = tt

-- nothing is read for it
names_unread : (T : Type 0) (names : Names) (e : ElfError) → ChecksNames names (Err e)
    → (a b : ℕ) → ReadRose {T = T} (Err e) a b
names_unread T names.Stay e checks a b = cc
names_unread T (names.Anew n) e checks a b = cc
names_unread T names.TooLarge e checks a b =
    let large : e ≡ TooLarge = cc in
    subst (λ (d : ElfError). ReadRose {T = T} (Err d) a b) (sym large) tt

pub last_unread : (T : Type 0) (names : Names) (s count : ℕ) (e : ElfError)
    → ChecksLast names s count (Err e) → (a b : ℕ) → ReadRose {T = T} (Err e) a b
last_unread T names s count e (inl refused) a b =
    read_rose_refused T e a b
    (subst (λ (r : Option ElfError). IfSome r IsRefusal) refused (index_states s count))
last_unread T names s count e (inr checks) a b = names_unread T names e checks.1 a b
