-- The true counts, from the header and section 0.
use Rattle.std.proofs.Common.{◌≡◌, ◌+◌, ◌*◌, ◌≤◌, ◌&&◌, ℕ, Bool, true, false, List, [], ◌∷◌, length, take, drop, Option, Some, None, Result, Ok, Err, IfSome, refl, sym, ap, ◌∙◌, arith}
use Rattle.std.specs.Prelude.{not, nat_lt, ◌==◌}
use Rattle.std.proofs.lemmas.Bool.{leb-true}
use Rattle.elf_types.specs.declared.records.Ehdr.{Ehdr}
use Rattle.elf_types.specs.declared.records.Shdr.{Shdr}
use Rattle.elf_types.specs.declared.errors.ElfError.{ElfError}
use Rattle.elf_types.specs.declared.errors.ElfError.TheVariants.{ShTable, TooLarge}
use Rattle.elf_types.specs.Answers.{refused_if, Follows}
use Rattle.elf_types.specs.declared.constants.TheConstants.{MAX_IMAGE}
use Rattle.elf_types.specs.declared.records.TheConstants.{NULL_SECTION}
use Rattle.elf_types.proofs.AnswerLemmas.{follows_same}
use Rattle.elf_xlate.specs.Headers.{shdr_size, shdr_of}
use Rattle.elf_ident.specs.declared.counts.Counts.{Counts}
use Rattle.elf_ident.specs.Front.{other_version, needs_first, first_lies_in, zero_shdr, first_section, header_refusal, counts_by, counts_in}
use Rattle.elf_ident.proofs.Refusals.{last_passed}

-- section 0 that is not needed counts as zeros
pub first_not_needed : (holds : Option (List ℕ)) (h : Ehdr) → needs_first h ≡ false
    → IfSome holds (λ image. ◌≡◌ {A = Result Shdr ElfError} (Ok (first_section h image)) (Ok NULL_SECTION))
unfolding first_section zero_shdr
first_not_needed None h t = tt
first_not_needed (Some image) h t = rw t refl

-- one that is needed counts as it stands
pub first_needed : (holds : Option (List ℕ)) (h : Ehdr) (r : Result Shdr ElfError) → needs_first h ≡ true
    → IfSome holds (λ image. Follows r (Ok (shdr_of h.class h.order (take (shdr_size h.class) (drop h.shoff image)))))
    → IfSome holds (λ image. Follows r (Ok (first_section h image)))
unfolding first_section
first_needed None h r t f = tt
first_needed (Some image) h r t f = rw t f

both_false : (a b : Bool) → a && not b ≡ false → a ≡ true → b ≡ true
both_false true true h t = refl
both_false true false h t = cc
both_false false b h t = cc

-- section 0 lies in the image where it is needed
pub first_lies : (h : Ehdr) (len : ℕ) → header_refusal h len ≡ None → needs_first h ≡ true → h.shoff + shdr_size h.class ≤ len
unfolding header_refusal
first_lies h len passed needed =
    let last : needs_first h && not (first_lies_in h len) ≡ false =
    last_passed (other_version h.version
    ∷ refused_if (nat_lt MAX_IMAGE len) TooLarge
    ∷ refused_if (h.shoff == 0 && not (h.shnum == 0)) ShTable
    ∷ refused_if (not (h.shoff == 0) && not (h.shentsize == shdr_size h.class)) ShTable ∷ [])
    (needs_first h && not (first_lies_in h len)) ShTable passed in
    let lies = leb-true (h.shoff + 1 * shdr_size h.class) len (both_false _ _ last needed) in
    omega (arith, lies)

-- a header that is refused
pub counts_refused : (holds : Option (List ℕ)) (h : Ehdr) (len : ℕ) (e : ElfError) → IfSome holds (λ image. length image ≡ len)
    → Some e ≡ header_refusal h len → IfSome holds (λ image. Follows {T = Counts} (Err e) (counts_in h image))
unfolding counts_in
counts_refused None h len e sized is = tt
counts_refused (Some image) h len e sized is =
    follows_same {T = Counts} (Err e) (counts_in h image) (rw (sized, ← is) refl)

ok_same : {T : Type 0} (a b : T) → ◌≡◌ {A = Result T ElfError} (Ok a) (Ok b) → a ≡ b
ok_same a b h = cc

-- the counts, and what is refused by them
pub counts_done : (holds : Option (List ℕ)) (h : Ehdr) (first : Shdr) (len : ℕ) (r : Result Counts ElfError) → IfSome holds (λ image. length image ≡ len)
    → None ≡ header_refusal h len
    → IfSome holds (λ image. Follows (Ok first) (Ok (first_section h image))) → r ≡ counts_by h first len
    → IfSome holds (λ image. Follows r (counts_in h image))
unfolding counts_in
counts_done None h first len r sized passed is got = tt
counts_done (Some image) h first len r sized passed is got =
    follows_same r (counts_in h image)
    (rw (sized, ← passed) (ap (λ (f : Shdr). counts_by h f len) (ok_same (first_section h image) first is) ∙ sym got))
