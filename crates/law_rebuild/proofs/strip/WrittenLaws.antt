-- What an update writes of a dirty object, opened again, is that object settled.
use Rattle.std.proofs.Common.{◌≡◌, ℕ, true, List, None, Result, Ok, sym, ap, ◌∙◌}
use Rattle.std.specs.Prelude.{All}
use Rattle.std.proofs.lemmas.Bool.{both_ways}
use Rattle.elf_types.specs.declared.errors.ElfError.{ElfError}
use Rattle.hash_model.specs.elf_xlate.Headers.{IsPhdr}
use Rattle.hash_model.proofs.elf_ident.Refusals.{answered_ok}
use Rattle.hash_model.specs.elf_object.Object.{Object, is_dirty}
use Rattle.hash_model.specs.elf_object.Open.{opened}
use Rattle.hash_model.specs.elf_object.Image.{image}
use Rattle.hash_model.specs.elf_object.Refusal.{refusal}
use Rattle.hash_model.specs.elf_object.Settled.{settle}
use Rattle.hash_model.specs.elf_object.Valid.{IsObject, IsTied, as_opened}
use Rattle.law_object.specs.Laws.{ReopenLaw}
use Rattle.rebuild_model.specs.Files.{file_of}

ok_inner : {A E : Type 0} (a b : A) → ◌≡◌ {A = Result A E} (Ok a) (Ok b) → a ≡ b
ok_inner a b h = cc

-- one answer is one value
pub ok_same : {A E : Type 0} (r : Result A E) (a b : A) → r ≡ Ok a → r ≡ Ok b → a ≡ b
ok_same {A} {E} r a b e f = ok_inner {A = A} {E = E} a b (sym e ∙ f)

pub written_known : (q : Object) (out : List ℕ) → file_of q ≡ Ok out
    → (refusal q ≡ None) × (image q ≡ out)
unfolding file_of
written_known q out e = answered_ok (refusal q) (image q) out e

pub opens_again : (reopens : (o : Object) → ReopenLaw o) (q : Object) (out : List ℕ)
    → IsObject q → All IsPhdr q.phdrs → is_dirty q ≡ true → file_of q ≡ Ok out
    → opened out ≡ Ok (as_opened (settle q))
opens_again reopens q out ok phdrs dirty written =
    let value = written_known q out written in
    let tied : IsTied q = λ clean. absurd (both_ways (is_dirty q) clean dirty) in
    ap opened (sym value.1) ∙ reopens q ok phdrs tied value.0

pub settled_again : (reopens : (o : Object) → ReopenLaw o) (q p : Object) (out : List ℕ)
    → IsObject q → All IsPhdr q.phdrs → is_dirty q ≡ true → file_of q ≡ Ok out → opened out ≡ Ok p
    → p ≡ as_opened (settle q)
settled_again reopens q p out ok phdrs dirty written again =
    ok_same {A = Object} {E = ElfError} (opened out) p (as_opened (settle q)) again
    (opens_again reopens q out ok phdrs dirty written)
