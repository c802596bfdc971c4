-- What a list held still stands. `unchanged` and `stays` are for the attribute of a writer.
use Rattle.std.proofs.Common.{◌≡◌, ◌++◌, ◌&&◌, ◌≤◌, Bool, true, false, List, ℕ, Result, Ok, Err, length, take, refl, sym, ap, ◌∙◌, subst, append_assoc, length-append, arith}
use Rattle.std.proofs.lemmas.List.{take-take, take_all, take_at}
use Rattle.std.proofs.lemmas.Slice.Eq.{bytes_eq-Decides}
use Rattle.elf_types.specs.declared.errors.ElfError.{ElfError}
use Rattle.elf_types.specs.Writers.{begins_with, Extends}

-- a list begins with itself
pub unchanged : (old : List ℕ) → begins_with old old ≡ true
unfolding begins_with
unchanged old = (bytes_eq-Decides (take (length old) old) old).1 (take_all (length old) old (omega arith))

front_begins : (new old a : List ℕ) → begins_with new (old ++ a) ≡ true → begins_with new old ≡ true
unfolding begins_with
front_begins new old a h =
    let whole = (bytes_eq-Decides (take (length (old ++ a)) new) (old ++ a)).0 h in
    let within : length old ≤ length (old ++ a) = omega (arith, length-append old a) in
    (bytes_eq-Decides (take (length old) new) old).1
    (sym (take-take (length old) (length (old ++ a)) new within) ∙ ap (take (length old)) whole ∙ take_at old a (length old) refl)

and_implied : (p b : Bool) → (b ≡ true → p ≡ true) → b ≡ (p && b)
and_implied true b h = refl
and_implied false true h = sym (h refl)
and_implied false false h = refl

-- a list that begins with two others, one after another, begins with the first
pub stays : (new old a : List ℕ) → begins_with new (old ++ a) ≡ (begins_with new old && begins_with new (old ++ a))
stays new old a = and_implied (begins_with new old) (begins_with new (old ++ a)) (front_begins new old a)

-- a text behind one that was put: what a writer that ends by a call of another owes
pub extends_both : {T : Type 0} (r : Result T ElfError) (old mid new a b : List ℕ)
    → mid ≡ old ++ a → Extends r mid new b → Extends r old new (a ++ b)
extends_both (Ok x) old mid new a b first second =
    (second.0 ∙ ap (λ (l : List ℕ). l ++ b) first ∙ append_assoc old a b, tt)
extends_both (Err e) old mid new a b first second =
    let stands : begins_with new (old ++ a) ≡ true =
    subst (λ (l : List ℕ). begins_with new l ≡ true) first second.1.1 in
    (tt, (second.1.0, front_begins new old a stands))

-- what the attribute of a writer names: what the list held still stands
pub ruleset kept = (stays)
