-- Where the strings of a section end, and what is known of a string by that.
use Rattle.std.proofs.Common.{◌≡◌, ◌⊎◌, inl, inr, ℕ, ◌<◌, ◌≤◌, Bool, true, not, false, List, length, Option, Some, None, IsTrue, IfSome, refl, sym, ap, ◌∙◌, subst}
use Rattle.std.specs.Prelude.{nat_le, nat_lt, is_some, is_none}
use Rattle.std.proofs.lemmas.Bool.{cases_lt, lt-ltb, le-ltb, lt-leb, le-leb, leb-true}
use Rattle.tool_output.specs.elf_outside.declared.sources.Source.{Ghosts as SourceGhosts}
use Rattle.gelf_view.specs.elf_object.Object.{Object}
use Rattle.gelf_view.specs.elf_object.Strings.{string_answer, readable}
use Rattle.gelf_view.specs.elf_descriptor.State.{State}
use Rattle.tool_objects.specs.Steps.{LeavesElf}
use Rattle.gelf_view.specs.Records.{AreEnded}
use Rattle.tool_objects.specs.AtHand.Strings.{is_past, EndsAt, HoldsStrings}

-- what is there has a weaker property too
pub some_weaker : {T : Type 0} (P Q : T → Type 0) (r : Option T) → ((x : T) → P x → Q x)
    → IfSome r P → IfSome r Q
some_weaker P Q None f h = h
some_weaker P Q (Some x) f h = f x h

pub ends_at : {S : Type 0} (state : State S) (s : ℕ) (bytes : List ℕ) (end : ℕ)
    → HoldsStrings state s bytes → AreEnded bytes → end ≡ length bytes → IsTrue state.told
    → EndsAt state.o s end
ends_at {S} state s bytes end holds ended is told = record {
  reads = λ offset.
      ap (λ (r : Option (List ℕ)). is_some r) (holds told offset)
      ∙ ended offset ∙ ap (nat_lt offset) (sym is);
}

is_missing : {A : Type 0} (r : Option A) → is_some r ≡ false → r ≡ None
is_missing None is = refl
is_missing (Some x) is = cc

missing_test : {A : Type 0} (r : Option A) → is_none r ≡ not (is_some r)
missing_test None = refl
missing_test (Some x) = refl

module _ (o : Object) (s end : ℕ) (ends : EndsAt o s end) (offset : ℕ) where
  -- a string that begins at the end or behind it can not be read
  pub unreadable : end ≤ offset → readable (string_answer o s offset) ≡ None
  unreadable past =
      is_missing (readable (string_answer o s offset))
      (ends.reads offset ∙ le-ltb offset end past)

  -- and no other
  pub unreadable_test : is_none (readable (string_answer o s offset)) ≡ nat_le end offset
  unreadable_test =
      missing_test (readable (string_answer o s offset)) ∙ ap not (ends.reads offset)
      ∙ by_place (cases_lt offset end)
    where
      by_place : (offset < end) ⊎ (end ≤ offset) → not (nat_lt offset end) ≡ nat_le end offset
      by_place (inl lt) = ap not (lt-ltb offset end lt) ∙ sym (lt-leb end offset lt)
      by_place (inr le) = ap not (le-ltb offset end le) ∙ sym (le-leb end offset le)

pub unreadable_past : (o : Object) (s : ℕ) (end : Option ℕ) (at offset : ℕ) → at ≡ offset
    → IfSome end (EndsAt o s) → is_past end at ≡ true → readable (string_answer o s offset) ≡ None
unreadable_past o s None at offset same ends past = cc
unreadable_past o s (Some end) at offset same ends past =
    unreadable o s end ends offset
    (subst (λ (k : ℕ). end ≤ k) same (leb-true end at past))

-- where the strings end stays known after a step
pub end_stays : {S : Type 0} (g : SourceGhosts S) (a b : State S) (strings : ℕ) (end : Option ℕ)
    → LeavesElf g a b → (IsTrue a.told → IfSome end (EndsAt a.o strings))
    → IsTrue b.told → IfSome end (EndsAt b.o strings)
end_stays g a b strings end left known told =
    subst (λ (o : Object). IfSome end (EndsAt o strings)) (sym left.object)
    (known (subst (λ (is : Bool). IsTrue is) left.told told))
