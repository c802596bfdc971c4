-- Marked bytes, and what gains them.
use Rattle.std.proofs.Common.{◌≡◌, ◌++◌, ℕ, List, [], ◌∷◌, length, map, take, drop, Option, Some, None, refl, sym, ap, ◌∙◌, subst, append_assoc, append-nil}
use Rattle.std.specs.Option.{option_map}
use Rattle.std.proofs.lemmas.List.{map-append, nil_from_length, take-append-drop}
use Rattle.std.proofs.lemmas.List.Elements.{filter-append}
use Rattle.elf_outside.specs.Writes.{Appends, AppendsFront}
use Rattle.tool_output.specs.declared.outputs.Side.{Side}
use Rattle.tool_output.specs.declared.outputs.Side.TheVariants.{Out, Error}
use Rattle.tool_output.specs.Marks.{Mark, said, on, is_same, Gained, GainedFront}

pub said_append : (s : Side) (a b : List ℕ) → said s (a ++ b) ≡ said s a ++ said s b
unfolding said
said_append s a b = map-append _ a b

pub said_none : (s : Side) → said s [] ≡ []
unfolding said
said_none s = refl

pub on_append : (s : Side) (a b : List Mark) → on s (a ++ b) ≡ on s a ++ on s b
unfolding on
on_append s a b = ap (map (λ (m : Mark). m.byte)) (filter-append (λ (m : Mark). is_same s m.side) a b) ∙ map-append _ _ _

-- an output has all of what is said on it, and nothing of what is said on the other
pub on_out : (text : List ℕ) → on Out (said Out text) ≡ text
unfolding on said
on_out [] = refl
on_out (b ∷ text) = ap (λ (t : List ℕ). b ∷ t) (on_out text)

pub on_error : (text : List ℕ) → on Error (said Error text) ≡ text
unfolding on said
on_error [] = refl
on_error (b ∷ text) = ap (λ (t : List ℕ). b ∷ t) (on_error text)

pub out_of_error : (text : List ℕ) → on Out (said Error text) ≡ []
unfolding on said
out_of_error [] = refl
out_of_error (b ∷ text) = out_of_error text

pub error_of_out : (text : List ℕ) → on Error (said Out text) ≡ []
unfolding on said
error_of_out [] = refl
error_of_out (b ∷ text) = error_of_out text

pub on_none : (s : Side) → on s [] ≡ []
unfolding on
on_none s = refl

-- ---- Appending

appends_none : (a : Option (List ℕ)) → Appends a a []
appends_none None = refl
appends_none (Some w) = ap Some (sym (append-nil w))

appends_then : (a b c : Option (List ℕ)) (x y : List ℕ) → Appends a b x → Appends b c y → Appends a c (x ++ y)
appends_then a b c x y h k = k ∙ ap (option_map (λ (w : List ℕ). w ++ y)) h ∙ twice a
  where
    twice : (o : Option (List ℕ)) → option_map (λ (w : List ℕ). w ++ y) (option_map (λ (w : List ℕ). w ++ x) o) ≡ option_map (λ (w : List ℕ). w ++ (x ++ y)) o
    twice None = refl
    twice (Some w) = ap Some (append_assoc w x y)

appends_as : (a b : Option (List ℕ)) (x y : List ℕ) → x ≡ y → Appends a b x → Appends a b y
appends_as a b x y e h = subst (λ (t : List ℕ). Appends a b t) e h

-- ---- Gaining

pub gained_none : (a b : Option (List ℕ)) → Gained a a b b []
gained_none a b = record {
  out = appends_as a a [] (on Out []) (sym (on_none Out)) (appends_none a);
  err = appends_as b b [] (on Error []) (sym (on_none Error)) (appends_none b);
}

pub gained_then : (a b c p q r : Option (List ℕ)) (m n : List Mark) → Gained a b p q m → Gained b c q r n → Gained a c p r (m ++ n)
gained_then a b c p q r m n h k = record {
  out = appends_as a c (on Out m ++ on Out n) (on Out (m ++ n)) (sym (on_append Out m n)) (appends_then a b c (on Out m) (on Out n) h.out k.out);
  err = appends_as p r (on Error m ++ on Error n) (on Error (m ++ n)) (sym (on_append Error m n)) (appends_then p q r (on Error m) (on Error n) h.err k.err);
}

-- no bytes are nothing to put
pub nothing_put : (a b : Option (List ℕ)) (side : Side) (bytes : List ℕ) → length bytes ≡ 0 → Gained a a b b (said side bytes)
nothing_put a b side bytes empty =
    subst (λ (m : List Mark). Gained a a b b m) (sym (ap (said side) (nil_from_length bytes empty) ∙ said_none side)) (gained_none a b)

-- a text that was put to one of the outputs
pub out_put : (a b c : Option (List ℕ)) (text : List ℕ) → Appends a b text → Gained a b c c (said Out text)
out_put a b c text h = record {
  out = appends_as a b text (on Out (said Out text)) (sym (on_out text)) h;
  err = appends_as c c [] (on Error (said Out text)) (sym (error_of_out text)) (appends_none c);
}

pub error_put : (a b c : Option (List ℕ)) (text : List ℕ) → Appends a b text → Gained c c a b (said Error text)
error_put a b c text h = record {
  out = appends_as c c [] (on Out (said Error text)) (sym (out_of_error text)) (appends_none c);
  err = appends_as a b text (on Error (said Error text)) (sym (on_error text)) h;
}

halves : (s : Side) (n : ℕ) (text : List ℕ) → said s text ≡ said s (take n text) ++ said s (drop n text)
halves s n text = ap (said s) (sym (take-append-drop n text)) ∙ said_append s (take n text) (drop n text)

pub out_front : (a b c : Option (List ℕ)) (text : List ℕ) → AppendsFront a b text → GainedFront a b c c (said Out text)
out_front a b c text h = record {
  put = said Out (take h.0 text);
  rest = said Out (drop h.0 text);
  all = halves Out h.0 text;
  gained = out_put a b c (take h.0 text) h.1;
}

pub error_front : (a b c : Option (List ℕ)) (text : List ℕ) → AppendsFront a b text → GainedFront c c a b (said Error text)
error_front a b c text h = record {
  put = said Error (take h.0 text);
  rest = said Error (drop h.0 text);
  all = halves Error h.0 text;
  gained = error_put a b c (take h.0 text) h.1;
}
